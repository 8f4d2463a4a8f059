use Rattle.std.proofs.Common.{length}
use Rattle.ln_bytes.proofs.Streams.{IsSoFar}
use Rattle.ln_bytes.proofs.tlv.all_records.Given as goal

abbrev pub invariant-loop-rest : goal.invariant-loop-rest
invariant-loop-rest l = IsSoFar l.known_even l.bytes l.records.items l.before l.rest

abbrev pub decreases-loop-rest : goal.decreases-loop-rest
decreases-loop-rest l = length l.rest
