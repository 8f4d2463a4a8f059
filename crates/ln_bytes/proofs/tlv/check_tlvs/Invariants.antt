use Rattle.std.proofs.Common.{length}
use Rattle.ln_bytes.proofs.Checks.{IsCheckedSoFar}
use Rattle.ln_bytes.proofs.tlv.check_tlvs.Given as goal

abbrev pub invariant-loop-rest : goal.invariant-loop-rest
invariant-loop-rest l = IsCheckedSoFar l.known_even l.lengths l.bytes l.fits l.before l.rest

abbrev pub decreases-loop-rest : goal.decreases-loop-rest
decreases-loop-rest l = length l.rest
