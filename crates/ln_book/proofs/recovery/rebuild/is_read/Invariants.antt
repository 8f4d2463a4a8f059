use Rattle.std.proofs.Common.{◌≡◌, drop}
use Rattle.ln_book.specs.Rebuild.{is_read}
use Rattle.ln_book.proofs.recovery.rebuild.is_read.Given as goal

-- none of the channels before has it
abbrev pub invariant-loop-snapshot : goal.invariant-loop-snapshot
invariant-loop-snapshot l = is_read l.key (drop l.snapshot-index l.snapshots) ≡ is_read l.key l.snapshots
