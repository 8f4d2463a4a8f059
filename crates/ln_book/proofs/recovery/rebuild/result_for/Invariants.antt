use Rattle.std.proofs.Common.{◌≡◌, drop}
use Rattle.ln_book.specs.Rebuild.{result_for}
use Rattle.ln_book.proofs.recovery.rebuild.result_for.Given as goal

-- none of the channels before has it
abbrev pub invariant-loop-snapshot : goal.invariant-loop-snapshot
invariant-loop-snapshot l = result_for l.key (drop l.snapshot-index l.snapshots) ≡ result_for l.key l.snapshots
