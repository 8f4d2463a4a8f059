use Rattle.std.proofs.Common.{◌≡◌, drop}
use Rattle.ln_book.specs.Rebuild.{offer_for}
use Rattle.ln_book.proofs.recovery.rebuild.offer_for.Given as goal

-- none of the channels before has it
abbrev pub invariant-loop-snapshot : goal.invariant-loop-snapshot
invariant-loop-snapshot l = offer_for l.key (drop l.snapshot-index l.snapshots) ≡ offer_for l.key l.snapshots
