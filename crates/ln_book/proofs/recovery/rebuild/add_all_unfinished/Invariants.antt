use Rattle.std.proofs.Common.{◌≡◌, ◌++◌, drop}
use Rattle.ln_book.specs.Rebuild.{all_unfinished}
use Rattle.ln_book.proofs.recovery.rebuild.add_all_unfinished.Given as goal

-- those that are left complete those that were added
abbrev pub invariant-loop-snapshot : goal.invariant-loop-snapshot
invariant-loop-snapshot l =
    l.htlcs.items ++ all_unfinished l.all (drop l.snapshot-index l.all) ≡ l.fn.htlcs.items ++ all_unfinished l.all l.all
