use Rattle.std.proofs.Common.{◌≡◌, ◌++◌, drop}
use Rattle.ln_book.specs.Rebuild.{all_left}
use Rattle.ln_book.proofs.recovery.rebuild.add_all_left.Given as goal

-- those that are left complete those that were added
abbrev pub invariant-loop-snapshot : goal.invariant-loop-snapshot
invariant-loop-snapshot l =
    l.htlcs.items ++ all_left l.all (drop l.snapshot-index l.all) ≡ l.fn.htlcs.items ++ all_left l.all l.all
