use Rattle.std.proofs.Common.{◌≡◌, ◌++◌, drop}
use Rattle.ln_book.specs.Rebuild.{left}
use Rattle.ln_book.proofs.recovery.rebuild.add_left.Given as goal

-- those that are left complete those that were added
abbrev pub invariant-loop-leg : goal.invariant-loop-leg
invariant-loop-leg l =
    l.htlcs.items ++ left l.all (drop l.leg-index l.results) ≡ l.fn.htlcs.items ++ left l.all l.results
