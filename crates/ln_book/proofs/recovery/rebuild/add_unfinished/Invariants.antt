use Rattle.std.proofs.Common.{◌≡◌, ◌++◌, drop}
use Rattle.ln_book.specs.Rebuild.{unfinished}
use Rattle.ln_book.proofs.recovery.rebuild.add_unfinished.Given as goal

-- those that are left complete those that were added
abbrev pub invariant-loop-htlc : goal.invariant-loop-htlc
invariant-loop-htlc l =
    l.htlcs.items ++ unfinished l.all (drop l.htlc-index l.decided) ≡ l.fn.htlcs.items ++ unfinished l.all l.decided
