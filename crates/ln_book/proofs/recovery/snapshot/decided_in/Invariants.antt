use Rattle.std.proofs.Common.{◌≡◌, ◌++◌, drop}
use Rattle.ln_book.specs.Rebuild.{decided_in}
use Rattle.ln_book.proofs.recovery.snapshot.decided_in.Given as goal

-- those that are left complete those that were found
abbrev pub invariant-loop-decision : goal.invariant-loop-decision
invariant-loop-decision l =
    l.htlcs.items ++ decided_in l.channel l.log (drop l.decision-index l.decisions)
    ≡ decided_in l.channel l.log l.decisions
