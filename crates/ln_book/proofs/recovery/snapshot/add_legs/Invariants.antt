use Rattle.std.proofs.Common.{◌≡◌, ◌++◌, drop}
use Rattle.ln_book.specs.Rebuild.{legs_offered}
use Rattle.ln_book.proofs.recovery.snapshot.add_legs.Given as goal

-- those that are left complete those that were added
abbrev pub invariant-loop-update : goal.invariant-loop-update
invariant-loop-update l =
    l.legs.items ++ legs_offered l.channel (drop l.update-index l.updates)
    ≡ l.fn.legs.items ++ legs_offered l.channel l.updates
