use Rattle.std.proofs.Common.{◌≡◌, ◌++◌, drop}
use Rattle.ln_book.specs.Rebuild.{legs_resolved}
use Rattle.ln_book.proofs.recovery.snapshot.legs_resolved.Given as goal

-- those that are left complete those that were found
abbrev pub invariant-loop-settlement : goal.invariant-loop-settlement
invariant-loop-settlement l =
    l.legs.items ++ legs_resolved l.channel (drop l.settlement-index l.results) ≡ legs_resolved l.channel l.results
