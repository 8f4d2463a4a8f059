use Rattle.std.proofs.Common.{◌≡◌, drop}
use Rattle.ln_log.specs.Standing.{AllFit, with_all}
use Rattle.ln_log.proofs.standing.Standing.with_all.Given as goal

abbrev pub invariant-loop-update : goal.invariant-loop-update
invariant-loop-update l = AllFit l.self l.own l.updates
    → AllFit l.standing l.own (drop l.update-index l.updates)
    × (with_all l.standing l.own (drop l.update-index l.updates) ≡ with_all l.self l.own l.updates)
