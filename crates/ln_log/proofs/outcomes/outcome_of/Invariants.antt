use Rattle.std.proofs.Common.{◌≡◌, drop}
use Rattle.ln_log.specs.Updates.{outcome}
use Rattle.ln_log.proofs.outcomes.outcome_of.Given as goal

-- none of those before removes it
abbrev pub invariant-loop-update : goal.invariant-loop-update
invariant-loop-update l = outcome l.id (drop l.update-index l.removals) ≡ outcome l.id l.removals
