use Rattle.std.proofs.Common.{◌≡◌, drop}
use Rattle.ln_log.specs.Updates.{add_with}
use Rattle.ln_log.proofs.plain.find_add.Given as goal

-- it isn't among those before
abbrev pub invariant-loop-update : goal.invariant-loop-update
invariant-loop-update l = add_with l.id (drop l.update-index l.updates) ≡ add_with l.id l.updates
