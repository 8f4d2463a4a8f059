use Rattle.std.proofs.Common.{take}
use Rattle.ln_log.specs.Outcomes.{Tells}
use Rattle.ln_log.proofs.outcomes.Outcomes.new.Given as goal

abbrev pub invariant-loop-update : goal.invariant-loop-update
invariant-loop-update l = Tells l.by_id (take l.update-index l.removals)
