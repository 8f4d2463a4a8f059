use Rattle.std.proofs.Common.{take}
use Rattle.ln_log.specs.Outcomes.{AreRemoved}
use Rattle.ln_log.proofs.removals.removed_ids.Given as goal

abbrev pub invariant-loop-update : goal.invariant-loop-update
invariant-loop-update l = AreRemoved l.ids (take l.update-index l.updates)
