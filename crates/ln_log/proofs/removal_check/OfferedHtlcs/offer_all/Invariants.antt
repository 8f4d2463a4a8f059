use Rattle.std.proofs.Common.{List, [], ◌++◌, take}
use Rattle.ln_log.specs.declared.update.Update.{Update}
use Rattle.ln_log.specs.Outcomes.{TellsAll}
use Rattle.ln_log.proofs.removal_check.OfferedHtlcs.offer_all.Given as goal

abbrev pub invariant-loop-update : goal.invariant-loop-update
invariant-loop-update l = (adds : List Update) → TellsAll l.fn.self adds []
    → TellsAll l.self (adds ++ take l.update-index l.updates) []
