use Rattle.ln_log.proofs.Whole.{kept_of}
use Rattle.ln_log.proofs.log.UpdateLog.unacknowledged.Goals as goal

pub returns : goal.returns
returns c = λ l e. c.unacknowledged.ensures _ (kept_of _ _ _ _ l c.self.view_is c.self.invariant e)
