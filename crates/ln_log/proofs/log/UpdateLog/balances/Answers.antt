use Rattle.std.proofs.Common.{◌∙◌}
use Rattle.ln_log.proofs.Whole.{balances_whole}
use Rattle.ln_log.proofs.log.UpdateLog.balances.Goals as goal

pub returns : goal.returns
returns c = λ l e. c.balances.ensures ∙ balances_whole _ _ _ l (c.self.view_is ∙ e) c.self.invariant
