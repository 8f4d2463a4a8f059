use Rattle.ln_log.proofs.Handed.{unacked}
use Rattle.ln_log.proofs.window.Window.unacknowledged.Goals as goal

pub returns : goal.returns
returns c = λ l s. unacked _ _ l _ c.self.view_is s (c.between.ensures.updates l s)
