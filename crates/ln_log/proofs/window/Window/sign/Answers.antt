use Rattle.ln_log.proofs.Calls.{signed_call}
use Rattle.ln_log.proofs.window.Window.sign.Goals as goal

pub returns-clause-moves_as_stated : goal.returns-clause-moves_as_stated
returns-clause-moves_as_stated c = λ l s. signed_call _ _ l _ c.self.view_is s (c.counts-next.ensures.own l s)
    (c.counts-next.ensures.peer l s)
