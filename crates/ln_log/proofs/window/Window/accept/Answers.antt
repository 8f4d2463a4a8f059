use Rattle.ln_log.proofs.Calls.{accepted_call}
use Rattle.ln_log.proofs.window.Window.accept.Goals as goal

pub returns-clause-moves_as_stated : goal.returns-clause-moves_as_stated
returns-clause-moves_as_stated c = λ l s. accepted_call _ _ l _ _ _ _ _ _ c.self.view_is s
    (c.counts-next.ensures.own l s) (c.counts-next.ensures.peer l s) (c.len.ensures.length l s)
    (c.between-updates.ensures.updates l s) (c.front-htlcs.ensures.updates l s)
    c.with_all-own_standing.ensures.exact_where_they_fit c.with_all-own_signed.ensures.exact_where_they_fit
