use Rattle.ln_log.proofs.Calls.{learned_call}
use Rattle.ln_log.proofs.window.Window.learn.Goals as goal

pub returns-clause-moves_as_stated : goal.returns-clause-moves_as_stated
returns-clause-moves_as_stated c = λ l s. learned_call _ _ l _ _ _ _ c.self.view_is s
    (c.between-updates.ensures.updates l s) (c.front-htlcs.ensures.updates l s)
    c.with_all-peer_standing.ensures.exact_where_they_fit c.with_all-peer_current.ensures.exact_where_they_fit
