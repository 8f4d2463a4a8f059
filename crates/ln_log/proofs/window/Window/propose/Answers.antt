use Rattle.ln_log.proofs.Calls.{proposed_call, ordered_proposed}
use Rattle.ln_log.proofs.window.Window.propose.Goals as goal

pub invariant_of-self-in-None : goal.invariant_of-self-in-None
invariant_of-self-in-None c = ordered_proposed _ _ c.args.update _ _ _ c.self.view_is c.self.invariant
    c.proposal_refusal.ensures.leaves_room c.proposal_refusal.ensures.within_funds c.in-None.is
    c.in_ok-push-in-None.ensures.items

pub returns-in_ok-push-in-None-clause-moves_as_stated : goal.returns-in_ok-push-in-None-clause-moves_as_stated
returns-in_ok-push-in-None-clause-moves_as_stated c = λ l s.
    proposed_call _ _ l c.args.update _ _ _ _ c.self.view_is s (c.proposal_refusal.ensures.refuses_exactly l s)
    c.in-None.is (c.requires l s) (c.front-seen.ensures.updates l s) c.with_own-standing.ensures.exact_where_it_fits
    c.in_ok-push-in-None.ensures.items
