use Rattle.ln_log.proofs.Viewed.{funder_call, fundee_call, answered, adds_as}
use Rattle.ln_log.proofs.window.Window.view.Goals as goal

pub returns-in-Funder-clause-view : goal.returns-in-Funder-clause-view
returns-in-Funder-clause-view c = λ l s.
    answered c.view_behind.result _ _ _ _ _ _
    (funder_call _ _ l c.args.pair _ _ _ _ _ _ _ c.in-Funder.is (record {
      kept = c.self.view_is;
      stands = s;
      own_count = c.counts-counts.ensures.own l s;
      peer_count = c.counts-counts.ensures.peer l s;
      own_list = c.front-own.ensures.updates l s;
      peer_list = c.front-peer.ensures.updates l s;
      own_rest = c.between-own_new.ensures.updates l s;
      peer_rest = c.between-peer_new.ensures.updates l s;
      base = c.role_balances_of-base.ensures;
    })) c.view_behind.ensures.exact_where_it_fits

pub returns-in-Funder-clause-adds_up : goal.returns-in-Funder-clause-adds_up
returns-in-Funder-clause-adds_up c = λ l s.
    adds_as l _ _ _ _ c.args.pair c.view_behind.result s.is_kept (returns-in-Funder-clause-view c l s)

pub returns-in-Fundee-clause-view : goal.returns-in-Fundee-clause-view
returns-in-Fundee-clause-view c = λ l s.
    answered c.view_behind-in-Fundee.result _ _ _ _ _ _
    (fundee_call _ _ l c.args.pair _ _ _ _ _ _ _ c.in-Fundee.is (record {
      kept = c.self.view_is;
      stands = s;
      own_count = c.counts-counts.ensures.own l s;
      peer_count = c.counts-counts.ensures.peer l s;
      own_list = c.front-own.ensures.updates l s;
      peer_list = c.front-peer.ensures.updates l s;
      own_rest = c.between-own_new.ensures.updates l s;
      peer_rest = c.between-peer_new.ensures.updates l s;
      base = c.role_balances_of-base.ensures;
    })) c.view_behind-in-Fundee.ensures.exact_where_it_fits

pub returns-in-Fundee-clause-adds_up : goal.returns-in-Fundee-clause-adds_up
returns-in-Fundee-clause-adds_up c = λ l s.
    adds_as l _ _ _ _ c.args.pair c.view_behind-in-Fundee.result s.is_kept (returns-in-Fundee-clause-view c l s)
