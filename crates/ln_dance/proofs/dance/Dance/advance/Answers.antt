use Rattle.std.proofs.Common.{◌∙◌, ap}
use Rattle.ln_log.specs.Log.{at_opening}
use Rattle.ln_log.specs.Window.{after_advance}
use Rattle.ln_dance.specs.Dance.{Dancer}
use Rattle.ln_dance.proofs.Kept.{map_ok, kept_advanced, opening_advanced, log_becomes}
use Rattle.ln_dance.proofs.dance.Dance.advance.Goals as goal

pub invariant_of-self : goal.invariant_of-self
invariant_of-self c =
    kept_advanced c.advance.result _ _ _ c.args.to c.self.invariant c.advance.ensures.changes_nothing_if_refused
    c.advance.ensures.moves_where_it_may

pub returns-clause-state : goal.returns-clause-state
returns-clause-state c = λ d e.
    map_ok c.advance.result (log_becomes _ d (after_advance c.args.to) _ (c.self.view_is ∙ e))
    c.advance.ensures.moves_where_it_may

pub returns-clause-same_opening : goal.returns-clause-same_opening
returns-clause-same_opening c =
    opening_advanced c.advance.result _ _ c.args.to c.advance.ensures.changes_nothing_if_refused
    c.advance.ensures.moves_where_it_may
    ∙ ap (λ (x : Dancer). at_opening x.log) c.self.view_is
