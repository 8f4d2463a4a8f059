use Rattle.std.proofs.Common.{refl, ◌∙◌, subst}
use Rattle.ln_log.specs.Log.{after_receive, taken_fault}
use Rattle.ln_log.specs.Limits.{Answers}
use Rattle.ln_dance.specs.Dance.{Dancer}
use Rattle.ln_dance.proofs.Kept.{map_ok, kept_by, log_becomes}
use Rattle.ln_dance.proofs.dance.Dance.receive.Goals as goal

pub invariant_of-self : goal.invariant_of-self
invariant_of-self c = kept_by _ _ _ c.self.invariant c.receive.ensures.changes_no_count

pub returns-clause-moves_as_stated : goal.returns-clause-moves_as_stated
returns-clause-moves_as_stated c = λ d e.
    map_ok c.receive.result (log_becomes _ d (after_receive c.args.update) _ (c.self.view_is ∙ e))
    (c.receive.ensures.moves_as_stated _ refl)

pub returns-clause-refuses_exactly : goal.returns-clause-refuses_exactly
returns-clause-refuses_exactly c = λ d e.
    subst (λ (x : Dancer). Answers (taken_fault x.log c.args.update) c.receive.result) (c.self.view_is ∙ e)
    (c.receive.ensures.refuses_exactly _ refl)
