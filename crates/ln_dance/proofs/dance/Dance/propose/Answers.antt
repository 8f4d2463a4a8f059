use Rattle.std.proofs.Common.{refl, sym, ◌∙◌, subst}
use Rattle.ln_log.specs.Log.{Log, after_propose, proposal_fault}
use Rattle.ln_log.specs.Limits.{HasNextId, Answers}
use Rattle.ln_dance.specs.Dance.{Dancer}
use Rattle.ln_dance.proofs.Kept.{map_ok, kept_by, log_becomes}
use Rattle.ln_dance.proofs.dance.Dance.propose.Goals as goal

pub propose-requires : goal.propose-requires
propose-requires c = λ l e. subst (λ (x : Log). HasNextId x.own c.args.update) e (c.requires _ (sym c.self.view_is))

pub invariant_of-self : goal.invariant_of-self
invariant_of-self c = kept_by _ _ _ c.self.invariant c.propose.ensures.changes_no_count

pub returns-clause-moves_as_stated : goal.returns-clause-moves_as_stated
returns-clause-moves_as_stated c = λ d e.
    map_ok c.propose.result (log_becomes _ d (after_propose c.args.update) _ (c.self.view_is ∙ e))
    (c.propose.ensures.moves_as_stated _ refl)

pub returns-clause-refuses_exactly : goal.returns-clause-refuses_exactly
returns-clause-refuses_exactly c = λ d e.
    subst (λ (x : Dancer). Answers (proposal_fault x.log c.args.update) c.propose.result) (c.self.view_is ∙ e)
    (c.propose.ensures.refuses_exactly _ refl)
