use Rattle.std.proofs.Common.{refl, ap, ◌∙◌}
use Rattle.ln_log.specs.Log.{AllCounts, after_receive}
use Rattle.ln_log.proofs.Whole.{kept_of, goes_on_if, whole_if, received}
use Rattle.ln_log.proofs.log.UpdateLog.receive.Goals as goal

pub invariant_of-self : goal.invariant_of-self
invariant_of-self c =
    whole_if _ _ _ _ _ c.args.self.now (after_receive c.args.update c.args.self.now) c.self.view_is c.self.invariant
    (ap (λ (x : AllCounts). x.first) c.receive.ensures.changes_no_count)
    (received _ _ _ _ c.args.update c.self.view_is c.self.invariant)
    c.receive.ensures.changes_nothing_if_refused
    (c.receive.ensures.moves_as_stated _ (kept_of _ _ _ _ c.args.self.now c.self.view_is c.self.invariant refl))

pub returns-clause-refuses_exactly : goal.returns-clause-refuses_exactly
returns-clause-refuses_exactly c = λ l e. c.receive.ensures.refuses_exactly _
    (kept_of _ _ _ _ l c.self.view_is c.self.invariant e)

pub returns-clause-moves_as_stated : goal.returns-clause-moves_as_stated
returns-clause-moves_as_stated c = λ l e.
    goes_on_if _ _ _ _ _ l (after_receive c.args.update l) (c.self.view_is ∙ e) c.self.invariant
    (ap (λ (x : AllCounts). x.first) c.receive.ensures.changes_no_count)
    (received _ _ _ l c.args.update (c.self.view_is ∙ e) c.self.invariant)
    (c.receive.ensures.moves_as_stated _ (kept_of _ _ _ _ l c.self.view_is c.self.invariant e))
