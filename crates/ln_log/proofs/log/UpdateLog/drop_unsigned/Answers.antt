use Rattle.std.proofs.Common.{refl, ap, ◌∙◌}
use Rattle.ln_log.specs.Log.{AllCounts, after_drop}
use Rattle.ln_log.proofs.Whole.{kept_of, goes_on, still_whole, dropped}
use Rattle.ln_log.proofs.log.UpdateLog.drop_unsigned.Goals as goal

pub invariant_of-self : goal.invariant_of-self
invariant_of-self c =
    still_whole _ _ _ _ c.args.self.now (after_drop c.args.self.now) c.self.view_is c.self.invariant
    (ap (λ (x : AllCounts). x.first) c.drop_unsigned.ensures.changes_no_count)
    (dropped _ _ _ _ c.self.view_is c.self.invariant)
    (c.drop_unsigned.ensures.moves_as_stated _ (kept_of _ _ _ _ c.args.self.now c.self.view_is c.self.invariant refl))

pub returns-clause-moves_as_stated : goal.returns-clause-moves_as_stated
returns-clause-moves_as_stated c = λ l e.
    goes_on _ _ _ _ l (after_drop l) (c.self.view_is ∙ e) c.self.invariant
    (ap (λ (x : AllCounts). x.first) c.drop_unsigned.ensures.changes_no_count)
    (dropped _ _ _ l (c.self.view_is ∙ e) c.self.invariant)
    (c.drop_unsigned.ensures.moves_as_stated _ (kept_of _ _ _ _ l c.self.view_is c.self.invariant e))
