use Rattle.std.proofs.Common.{refl, ap, ◌∙◌}
use Rattle.ln_log.specs.Log.{AllCounts, all_counts, after_accept}
use Rattle.ln_log.proofs.Whole.{kept_of, goes_on, still_whole, as_before}
use Rattle.ln_log.proofs.log.UpdateLog.accept.Goals as goal

pub invariant_of-self : goal.invariant_of-self
invariant_of-self c =
    still_whole _ _ _ _ c.args.self.now (after_accept c.args.self.now) c.self.view_is c.self.invariant
    (ap (λ (x : AllCounts). x.first) c.accept.ensures.counts) (as_before _ _ refl refl refl)
    (c.accept.ensures.moves_as_stated _ (kept_of _ _ _ _ c.args.self.now c.self.view_is c.self.invariant refl))

pub returns-clause-moves_as_stated : goal.returns-clause-moves_as_stated
returns-clause-moves_as_stated c = λ l e.
    goes_on _ _ _ _ l (after_accept l) (c.self.view_is ∙ e) c.self.invariant
    (ap (λ (x : AllCounts). x.first) c.accept.ensures.counts) (as_before l (after_accept l) refl refl refl)
    (c.accept.ensures.moves_as_stated _ (kept_of _ _ _ _ l c.self.view_is c.self.invariant e))

pub returns-clause-counts : goal.returns-clause-counts
returns-clause-counts c = ap all_counts (returns-clause-moves_as_stated c c.args.self.now refl)
