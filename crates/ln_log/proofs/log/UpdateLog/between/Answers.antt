use Rattle.std.proofs.Common.{◌≤◌, sym, ap, ◌∙◌, subst}
use Rattle.ln_log.specs.Log.{AreNotGone, between}
use Rattle.ln_log.proofs.Whole.{kept_of, first_is, counted, updates_whole, base_is}
use Rattle.ln_log.proofs.log.UpdateLog.between.Goals as goal

pub between-requires-clause-not_before_the_first : goal.between-requires-clause-not_before_the_first
between-requires-clause-not_before_the_first c =
    subst (λ n. n ≤ c.args.from) (sym (first_is c.args.side _ _ _ _ c.self.view_is c.self.invariant))
    c.requires.not_before_the_first

pub between-requires-clause-not_behind_the_last : goal.between-requires-clause-not_behind_the_last
between-requires-clause-not_behind_the_last c =
    subst (λ n. c.args.to ≤ n) (sym (counted c.args.side _ _ _ _ c.self.view_is c.self.invariant))
    c.requires.not_behind_the_last

pub returns-clause-updates : goal.returns-clause-updates
returns-clause-updates c = λ l e.
    c.between.ensures.updates _ (kept_of _ _ _ _ l c.self.view_is c.self.invariant e)
    ∙ ap (between c.args.from c.args.to) (updates_whole c.args.side l)

pub returns-clause-not_removed_before : goal.returns-clause-not_removed_before
returns-clause-not_removed_before c = λ l e.
    subst (λ x. AreNotGone x c.between.result.now) (base_is c.args.side _ _ _ l (c.self.view_is ∙ e) c.self.invariant)
    (c.between.ensures.not_removed_before _ (kept_of _ _ _ _ l c.self.view_is c.self.invariant e))
