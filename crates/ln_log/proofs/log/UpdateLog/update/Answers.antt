use Rattle.std.proofs.Common.{ap, ◌∙◌}
use Rattle.ln_log.specs.Log.{updates_of, update_at}
use Rattle.ln_log.specs.Kept.{kept_first}
use Rattle.ln_log.proofs.Whole.{kept_of, first_is, updates_whole}
use Rattle.ln_log.proofs.log.UpdateLog.update.Goals as goal

pub returns-clause-update : goal.returns-clause-update
returns-clause-update c = λ l e.
    c.update.ensures.update _ (kept_of _ _ _ _ l c.self.view_is c.self.invariant e)
    ∙ ap (λ x. update_at (kept_first c.args.side c.self.inside.window) x c.args.number) (updates_whole c.args.side l)
    ∙ ap (λ n. update_at n (updates_of c.args.side l) c.args.number)
    (first_is c.args.side _ _ _ _ c.self.view_is c.self.invariant)
