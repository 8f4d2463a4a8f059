use Rattle.std.proofs.Common.{ap, ◌∙◌}
use Rattle.ln_log.specs.Limits.{is_at_update_limit}
use Rattle.ln_log.proofs.Whole.{kept_of, updates_whole}
use Rattle.ln_log.proofs.log.UpdateLog.is_at_update_limit.Goals as goal

pub returns : goal.returns
returns c = λ l e.
    c.is_at_update_limit.ensures _ (kept_of _ _ _ _ l c.self.view_is c.self.invariant e)
    ∙ ap is_at_update_limit (updates_whole c.args.side l)
