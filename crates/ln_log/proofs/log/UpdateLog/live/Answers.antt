use Rattle.std.proofs.Common.{◌∙◌}
use Rattle.ln_log.proofs.Whole.{kept_of, live_htlcs_whole}
use Rattle.ln_log.proofs.log.UpdateLog.live.Goals as goal

pub returns : goal.returns
returns c = λ l e.
    c.live.ensures _ (kept_of _ _ _ _ l c.self.view_is c.self.invariant e)
    ∙ live_htlcs_whole c.args.side _ _ _ l (c.self.view_is ∙ e) c.self.invariant
