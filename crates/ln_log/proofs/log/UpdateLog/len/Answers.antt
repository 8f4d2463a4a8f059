use Rattle.std.proofs.Common.{length, ap, ◌∙◌}
use Rattle.ln_log.proofs.Whole.{kept_of, updates_whole, counted}
use Rattle.ln_log.proofs.log.UpdateLog.len.Goals as goal

pub returns-clause-length : goal.returns-clause-length
returns-clause-length c = λ l e.
    c.len.ensures.length _ (kept_of _ _ _ _ l c.self.view_is c.self.invariant e)
    ∙ ap length (updates_whole c.args.side l)

pub returns-clause-counted : goal.returns-clause-counted
returns-clause-counted c = c.len.ensures.counted ∙ counted c.args.side _ _ _ _ c.self.view_is c.self.invariant
