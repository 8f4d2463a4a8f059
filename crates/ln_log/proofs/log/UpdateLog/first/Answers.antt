use Rattle.std.proofs.Common.{◌∙◌}
use Rattle.ln_log.proofs.Whole.{first_is, in_order}
use Rattle.ln_log.proofs.log.UpdateLog.first.Goals as goal

pub returns-clause-is_the_first : goal.returns-clause-is_the_first
returns-clause-is_the_first c = c.first.ensures.is_the_first ∙ first_is c.args.side _ _ _ _ c.self.view_is
    c.self.invariant

pub returns-clause-committed : goal.returns-clause-committed
returns-clause-committed c = (
  (in_order _ _ _ _ c.self.view_is c.self.invariant).own_first,
  (in_order _ _ _ _ c.self.view_is c.self.invariant).peer_first,
)
