use Rattle.std.proofs.Common.{ap, ◌∙◌}
use Rattle.ln_log.specs.Limits.{removable}
use Rattle.ln_log.specs.declared.log.Side.TheVariants as side
use Rattle.ln_log.proofs.Whole.{kept_of, base_is}
use Rattle.ln_log.proofs.log.UpdateLog.own_htlc.Goals as goal

pub returns : goal.returns
returns c = λ l e.
    c.own_htlc.ensures _ (kept_of _ _ _ _ l c.self.view_is c.self.invariant e)
    ∙ ap (λ us. removable c.args.id us l.own) (base_is side.Peer _ _ _ l (c.self.view_is ∙ e) c.self.invariant)
