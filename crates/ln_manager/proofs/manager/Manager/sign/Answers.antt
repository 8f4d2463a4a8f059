use Rattle.std.proofs.Common.{◌∙◌, ap, subst}
use Rattle.ln_manager.specs.Leads.{Leads}
use Rattle.ln_manager.specs.Managed.{Managed}
use Rattle.ln_manager.proofs.Leading.{led, seen, then}
use Rattle.ln_manager.proofs.manager.Manager.sign.Goals as goal

pub loop-preserved : goal.loop-preserved
loop-preserved g c = (
  c.command.ensures.marks_stay ∙ ap (λ (m : Managed _ _). m.is_out) c.self.view_is ∙ c.loop.invariant.0,
  then g.K.ChannelKeys.signer _ _ _ c.loop.invariant.1
      (subst (λ p. Leads g.K.ChannelKeys.signer p c.command.new.self.channels) (seen _ _ c.self.view_is)
      (led g.K.ChannelKeys.signer _ _ _ _ c.command.ensures.obeys)),
)
