use Rattle.std.proofs.Common.{◌∙◌, ap, sym, subst}
use Rattle.ln_manager.specs.Leads.{Leads}
use Rattle.ln_manager.specs.Managed.{Managed}
use Rattle.ln_manager.proofs.Leading.{seen, then}
use Rattle.ln_manager.proofs.manager.Manager.go_on.Goals as goal

pub loop-preserved : goal.loop-preserved
loop-preserved g c = (
  ap (λ (m : Managed _ _). m.is_out) c.self-in-loop.view_is ∙ c.conclude.ensures.marks_stay ∙
      c.obey_book.ensures.marks_stay
      ∙ c.loop.invariant.0,
  subst (λ p. Leads g.K.ChannelKeys.signer c.args.self.now.channels p) (sym (seen _ _ c.self-in-loop.view_is))
      (then g.K.ChannelKeys.signer _ _ _ c.loop.invariant.1
      (then g.K.ChannelKeys.signer _ _ _ c.obey_book.ensures.leads_on c.conclude.ensures.leads_on)),
)
