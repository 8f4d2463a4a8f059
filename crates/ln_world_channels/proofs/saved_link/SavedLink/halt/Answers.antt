use Rattle.std.proofs.Common.{subst, sym, refl}
use Rattle.ln_world_channels.specs.Stored.{IsKept}
use Rattle.ln_world_channels.proofs.Stored.{halts_kept}
use Rattle.ln_world_channels.proofs.saved_link.SavedLink.halt.Goals as goal

pub invariant_of-self : goal.invariant_of-self
invariant_of-self g c =
    let l = c.self.inside.link in
    subst (λ n. IsKept n c.self.inside.store) (sym (c.halt.ensures.state l refl))
    (halts_kept (g.K.ChannelKeys.signer l.keys) l c.self.inside.store c.self.invariant)
