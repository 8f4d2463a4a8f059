use Rattle.std.proofs.Common.{subst, sym, refl}
use Rattle.ln_world_channels.specs.Stored.{IsKept}
use Rattle.ln_world_channels.proofs.Stored.{drops_kept}
use Rattle.ln_world_channels.proofs.saved_link.SavedLink.drop_connection.Goals as goal

pub invariant_of-self : goal.invariant_of-self
invariant_of-self g c =
    let l = c.self.inside.link in
    subst (λ n. IsKept n c.self.inside.store) (sym (c.drop_connection.ensures.state l refl))
    (drops_kept (g.K.ChannelKeys.signer l.keys) l c.self.inside.store c.self.invariant)
