use Rattle.std.proofs.Common.{◌∙◌, refl, sym, subst, Vec, Global}
use Rattle.ln_channel.specs.State.{State}
use Rattle.ln_channel.specs.Step.{connected}
use Rattle.ln_channel.specs.declared.output.Output.{Output}
use Rattle.ln_world_channels.specs.Stored.{IsKept}
use Rattle.ln_world_channels.proofs.Stored.{connect_kept, connect_refused, connect_halted}
use Rattle.ln_world_channels.proofs.saved_link.SavedLink.connect.Goals as goal

pub invariant_of-self : goal.invariant_of-self
invariant_of-self g c =
    connect_kept (g.K.ChannelKeys.signer c.self.inside.link.keys) (λ v. v.items) c.self.inside.link c.connect.new.self
    c.in-Ok.outputs c.self.inside.store (sym c.has_halted.ensures ∙ c.if-has_halted.false)
    c.in-Ok.ensures.same_channel (c.in-Ok.ensures.answers c.self.inside.link refl) c.self.invariant

pub returns-then-has_halted-2-clause-fails_for_memory_alone :
    goal.returns-then-has_halted-2-clause-fails_for_memory_alone
returns-then-has_halted-2-clause-fails_for_memory_alone g c =
    connect_halted (g.K.ChannelKeys.signer c.self.inside.link.keys) {V = Vec Output Global} (λ v. v.items)
    (connected (g.K.ChannelKeys.signer c.self.inside.link.keys) c.self.inside.link) c.self.inside.link
    c.connect.new.self c.in-Err.why (sym c.has_halted.ensures ∙ c.if-has_halted.false)
    (sym c.has_halted-in-Err.ensures ∙ c.if-has_halted-2.true) (c.in-Err.ensures.answers c.self.inside.link refl)

pub invariant_of-self-else-has_halted-2 : goal.invariant_of-self-else-has_halted-2
invariant_of-self-else-has_halted-2 g c =
    subst (λ (x : State _). IsKept x c.self.inside.store)
    (sym (connect_refused (g.K.ChannelKeys.signer c.self.inside.link.keys) {V = Vec Output Global} (λ v. v.items)
    (connected (g.K.ChannelKeys.signer c.self.inside.link.keys) c.self.inside.link) c.self.inside.link
    c.connect.new.self c.in-Err.why (sym c.has_halted-in-Err.ensures ∙ c.if-has_halted-2.false)
    (c.in-Err.ensures.answers c.self.inside.link refl)).1) c.self.invariant
