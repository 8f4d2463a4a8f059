use Rattle.std.proofs.Common.{◌≡◌, ◌∙◌, refl, sym, ap, subst, Ok, Err, Vec, Global}
use Rattle.ln_channel.specs.State.{State, refused}
use Rattle.ln_channel.specs.Step.{handled}
use Rattle.ln_store.specs.Store.{in_memory}
use Rattle.ln_link.specs.Saving.{is_update, taken_alone}
use Rattle.ln_world_channels.specs.Both.{left, as_saved}
use Rattle.ln_world_channels.specs.Failing.{ByRecord, LinkLacks}
use Rattle.ln_world_channels.proofs.Answered.{said_so, left_so}
use Rattle.ln_channel.specs.declared.output.Output.{Output}
use Rattle.ln_world_channels.proofs.Stored.{message_taken, message_refused, message_halted}
use Rattle.ln_world_channels.proofs.saved_link.SavedLink.handle.Goals as goal

pub invariant_of-self : goal.invariant_of-self
invariant_of-self g c =
    (message_taken (g.K.ChannelKeys.signer c.self.inside.link.keys) (λ v. v.items) c.self.inside.link
    c.handle.new.self c.args.message
    c.in-Ok.outputs (in_memory c.self.inside.store)
    (in_memory c.handle.new.store) (sym c.has_halted.ensures ∙ c.if-has_halted.false)
    c.in-Ok.ensures.same_channel (c.in-Ok.ensures.answers c.self.inside.link refl) c.self.invariant).kept

pub returns-then-has_halted-2-clause-fails : goal.returns-then-has_halted-2-clause-fails
returns-then-has_halted-2-clause-fails g c =
    subst (λ (x : State _). ByRecord c.in-Err.why (LinkLacks (left refused
    (handled (g.K.ChannelKeys.signer x.keys) x c.args.message) x))) c.self.view_is
    (message_halted (g.K.ChannelKeys.signer c.self.inside.link.keys) {V = Vec Output Global} (λ v. v.items)
    c.self.inside.link c.handle.new.self c.args.message
    c.in-Err.why (in_memory c.self.inside.store)
    (in_memory c.handle.new.store) (sym c.has_halted.ensures ∙ c.if-has_halted.false)
    (sym c.has_halted-in-Err.ensures ∙ c.if-has_halted-2.true) refl refl (c.in-Err.ensures.answers c.self.inside.link
    refl) c.self.invariant)

pub invariant_of-self-else-has_halted-2 : goal.invariant_of-self-else-has_halted-2
invariant_of-self-else-has_halted-2 g c =
    (message_refused (g.K.ChannelKeys.signer c.self.inside.link.keys) {V = Vec Output Global} (λ v. v.items)
    c.self.inside.link c.handle.new.self c.args.message
    c.in-Err.why (in_memory c.self.inside.store)
    (in_memory c.handle.new.store) (sym c.has_halted-in-Err.ensures ∙ c.if-has_halted-2.false)
    c.in-Err.ensures.same_channel (c.in-Err.ensures.answers c.self.inside.link refl) c.self.invariant).kept

pub returns-in-Ok-clause-said : goal.returns-in-Ok-clause-said
returns-in-Ok-clause-said g c =
    subst (λ (x : State _). as_saved (handled (g.K.ChannelKeys.signer x.keys) x c.args.message) ≡ Ok (record {
      connection = c.handle.new.self.connection;
      stage = c.handle.new.self.stage;
      outputs = c.in-Ok.outputs.items;
    })) c.self.view_is
    (said_so (taken_alone (is_update c.args.message)) (λ v. v.items)
    (handled (g.K.ChannelKeys.signer c.self.inside.link.keys) c.self.inside.link
    c.args.message)
    c.self.inside.link c.handle.new.self c.in-Ok.outputs (in_memory c.self.inside.store)
    (in_memory c.handle.new.store)
    (message_taken (g.K.ChannelKeys.signer c.self.inside.link.keys) (λ v. v.items) c.self.inside.link
    c.handle.new.self c.args.message
    c.in-Ok.outputs (in_memory c.self.inside.store)
    (in_memory c.handle.new.store) (sym c.has_halted.ensures ∙ c.if-has_halted.false)
    c.in-Ok.ensures.same_channel (c.in-Ok.ensures.answers c.self.inside.link refl) c.self.invariant).handed)

pub returns-in-Ok-clause-link : goal.returns-in-Ok-clause-link
returns-in-Ok-clause-link g c =
    subst (λ (x : State _). c.handle.new.self ≡ left refused (handled (g.K.ChannelKeys.signer x.keys) x
    c.args.message) x)
    c.self.view_is
    (left_so (taken_alone (is_update c.args.message)) (λ v. v.items) refused
    (handled (g.K.ChannelKeys.signer c.self.inside.link.keys) c.self.inside.link
    c.args.message)
    c.self.inside.link c.handle.new.self c.in-Ok.outputs (in_memory c.self.inside.store)
    (in_memory c.handle.new.store)
    (message_taken (g.K.ChannelKeys.signer c.self.inside.link.keys) (λ v. v.items) c.self.inside.link
    c.handle.new.self c.args.message
    c.in-Ok.outputs (in_memory c.self.inside.store)
    (in_memory c.handle.new.store) (sym c.has_halted.ensures ∙ c.if-has_halted.false)
    c.in-Ok.ensures.same_channel (c.in-Ok.ensures.answers c.self.inside.link refl) c.self.invariant).handed)

pub returns-else-has_halted-2-clause-said : goal.returns-else-has_halted-2-clause-said
returns-else-has_halted-2-clause-said g c =
    subst (λ (x : State _). as_saved (handled (g.K.ChannelKeys.signer x.keys) x c.args.message) ≡ Err c.in-Err.why)
    c.self.view_is
    (ap as_saved (message_refused (g.K.ChannelKeys.signer c.self.inside.link.keys) {V = Vec Output Global}
    (λ v. v.items) c.self.inside.link c.handle.new.self c.args.message
    c.in-Err.why (in_memory c.self.inside.store)
    (in_memory c.handle.new.store) (sym c.has_halted-in-Err.ensures ∙ c.if-has_halted-2.false)
    c.in-Err.ensures.same_channel (c.in-Err.ensures.answers c.self.inside.link refl) c.self.invariant).said_so)

pub returns-else-has_halted-2-clause-link : goal.returns-else-has_halted-2-clause-link
returns-else-has_halted-2-clause-link g c =
    let x = message_refused (g.K.ChannelKeys.signer c.self.inside.link.keys) {V = Vec Output Global} (λ v. v.items)
    c.self.inside.link c.handle.new.self c.args.message
    c.in-Err.why (in_memory c.self.inside.store)
    (in_memory c.handle.new.store) (sym c.has_halted-in-Err.ensures ∙ c.if-has_halted-2.false)
    c.in-Err.ensures.same_channel (c.in-Err.ensures.answers c.self.inside.link refl) c.self.invariant in
    subst (λ (x : State _). c.handle.new.self ≡ left refused (handled (g.K.ChannelKeys.signer x.keys) x
    c.args.message) x)
    c.self.view_is
    (x.left_so ∙ ap (λ r. left refused r c.self.inside.link) (sym x.said_so))
