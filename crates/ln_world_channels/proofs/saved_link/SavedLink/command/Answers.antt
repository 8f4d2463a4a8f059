use Rattle.std.proofs.Common.{◌≡◌, ◌∙◌, refl, sym, ap, subst, Ok, Err, Vec, Global}
use Rattle.ln_channel.specs.State.{State}
use Rattle.ln_channel.specs.Step.{commanded}
use Rattle.ln_store.specs.Store.{in_memory}
use Rattle.ln_link.specs.Saving.{sends_update, sent_alone}
use Rattle.ln_world_channels.specs.Both.{left, unchanged, as_saved}
use Rattle.ln_world_channels.specs.Failing.{ByRecord, LinkLacks}
use Rattle.ln_world_channels.proofs.Answered.{said_so, left_so}
use Rattle.ln_channel.specs.declared.output.Output.{Output}
use Rattle.ln_world_channels.proofs.Stored.{command_taken, command_refused, command_halted}
use Rattle.ln_world_channels.proofs.saved_link.SavedLink.command.Goals as goal

pub invariant_of-self : goal.invariant_of-self
invariant_of-self g c =
    (command_taken (g.K.ChannelKeys.signer c.self.inside.link.keys) (λ v. v.items) c.self.inside.link
    c.command.new.self c.args.command
    c.in-Ok.outputs (in_memory c.self.inside.store)
    (in_memory c.command.new.store) (sym c.has_halted.ensures ∙ c.if-has_halted.false)
    c.in-Ok.ensures.same_channel (c.in-Ok.ensures.answers c.self.inside.link refl) c.self.invariant).kept

pub returns-then-has_halted-2-clause-fails : goal.returns-then-has_halted-2-clause-fails
returns-then-has_halted-2-clause-fails g c =
    subst (λ (x : State _). ByRecord c.in-Err.why (LinkLacks (left unchanged
    (commanded (g.K.ChannelKeys.signer x.keys) x c.args.command) x))) c.self.view_is
    (command_halted (g.K.ChannelKeys.signer c.self.inside.link.keys) {V = Vec Output Global} (λ v. v.items)
    (commanded (g.K.ChannelKeys.signer c.self.inside.link.keys) c.self.inside.link c.args.command) c.self.inside.link
    c.command.new.self c.args.command
    c.in-Err.why (in_memory c.self.inside.store)
    (in_memory c.command.new.store) (sym c.has_halted.ensures ∙ c.if-has_halted.false)
    (sym c.has_halted-in-Err.ensures ∙ c.if-has_halted-2.true) refl refl (c.in-Err.ensures.answers c.self.inside.link
    refl))

pub invariant_of-self-else-has_halted-2 : goal.invariant_of-self-else-has_halted-2
invariant_of-self-else-has_halted-2 g c =
    (command_refused (g.K.ChannelKeys.signer c.self.inside.link.keys) {V = Vec Output Global} (λ v. v.items)
    (commanded (g.K.ChannelKeys.signer c.self.inside.link.keys) c.self.inside.link c.args.command) c.self.inside.link
    c.command.new.self c.args.command
    c.in-Err.why (in_memory c.self.inside.store)
    (in_memory c.command.new.store) (sym c.has_halted-in-Err.ensures ∙ c.if-has_halted-2.false)
    (c.in-Err.ensures.answers c.self.inside.link refl) c.self.invariant).kept

pub returns-in-Ok-clause-said : goal.returns-in-Ok-clause-said
returns-in-Ok-clause-said g c =
    subst (λ (x : State _). as_saved (commanded (g.K.ChannelKeys.signer x.keys) x c.args.command) ≡ Ok (record {
      connection = c.command.new.self.connection;
      stage = c.command.new.self.stage;
      outputs = c.in-Ok.outputs.items;
    })) c.self.view_is
    (said_so (λ os. sent_alone (sends_update c.args.command)) (λ v. v.items)
    (commanded (g.K.ChannelKeys.signer c.self.inside.link.keys) c.self.inside.link
    c.args.command)
    c.self.inside.link c.command.new.self c.in-Ok.outputs (in_memory c.self.inside.store)
    (in_memory c.command.new.store)
    (command_taken (g.K.ChannelKeys.signer c.self.inside.link.keys) (λ v. v.items) c.self.inside.link
    c.command.new.self c.args.command
    c.in-Ok.outputs (in_memory c.self.inside.store)
    (in_memory c.command.new.store) (sym c.has_halted.ensures ∙ c.if-has_halted.false)
    c.in-Ok.ensures.same_channel (c.in-Ok.ensures.answers c.self.inside.link refl) c.self.invariant).handed)

pub returns-in-Ok-clause-link : goal.returns-in-Ok-clause-link
returns-in-Ok-clause-link g c =
    subst (λ (x : State _). c.command.new.self ≡ left unchanged (commanded (g.K.ChannelKeys.signer x.keys) x
    c.args.command) x)
    c.self.view_is
    (left_so (λ os. sent_alone (sends_update c.args.command)) (λ v. v.items) unchanged
    (commanded (g.K.ChannelKeys.signer c.self.inside.link.keys) c.self.inside.link
    c.args.command)
    c.self.inside.link c.command.new.self c.in-Ok.outputs (in_memory c.self.inside.store)
    (in_memory c.command.new.store)
    (command_taken (g.K.ChannelKeys.signer c.self.inside.link.keys) (λ v. v.items) c.self.inside.link
    c.command.new.self c.args.command
    c.in-Ok.outputs (in_memory c.self.inside.store)
    (in_memory c.command.new.store) (sym c.has_halted.ensures ∙ c.if-has_halted.false)
    c.in-Ok.ensures.same_channel (c.in-Ok.ensures.answers c.self.inside.link refl) c.self.invariant).handed)

pub returns-else-has_halted-2-clause-said : goal.returns-else-has_halted-2-clause-said
returns-else-has_halted-2-clause-said g c =
    subst (λ (x : State _). as_saved (commanded (g.K.ChannelKeys.signer x.keys) x c.args.command) ≡ Err c.in-Err.why)
    c.self.view_is
    (ap as_saved (command_refused (g.K.ChannelKeys.signer c.self.inside.link.keys) {V = Vec Output Global}
    (λ v. v.items) (commanded (g.K.ChannelKeys.signer c.self.inside.link.keys) c.self.inside.link c.args.command)
    c.self.inside.link
    c.command.new.self c.args.command
    c.in-Err.why (in_memory c.self.inside.store)
    (in_memory c.command.new.store) (sym c.has_halted-in-Err.ensures ∙ c.if-has_halted-2.false)
    (c.in-Err.ensures.answers c.self.inside.link refl) c.self.invariant).said_so)

pub returns-else-has_halted-2-clause-link : goal.returns-else-has_halted-2-clause-link
returns-else-has_halted-2-clause-link g c =
    let x = command_refused (g.K.ChannelKeys.signer c.self.inside.link.keys) {V = Vec Output Global} (λ v. v.items)
    (commanded (g.K.ChannelKeys.signer c.self.inside.link.keys) c.self.inside.link c.args.command) c.self.inside.link
    c.command.new.self c.args.command
    c.in-Err.why (in_memory c.self.inside.store)
    (in_memory c.command.new.store) (sym c.has_halted-in-Err.ensures ∙ c.if-has_halted-2.false)
    (c.in-Err.ensures.answers c.self.inside.link refl) c.self.invariant in
    subst (λ (x : State _). c.command.new.self ≡ left unchanged (commanded (g.K.ChannelKeys.signer x.keys) x
    c.args.command) x)
    c.self.view_is
    (x.left_so ∙ ap (λ r. left unchanged r c.self.inside.link) (sym x.said_so))
