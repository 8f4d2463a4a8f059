use Rattle.std.proofs.Common.{sym, ◌∙◌, ap, subst, inl, false, Err, Vec, Global}
use Rattle.ln_channel.specs.declared.output.Output.{Output}
use Rattle.ln_channel.specs.State.{State, is_down}
use Rattle.ln_channel.specs.Step.{Answered}
use Rattle.ln_channel.proofs.Halting.{handed_out, lacked, connected_by}
use Rattle.ln_channel.proofs.machine.ChannelMachine.connect.Goals as goal

pub returns-in-Ok-clause-answers : goal.returns-in-Ok-clause-answers
returns-in-Ok-clause-answers g c = λ l s.
    let is = connected_by (g.K.ChannelKeys.signer l.keys) l
    (ap (λ (x : State _). x.halted) (sym (c.self.view_is ∙ s)) ∙ c.if-self.false)
    (ap (λ (x : State _). is_down x.connection) (sym (c.self.view_is ∙ s)) ∙ sym c.if-not-is_down.ensures) in
    subst (λ said. Answered (λ v. v.items) said l c.hand_out.result c.hand_out.new.self) (sym is)
    (handed_out _ _ _ l c.first_message.new.self c.hand_out.new.self _ c.in-Ok.outbox c.hand_out.result
    (c.in-Ok.ensures.moves l s) (c.in-Ok.ensures.same_link l s) c.hand_out.ensures.outputs c.hand_out.ensures.same
    c.hand_out.ensures.halted c.hand_out.ensures.fails_for_memory_alone)

pub returns-in-Err-Memory-clause-answers : goal.returns-in-Err-Memory-clause-answers
returns-in-Err-Memory-clause-answers g c = λ l s.
    let is = connected_by (g.K.ChannelKeys.signer l.keys) l
    (ap (λ (x : State _). x.halted) (sym (c.self.view_is ∙ s)) ∙ c.if-self.false)
    (ap (λ (x : State _). is_down x.connection) (sym (c.self.view_is ∙ s)) ∙ sym c.if-not-is_down.ensures) in
    let made = c.in-Err-Memory.ensures in
    subst (λ said. Answered {V = Vec Output Global} (λ v. v.items) said l (Err c.halted_by_memory.result)
    c.halted_by_memory.new.self) (sym is)
    (inl (lacked false _ l c.first_message.new.self c.halted_by_memory.new.self c.in-Err-Memory.field-0
    c.halted_by_memory.result (λ x. x.0) (made.moves l s) c.in-Err-Memory.field-0-is (made.same_link l s)
    c.halted_by_memory.ensures.halted
    c.halted_by_memory.ensures.fails_for_memory_alone))
