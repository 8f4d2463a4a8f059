use Rattle.std.proofs.Common.{sym, ◌∙◌, ap, subst, inl, Err, Vec, Global}
use Rattle.ln_channel.specs.declared.output.Output.{Output}
use Rattle.ln_bytes.specs.Answers.{fault_of}
use Rattle.ln_channel.specs.Opening.{MayLackBy}
use Rattle.ln_channel.specs.State.{State}
use Rattle.ln_channel.specs.Taking.{is_viewed}
use Rattle.ln_channel.specs.Step.{AnsweredMessage, at_hand}
use Rattle.ln_channel.proofs.Halting.{handed_out, lacked, viewed_by, handled_by}
use Rattle.ln_channel.proofs.machine.ChannelMachine.handle.Goals as goal

pub returns-in-Ok-clause-answers : goal.returns-in-Ok-clause-answers
returns-in-Ok-clause-answers g c = λ l s.
    let is = handled_by (g.K.ChannelKeys.signer l.keys) l c.args.message
    (ap (λ (x : State _). x.halted) (sym (c.self.view_is ∙ s)) ∙ c.if-self.false)
    (ap (λ (x : State _). x.failure) (sym (c.self.view_is ∙ s)) ∙ c.in-None.is) in
    subst (λ said. AnsweredMessage (λ v. v.items) said l c.args.message c.hand_out.result c.hand_out.new.self) (sym is)
    (handed_out _ _ _ l c.take.new.self c.hand_out.new.self _ c.in-Ok.outbox c.hand_out.result
    (c.in-Ok.ensures.takes l s) (c.in-Ok.ensures.same_link l s) c.hand_out.ensures.outputs c.hand_out.ensures.same
    c.hand_out.ensures.halted c.hand_out.ensures.fails_for_memory_alone)

pub returns-in-Err-Memory-clause-answers : goal.returns-in-Err-Memory-clause-answers
returns-in-Err-Memory-clause-answers g c = λ l s.
    let failure = ap (λ (x : State _). x.failure) (sym (c.self.view_is ∙ s)) ∙ c.in-None.is in
    let is = handled_by (g.K.ChannelKeys.signer l.keys) l c.args.message
    (ap (λ (x : State _). x.halted) (sym (c.self.view_is ∙ s)) ∙ c.if-self.false) failure in
    let made = c.in-Err-Memory.ensures in
    subst (λ said. AnsweredMessage {V = Vec Output Global} (λ v. v.items) said l c.args.message
    (Err c.halted_by_memory.result) c.halted_by_memory.new.self) (sym is)
    (inl (
    let lack = lacked (is_viewed c.args.message) _ l c.take.new.self c.halted_by_memory.new.self c.in-Err-Memory.field-0
    c.halted_by_memory.result (λ x. x.0) (made.takes l s) c.in-Err-Memory.field-0-is (made.same_link l s)
    c.halted_by_memory.ensures.halted
    c.halted_by_memory.ensures.fails_for_memory_alone in (
      (
        lack.0.0,
        subst (λ b. MayLackBy b (fault_of (at_hand (g.K.ChannelKeys.signer l.keys) l.connection c.args.message
            l.stage))) (sym (viewed_by l c.args.message failure)) lack.0.1,
      ),
      lack.1,
    )
    ))
