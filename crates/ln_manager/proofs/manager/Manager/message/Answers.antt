use Rattle.std.proofs.Common.{◌∙◌, ap, sym}
use Rattle.std.specs.Prelude.{is_ok}
use Rattle.ln_manager_channels.specs.Calls as call
use Rattle.ln_manager_channels.specs.Calls.{known}
use Rattle.ln_manager_channels.specs.Moves.{TakesMessage}
use Rattle.ln_manager.proofs.Changed.{message_one}
use Rattle.ln_manager.proofs.Leading.{answered, by_call, if_batched_done, seen, then}
use Rattle.ln_manager.proofs.manager.Manager.message.Goals as goal

pub invariant_of-self : goal.invariant_of-self
invariant_of-self g c =
    c.batch-batched.ensures.leaves_none_out c.self.inside.channels.parts.records
    (message_one g.K.ChannelKeys.signer c.args.channel c.args.keys c.args.message c.self.inside.channels.parts
    c.message-answer.new.self.parts c.message-answer.ensures.enters_this_call) c.self.invariant

pub returns-clause-takes : goal.returns-clause-takes
returns-clause-takes g c =
    by_call g.K.ChannelKeys.signer (call.Message c.args.channel c.args.keys c.args.message) c.is_ok-is_taken.result _
    c.self.inside.channels c.message-answer.new.self _
    (seen _ _ c.self.view_is) c.message-answer.ensures.beginning_stays c.message-answer.ensures.enters_this_call
    (λ done. answered (λ a. TakesMessage g.K.ChannelKeys.signer c.args.channel c.args.keys c.args.message a
    (known c.self.inside.channels.parts) (known c.message-answer.new.self.parts)) c.message-answer.result
    c.message-answer.ensures.takes (if_batched_done c.batch-batched.result c.message-answer.result
    (ap is_ok (sym c.if_batched-answer.ensures) ∙ sym c.is_ok-is_taken.ensures.value ∙ done)))
    (then g.K.ChannelKeys.signer _ _ _ c.batch-batched.ensures.leads_on c.finish.ensures.leads_on)
