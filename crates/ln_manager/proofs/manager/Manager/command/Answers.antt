use Rattle.std.proofs.Common.{◌∙◌, ap, sym, true, false}
use Rattle.std.specs.Prelude.{is_ok}
use Rattle.ln_manager_channels.specs.Calls as call
use Rattle.ln_manager_channels.specs.Commands.{is_users}
use Rattle.ln_manager_channels.specs.Moves.{ObeysUser}
use Rattle.ln_manager.proofs.Changed.{command_one}
use Rattle.ln_manager.proofs.Leading.{answered, by_call, if_batched_done, seen, then}
use Rattle.ln_manager.proofs.manager.Manager.command.Goals as goal

pub invariant_of-self : goal.invariant_of-self
invariant_of-self g c =
    c.batch-batched.ensures.leaves_none_out c.self.inside.channels.parts.records
    (command_one g.K.ChannelKeys.signer c.args.channel c.args.command c.self.inside.channels.parts
    c.command-answer.new.self.parts c.command-answer.ensures.enters_this_call) c.self.invariant

pub returns-in-Ok-clause-obeys : goal.returns-in-Ok-clause-obeys
returns-in-Ok-clause-obeys g c =
    by_call g.K.ChannelKeys.signer (call.Command c.args.channel c.args.command) true _ c.self.inside.channels
    c.command-answer.new.self _
    (seen _ _ c.self.view_is) c.command-answer.ensures.beginning_stays c.command-answer.ensures.enters_this_call
    (λ done. answered (λ a. ObeysUser g.K.ChannelKeys.signer (is_users c.args.command) c.args.channel c.args.command a
    c.self.inside.channels.parts.links c.command-answer.new.self.parts.links c.self.inside.channels.parts.records
    c.command-answer.new.self.parts.records) c.command-answer.result c.command-answer.ensures.obeys
    (if_batched_done c.batch-batched.result c.command-answer.result
    (ap is_ok (sym c.if_batched.ensures) ∙ c.in-Ok.ensures.only_what_was_answered)))
    (then g.K.ChannelKeys.signer _ _ _ c.batch-batched.ensures.leads_on c.finish.ensures.leads_on)

pub returns-in-Err-clause-obeys : goal.returns-in-Err-clause-obeys
returns-in-Err-clause-obeys g c =
    by_call g.K.ChannelKeys.signer (call.Command c.args.channel c.args.command) false _ c.self.inside.channels
    c.command-answer.new.self _
    (seen _ _ c.self.view_is) c.command-answer.ensures.beginning_stays c.command-answer.ensures.enters_this_call
    (λ done. absurd (cc))
    (then g.K.ChannelKeys.signer _ _ _ c.batch-batched.ensures.leads_on c.finish.ensures.leads_on)
