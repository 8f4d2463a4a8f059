use Rattle.std.proofs.Common.{true}
use Rattle.ln_manager_channels.specs.Calls as call
use Rattle.ln_manager.proofs.Leading.{by_call, first, seen}
use Rattle.ln_manager.proofs.manager.Manager.halt.Goals as goal

pub returns-clause-halts : goal.returns-clause-halts
returns-clause-halts g c =
    by_call g.K.ChannelKeys.signer (call.Halt c.args.channel) true _ c.self.inside.channels c.halt.new.self _
    (seen _ _ c.self.view_is) c.halt.ensures.beginning_stays c.halt.ensures.enters_this_call
    (λ done. c.halt.ensures.enters_this_call)
    c.follow.ensures.leads_on

pub returns-clause-leads_on : goal.returns-clause-leads_on
returns-clause-leads_on g c =
    first g.K.ChannelKeys.signer (call.Halt c.args.channel) _ c.self.inside.channels c.halt.new.self _
    (seen _ _ c.self.view_is) c.halt.ensures.beginning_stays c.halt.ensures.enters_this_call
    c.follow.ensures.leads_on
