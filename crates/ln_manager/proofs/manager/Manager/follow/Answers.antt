use Rattle.ln_manager_channels.specs.Calls as call
use Rattle.ln_manager.proofs.Leading.{first, seen, stays}
use Rattle.ln_manager.proofs.manager.Manager.follow.Goals as goal

pub returns-in_err-follow-clause-leads_on : goal.returns-in_err-follow-clause-leads_on
returns-in_err-follow-clause-leads_on g c =
    first g.K.ChannelKeys.signer (call.Follow c.self.inside.policy c.in-Some.used) _ c.self.inside.channels
    c.follow.new.self _
    (seen _ _ c.self.view_is) c.follow.ensures.beginning_stays c.follow.ensures.enters_this_call
    (stays g.K.ChannelKeys.signer _)

pub returns-clause-leads_on : goal.returns-clause-leads_on
returns-clause-leads_on g c =
    first g.K.ChannelKeys.signer (call.Follow c.self.inside.policy c.in-Some.used) _ c.self.inside.channels
    c.follow.new.self _
    (seen _ _ c.self.view_is) c.follow.ensures.beginning_stays c.follow.ensures.enters_this_call
    c.note_use.ensures.leads_on
