use Rattle.ln_manager_channels.specs.Calls as call
use Rattle.ln_manager.proofs.Leading.{first, seen, stays}
use Rattle.ln_manager.proofs.manager.Manager.hear.Goals as goal

pub returns-in_err-other-clause-leads_on : goal.returns-in_err-other-clause-leads_on
returns-in_err-other-clause-leads_on g c =
    first g.K.ChannelKeys.signer (call.Hear c.args.channel c.args.number) _ c.self.inside.channels c.hear.new.self _
    (seen _ _ c.self.view_is) c.hear.ensures.beginning_stays c.hear.ensures.enters_this_call
    (stays g.K.ChannelKeys.signer _)

pub returns-clause-leads_on : goal.returns-clause-leads_on
returns-clause-leads_on g c =
    first g.K.ChannelKeys.signer (call.Hear c.args.channel c.args.number) _ c.self.inside.channels c.hear.new.self _
    (seen _ _ c.self.view_is) c.hear.ensures.beginning_stays c.hear.ensures.enters_this_call
    c.list_due.ensures.leads_on
