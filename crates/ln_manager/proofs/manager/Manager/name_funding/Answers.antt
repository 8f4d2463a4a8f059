use Rattle.ln_manager_channels.specs.Calls as call
use Rattle.ln_manager.proofs.Leading.{first, seen, stays}
use Rattle.ln_manager.proofs.manager.Manager.name_funding.Goals as goal

pub returns-clause-leads_on : goal.returns-clause-leads_on
returns-clause-leads_on g c =
    first g.K.ChannelKeys.signer (call.NameFunding c.args.channel c.args.txid c.args.output) _ c.self.inside.channels
    c.name_funding.new.self _
    (seen _ _ c.self.view_is) c.name_funding.ensures.beginning_stays c.name_funding.ensures.enters_this_call
    (stays g.K.ChannelKeys.signer _)
