use Rattle.ln_manager_channels.specs.Calls as call
use Rattle.ln_manager.proofs.Leading.{first, seen, stays}
use Rattle.ln_manager.proofs.manager.Manager.set_height.Goals as goal

pub returns-clause-leads_on : goal.returns-clause-leads_on
returns-clause-leads_on g c =
    first g.K.ChannelKeys.signer (call.SetHeight c.args.height) _ c.self.inside.channels c.set_height.new.self _
    (seen _ _ c.self.view_is) c.set_height.ensures.beginning_stays c.set_height.ensures.enters_this_call
    (stays g.K.ChannelKeys.signer _)
