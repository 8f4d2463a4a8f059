use Rattle.ln_manager_channels.specs.Calls as call
use Rattle.ln_manager.proofs.Leading.{first, seen, stays}
use Rattle.ln_manager.proofs.manager.Manager.expect.Goals as goal

pub returns-clause-leads_on : goal.returns-clause-leads_on
returns-clause-leads_on g c =
    first g.K.ChannelKeys.signer (call.Expect c.args.preimage c.args.secret c.args.amount) _ c.self.inside.channels
    c.expect.new.self _
    (seen _ _ c.self.view_is) c.expect.ensures.beginning_stays c.expect.ensures.enters_this_call
    (stays g.K.ChannelKeys.signer _)
