use Rattle.std.proofs.Common.{◌∙◌}
use Rattle.ln_manager_channels.specs.Calls as call
use Rattle.ln_manager.proofs.Changed.{none_added}
use Rattle.ln_manager.proofs.Leading.{first, seen, stays}
use Rattle.ln_manager.proofs.manager.Manager.add_fundee.Goals as goal

pub invariant_of-self : goal.invariant_of-self
invariant_of-self g c =
    none_added c.self-2.inside.is_spent _ c.self-2.inside.channels.parts c.add_fundee.new.self.parts
    c.add_fundee.ensures.enters_this_call c.self-2.invariant

pub invariant_of-self-2 : goal.invariant_of-self-2
invariant_of-self-2 g c =
    none_added c.self-2.inside.is_spent _ c.self-2.inside.channels.parts c.add_fundee.new.self.parts
    c.add_fundee.ensures.enters_this_call c.self-2.invariant

pub returns-in_err-add_fundee-clause-leads_on : goal.returns-in_err-add_fundee-clause-leads_on
returns-in_err-add_fundee-clause-leads_on g c =
    first g.K.ChannelKeys.signer (call.AddFundee c.args.keys c.args.config) _ c.self-2.inside.channels
    c.add_fundee.new.self _
    (seen _ _ c.self-2.view_is ∙ c.make_places.ensures.channels_stay)
    c.add_fundee.ensures.beginning_stays c.add_fundee.ensures.enters_this_call (stays g.K.ChannelKeys.signer _)

pub returns-clause-leads_on : goal.returns-clause-leads_on
returns-clause-leads_on g c =
    first g.K.ChannelKeys.signer (call.AddFundee c.args.keys c.args.config) _ c.self-2.inside.channels
    c.add_fundee.new.self _
    (seen _ _ c.self-2.view_is ∙ c.make_places.ensures.channels_stay)
    c.add_fundee.ensures.beginning_stays c.add_fundee.ensures.enters_this_call (stays g.K.ChannelKeys.signer _)
