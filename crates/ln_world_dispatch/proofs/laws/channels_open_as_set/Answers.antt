use Rattle.std.proofs.Common.{sym, subst}
use Rattle.ln_world_channels.specs.World as channels
use Rattle.ln_world_channels.specs.Setup.{all_setups, OpensAsSet}
use Rattle.ln_world_channels.proofs.SetUp.{open_as_set}
use Rattle.ln_world_dispatch.specs.World.{empty, plains}
use Rattle.ln_world_dispatch.proofs.Plains.{ran}
use Rattle.ln_world_dispatch.proofs.laws.channels_open_as_set.Goals as goal

pub returns : goal.returns
returns g c =
    λ steps hooks number. subst (λ (w : channels.World _). OpensAsSet
    (all_setups g.K.ChannelKeys number (plains g.K.ChannelKeys steps (empty hooks)) channels.empty)
    (channels.channel number w.channels)) (sym (ran g.K.ChannelKeys hooks steps))
    (open_as_set g.K.ChannelKeys (plains g.K.ChannelKeys steps (empty hooks)) number)
