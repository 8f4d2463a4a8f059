use Rattle.std.proofs.Common.{sym, subst}
use Rattle.ln_world_channels.specs.World as channels
use Rattle.ln_world_channels.specs.Setup.{all_setups, OpensAsSet}
use Rattle.ln_world_channels.proofs.SetUp.{open_as_set}
use Rattle.ln_world.specs.Promises.{channel_steps}
use Rattle.ln_world.proofs.Plains.{ran_channels}
use Rattle.ln_world.proofs.laws.channels_open_as_set.Goals as goal

pub returns : goal.returns
returns g c =
    λ steps hooks number. subst (λ (w : channels.World _). OpensAsSet
    (all_setups g.K.ChannelKeys number (channel_steps g.K.ChannelKeys hooks steps) channels.empty)
    (channels.channel number w.channels)) (sym (ran_channels g.K.ChannelKeys hooks steps))
    (open_as_set g.K.ChannelKeys (channel_steps g.K.ChannelKeys hooks steps) number)
