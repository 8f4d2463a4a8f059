use Rattle.std.proofs.Common.{sym, ap, ◌∙◌}
use Rattle.ln_world_channels.specs.World as channels
use Rattle.ln_world_channels.specs.Machine.{machine_of}
use Rattle.ln_world_channels.proofs.Told.{lead_there}
use Rattle.ln_world.specs.Promises.{channel_steps}
use Rattle.ln_world.proofs.Plains.{ran_channels}
use Rattle.ln_world.proofs.machine.moves_are_the_machines.Goals as goal

pub returns : goal.returns
returns g c =
    λ steps hooks number. lead_there g.K.ChannelKeys (channel_steps g.K.ChannelKeys hooks steps) number
    ∙ ap (λ (w : channels.World _). machine_of (channels.channel number w.channels))
    (sym (ran_channels g.K.ChannelKeys hooks steps))
