use Rattle.std.proofs.Common.{sym, ap, ◌∙◌}
use Rattle.ln_world_channels.specs.World as channels
use Rattle.ln_world_channels.specs.Machine.{machine_of}
use Rattle.ln_world_channels.proofs.Told.{lead_there}
use Rattle.ln_world_dispatch.specs.World.{empty, plains}
use Rattle.ln_world_dispatch.proofs.Plains.{ran}
use Rattle.ln_world_dispatch.proofs.machine.moves_are_the_machines.Goals as goal

pub returns : goal.returns
returns g c =
    λ steps hooks number. lead_there g.K.ChannelKeys (plains g.K.ChannelKeys steps (empty hooks)) number
    ∙ ap (λ (w : channels.World _). machine_of (channels.channel number w.channels))
    (sym (ran g.K.ChannelKeys hooks steps))
