use Rattle.ln_world_channels.proofs.Told.{events_so}
use Rattle.ln_world_dispatch.specs.World.{empty, plains}
use Rattle.ln_world_dispatch.proofs.machine.events_are_reported.Goals as goal

pub returns : goal.returns
returns g c = λ steps hooks number side.
    events_so g.K.ChannelKeys (plains g.K.ChannelKeys steps (empty hooks)) number side
