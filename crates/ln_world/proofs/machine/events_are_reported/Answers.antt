use Rattle.ln_world_channels.proofs.Told.{events_so}
use Rattle.ln_world.specs.Promises.{channel_steps}
use Rattle.ln_world.proofs.machine.events_are_reported.Goals as goal

pub returns : goal.returns
returns g c =
    λ steps hooks number side. events_so g.K.ChannelKeys (channel_steps g.K.ChannelKeys hooks steps) number side
