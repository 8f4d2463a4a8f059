use Rattle.ln_world_channels.proofs.Told.{events_so}
use Rattle.ln_world_channels.proofs.machine.events_are_reported.Goals as goal

pub returns : goal.returns
returns g c = events_so g.K.ChannelKeys
