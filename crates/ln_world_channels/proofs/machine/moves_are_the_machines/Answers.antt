use Rattle.ln_world_channels.proofs.Told.{lead_there}
use Rattle.ln_world_channels.proofs.machine.moves_are_the_machines.Goals as goal

pub returns : goal.returns
returns g c = lead_there g.K.ChannelKeys
