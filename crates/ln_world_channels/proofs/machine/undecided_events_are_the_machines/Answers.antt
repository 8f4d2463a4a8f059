use Rattle.ln_world_channels.proofs.Told.{in_step_so}
use Rattle.ln_world_channels.proofs.machine.undecided_events_are_the_machines.Goals as goal

pub returns : goal.returns
returns g c = in_step_so g.K.ChannelKeys
