use Rattle.ln_world_channels.proofs.Told.{may_be_made}
use Rattle.ln_world_channels.proofs.machine.each_move_may_be_made.Goals as goal

pub returns : goal.returns
returns g c = may_be_made g.K.ChannelKeys
