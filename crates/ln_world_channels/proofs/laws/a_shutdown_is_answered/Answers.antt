use Rattle.ln_world_channels.proofs.Promised.{answered}
use Rattle.ln_world_channels.proofs.laws.a_shutdown_is_answered.Goals as goal

pub returns : goal.returns
returns g c = answered g.K.ChannelKeys
