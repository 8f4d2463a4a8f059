use Rattle.ln_world_channels.proofs.Told.{none_adds_late}
use Rattle.ln_world_channels.proofs.laws.no_add_follows_a_shutdown.Goals as goal

pub returns : goal.returns
returns g c = none_adds_late g.K.ChannelKeys
