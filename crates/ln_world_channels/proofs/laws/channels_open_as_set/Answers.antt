use Rattle.ln_world_channels.proofs.SetUp.{open_as_set}
use Rattle.ln_world_channels.proofs.laws.channels_open_as_set.Goals as goal

pub returns : goal.returns
returns g c = open_as_set g.K.ChannelKeys
