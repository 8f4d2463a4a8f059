use Rattle.ln_world_channels.proofs.Promised.{headline}
use Rattle.ln_world_channels.proofs.laws.headline.Goals as goal

pub returns : goal.returns
returns g c = headline g.K.ChannelKeys
