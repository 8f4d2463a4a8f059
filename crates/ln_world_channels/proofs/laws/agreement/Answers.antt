use Rattle.ln_world_channels.proofs.Promised.{agrees}
use Rattle.ln_world_channels.proofs.laws.agreement.Goals as goal

pub returns : goal.returns
returns g c = agrees g.K.ChannelKeys
