use Rattle.ln_world_channels.proofs.Promised.{readiness_agrees}
use Rattle.ln_world_channels.proofs.laws.readiness_agrees_at_rest.Goals as goal

pub returns : goal.returns
returns g c = readiness_agrees g.K.ChannelKeys
