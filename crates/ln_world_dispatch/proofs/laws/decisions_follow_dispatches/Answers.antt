use Rattle.ln_world_dispatch.proofs.Dispatchers.{dispatchers_stand}
use Rattle.ln_world_dispatch.proofs.laws.decisions_follow_dispatches.Goals as goal

pub returns : goal.returns
returns g c = dispatchers_stand g.K.ChannelKeys
