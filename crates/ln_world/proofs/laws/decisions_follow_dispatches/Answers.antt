use Rattle.ln_world_dispatch.proofs.Dispatchers.{dispatchers_stand}
use Rattle.ln_world.specs.World.{empty, plains}
use Rattle.ln_world.proofs.laws.decisions_follow_dispatches.Goals as goal

pub returns : goal.returns
returns g c = λ steps hooks. dispatchers_stand g.K.ChannelKeys (plains g.K.ChannelKeys steps (empty hooks)) hooks
