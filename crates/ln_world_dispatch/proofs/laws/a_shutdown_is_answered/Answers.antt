use Rattle.ln_world_channels.proofs.Promised.{answered}
use Rattle.ln_world_dispatch.proofs.Plains.{of_each}
use Rattle.ln_world_dispatch.proofs.laws.a_shutdown_is_answered.Goals as goal

pub returns : goal.returns
returns g c = of_each g.K.ChannelKeys _ (answered g.K.ChannelKeys)
