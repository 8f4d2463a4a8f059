use Rattle.ln_world_channels.proofs.Promised.{readiness_agrees}
use Rattle.ln_world.proofs.Plains.{of_each}
use Rattle.ln_world.proofs.laws.readiness_agrees_at_rest.Goals as goal

pub returns : goal.returns
returns g c = of_each g.K.ChannelKeys _ (readiness_agrees g.K.ChannelKeys)
