use Rattle.ln_world_channels.proofs.Promised.{agrees}
use Rattle.ln_world.proofs.Plains.{of_each}
use Rattle.ln_world.proofs.laws.agreement.Goals as goal

pub returns : goal.returns
returns g c = of_each g.K.ChannelKeys _ (agrees g.K.ChannelKeys)
