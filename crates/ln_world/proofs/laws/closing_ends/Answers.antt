use Rattle.ln_world_channels.proofs.Promised.{both_close}
use Rattle.ln_world.proofs.Plains.{of_each}
use Rattle.ln_world.proofs.laws.closing_ends.Goals as goal

pub returns : goal.returns
returns g c = of_each g.K.ChannelKeys _ (both_close g.K.ChannelKeys)
