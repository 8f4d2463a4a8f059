use Rattle.ln_world_channels.proofs.Promised.{none_is_refused}
use Rattle.ln_world.proofs.Plains.{of_each}
use Rattle.ln_world.proofs.laws.never_refused.Goals as goal

pub returns : goal.returns
returns g c = of_each g.K.ChannelKeys _ (none_is_refused g.K.ChannelKeys)
