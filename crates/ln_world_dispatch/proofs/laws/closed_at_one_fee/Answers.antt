use Rattle.ln_world_channels.proofs.Promised.{one_fee}
use Rattle.ln_world_dispatch.proofs.Plains.{of_each}
use Rattle.ln_world_dispatch.proofs.laws.closed_at_one_fee.Goals as goal

pub returns : goal.returns
returns g c = of_each g.K.ChannelKeys _ (one_fee g.K.ChannelKeys)
