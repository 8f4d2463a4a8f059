use Rattle.ln_world_channels.proofs.Promised.{all_taken}
use Rattle.ln_world.proofs.Plains.{of_each}
use Rattle.ln_world.proofs.laws.never_refused_where_fees_overlap.Goals as goal

pub returns : goal.returns
returns g c = of_each g.K.ChannelKeys _ (all_taken g.K.ChannelKeys)
