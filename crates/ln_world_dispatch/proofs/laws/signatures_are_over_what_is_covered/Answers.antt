use Rattle.ln_world_channels.proofs.Promised.{sign_covered}
use Rattle.ln_world_dispatch.proofs.Plains.{of_each}
use Rattle.ln_world_dispatch.proofs.laws.signatures_are_over_what_is_covered.Goals as goal

pub returns : goal.returns
returns g c = of_each g.K.ChannelKeys _ (sign_covered g.K.ChannelKeys)
