use Rattle.ln_world_channels.proofs.Promised.{do_exactly}
use Rattle.ln_world.proofs.Plains.{of_each}
use Rattle.ln_world.proofs.laws.commands_are_done_exactly.Goals as goal

pub returns : goal.returns
returns g c = of_each g.K.ChannelKeys _ (do_exactly g.K.ChannelKeys)
