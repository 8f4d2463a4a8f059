use Rattle.ln_world_channels.proofs.Promised.{do_exactly}
use Rattle.ln_world_channels.proofs.laws.commands_are_done_exactly.Goals as goal

pub returns : goal.returns
returns g c = do_exactly g.K.ChannelKeys
