use Rattle.ln_world_channels.proofs.Told.{moves_last, told_last}
use Rattle.ln_world_channels.proofs.machine.close_is_last.Goals as goal

pub returns-clause-of_the_moves : goal.returns-clause-of_the_moves
returns-clause-of_the_moves g c = moves_last g.K.ChannelKeys

pub returns-clause-of_what_is_handed_out : goal.returns-clause-of_what_is_handed_out
returns-clause-of_what_is_handed_out g c = told_last g.K.ChannelKeys
