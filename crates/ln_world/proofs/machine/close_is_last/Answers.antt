use Rattle.ln_world_channels.proofs.Told.{moves_last, told_last}
use Rattle.ln_world.specs.Promises.{channel_steps}
use Rattle.ln_world.proofs.machine.close_is_last.Goals as goal

pub returns-clause-of_the_moves : goal.returns-clause-of_the_moves
returns-clause-of_the_moves g c =
    λ steps hooks number side. moves_last g.K.ChannelKeys (channel_steps g.K.ChannelKeys hooks steps) number side

pub returns-clause-of_what_is_handed_out : goal.returns-clause-of_what_is_handed_out
returns-clause-of_what_is_handed_out g c =
    λ steps hooks number side. told_last g.K.ChannelKeys (channel_steps g.K.ChannelKeys hooks steps) number side
