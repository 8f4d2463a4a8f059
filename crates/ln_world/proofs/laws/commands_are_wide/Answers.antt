use Rattle.ln_world.proofs.WideEnds.{are_wide}
use Rattle.ln_world.proofs.laws.commands_are_wide.Goals as goal

pub returns : goal.returns
returns g c = are_wide g.K.ChannelKeys
