use Rattle.ln_channel_laws.proofs.Machine.RunMoves.{lead_there}
use Rattle.ln_channel_laws.proofs.moves.moves_are_the_machines.Goals as goal

pub returns : goal.returns
returns c = lead_there
