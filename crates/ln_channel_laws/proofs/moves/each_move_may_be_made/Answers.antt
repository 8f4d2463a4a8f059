use Rattle.ln_channel_laws.proofs.Machine.RunMoves.{may_be_made}
use Rattle.ln_channel_laws.proofs.moves.each_move_may_be_made.Goals as goal

pub returns : goal.returns
returns c = may_be_made
