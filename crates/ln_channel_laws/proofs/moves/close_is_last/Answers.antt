use Rattle.ln_channel_laws.proofs.Events.CloseIsLast.{moves_last, told_last}
use Rattle.ln_channel_laws.proofs.moves.close_is_last.Goals as goal

pub returns-clause-of_the_moves : goal.returns-clause-of_the_moves
returns-clause-of_the_moves c = moves_last

pub returns-clause-of_what_is_handed_out : goal.returns-clause-of_what_is_handed_out
returns-clause-of_what_is_handed_out c = told_last
