use Rattle.ln_log.proofs.Moves.{shut_so}
use Rattle.ln_log.proofs.laws.shut_exactly.Goals as goal

pub returns : goal.returns
returns c = shut_so
