use Rattle.ln_log.proofs.Signs.{exactly}
use Rattle.ln_log.proofs.laws.sign_exactly.Goals as goal

pub returns : goal.returns
returns c = exactly
