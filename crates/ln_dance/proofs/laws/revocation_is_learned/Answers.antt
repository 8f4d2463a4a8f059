use Rattle.ln_dance.proofs.Faces.{learned, told}
use Rattle.ln_dance.proofs.laws.revocation_is_learned.Goals as goal

pub returns-clause-learned : goal.returns-clause-learned
returns-clause-learned c = learned

pub returns-clause-point : goal.returns-clause-point
returns-clause-point c = told
