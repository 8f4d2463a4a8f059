use Rattle.ln_dance.proofs.Faces.{accepted}
use Rattle.ln_dance.proofs.laws.signature_is_accepted.Goals as goal

pub returns : goal.returns
returns c = accepted
