use Rattle.ln_host_laws.proofs.Unasked.{told_right}
use Rattle.ln_host_laws.proofs.laws.keys_tell_right.Goals as goal

pub returns : goal.returns
returns c = told_right
