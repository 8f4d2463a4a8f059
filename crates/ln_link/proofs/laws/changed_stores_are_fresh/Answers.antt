use Rattle.ln_link.proofs.Fresh.{all_calls}
use Rattle.ln_link.proofs.laws.changed_stores_are_fresh.Goals as goal

pub returns : goal.returns
returns g c = all_calls
