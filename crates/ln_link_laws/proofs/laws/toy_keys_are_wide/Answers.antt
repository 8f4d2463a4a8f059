use Rattle.ln_link_laws.proofs.Toy.{toy_keys}
use Rattle.ln_link_laws.proofs.laws.toy_keys_are_wide.Goals as goal

pub returns : goal.returns
returns c = toy_keys
