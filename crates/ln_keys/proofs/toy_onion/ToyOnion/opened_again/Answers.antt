use Rattle.ln_keys.proofs.Opening.{is_opened}
use Rattle.ln_keys.proofs.toy_onion.ToyOnion.opened_again.Goals as goal

pub returns : goal.returns
returns c = is_opened
