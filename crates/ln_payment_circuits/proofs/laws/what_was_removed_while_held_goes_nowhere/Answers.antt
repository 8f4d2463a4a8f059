use Rattle.ln_payment_circuits.proofs.Withheld.{asks_nothing}
use Rattle.ln_payment_circuits.proofs.laws.what_was_removed_while_held_goes_nowhere.Goals as goal

pub returns : goal.returns
returns c = λ rs x there held removed m channel k. asks_nothing rs x there held removed m channel k
