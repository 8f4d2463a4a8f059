use Rattle.ln_payment_circuits.proofs.Law.{one_payment}
use Rattle.ln_payment_circuits.proofs.laws.one_payment_out.Goals as goal

pub returns : goal.returns
returns c = λ id_of moments ids. one_payment id_of ids moments
