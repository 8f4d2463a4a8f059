use Rattle.ln_payment.proofs.Law.{one_payment}
use Rattle.ln_payment.proofs.laws.one_payment_out.Goals as goal

pub returns : goal.returns
returns c = one_payment
