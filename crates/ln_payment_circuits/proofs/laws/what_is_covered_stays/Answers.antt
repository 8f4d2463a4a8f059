use Rattle.ln_payment_circuits.proofs.Covering.{covered_stays}
use Rattle.ln_payment_circuits.proofs.laws.what_is_covered_stays.Goals as goal

pub returns : goal.returns
returns c = λ id_of s later fit moments h d i. covered_stays id_of h d i s later fit moments
