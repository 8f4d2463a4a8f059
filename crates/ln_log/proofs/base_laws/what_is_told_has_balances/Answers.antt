use Rattle.ln_log.proofs.Retold.{has_balances_told}
use Rattle.ln_log.proofs.base_laws.what_is_told_has_balances.Goals as goal

pub returns-clause-has_balances : goal.returns-clause-has_balances
returns-clause-has_balances c = has_balances_told

pub returns-clause-can_pay : goal.returns-clause-can_pay
returns-clause-can_pay c = λ t n h. (h.own_left.paid, h.peer_left.paid)
