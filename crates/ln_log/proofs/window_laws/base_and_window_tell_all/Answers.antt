use Rattle.ln_log.proofs.Behind.{balances_is, both_live_htlcs, both_pay}
use Rattle.ln_log.proofs.window_laws.base_and_window_tell_all.Goals as goal

pub returns-clause-balances : goal.returns-clause-balances
returns-clause-balances c = balances_is

pub returns-clause-live_htlc_count : goal.returns-clause-live_htlc_count
returns-clause-live_htlc_count c = both_live_htlcs

pub returns-clause-payment : goal.returns-clause-payment
returns-clause-payment c = both_pay
