use Rattle.ln_batches.proofs.laws.saved_before_sent.Goals as goal
use Rattle.ln_batches.proofs.Calls.{saved_first}
use Rattle.ln_batches.proofs.Order.{sent_in_order}

pub returns-clause-saved_first : goal.returns-clause-saved_first
returns-clause-saved_first g c = saved_first

pub returns-clause-sent_once_in_order : goal.returns-clause-sent_once_in_order
returns-clause-sent_once_in_order g c = sent_in_order
