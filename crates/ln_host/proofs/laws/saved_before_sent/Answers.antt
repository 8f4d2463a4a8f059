use Rattle.ln_host.proofs.laws.saved_before_sent.Goals as goal
use Rattle.ln_host.proofs.Calls.{saved_first, sent_in_order, heard_in_order}

pub returns-clause-saved_first : goal.returns-clause-saved_first
returns-clause-saved_first c = saved_first

pub returns-clause-sent_once_in_order : goal.returns-clause-sent_once_in_order
returns-clause-sent_once_in_order c = sent_in_order

pub returns-clause-heard_once_in_order : goal.returns-clause-heard_once_in_order
returns-clause-heard_once_in_order c = heard_in_order
