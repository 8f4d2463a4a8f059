use Rattle.ln_channel.proofs.Meeting.{none_refused, are_ends}
use Rattle.ln_channel.proofs.opening.opening_is_agreed.Goals as goal

pub returns-clause-taken : goal.returns-clause-taken
returns-clause-taken c = none_refused

pub returns-clause-agreed : goal.returns-clause-agreed
returns-clause-agreed c = are_ends
