use Rattle.ln_link.proofs.Calls.{has_record, has_channel}
use Rattle.ln_link.proofs.Halting.{halts_with_record}
use Rattle.ln_link.proofs.laws.store_has_the_record.Goals as goal

pub returns-clause-of_the_link : goal.returns-clause-of_the_link
returns-clause-of_the_link g c = has_record

pub returns-clause-of_before_or_behind_the_halt : goal.returns-clause-of_before_or_behind_the_halt
returns-clause-of_before_or_behind_the_halt g c = halts_with_record

pub returns-clause-of_the_channel : goal.returns-clause-of_the_channel
returns-clause-of_the_channel g c = has_channel
