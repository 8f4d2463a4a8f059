use Rattle.ln_msgs.proofs.Grammar.{message_again, message_takes, one_said, no_fault_said}
use Rattle.ln_msgs.proofs.codec.decoding.one_message.Goals as goal

pub returns-clause-reads_what_is_said : goal.returns-clause-reads_what_is_said
returns-clause-reads_what_is_said c = λ h bytes. message_again bytes h

pub returns-clause-says_what_is_read : goal.returns-clause-says_what_is_read
returns-clause-says_what_is_read c = λ h bytes. message_takes bytes h

pub returns-clause-says_one_thing : goal.returns-clause-says_one_thing
returns-clause-says_one_thing c = one_said

pub returns-clause-has_no_fault_if_it_says : goal.returns-clause-has_no_fault_if_it_says
returns-clause-has_no_fault_if_it_says c = no_fault_said
