use Rattle.ln_bytes.proofs.Streams.{stream_again, stream_found, stream_faulty, stream_broken, some_outcome}
use Rattle.ln_bytes.proofs.Streams.{same_records, one_outcome, one_fault}
use Rattle.ln_bytes.proofs.tlv.one_stream.Goals as goal

pub returns-clause-reads_what_is_spelled : goal.returns-clause-reads_what_is_spelled
returns-clause-reads_what_is_spelled c = λ known bytes rs. stream_again known rs bytes

pub returns-clause-spells_what_is_read : goal.returns-clause-spells_what_is_read
returns-clause-spells_what_is_read c = λ known bytes rs. stream_found known rs bytes

pub returns-clause-finds_each_fault : goal.returns-clause-finds_each_fault
returns-clause-finds_each_fault c = stream_faulty

pub returns-clause-has_the_fault_found : goal.returns-clause-has_the_fault_found
returns-clause-has_the_fault_found c = stream_broken

pub returns-clause-is_spelled_or_faulty : goal.returns-clause-is_spelled_or_faulty
returns-clause-is_spelled_or_faulty c = some_outcome

pub returns-clause-has_one_list_of_records : goal.returns-clause-has_one_list_of_records
returns-clause-has_one_list_of_records c = same_records

pub returns-clause-has_no_fault_if_spelled : goal.returns-clause-has_no_fault_if_spelled
returns-clause-has_no_fault_if_spelled c = one_outcome

pub returns-clause-has_one_first_fault : goal.returns-clause-has_one_first_fault
returns-clause-has_one_first_fault c = one_fault
