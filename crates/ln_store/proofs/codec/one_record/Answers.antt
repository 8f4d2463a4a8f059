use Rattle.ln_store.proofs.Records.{record_again, old_again, one_item, record_takes}
use Rattle.ln_store.proofs.codec.one_record.Goals as goal

pub returns-clause-reads_what_is_written : goal.returns-clause-reads_what_is_written
returns-clause-reads_what_is_written c = record_again

pub returns-clause-reads_what_was_written : goal.returns-clause-reads_what_was_written
returns-clause-reads_what_was_written c = old_again

pub returns-clause-spells_one_record : goal.returns-clause-spells_one_record
returns-clause-spells_one_record c = one_item

pub returns-clause-spells_what_is_read : goal.returns-clause-spells_what_is_read
returns-clause-spells_what_is_read c = λ i bytes b e. record_takes bytes i b e
