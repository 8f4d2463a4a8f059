use Rattle.ln_link_laws.proofs.Records.{tells_log, tells_log_from_opening}
use Rattle.ln_link_laws.proofs.laws.readable_records_tell_logs.Goals as goal

pub returns-clause-exactly : goal.returns-clause-exactly
returns-clause-exactly c = tells_log

pub returns-clause-without_updates_in_the_base : goal.returns-clause-without_updates_in_the_base
returns-clause-without_updates_in_the_base c = tells_log_from_opening
