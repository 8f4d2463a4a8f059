use Rattle.ln_log.proofs.Restored.{restorable_whole, written_whole}
use Rattle.ln_log.proofs.base_laws.a_record_without_a_base_has_all_updates.Goals as goal

pub returns-clause-exactly : goal.returns-clause-exactly
returns-clause-exactly c = restorable_whole

pub returns-clause-written : goal.returns-clause-written
returns-clause-written c = written_whole
