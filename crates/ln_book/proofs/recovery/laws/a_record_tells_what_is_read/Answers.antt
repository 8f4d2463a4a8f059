use Rattle.ln_book.proofs.Told.{snapshot_same, next_ids_same, removals_same, decisions_same}
use Rattle.ln_book.proofs.recovery.laws.a_record_tells_what_is_read.Goals as goal

pub returns-clause-snapshots : goal.returns-clause-snapshots
returns-clause-snapshots c = snapshot_same

pub returns-clause-next_ids : goal.returns-clause-next_ids
returns-clause-next_ids c = next_ids_same

pub returns-clause-removals : goal.returns-clause-removals
returns-clause-removals c = removals_same

pub returns-clause-decisions : goal.returns-clause-decisions
returns-clause-decisions c = decisions_same
