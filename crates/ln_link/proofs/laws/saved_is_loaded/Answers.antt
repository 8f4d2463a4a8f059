use Rattle.ln_link.proofs.Loaded.{loaded, loaded_whole, loadable}
use Rattle.ln_link.proofs.Restarted.{same_failure}
use Rattle.ln_link.proofs.laws.saved_is_loaded.Goals as goal

pub returns-clause-can_be_loaded : goal.returns-clause-can_be_loaded
returns-clause-can_be_loaded c = loadable

pub returns-clause-as_dropped : goal.returns-clause-as_dropped
returns-clause-as_dropped c = loaded

pub returns-clause-with_all_updates : goal.returns-clause-with_all_updates
returns-clause-with_all_updates c = loaded_whole

pub returns-clause-failed_as_it_had : goal.returns-clause-failed_as_it_had
returns-clause-failed_as_it_had c = same_failure
