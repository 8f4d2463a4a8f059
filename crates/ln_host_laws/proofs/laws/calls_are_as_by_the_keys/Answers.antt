use Rattle.ln_host_laws.proofs.Courses.{outputs_law, alike_law, record_law}
use Rattle.ln_host_laws.proofs.laws.calls_are_as_by_the_keys.Goals as goal

pub returns-clause-outputs : goal.returns-clause-outputs
returns-clause-outputs d c = outputs_law

pub returns-clause-links : goal.returns-clause-links
returns-clause-links d c = alike_law

pub returns-clause-records : goal.returns-clause-records
returns-clause-records d c = record_law
