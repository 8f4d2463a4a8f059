use Rattle.ln_host.proofs.laws.hosted_lines_are_lines.Goals as goal
use Rattle.ln_host.proofs.Courses.{lines_of_runs}
use Rattle.ln_host.proofs.RecordsFirst.{records_of_runs}

pub returns-clause-moves_by_calls : goal.returns-clause-moves_by_calls
returns-clause-moves_by_calls c = lines_of_runs

pub returns-clause-record_stands_first : goal.returns-clause-record_stands_first
returns-clause-record_stands_first c = records_of_runs
