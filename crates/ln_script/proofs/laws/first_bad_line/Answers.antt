use Rattle.ln_script.proofs.FirstBad.{first_bad, only_first}
use Rattle.ln_script.proofs.laws.first_bad_line.Goals as goal

pub returns-clause-refused : goal.returns-clause-refused
returns-clause-refused c = first_bad

pub returns-clause-only_then : goal.returns-clause-only_then
returns-clause-only_then c = only_first
