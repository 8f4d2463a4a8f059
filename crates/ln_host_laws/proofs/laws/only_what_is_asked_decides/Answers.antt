use Rattle.ln_host_laws.proofs.Unasked.{unasked_law, same_secret_law}
use Rattle.ln_host_laws.proofs.laws.only_what_is_asked_decides.Goals as goal

pub returns-clause-filled : goal.returns-clause-filled
returns-clause-filled c = unasked_law

pub returns-clause-whole : goal.returns-clause-whole
returns-clause-whole c = same_secret_law
