use Rattle.ln_host_laws.proofs.Saved.{saved_law}
use Rattle.ln_host_laws.proofs.laws.blanks_are_of_the_saved_link.Goals as goal

pub returns : goal.returns
returns c = saved_law
