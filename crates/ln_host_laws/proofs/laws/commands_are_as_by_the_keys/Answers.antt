use Rattle.ln_host_laws.proofs.Links.{command_law}
use Rattle.ln_host_laws.proofs.laws.commands_are_as_by_the_keys.Goals as goal

pub returns : goal.returns
returns d c = command_law
