use Rattle.ln_host_laws.proofs.Links.{connection_law}
use Rattle.ln_host_laws.proofs.laws.connections_are_as_by_the_keys.Goals as goal

pub returns : goal.returns
returns d c = connection_law
