use Rattle.ln_host_laws.proofs.Known.{asked_law, beside_law}
use Rattle.ln_host_laws.proofs.laws.new_channels_are_asked_about.Goals as goal

pub returns-clause-asked : goal.returns-clause-asked
returns-clause-asked d c = asked_law

pub returns-clause-stores : goal.returns-clause-stores
returns-clause-stores d c = beside_law
