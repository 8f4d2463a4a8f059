use Rattle.ln_host_laws.proofs.Links.{message_law}
use Rattle.ln_host_laws.proofs.laws.messages_are_as_by_the_keys.Goals as goal

pub returns : goal.returns
returns d c = message_law
