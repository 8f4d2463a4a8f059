use Rattle.ln_link_laws.proofs.Led.{sendable}
use Rattle.ln_link_laws.proofs.laws.each_message_can_be_written.Goals as goal

pub returns : goal.returns
returns d c = sendable
