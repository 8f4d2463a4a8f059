use Rattle.ln_link.proofs.Recorded.{recorded}
use Rattle.ln_link.proofs.laws.lost_connection_is_recorded.Goals as goal

pub returns : goal.returns
returns c = recorded
