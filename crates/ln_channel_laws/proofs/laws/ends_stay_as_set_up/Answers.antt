use Rattle.ln_channel_laws.proofs.Machine.RunMoves.{set_up_so}
use Rattle.ln_channel_laws.proofs.laws.ends_stay_as_set_up.Goals as goal

pub returns : goal.returns
returns c = set_up_so
