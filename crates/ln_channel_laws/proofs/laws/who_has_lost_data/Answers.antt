use Rattle.ln_channel_laws.proofs.Ends.LostData.{both_tell}
use Rattle.ln_channel_laws.proofs.laws.who_has_lost_data.Goals as goal

pub returns : goal.returns
returns c = both_tell
