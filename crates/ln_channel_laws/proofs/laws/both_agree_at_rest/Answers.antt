use Rattle.ln_channel_laws.proofs.Ends.Promised.{agrees}
use Rattle.ln_channel_laws.proofs.laws.both_agree_at_rest.Goals as goal

pub returns : goal.returns
returns c = agrees
