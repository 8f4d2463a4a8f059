use Rattle.ln_channel_laws.proofs.Ends.Promised.{readiness_agrees}
use Rattle.ln_channel_laws.proofs.laws.readiness_agrees_at_rest.Goals as goal

pub returns : goal.returns
returns c = readiness_agrees
