use Rattle.ln_channel_laws.proofs.Ends.Promised.{none_refused}
use Rattle.ln_channel_laws.proofs.laws.no_message_is_refused.Goals as goal

pub returns : goal.returns
returns c = none_refused
