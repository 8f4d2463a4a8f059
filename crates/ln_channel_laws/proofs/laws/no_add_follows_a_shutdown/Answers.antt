use Rattle.ln_channel_laws.proofs.Ends.Promised.{none_adds_late}
use Rattle.ln_channel_laws.proofs.laws.no_add_follows_a_shutdown.Goals as goal

pub returns : goal.returns
returns c = none_adds_late
