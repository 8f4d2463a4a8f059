use Rattle.ln_world_channels.proofs.Promised.{none_is_refused}
use Rattle.ln_world_channels.proofs.laws.never_refused.Goals as goal

pub returns : goal.returns
returns g c = none_is_refused g.K.ChannelKeys
