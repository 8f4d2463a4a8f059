use Rattle.ln_world_channels.proofs.Promised.{both_close}
use Rattle.ln_world_channels.proofs.laws.closing_ends.Goals as goal

pub returns : goal.returns
returns g c = both_close g.K.ChannelKeys
