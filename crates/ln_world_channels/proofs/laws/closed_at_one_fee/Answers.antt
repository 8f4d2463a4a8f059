use Rattle.ln_world_channels.proofs.Promised.{one_fee}
use Rattle.ln_world_channels.proofs.laws.closed_at_one_fee.Goals as goal

pub returns : goal.returns
returns g c = one_fee g.K.ChannelKeys
