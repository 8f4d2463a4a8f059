use Rattle.ln_world_channels.proofs.Longest.{bases_are_longest}
use Rattle.ln_world_channels.proofs.laws.bases_are_the_longest.Goals as goal

pub returns : goal.returns
returns g c = bases_are_longest g.K.ChannelKeys
