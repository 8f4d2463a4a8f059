use Rattle.ln_world_channels.proofs.Promised.{sign_covered}
use Rattle.ln_world_channels.proofs.laws.signatures_are_over_what_is_covered.Goals as goal

pub returns : goal.returns
returns g c = sign_covered g.K.ChannelKeys
