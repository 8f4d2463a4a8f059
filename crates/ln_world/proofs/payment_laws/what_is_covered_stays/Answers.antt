use Rattle.ln_world.proofs.Covering.{stays_covered}
use Rattle.ln_world.proofs.payment_laws.what_is_covered_stays.Goals as goal

pub returns : goal.returns
returns g c = stays_covered g.K.ChannelKeys
