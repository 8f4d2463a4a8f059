use Rattle.ln_world.proofs.Paying.{one_payment_out}
use Rattle.ln_world.proofs.payment_laws.one_payment_out.Goals as goal

pub returns : goal.returns
returns g c = one_payment_out g.K.ChannelKeys
