use Rattle.ln_manager_laws.proofs.Running.{one_payment}
use Rattle.ln_manager_laws.proofs.laws.one_payment_out.Goals as goal

pub returns : goal.returns
returns g c = λ courses id_of h runs one numbers. one_payment g.K.ChannelKeys.signer courses runs id_of one numbers h
