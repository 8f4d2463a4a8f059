use Rattle.ln_channel_laws.proofs.Fees.OneFee.{one_fee}
use Rattle.ln_channel_laws.proofs.laws.closed_at_one_fee.Goals as goal

pub returns : goal.returns
returns c = one_fee
