use Rattle.ln_channel_laws.proofs.Fees.OneFee.{all_taken}
use Rattle.ln_channel_laws.proofs.laws.no_message_is_refused_where_fees_overlap.Goals as goal

pub returns : goal.returns
returns c = all_taken
