use Rattle.ln_channel_laws.proofs.Closing.ClosingEnds.{both_close}
use Rattle.ln_channel_laws.proofs.laws.closing_ends.Goals as goal

pub returns : goal.returns
returns c = both_close
