use Rattle.ln_channel_laws.proofs.Ends.Promised.{headline}
use Rattle.ln_channel_laws.proofs.laws.held_was_covered.Goals as goal

pub returns : goal.returns
returns c = headline
