use Rattle.ln_channel_laws.proofs.Machine.DoneExactly.{both_do}
use Rattle.ln_channel_laws.proofs.laws.commands_are_done_exactly.Goals as goal

pub returns : goal.returns
returns c = both_do
