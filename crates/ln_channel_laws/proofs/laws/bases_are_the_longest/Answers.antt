use Rattle.ln_channel_laws.proofs.Bases.LongestBase.{both_longest}
use Rattle.ln_channel_laws.proofs.laws.bases_are_the_longest.Goals as goal

pub returns : goal.returns
returns c = both_longest
