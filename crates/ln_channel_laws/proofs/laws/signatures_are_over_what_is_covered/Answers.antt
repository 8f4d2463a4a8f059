use Rattle.ln_channel_laws.proofs.Ends.Signatures.{signs_in_step, both_sign}
use Rattle.ln_channel_laws.proofs.laws.signatures_are_over_what_is_covered.Goals as goal

pub returns-clause-handed_out : goal.returns-clause-handed_out
returns-clause-handed_out c = signs_in_step

pub returns-clause-in_flight : goal.returns-clause-in_flight
returns-clause-in_flight c = both_sign
