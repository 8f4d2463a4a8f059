use Rattle.ln_manager_laws.proofs.Seats.{funder_fit, fundee_fit}
use Rattle.ln_manager_laws.proofs.laws.ends_stay_fit.Goals as goal

pub returns-clause-of_a_funder : goal.returns-clause-of_a_funder
returns-clause-of_a_funder g c = funder_fit g.K.ChannelKeys.signer

pub returns-clause-of_a_fundee : goal.returns-clause-of_a_fundee
returns-clause-of_a_fundee g c = fundee_fit g.K.ChannelKeys.signer
