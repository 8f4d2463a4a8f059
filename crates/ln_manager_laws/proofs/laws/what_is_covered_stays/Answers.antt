use Rattle.ln_manager_laws.proofs.Running.{covered_stays, covered_saved}
use Rattle.ln_manager_laws.proofs.laws.what_is_covered_stays.Goals as goal

pub returns-clause-over_steps : goal.returns-clause-over_steps
returns-clause-over_steps g c = λ courses steps id_of h d i runs are one numbers.
    covered_stays g.K.ChannelKeys.signer id_of one h d i courses runs steps are numbers

pub returns-clause-over_loads : goal.returns-clause-over_loads
returns-clause-over_loads g c = λ courses n id_of h d i runs loads one numbers.
    covered_saved g.K.ChannelKeys.signer id_of one h d i courses runs n loads numbers
