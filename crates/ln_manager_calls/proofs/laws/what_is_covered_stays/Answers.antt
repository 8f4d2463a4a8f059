use Rattle.ln_manager_calls.proofs.Lives.{stays_covered}
use Rattle.ln_manager_calls.proofs.laws.what_is_covered_stays.Goals as goal

pub returns : goal.returns
returns g c = λ moments later id_of h d i are more.
    stays_covered g.K.ChannelKeys.signer moments later are more id_of h d i
