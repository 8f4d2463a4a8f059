use Rattle.ln_dance.proofs.Parted.{up_signed, up_accepted, up_learned}
use Rattle.ln_dance.proofs.reconnect.dance_keeps_up.Goals as goal

pub returns-clause-after_sign : goal.returns-clause-after_sign
returns-clause-after_sign c = up_signed

pub returns-clause-after_accept : goal.returns-clause-after_accept
returns-clause-after_accept c = up_accepted

pub returns-clause-after_learn : goal.returns-clause-after_learn
returns-clause-after_learn c = up_learned
