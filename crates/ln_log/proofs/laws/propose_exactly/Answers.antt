use Rattle.ln_log.proofs.Moves.{may, may_so}
use Rattle.ln_log.proofs.laws.propose_exactly.Goals as goal

pub returns : goal.returns
returns c = λ s f l u next. ((λ h. may s f l u next h.0 h.1), may_so s f l u)
