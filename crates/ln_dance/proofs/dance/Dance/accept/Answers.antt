use Rattle.ln_dance.proofs.Kept.{kept_accepted}
use Rattle.ln_dance.proofs.dance.Dance.accept.Goals as goal

pub invariant_of-self : goal.invariant_of-self
invariant_of-self g c = kept_accepted _ _ _ _ c.self.invariant c.if-last-eq-LAST_NUMBER.false c.accept.ensures.counts
