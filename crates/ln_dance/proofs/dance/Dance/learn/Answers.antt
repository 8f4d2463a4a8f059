use Rattle.std.proofs.Common.{sym, ap, ◌∙◌}
use Rattle.ln_dance.specs.Dance.{owes}
use Rattle.ln_dance.proofs.Kept.{kept_learned}
use Rattle.ln_dance.proofs.dance.Dance.learn.Goals as goal

pub invariant_of-self : goal.invariant_of-self
invariant_of-self g c = kept_learned _ _ _ c.self.invariant
    (ap owes c.self.view_is ∙ sym c.if-not-owes.ensures.by_numbers) c.learn.ensures.counts
