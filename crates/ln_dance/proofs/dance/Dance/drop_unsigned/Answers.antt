use Rattle.ln_dance.proofs.Kept.{kept_by}
use Rattle.ln_dance.proofs.dance.Dance.drop_unsigned.Goals as goal

pub invariant_of-self : goal.invariant_of-self
invariant_of-self c = kept_by _ _ _ c.self.invariant c.drop_unsigned.ensures.changes_no_count
