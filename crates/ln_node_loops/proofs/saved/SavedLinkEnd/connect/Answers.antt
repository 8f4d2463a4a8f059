use Rattle.std.proofs.Common.{refl}
use Rattle.ln_node_loops.specs.Saved.{acts}
use Rattle.ln_node_loops.proofs.Saving.{connection-listed}
use Rattle.ln_node_loops.proofs.saved.SavedLinkEnd.connect.Goals as goal

pub returns : goal.returns
unfolding acts
returns g c = (connection-listed (λ v. v.items) _ _ _ _ (c.connect.ensures.answers _ refl), refl)
