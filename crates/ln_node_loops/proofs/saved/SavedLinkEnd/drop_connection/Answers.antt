use Rattle.std.proofs.Common.{refl}
use Rattle.ln_node_loops.specs.Saved.{acts}
use Rattle.ln_node_loops.proofs.saved.SavedLinkEnd.drop_connection.Goals as goal

pub returns : goal.returns
unfolding acts
returns g c = (c.drop_connection.ensures.state _ refl, refl)
