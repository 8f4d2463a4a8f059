use Rattle.std.proofs.Common.{refl}
use Rattle.ln_node_loops.specs.Saved.{acts}
use Rattle.ln_node_loops.proofs.Saving.{command-listed}
use Rattle.ln_node_loops.proofs.saved.SavedLinkEnd.command.Goals as goal

pub returns : goal.returns
unfolding acts
returns g c = command-listed (λ v. v.items) _ _ _ _ _ c.args.command _ (c.command.ensures.answers _ refl)
