use Rattle.ln_node_loops.proofs.Following.{follows}
use Rattle.ln_node_loops.proofs.laws.hooks_follow.Goals as goal

pub returns : goal.returns
returns g c first second taken merged none = follows first second taken merged.0 merged.1 none
