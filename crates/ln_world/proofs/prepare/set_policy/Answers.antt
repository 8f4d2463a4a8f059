use Rattle.std.proofs.Common.{ap}
use Rattle.ln_world.specs.Node.{with_policy}
use Rattle.ln_world.proofs.Places.{changes}
use Rattle.ln_world.proofs.prepare.set_policy.Goals as goal

pub returns-clause-set : goal.returns-clause-set
returns-clause-set c =
    changes c.args.node (with_policy c.args.policy) c.args.nodes.now.items _ c.in_ok-i.i _ _ c.in_ok-i.ensures.same
    c.in_ok-i.ensures.place (ap (with_policy c.args.policy) c.index_mut.ensures.value)
