use Rattle.ln_world_dispatch.proofs.nodes.Nodes.join.Goals as goal

pub invariant_of-self : goal.invariant_of-self
invariant_of-self g c = c.open_dispatchers.ensures.keep _ c.self.invariant
