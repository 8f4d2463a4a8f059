use Rattle.std.proofs.Common.{rules}
use Rattle.ln_world_dispatch.specs.Kept.{decided_at, AllKeep}
use Rattle.ln_world_dispatch.proofs.Keeping.{kept_behind}
use Rattle.ln_world_dispatch.proofs.nodes.Nodes.register.Goals as goal

pub invariant_of-self : goal.invariant_of-self
invariant_of-self g c =
    kept_behind (AllKeep (decided_at c.self.inside.channels)) c.self.inside.dispatchers.items c.deref_mut.result.now
    c.slot_at.new.dispatchers c.self.inside.dispatchers.len (c.slot_at.ensures.keep (decided_at c.self.inside.channels))
    c.self.invariant (search rules) (search rules) (search rules)

pub invariant_of-self-in_err-push-2 : goal.invariant_of-self-in_err-push-2
invariant_of-self-in_err-push-2 g c =
    kept_behind (AllKeep (decided_at c.self.inside.channels)) c.self.inside.dispatchers.items c.deref_mut.result.now
    c.slot_at.new.dispatchers c.self.inside.dispatchers.len (c.slot_at.ensures.keep (decided_at c.self.inside.channels))
    c.self.invariant (search rules) (search rules) (search rules)

pub invariant_of-self-2 : goal.invariant_of-self-2
invariant_of-self-2 g c =
    kept_behind (AllKeep (decided_at c.self.inside.channels)) c.self.inside.dispatchers.items c.deref_mut.result.now
    c.slot_at.new.dispatchers c.self.inside.dispatchers.len (c.slot_at.ensures.keep (decided_at c.self.inside.channels))
    c.self.invariant (search rules) (search rules) (search rules)
