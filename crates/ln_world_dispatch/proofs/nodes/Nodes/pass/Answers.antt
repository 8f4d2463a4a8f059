use Rattle.std.proofs.Common.{rules, sym, subst}
use Rattle.ln_world_channels.specs.World.{World as Channels}
use Rattle.ln_world_dispatch.specs.Kept.{decided_at, AllKeep}
use Rattle.ln_world_dispatch.proofs.Keeping.{so_behind}
use Rattle.ln_world_dispatch.proofs.Undone.{keep_on}
use Rattle.ln_world_dispatch.proofs.nodes.Nodes.pass.Goals as goal

pub invariant_of-self : goal.invariant_of-self
invariant_of-self g c =
    subst (λ (w : Channels _). AllKeep (decided_at w) c.self.inside.dispatchers.items) (sym c.in-Ok.ensures.world)
    (keep_on g.K.ChannelKeys c.args.step c.self.inside.channels c.self.inside.dispatchers.items c.self.invariant)

pub invariant_of-self-in-Err : goal.invariant_of-self-in-Err
invariant_of-self-in-Err g c =
    so_behind (AllKeep (decided_at c.step.new.self)) c.self.inside.dispatchers.items c.forget_each.new.dispatchers
    c.self.inside.dispatchers.len (c.forget_each.ensures.keep (decided_at c.step.new.self))
    (search rules) (search rules)
