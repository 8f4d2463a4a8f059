use Rattle.std.proofs.Common.{rules}
use Rattle.ln_world_dispatch.specs.Kept.{decided_at}
use Rattle.ln_world_dispatch.proofs.nodes.Nodes.waiting.Goals as goal

pub waiting-requires : goal.waiting-requires
waiting-requires g c =
    let now = c.in-Some.ensures.keeps (decided_at c.self.inside.channels) in search (rules, now)
