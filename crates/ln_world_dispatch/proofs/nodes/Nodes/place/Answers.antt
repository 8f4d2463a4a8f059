use Rattle.std.proofs.Common.{rules, position, ap, ◌∙◌}
use Rattle.ln_world_dispatch.specs.Dispatcher.{is_at}
use Rattle.ln_world_dispatch.specs.World.{World}
use Rattle.ln_world_dispatch.specs.Kept.{KeptDispatcher}
use Rattle.ln_world_dispatch.proofs.Keeping.{place_among}
use Rattle.ln_world_dispatch.proofs.nodes.Nodes.place.Goals as goal

pub returns-clause-place : goal.returns-clause-place
returns-clause-place g c =
    c.index_of.ensures
    ∙ place_among (λ (k : KeptDispatcher). k.dispatcher)
    (is_at c.args.end) c.self.inside.dispatchers.items c.deref.result.now
    (search rules)
    ∙ ap (λ (w : World _). position (is_at c.args.end) w.dispatchers) c.self.view_is
