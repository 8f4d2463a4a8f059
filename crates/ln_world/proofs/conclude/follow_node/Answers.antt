use Rattle.std.proofs.Common.{ap, ◌∙◌}
use Rattle.ln_world_channels.proofs.Moving.{on_ok}
use Rattle.ln_world_channels.specs.World.{World as Channels}
use Rattle.ln_world.specs.Follow.{followed}
use Rattle.ln_world.proofs.Places.{changes}
use Rattle.ln_world.proofs.conclude.follow_node.Goals as goal

pub returns-clause-followed : goal.returns-clause-followed
returns-clause-followed g c =
    on_ok c.follow.result (λ e. changes c.args.node
    (λ x. followed c.args.dispatchers.now.channels.channels x)
    c.args.nodes.now.items _ c.in_ok-i.i _ _ c.in_ok-i.ensures.same c.in_ok-i.ensures.place
    (e ∙ ap (λ (v : Channels _). followed v.channels c.index_mut.result.now) c.channels.ensures
    ∙ ap (λ x. followed c.args.dispatchers.now.channels.channels x) c.index_mut.ensures.value))
    c.follow.ensures.followed
