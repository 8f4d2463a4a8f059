use Rattle.std.proofs.Common.{ap, ◌∙◌}
use Rattle.ln_world_channels.proofs.Moving.{on_ok}
use Rattle.ln_world.specs.Follow.{followed, begun_anew}
use Rattle.ln_world.proofs.Places.{changes}
use Rattle.ln_world.proofs.conclude.conclude_restart.Goals as goal

pub returns-clause-concluded : goal.returns-clause-concluded
returns-clause-concluded g c =
    on_ok c.restart_at.result (λ e. changes c.args.node
    (λ x. followed c.args.dispatchers.now.channels.channels (begun_anew c.args.dispatchers.now.channels.channels x))
    c.args.nodes.now.items _ c.in_ok-i.i _ _ c.in_ok-i.ensures.same c.in_ok-i.ensures.place
    (e ∙ ap (λ x. followed c.args.dispatchers.now.channels.channels
    (begun_anew c.args.dispatchers.now.channels.channels x))
    c.index_mut.ensures.value)) c.restart_at.ensures.restarted
