use Rattle.std.proofs.Common.{ap, ◌∙◌}
use Rattle.ln_world_channels.proofs.Moving.{on_ok}
use Rattle.ln_world.specs.Node.{with_book}
use Rattle.ln_world.specs.Follow.{followed}
use Rattle.ln_world.specs.World.{reported}
use Rattle.ln_world.proofs.Places.{changes}
use Rattle.ln_world.proofs.conclude.conclude_act.Goals as goal

pub returns-clause-concluded : goal.returns-clause-concluded
returns-clause-concluded g c =
    on_ok c.on_end.result (λ e. changes c.args.end.node
    (λ x. followed c.args.dispatchers.now.channels.channels
    (with_book (reported c.args.end c.args.before c.args.asked c.args.told.now c.args.dispatchers.now x.book) x))
    c.args.nodes.now.items _ c.in_ok-i.i _ _ c.in_ok-i.ensures.same c.in_ok-i.ensures.place
    (e ∙ ap (λ x. followed c.args.dispatchers.now.channels.channels
    (with_book (reported c.args.end c.args.before c.args.asked c.args.told.now c.args.dispatchers.now x.book) x))
    c.index_mut.ensures.value)) c.on_end.ensures.reported
