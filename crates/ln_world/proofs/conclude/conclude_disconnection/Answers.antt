use Rattle.std.proofs.Common.{sym, ap, ◌∙◌}
use Rattle.std.specs.Option.{option_copied}
use Rattle.ln_world_channels.proofs.Moving.{on_ok}
use Rattle.ln_world_channels.specs.World.{World as Channels}
use Rattle.ln_world.specs.Node.{with_book}
use Rattle.ln_world.specs.Follow.{followed}
use Rattle.ln_world.specs.World.{dropped, disconnected, link_at}
use Rattle.ln_world.proofs.Places.{changes}
use Rattle.ln_world.proofs.conclude.conclude_disconnection.Goals as goal

pub returns-clause-concluded : goal.returns-clause-concluded
returns-clause-concluded g c =
    let there = sym (ap (λ (v : Channels _). link_at c.args.end v.channels) c.channels.ensures)
    ∙ sym c.link_at.ensures ∙ ap option_copied c.in-Some.is in
    on_ok c.drop_at.result (λ e. changes c.args.end.node
    (λ x. followed c.args.dispatchers.now.channels.channels (with_book
    (dropped c.args.end c.in-Some.link.now x.book) x))
    c.args.nodes.now.items _ c.in_ok-i.i _ _ c.in_ok-i.ensures.same c.in_ok-i.ensures.place
    (e ∙ ap (λ x. followed c.args.dispatchers.now.channels.channels
    (with_book (dropped c.args.end c.in-Some.link.now x.book) x)) c.index_mut.ensures.value)
    ∙ sym (ap (λ o. disconnected c.args.end c.args.dispatchers.now o c.args.nodes.now.items) there))
    c.drop_at.ensures.dropped
