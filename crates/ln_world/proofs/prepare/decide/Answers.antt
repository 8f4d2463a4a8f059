use Rattle.std.proofs.Common.{ap, ◌∙◌}
use Rattle.ln_world_channels.proofs.Moving.{on_ok}
use Rattle.ln_world_dispatch.proofs.Unhooked.{if_ok_so}
use Rattle.ln_world.specs.declared.node.NodeBook.{NodeBook}
use Rattle.ln_world.specs.World.{book_of, handed, with_decision}
use Rattle.ln_world.proofs.Places.{puts, reads}
use Rattle.ln_world.proofs.Asking.{asks, hands, decides}
use Rattle.ln_world.proofs.prepare.decide.Goals as goal

pub returns-clause-command : goal.returns-clause-command
returns-clause-command c =
    let at = c.index_mut.ensures.value
    ∙ reads c.args.end.node c.args.nodes.now.items _ c.in_ok-i.i _ c.in_ok-i.ensures.same c.in_ok-i.ensures.place in
    let entered = c.in_ok-decide.ensures.enters_the_decision
    ∙ decides c.args.end c.channel_id_of-id.result c.index_mut.result.now.book
    (book_of c.args.end c.args.nodes.now.items) c.args.number c.args.event.now c.args.verdict
    c.channel_id_of-id.ensures (ap (λ (b : NodeBook). b.book) at) in
    if_ok_so c.take_commands.result _ _ (λ x e. e ∙ asks c.args.end c.channel_id_of-id.result c.decide.new.self
    (with_decision c.args.end (c.args.number, c.args.event.now, c.args.verdict)
    (book_of c.args.end c.args.nodes.now.items)) c.channel_id_of-id.ensures entered)
    c.take_commands.ensures.answers_the_first

pub returns-clause-handed : goal.returns-clause-handed
returns-clause-handed c =
    let at = c.index_mut.ensures.value
    ∙ reads c.args.end.node c.args.nodes.now.items _ c.in_ok-i.i _ c.in_ok-i.ensures.same c.in_ok-i.ensures.place in
    let entered = c.in_ok-decide.ensures.enters_the_decision
    ∙ decides c.args.end c.channel_id_of-id.result c.index_mut.result.now.book
    (book_of c.args.end c.args.nodes.now.items) c.args.number c.args.event.now c.args.verdict
    c.channel_id_of-id.ensures (ap (λ (b : NodeBook). b.book) at) in
    let decided = with_decision c.args.end (c.args.number, c.args.event.now, c.args.verdict)
    (book_of c.args.end c.args.nodes.now.items) in
    on_ok c.take_commands.result (λ e. puts c.args.end.node (handed c.args.end decided) c.args.nodes.now.items _
    c.in_ok-i.i _ c.index_mut.result.now _ c.in_ok-i.ensures.same c.in_ok-i.ensures.place c.index_mut.ensures.value
    (e ∙ hands c.args.end c.channel_id_of-id.result c.decide.new.self decided c.channel_id_of-id.ensures entered))
    c.take_commands.ensures.enters_what_is_taken
