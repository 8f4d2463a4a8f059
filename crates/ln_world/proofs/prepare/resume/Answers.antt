use Rattle.std.proofs.Common.{ap, sym, position, ◌∙◌}
use Rattle.ln_world_channels.specs.WorldChannel.{is_node}
use Rattle.ln_world_channels.proofs.Moving.{on_ok}
use Rattle.ln_world_dispatch.proofs.Unhooked.{if_ok_so}
use Rattle.ln_world.specs.declared.node.NodeBook.{NodeBook}
use Rattle.ln_world.specs.Node.{Book}
use Rattle.ln_world.specs.World.{book_of, resuming, command_by, handed_or, handed_out}
use Rattle.ln_world.proofs.Places.{read_at}
use Rattle.ln_world.proofs.Asking.{nothing_held, handed_at}
use Rattle.ln_world.proofs.prepare.resume.Goals as goal

pub returns-in_default-clause-command : goal.returns-in_default-clause-command
returns-in_default-clause-command c =
    ap (command_by c.args.end) (sym (nothing_held c.args.end c.args.number c.args.verdict c.args.nodes.now.items
    (ap (position (λ (x : NodeBook). is_node x.node c.args.end.node)) (sym c.as_slice.ensures.value)
    ∙ sym c.index_of.ensures ∙ c.in_default.is)))

pub returns-in_default-clause-handed : goal.returns-in_default-clause-handed
returns-in_default-clause-handed c =
    ap (λ o. handed_out c.args.end o c.args.nodes.now.items)
    (sym (nothing_held c.args.end c.args.number c.args.verdict c.args.nodes.now.items
    (ap (position (λ (x : NodeBook). is_node x.node c.args.end.node)) (sym c.as_slice.ensures.value)
    ∙ sym c.index_of.ensures ∙ c.in_default.is)))

pub returns-clause-command : goal.returns-clause-command
returns-clause-command c =
    let is = sym c.in-Some.is ∙ c.index_of.ensures
    ∙ ap (position (λ (x : NodeBook). is_node x.node c.args.end.node)) c.as_slice.ensures.value in
    let same = ap (λ (b : NodeBook). b.book)
    (c.index_mut.ensures.value ∙ read_at c.args.end.node c.args.nodes.now.items c.in-Some.i _ is) in
    if_ok_so c.resume_in.result _ _ (λ x e.
    e ∙ ap (λ (b : Book). command_by c.args.end (resuming c.args.end c.args.number c.args.verdict b)) same)
    c.resume_in.ensures.command

pub returns-clause-handed : goal.returns-clause-handed
returns-clause-handed c =
    let is = sym c.in-Some.is ∙ c.index_of.ensures
    ∙ ap (position (λ (x : NodeBook). is_node x.node c.args.end.node)) c.as_slice.ensures.value in
    let same = ap (λ (b : NodeBook). b.book)
    (c.index_mut.ensures.value ∙ read_at c.args.end.node c.args.nodes.now.items c.in-Some.i _ is) in
    on_ok c.resume_in.result (λ e. handed_at c.args.end
    (resuming c.args.end c.args.number c.args.verdict (book_of c.args.end c.args.nodes.now.items))
    c.args.nodes.now.items c.in-Some.i _ c.index_mut.result.now _ is c.index_mut.ensures.value
    (e ∙ ap (λ (b : Book).
    handed_or c.args.end (resuming c.args.end c.args.number c.args.verdict b) c.index_mut.result.now.book) same))
    c.resume_in.ensures.handed
