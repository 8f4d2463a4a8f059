use Rattle.std.proofs.Common.{◌++◌, length, List, [], ◌∷◌, Some, position, sym, ap, ◌∙◌}
use Rattle.ln_world_channels.specs.WorldChannel.{is_node}
use Rattle.ln_world.specs.declared.node.NodeBook.{NodeBook}
use Rattle.ln_world.proofs.Places.{there, joins, last_place}
use Rattle.ln_world.proofs.node.place_for.Goals as goal

pub returns-in-Some-clause-same : goal.returns-in-Some-clause-same
returns-in-Some-clause-same c =
    there c.args.node c.args.nodes.now.items c.in-Some.i (sym c.in-Some.is ∙ c.index_of.ensures
    ∙ ap (λ (xs : List NodeBook). position (λ x. is_node x.node c.args.node) xs) c.deref.ensures.value)

pub returns-in_ok-push-in-None-clause-same : goal.returns-in_ok-push-in-None-clause-same
returns-in_ok-push-in-None-clause-same c =
    c.in_ok-push-in-None.ensures.items
    ∙ ap (λ x. c.args.nodes.now.items ++ x ∷ []) c.new_node.ensures
    ∙ joins c.args.node c.args.nodes.now.items
    (sym (ap (λ (xs : List NodeBook). position (λ x. is_node x.node c.args.node) xs) c.deref.ensures.value)
    ∙ sym c.index_of.ensures ∙ c.in-None.is)

pub returns-in_ok-push-in-None-clause-place : goal.returns-in_ok-push-in-None-clause-place
returns-in_ok-push-in-None-clause-place c =
    ap (λ (xs : List NodeBook). position (λ x. is_node x.node c.args.node) xs)
    (c.in_ok-push-in-None.ensures.items ∙ ap (λ x. c.args.nodes.now.items ++ x ∷ []) c.new_node.ensures)
    ∙ last_place c.args.node c.args.nodes.now.items
    (sym (ap (λ (xs : List NodeBook). position (λ x. is_node x.node c.args.node) xs) c.deref.ensures.value)
    ∙ sym c.index_of.ensures ∙ c.in-None.is) ∙ ap Some (sym (ap length c.as_slice-i.ensures.value))
