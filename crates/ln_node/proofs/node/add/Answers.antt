use Rattle.std.proofs.Common.{◌++◌, ◌∷◌, [], ap, ◌∙◌}
use Rattle.ln_node.proofs.node.add.Goals as goal

pub returns-clause-adds_one : goal.returns-clause-adds_one
returns-clause-adds_one g c = (
  c.in_ok-channel.channel,
  c.push_reserved.ensures.items ∙ ap (λ l. l ++ c.in_ok-channel.channel ∷ []) c.reserve.ensures.items,
  c.in_ok-channel.ensures.listens_there,
)
