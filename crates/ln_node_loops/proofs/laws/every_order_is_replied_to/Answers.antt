use Rattle.std.proofs.Common.{ap, ◌∙◌, ◌++◌}
use Rattle.ln_node_loops.specs.Turns.{replies_in}
use Rattle.ln_node_loops.proofs.Replying.{replies-all}
use Rattle.ln_node_loops.proofs.laws.every_order_is_replied_to.Goals as goal

pub returns : goal.returns
returns g c own_init peer place a b began = (
  replies_in began.ran.news,
  began.ran.replied ∙ ap (λ l. l ++ replies_in began.ran.news) began.replied_nothing,
  replies-all _ _ _ _ _ _ _ peer _ _ _ _ _ _ began.ran.leads,
)
