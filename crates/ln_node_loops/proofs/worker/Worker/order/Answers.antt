use Rattle.std.proofs.Common.{sym, ◌∙◌}
use Rattle.ln_node_loops.specs.Turns.{OfUser}
use Rattle.ln_node_loops.proofs.worker.Worker.order.Goals as goal

pub returns-clause-turn : goal.returns-clause-turn
returns-clause-turn g c = λ own_init peer.
    c.obey-outputs.ensures.turn OfUser own_init peer (sym c.is_reserved.ensures ∙ c.if-is_reserved.false)
