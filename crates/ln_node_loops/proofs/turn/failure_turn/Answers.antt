use Rattle.ln_node_loops.proofs.Idle.{learns}
use Rattle.ln_node_loops.proofs.turn.failure_turn.Goals as goal

pub returns : goal.returns
returns g c =
    learns g.E.End.acts _ _ _ _ _ _ _ _ c.requires c.handle-said.ensures c.send_only.ensures.outputs
    c.send_only.ensures.writes
