use Rattle.ln_node_loops.proofs.Idle.{hands}
use Rattle.ln_node_loops.proofs.turn.handle_turn.Goals as goal

pub returns : goal.returns
returns g c =
    hands g.E.End.acts _ _ _ _ _ _ _ _ _ c.requires c.handle-said.ensures c.send_back.ensures.outputs
    c.send_back.ensures.writes
