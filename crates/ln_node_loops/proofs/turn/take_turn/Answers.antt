use Rattle.std.proofs.Common.{refl}
use Rattle.ln_node_loops.proofs.Idle.{idles}
use Rattle.ln_node_loops.proofs.turn.take_turn.Goals as goal

pub returns-in-Broken : goal.returns-in-Broken
returns-in-Broken g c = rw c.in-Broken.is (record {
  serves = idles g.E.End.acts _ _ _ _ _ _ c.idle_turn.ensures (refl, c.drop_connection.ensures) refl;
})

pub returns-in-Stop : goal.returns-in-Stop
returns-in-Stop g c = rw c.in-Stop.is (record {
  serves = idles g.E.End.acts _ _ _ _ _ _ c.idle_turn-in-Stop.ensures (refl, refl) refl;
})
