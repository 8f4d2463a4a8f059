use Rattle.std.proofs.Common.{subst}
use Rattle.ln_node_loops.specs.Sent.{sent}
use Rattle.ln_node_loops.specs.Turn.{Goes}
use Rattle.ln_node_loops.proofs.Idle.{goes-apart}
use Rattle.ln_node_loops.proofs.turn.send_only.Goals as goal

pub returns-clause-writes : goal.returns-clause-writes
returns-clause-writes g c =
    goes-apart _ _ _ _ _ _ _ c.apart-outputs.ensures.outputs c.apart-outputs.ensures.answer
    (subst (λ os. Goes (sent os) c.send-written.result
    (g.L.Carries.connection c.args.connection.now) (g.L.Carries.connection c.send-written.new.connection))
    c.as_slice.ensures.value c.send-written.ensures)
    c.over.ensures.written c.over.ensures.answered
