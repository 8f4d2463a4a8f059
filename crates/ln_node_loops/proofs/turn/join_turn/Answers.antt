use Rattle.std.proofs.Common.{◌∷◌, subst}
use Rattle.ln_msgs.specs.Messages.Typed.{wire}
use Rattle.ln_node_loops.specs.Sent.{sent}
use Rattle.ln_node_loops.specs.Turn.{Goes}
use Rattle.ln_node_loops.proofs.Idle.{joins}
use Rattle.ln_node_loops.proofs.turn.join_turn.Goals as goal

pub returns : goal.returns
returns g c =
    joins g.E.End.acts _ _ _ _ _ _ _ _ _ _ c.connect-said.ensures c.apart-outputs.ensures.outputs
    c.apart-outputs.ensures.answer
    (subst (λ os. Goes (wire c.args.own_init.now ∷ sent os) c.send-written.result
    (g.L.Carries.connection c.args.connection.now) (g.L.Carries.connection c.send-written.new.connection))
    c.as_slice.ensures.value c.send-written.ensures)
    c.over.ensures.written c.over.ensures.answered
