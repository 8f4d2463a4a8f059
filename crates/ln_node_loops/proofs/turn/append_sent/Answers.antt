use Rattle.ln_node_loops.proofs.Sending.{sent-turn, none-of}
use Rattle.ln_node_loops.proofs.turn.append_sent.Goals as goal

pub loop-output-preserved : goal.loop-output-preserved
loop-output-preserved c =
    sent-turn _ _ _ _ _ c.output-item.result c.loop-output-test.true c.output-item.is c.loop-output.invariant
    c.in-Ok.ensures.appends

pub returns-in-Err-clause-lost : goal.returns-in-Err-clause-lost
returns-in-Err-clause-lost c =
    none-of _ _ c.output-item.result _ c.loop-output-test.true c.output-item.is c.in-Err.ensures.lost
