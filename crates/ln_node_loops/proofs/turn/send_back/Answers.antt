use Rattle.ln_node_loops.proofs.Idle.{goes-over}
use Rattle.ln_node_loops.proofs.turn.send_back.Goals as goal

pub returns-in-Err-clause-writes : goal.returns-in-Err-clause-writes
returns-in-Err-clause-writes g c =
    rw c.in-Err.is (goes-over _ _ _ _ _ _ (c.send_one-written.ensures _ c.reply_to-made.ensures.reply)
    c.over.ensures.written c.over.ensures.answered)
