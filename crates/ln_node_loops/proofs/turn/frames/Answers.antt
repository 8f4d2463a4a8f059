use Rattle.std.proofs.Common.{rules}
use Rattle.ln_node_loops.proofs.Sending.{framed, none-first, none-then}
use Rattle.ln_node_loops.proofs.turn.frames.Goals as goal

pub returns-in-Ok-append_sent-clause-frames : goal.returns-in-Ok-append_sent-clause-frames
returns-in-Ok-append_sent-clause-frames c =
    framed _ _ _ _ _ (search rules) c.in-Ok.ensures.appends c.in-Ok-append_sent.ensures.appends

pub returns-in-Err-clause-lost : goal.returns-in-Err-clause-lost
returns-in-Err-clause-lost c = none-first _ _ _ c.in-Err.ensures.lost

pub returns-in-Err-append_sent-clause-lost : goal.returns-in-Err-append_sent-clause-lost
returns-in-Err-append_sent-clause-lost c = none-then _ _ _ c.in-Err-append_sent.ensures.lost
