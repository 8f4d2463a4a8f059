use Rattle.std.proofs.Common.{◌≡◌, ◌++◌, take}
use Rattle.ln_node_loops.specs.Sent.{frames_of, sent}
use Rattle.ln_node_loops.proofs.turn.append_sent.Given as goal

abbrev pub invariant-loop-output : goal.invariant-loop-output
invariant-loop-output l = l.out.items ≡ l.initial.out.items ++ frames_of (sent (take l.output-index l.outputs))
