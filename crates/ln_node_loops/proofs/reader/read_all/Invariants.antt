use Rattle.ln_msgs.specs.Pings.CountedView.{inner_of}
use Rattle.ln_node_loops.proofs.Hearing.{SoFar}
use Rattle.ln_node_loops.proofs.reader.read_all.Given as goal

abbrev pub invariant-loop : goal.invariant-loop
invariant-loop g l =
    SoFar (g.T.Read.remaining (inner_of l.initial.socket)) (g.T.Read.remaining (inner_of l.socket))
    (g.S.Sends.put l.initial.seat) (g.S.Sends.put l.seat)
