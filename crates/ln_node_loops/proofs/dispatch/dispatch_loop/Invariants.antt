use Rattle.ln_node_loops.proofs.Serving.{SoFar}
use Rattle.ln_node_loops.proofs.dispatch.dispatch_loop.Given as goal

abbrev pub invariant-loop : goal.invariant-loop
invariant-loop g l =
    SoFar g.T.Table.registers g.T.Table.says l.initial.table (g.S.Receives.taken l.initial.seat)
    (g.S.Receives.taken l.seat) l.table (g.B.Books.said l.initial.book) (g.B.Books.said l.book)
