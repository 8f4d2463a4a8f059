use Rattle.std.specs.Prelude.{◌≡◌, false}
use Rattle.ln_relay.specs.Position.{WasEmpty}
use Rattle.ln_node_loops.specs.Turns.{Ran, TakesNoStop}
use Rattle.ln_node_loops.specs.WorkerLoop.{loop_state}
use Rattle.ln_node_loops.proofs.rounds.worker_loop.Given as goal

abbrev pub invariant-loop : goal.invariant-loop
invariant-loop g l =
    Ran g.E.End.acts g.E.End.halted g.E.End.pending g.E.End.owes g.E.End.seen g.W.Write.contents l.own_init
    l.peer (WasEmpty (g.I.Receives.position l.initial.work.items)) false
    (loop_state g.E.End.state g.W.Write.contents g.I.Receives.taken g.T.Sends.put g.B.Books.said
    g.B.Books.noted g.A.Orders.replied g.A.Orders.allowed l.initial.work)
    (loop_state g.E.End.state g.W.Write.contents g.I.Receives.taken g.T.Sends.put g.B.Books.said
    g.B.Books.noted g.A.Orders.replied g.A.Orders.allowed l.work)
    × (g.I.Receives.position l.work.items ≡ g.I.Receives.position l.initial.work.items)
    × TakesNoStop (g.I.Receives.taken l.initial.work.items) (g.I.Receives.taken l.work.items)
