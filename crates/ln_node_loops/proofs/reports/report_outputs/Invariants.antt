use Rattle.std.proofs.Common.{◌≡◌, ◌++◌, take}
use Rattle.ln_node_loops.specs.Owed.{settled_words}
use Rattle.ln_node_loops.specs.Turns.{events}
use Rattle.ln_node_loops.proofs.reports.report_outputs.Given as goal

abbrev pub invariant-loop-output : goal.invariant-loop-output
invariant-loop-output g l =
    (g.B.Books.said l.book
    ≡ g.B.Books.said l.initial.book ++ settled_words l.channel (events (take l.output-index l.outputs)))
    × (g.B.Books.noted l.book ≡ g.B.Books.noted l.initial.book)
