use Rattle.std.proofs.Common.{◌≡◌, ◌++◌, take}
use Rattle.ln_node_loops.specs.Owed.{settled_words}
use Rattle.ln_node_loops.proofs.reports.report_events.Given as goal

abbrev pub invariant-loop-one : goal.invariant-loop-one
invariant-loop-one g l =
    (g.B.Books.said l.book ≡ g.B.Books.said l.initial.book ++ settled_words l.channel (take l.one-index l.events))
    × (g.B.Books.noted l.book ≡ g.B.Books.noted l.initial.book)
