use Rattle.std.proofs.Common.{◌≡◌}
use Rattle.ln_node_loops.proofs.reports.report_removal.Given as goal

abbrev pub invariant-loop : goal.invariant-loop
invariant-loop g l =
    (g.B.Books.said l.book ≡ g.B.Books.said l.initial.book)
    × (g.B.Books.noted l.book ≡ g.B.Books.noted l.initial.book)
