use Rattle.std.proofs.Common.{◌≡◌}
use Rattle.ln_node_loops.proofs.dispatch.register.Given as goal

abbrev pub invariant-loop : goal.invariant-loop
invariant-loop g l =
    ((t : _) → g.T.Table.registers l.table l.hook t
    → g.T.Table.registers l.initial.table l.initial.hook t) × (l.hook ≡ l.initial.hook)
