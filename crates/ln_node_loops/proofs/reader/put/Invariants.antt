use Rattle.std.proofs.Common.{◌≡◌}
use Rattle.ln_node_loops.proofs.reader.put.Given as goal

abbrev pub invariant-loop : goal.invariant-loop
invariant-loop g l = (g.S.Sends.put l.seat ≡ g.S.Sends.put l.initial.seat) × (l.item ≡ l.initial.item)
