use Rattle.std.proofs.Common.{◌≡◌}
use Rattle.ln_batches.proofs.lines.Lines.list_delayed.Given as goal

-- nothing is seen of it
abbrev pub invariant-loop : goal.invariant-loop
invariant-loop g l = l.self ≡ l.fn.self
