use Rattle.std.proofs.Common.{◌≡◌}
use Rattle.ln_manager.proofs.manager.Manager.next_event.Given as goal

-- nothing is seen of it but who waits for a turn
abbrev pub invariant-loop : goal.invariant-loop
invariant-loop g l =
    (l.self.channels ≡ l.fn.self.channels) × (l.self.lines ≡ l.fn.self.lines)
    × (l.self.is_out ≡ l.fn.self.is_out)
