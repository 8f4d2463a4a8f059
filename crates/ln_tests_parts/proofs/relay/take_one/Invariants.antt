use Rattle.std.proofs.Common.{◌≡◌}
use Rattle.ln_tests_parts.proofs.relay.take_one.Given as goal

abbrev pub invariant-loop : goal.invariant-loop
invariant-loop g l = g.S.Receives.position l.seat ≡ g.S.Receives.position l.initial.seat
