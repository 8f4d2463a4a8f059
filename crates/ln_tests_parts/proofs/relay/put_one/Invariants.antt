use Rattle.std.proofs.Common.{◌≡◌}
use Rattle.ln_tests_parts.proofs.relay.put_one.Given as goal

abbrev pub invariant-loop : goal.invariant-loop
invariant-loop g l = g.S.Sends.position l.seat ≡ g.S.Sends.position l.initial.seat
