use Rattle.std.proofs.Common.{◌≡◌}
use Rattle.ln_tests_parts.proofs.relay.put_all.Given as goal

abbrev pub invariant-loop-i : goal.invariant-loop-i
invariant-loop-i g l = g.S.Sends.position l.seat ≡ g.S.Sends.position l.initial.seat
