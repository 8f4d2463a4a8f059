use Rattle.std.proofs.Common.{rules}
use Rattle.ln_relay.proofs.Steps.{begins}
use Rattle.ln_relay.proofs.Positions.{second_out, receiver_out}
use Rattle.ln_relay.proofs.waiting.waiting_relay.Goals as goal

pub bounded_with-requires-clause-rule : goal.bounded_with-requires-clause-rule
bounded_with-requires-clause-rule g c = begins

pub another-second_pass-requires-clause-rule : goal.another-second_pass-requires-clause-rule
another-second_pass-requires-clause-rule g c = second_out _ _ (search rules)

pub another-receiver_pass-requires-clause-rule : goal.another-receiver_pass-requires-clause-rule
another-receiver_pass-requires-clause-rule g c = receiver_out _ _ (search rules)
