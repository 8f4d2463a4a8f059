use Rattle.std.proofs.Common.{rules}
use Rattle.ln_relay.proofs.Steps.{begins}
use Rattle.ln_relay.proofs.Positions.{second_out, receiver_out}
use Rattle.ln_relay.proofs.bounded.relay.Goals as goal

pub ruled-requires-clause-rule : goal.ruled-requires-clause-rule
ruled-requires-clause-rule g c = begins

pub another-second-requires-clause-rule : goal.another-second-requires-clause-rule
another-second-requires-clause-rule g c = second_out _ _ (search rules)

pub another-receiver-requires-clause-rule : goal.another-receiver-requires-clause-rule
another-receiver-requires-clause-rule g c = receiver_out _ _ (search rules)
