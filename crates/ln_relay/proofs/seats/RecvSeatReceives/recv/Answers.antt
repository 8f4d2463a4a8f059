use Rattle.ln_relay.proofs.Positions.{receiver_takes}
use Rattle.ln_relay.proofs.Steps.{learns}
use Rattle.ln_relay.proofs.seats.RecvSeatReceives.recv.Goals as goal

pub pop_as-requires-clause-rule : goal.pop_as-requires-clause-rule
pop_as-requires-clause-rule g c = (receiver_takes _ _ c.args.self.now.receives, learns _ _)
