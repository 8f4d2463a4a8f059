use Rattle.ln_relay.proofs.Positions.{receiver_takes}
use Rattle.ln_relay.proofs.Steps.{learns}
use Rattle.ln_relay.proofs.waiting_seats.WaitRecvWaits.recv_wait.Goals as goal

pub recv_as-requires-clause-rule : goal.recv_as-requires-clause-rule
recv_as-requires-clause-rule g c = (receiver_takes _ _ c.args.self.now.receives, learns _ _)
