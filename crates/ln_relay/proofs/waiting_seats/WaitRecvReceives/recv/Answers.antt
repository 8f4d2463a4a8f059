use Rattle.ln_relay.proofs.Positions.{receiver_takes}
use Rattle.ln_relay.proofs.Steps.{learns}
use Rattle.ln_relay.proofs.waiting_seats.WaitRecvReceives.recv.Goals as goal

pub try_recv_as-requires-clause-rule : goal.try_recv_as-requires-clause-rule
try_recv_as-requires-clause-rule g c = (receiver_takes _ _ c.args.self.now.receives, learns _ _)
