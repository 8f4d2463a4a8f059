use Rattle.ln_relay.proofs.Positions.{sender_puts}
use Rattle.ln_relay.proofs.Steps.{learns}
use Rattle.ln_relay.proofs.waiting_seats.WaitSendSends.send.Goals as goal

pub try_send_as-requires-clause-rule : goal.try_send_as-requires-clause-rule
try_send_as-requires-clause-rule g c = (sender_puts _ _ _ _ c.args.self.now.sends, learns _ _)
