use Rattle.ln_relay.proofs.Positions.{sender_puts}
use Rattle.ln_relay.proofs.Steps.{learns}
use Rattle.ln_relay.proofs.seats.SendSeatSends.send.Goals as goal

pub push_as-requires-clause-rule : goal.push_as-requires-clause-rule
push_as-requires-clause-rule g c = (sender_puts _ _ _ _ c.args.self.now.sends, learns _ _)
