-- What of a channel's opening goes into the records of its ends: that both messages can be sent, and be read again
-- (BOLT 2, "Channel Establishment v1").
use Rattle.std.proofs.Common.{◌≡◌, length}
use Rattle.ln_msgs.specs.declared.messages.message.Message.TheVariants as message
use Rattle.ln_log.specs.Opening.{HasFunds}
use Rattle.ln_channel.specs.declared.opening.Opened.{Opened}
use Rattle.ln_channel.specs.Opening.{opening_of}
use Rattle.ln_link_laws.specs.Handed.{IsMessage}
use Rattle.ln_link_laws.proofs.Kept.{AreFees}

pub record IsOpening (o : Opened) : Type 0 where
  pub channel : length o.dance.channel ≡ 32
  pub fees : AreFees o.closing.fees
  pub funds : HasFunds (opening_of o.terms)
  pub open_channel : IsMessage (message.OpenChannel o.terms.open_channel)
  pub accept_channel : IsMessage (message.AcceptChannel o.terms.accept_channel)
  pub opening : o.dance.log.opening ≡ opening_of o.terms
  pub role : o.dance.log.role ≡ o.closing.role
