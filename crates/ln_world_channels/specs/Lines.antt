-- What is told of a step, line by line.
use Rattle.std.specs.Prelude.{◌==◌, ◌&&◌, nat_le, ℕ, ◌-◌, List, [], ◌∷◌, ◌++◌, Option, Some, None, if◌then◌else◌}
use Rattle.ln_msgs.specs.declared.messages.message.Message.{Message}
use Rattle.ln_msgs.specs.declared.messages.message.Message.TheVariants as message
use Rattle.ln_refusals.specs.declared.refusal.Refusal.{Refusal}
use Rattle.ln_refusals.specs.Refusal.{refusal_number}
use Rattle.ln_msgs.specs.Messages.Reply.{text_of_number}
use Rattle.ln_dance.specs.declared.dance.Numbers.{Numbers}
use Rattle.ln_hooks.specs.declared.event.ChannelEvent.{ChannelEvent}
use Rattle.ln_hooks.specs.declared.event.ChannelEvent.TheVariants as event
use Rattle.ln_hooks.specs.declared.event.How.{How}
use Rattle.ln_hooks.specs.declared.event.How.TheVariants as how
use Rattle.ln_channel.specs.State.{no_numbers}
use Rattle.ln_channel.specs.declared.output.Output.{Output}
use Rattle.ln_channel.specs.declared.output.Output.TheVariants as output
use Rattle.ln_world_channels.specs.declared.step.End.{End}
use Rattle.ln_world_channels.specs.declared.line.Word.{Word}
use Rattle.ln_world_channels.specs.declared.line.Word.TheVariants as word
use Rattle.ln_world_channels.specs.declared.line.Ending.{Ending}
use Rattle.ln_world_channels.specs.declared.line.Ending.TheVariants as ending
use Rattle.ln_world_channels.specs.declared.line.Line.{Line}
use Rattle.ln_world_channels.specs.declared.line.Line.TheVariants as line

-- ---- messages

-- How a message is told whose sender has these numbers now: a signature is that of the commitment that it signed last,
-- a revocation that of the commitment before its own. The messages of an opening aren't told.
abbrev pub word_of : Numbers → Message → Option Word
word_of n (message.ChannelReady m) = Some word.ChannelReady
word_of n (message.UpdateAddHtlc m) = Some (word.Add m.id)
word_of n (message.UpdateFulfillHtlc m) = Some (word.Fulfil m.id)
word_of n (message.UpdateFailHtlc m) = Some (word.Fail m.id)
word_of n (message.UpdateFailMalformedHtlc m) = Some (word.Malformed m.id)
word_of n (message.UpdateFee m) = Some (word.Fee m.feerate_per_kw)
word_of n (message.CommitmentSigned m) = Some (word.Sign n.signed)
word_of n (message.RevokeAndAck m) = Some (word.Revoke (n.commitment - 1))
word_of n (message.ChannelReestablish m) =
    Some (word.Reestablish m.next_commitment_number m.next_revocation_number)
word_of n (message.Shutdown m) = Some word.Shutdown
word_of n (message.ClosingSigned m) = Some (word.Closing m.fee_satoshis)
word_of n (message.Warning m) = Some word.Warning
word_of n (message.Error m) = Some word.Error
word_of n m = None

-- ---- what a link hands out

abbrev pub ending_of : How → Ending
ending_of (how.Fulfilled preimage) = ending.Fulfilled
ending_of (how.Failed reason) = ending.Failed
ending_of (how.Malformed sha code) = ending.Malformed

abbrev pub event_line : End → ℕ → ChannelEvent → Line
event_line e n (event.Added own id amount hash expiry onion) = line.Added e n own id
event_line e n (event.Settled own id h) = line.Settled e n own id (ending_of h)
event_line e n (event.Closed fee) = line.Closed e n fee

abbrev pub sends_line : End → Option Word → List Line
sends_line e None = []
sends_line e (Some w) = line.Sends e w ∷ []

abbrev pub line_of : End → Numbers → Output → List Line
line_of e n (output.Send m) = sends_line e (word_of n m)
line_of e n (output.Signed own) = []
line_of e n (output.Committed own peer) = []
line_of e n (output.Event number event) = event_line e number event ∷ []
line_of e n (output.Closed fee) = []

abbrev pub lines_of : End → Numbers → List Output → List Line
lines_of e n [] = []
lines_of e n (o ∷ os) = line_of e n o ++ lines_of e n os

-- ---- what is refused

-- what the peer is sent: an error for 20 to 35, a warning for 36, and nothing for the others
abbrev pub reply_of : List ℕ → ℕ → Option Message
reply_of id n =
    if nat_le 20 n && nat_le n 35
    then Some (message.Error (record { channel_id = id; bytes = text_of_number n; records = [] }))
    else (if n == 36
    then Some (message.Warning (record { channel_id = id; bytes = text_of_number n; records = [] }))
    else None)

abbrev pub one_or_none : Option Message → List Message
one_or_none None = []
one_or_none (Some m) = m ∷ []

abbrev pub replies : List ℕ → Refusal → List Message
replies id r = one_or_none (reply_of id (refusal_number r))

abbrev pub reply_lines : End → List Message → List Line
reply_lines e [] = []
reply_lines e (m ∷ ms) = sends_line e (word_of no_numbers m) ++ reply_lines e ms

abbrev pub refused_lines : End → List ℕ → Refusal → List Line
refused_lines e id r = line.Refused e r ∷ reply_lines e (replies id r)
