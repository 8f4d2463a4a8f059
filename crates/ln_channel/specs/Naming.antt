-- Which channel a message names, and whether that is the link's (BOLT 1, "The error and warning Messages"; BOLT 2).
use Rattle.std.specs.Prelude.{ℕ, List, Bool, false, not, ◌||◌, Option, Some, None, replicate}
use Rattle.ln_bytes.specs.Same.{are_same}
use Rattle.ln_msgs.specs.Messages.Channel.{id_of_channel}
use Rattle.ln_msgs.specs.declared.messages.message.Message.{Message}
use Rattle.ln_msgs.specs.declared.messages.message.Message.TheVariants as message
use Rattle.ln_channel.specs.declared.config.OpenSpec.{OpenSpec}
use Rattle.ln_channel.specs.declared.machine.Stage.{Stage}
use Rattle.ln_channel.specs.declared.machine.Stage.TheVariants as stage

-- the channel that a message is about; those of the opening name none before it is funded
abbrev pub named : Message → Option (List ℕ)
named (message.FundingSigned m) = Some m.channel_id
named (message.ChannelReady m) = Some m.channel_id
named (message.Shutdown m) = Some m.channel_id
named (message.ClosingSigned m) = Some m.channel_id
named (message.UpdateAddHtlc m) = Some m.channel_id
named (message.UpdateFulfillHtlc m) = Some m.channel_id
named (message.UpdateFailHtlc m) = Some m.channel_id
named (message.UpdateFailMalformedHtlc m) = Some m.channel_id
named (message.UpdateFee m) = Some m.channel_id
named (message.CommitmentSigned m) = Some m.channel_id
named (message.RevokeAndAck m) = Some m.channel_id
named (message.ChannelReestablish m) = Some m.channel_id
named m = None

-- the link's channel, once its funding is known to both
abbrev pub channel_of : Stage → Option (List ℕ)
channel_of (stage.AwaitsSigned e) = Some e.dance.channel
channel_of (stage.Funded e) = Some e.dance.channel
channel_of s = None

-- its temporary id, while it is being opened
abbrev pub temporary_of : Stage → Option (List ℕ)
temporary_of (stage.AwaitsAccept s) = Some s.temporary_id
temporary_of (stage.AwaitsCreated a) = Some a.terms.open_channel.temporary_id
temporary_of (stage.AwaitsSigned e) = Some e.terms.open_channel.temporary_id
temporary_of s = None

abbrev pub is_id : List ℕ → Option (List ℕ) → Bool
is_id id None = false
is_id id (Some own) = are_same id own

-- all channels
abbrev pub is_all : List ℕ → Bool
is_all id = are_same id (replicate 32 0)

-- an error with this id is meant for the link
abbrev pub is_meant : Stage → List ℕ → Bool
is_meant s id = is_all id || (is_id id (channel_of s) || is_id id (temporary_of s))

-- another channel than the link's
abbrev pub is_other : Option (List ℕ) → Stage → Bool
is_other None s = false
is_other (Some id) s = not (is_id id (channel_of s))

-- ---- the channel that a message opens (BOLT 2, "Channel Establishment v1")

-- a funder knows its funding, and names it once the fundee has agreed
abbrev pub opens_agreed : OpenSpec → Message → Option (List ℕ)
opens_agreed s (message.AcceptChannel m) = Some (id_of_channel s.txid s.output)
opens_agreed s m = None

-- a fundee is told
abbrev pub opens_told : Message → Option (List ℕ)
opens_told (message.FundingCreated m) = Some (id_of_channel m.funding_txid m.output_index)
opens_told m = None

abbrev pub opens : Stage → Message → Option (List ℕ)
opens (stage.AwaitsAccept s) m = opens_agreed s m
opens (stage.AwaitsCreated a) m = opens_told m
opens s m = None
