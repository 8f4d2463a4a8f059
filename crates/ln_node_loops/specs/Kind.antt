-- What a message is about: a connection, a ping of it, a failure, or a channel.
use Rattle.ln_msgs.specs.declared.messages.message.Message.{Message}
use Rattle.ln_msgs.specs.declared.messages.message.Message.TheVariants as message
use Rattle.ln_node_loops.specs.declared.kind.Kind.{Kind}
use Rattle.ln_node_loops.specs.declared.kind.Kind.TheVariants.{OfConnection, Ping, OfFailure, OfChannel}

-- an error or a warning, which is about a channel or about all, and gets no reply (BOLT 1, "The error and warning
-- Messages"); a message of a channel, with the id that it names: the temporary one before the funding is known to both
abbrev pub kind_of : Message → Kind
kind_of (message.Init m) = OfConnection
kind_of (message.Ping m) = Ping m.num_pong_bytes
kind_of (message.Pong m) = OfConnection
kind_of (message.Warning m) = OfFailure
kind_of (message.Error m) = OfFailure
kind_of (message.OpenChannel m) = OfChannel m.temporary_id
kind_of (message.AcceptChannel m) = OfChannel m.temporary_id
kind_of (message.FundingCreated m) = OfChannel m.temporary_id
kind_of (message.FundingSigned m) = OfChannel m.channel_id
kind_of (message.ChannelReady m) = OfChannel m.channel_id
kind_of (message.Shutdown m) = OfChannel m.channel_id
kind_of (message.ClosingSigned m) = OfChannel m.channel_id
kind_of (message.UpdateAddHtlc m) = OfChannel m.channel_id
kind_of (message.UpdateFulfillHtlc m) = OfChannel m.channel_id
kind_of (message.UpdateFailHtlc m) = OfChannel m.channel_id
kind_of (message.CommitmentSigned m) = OfChannel m.channel_id
kind_of (message.RevokeAndAck m) = OfChannel m.channel_id
kind_of (message.UpdateFee m) = OfChannel m.channel_id
kind_of (message.UpdateFailMalformedHtlc m) = OfChannel m.channel_id
kind_of (message.ChannelReestablish m) = OfChannel m.channel_id
