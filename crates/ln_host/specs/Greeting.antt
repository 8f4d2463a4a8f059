-- What of a connection is of no channel (BOLT 1).
use Rattle.std.specs.Prelude.{ℕ, List, [], ◌∷◌, length, replicate, ◌==◌, nat_lt, Option, Some, None, if◌then◌else◌}
use Rattle.ln_bytes.specs.declared.record.Record.{Record}
use Rattle.ln_msgs.specs.declared.messages.setup.Init.{Init}
use Rattle.ln_msgs.specs.declared.messages.setup.Ping.{Ping}
use Rattle.ln_msgs.specs.declared.messages.setup.Pong.{Pong}
use Rattle.ln_msgs.specs.declared.messages.message.Message.{Message}
use Rattle.ln_msgs.specs.declared.messages.message.Message.TheVariants as message
use Rattle.ln_channel.specs.Naming.{named}

-- a record `networks`, type 1, where there are chains
abbrev pub networks : List ℕ → List Record
networks chains = if length chains == 0 then [] else record { typ = 1; value = chains } ∷ []

abbrev pub init_with : List ℕ → List ℕ → Init
init_with features chains = record { global_features = []; features = features; records = networks chains }

-- as many bytes as it asks for; none from 65,532 on
abbrev pub pong_to : Ping → Option Pong
pong_to p =
    if nat_lt 65531 p.num_pong_bytes then None
    else Some (record { ignored = replicate p.num_pong_bytes 0; records = [] })

abbrev pub channel_of : Message → Option (List ℕ)
channel_of (message.Warning m) = Some m.channel_id
channel_of (message.Error m) = Some m.channel_id
channel_of (message.OpenChannel m) = Some m.temporary_id
channel_of (message.AcceptChannel m) = Some m.temporary_id
channel_of (message.FundingCreated m) = Some m.temporary_id
channel_of m = named m
