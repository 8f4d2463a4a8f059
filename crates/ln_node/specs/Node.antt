-- What a contract sees of a node.
use Rattle.std.specs.Prelude.{◌≡◌, ◌++◌, ◌∷◌, [], ℕ, List, length, slice_get, Option, Some, None}
use Rattle.std.specs.declared.net.socket_addr.SocketAddr.{SocketAddr}
use Rattle.ln_forward.specs.declared.checks.Policy.{Policy}
use Rattle.ln_book_tables.specs.declared.entry.Entry.{Entry}
use Rattle.ln_history.specs.History.{History}
use Rattle.ln_book_tables.specs.Replay.{Table}
use Rattle.ln_node.specs.Books.{begun_in}
use Rattle.std.specs.Arc.{arc_value}
use Rattle.ln_node.specs.declared.greeting.Greeting.{Greeting}
use Rattle.ln_node.specs.declared.channel.ChannelThreads.{ChannelThreads}
use Rattle.ln_node.specs.declared.node.Node.{Node}
use Rattle.ln_node.specs.declared.signing.Signing.{Signing}

-- what it asks for a payment that it forwards
abbrev pub policy_of : {K S O H T W : Type 0} → Node K S O H T W → Policy
policy_of n = n.common.policy

-- how it greets its peers, and what it asks of their greeting
abbrev pub greeting_of : {K S O H T W : Type 0} → Node K S O H T W → Greeting
greeting_of n = arc_value n.common.greeting

-- its book, as it began
abbrev pub begun_of : {K S O H T W : Type 0} → Node K S O H T W → History Table Entry
begun_of n = begun_in n.common

-- when its new channels sign
abbrev pub signing_of : {K S O H T W : Type 0} → Node K S O H T W → Signing
signing_of n = n.signing

-- ---- its channels

abbrev pub channel_count : {K S O H T W : Type 0} → Node K S O H T W → ℕ
channel_count n = length n.channels.items

abbrev pub bound_at : {S H W : Type 0} → Option (ChannelThreads S H W) → Option SocketAddr
bound_at None = None
bound_at (Some c) = c.bound

-- where the channel of this number listens
abbrev pub address_of : {K S O H T W : Type 0} → Node K S O H T W → ℕ → Option SocketAddr
address_of n channel = bound_at (slice_get n.channels.items channel)

-- the channels that there were, and one more, the last, which listens there
abbrev pub HasOneMore : {S H W : Type 0} → Option SocketAddr → (before after : List (ChannelThreads S H W)) → Type 0
HasOneMore {S} {H} {W} bound before after =
    (one : ChannelThreads S H W) × (after ≡ before ++ one ∷ []) × (one.bound ≡ bound)
