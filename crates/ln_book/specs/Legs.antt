-- The other leg of a payment that a node forwards.
use Rattle.std.specs.Prelude.{ℕ, List, Bool, true, false, Option, Some, None, option_map}
use Rattle.std.specs.List.{find}
use Rattle.ln_hooks.specs.declared.event.ChannelEvent.{ChannelEvent}
use Rattle.ln_hooks.specs.declared.event.ChannelEvent.TheVariants as event
use Rattle.ln_book_tables.specs.declared.htlc.Key.{Key}
use Rattle.ln_book_tables.specs.declared.htlc.Htlc.{Htlc}
use Rattle.ln_book_tables.specs.declared.htlc.OutgoingLeg.{OutgoingLeg}
use Rattle.ln_book_tables.specs.declared.htlc.OutgoingLeg.TheVariants as outgoing
use Rattle.ln_book_tables.specs.Replay.{Table, is_htlc, is_offered}

-- the channel of the outgoing HTLC, where one was offered
abbrev pub channel_of : OutgoingLeg → Option (List ℕ)
channel_of outgoing.Absent = None
channel_of outgoing.Refused = None
channel_of (outgoing.Offered k) = Some k.channel
channel_of (outgoing.Resolved k how) = Some k.channel

abbrev pub outgoing_channel : Option Htlc → Option (List ℕ)
outgoing_channel None = None
outgoing_channel (Some h) = channel_of h.outgoing

-- of an own HTLC the channel by which its payment came, of a peer's that in which it was offered on
abbrev pub other_channel : Bool → Key → List Htlc → Option (List ℕ)
other_channel true k hs = option_map (λ h. h.key.channel) (find (is_offered k) hs)
other_channel false k hs = outgoing_channel (find (is_htlc k) hs)

-- none of an event that tells of no removal
abbrev pub other_leg : List ℕ → ChannelEvent → Table → Option (List ℕ)
other_leg c (event.Added own id amount hash expiry onion) t = None
other_leg c (event.Settled own id how) t = other_channel own (record { channel = c; id = id }) t.htlcs
other_leg c (event.Closed fee) t = None
