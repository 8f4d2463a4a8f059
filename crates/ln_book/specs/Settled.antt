-- What a channel tells of an HTLC whose removal is irrevocably committed.
use Rattle.std.specs.Prelude.{ℕ, List, Bool, true, false, ◌&&◌, is_some}
use Rattle.std.specs.List.{find}
use Rattle.ln_hooks.specs.declared.event.ChannelEvent.{ChannelEvent}
use Rattle.ln_hooks.specs.declared.event.ChannelEvent.TheVariants as event
use Rattle.ln_hooks.specs.declared.event.How.{How}
use Rattle.ln_hooks.specs.declared.event.How.TheVariants as how
use Rattle.ln_book_tables.specs.declared.htlc.Key.{Key}
use Rattle.ln_book_tables.specs.declared.entry.Entry.{Entry}
use Rattle.ln_book_tables.specs.declared.entry.Entry.TheVariants as entry
use Rattle.ln_history.specs.History.{History, with_entry}
use Rattle.ln_book_tables.specs.Replay.{Table, is_offered}

-- of an own HTLC what has become of it; of a peer's that it is removed
abbrev pub settled_entry : Bool → Key → How → Entry
settled_entry true k how = entry.Resolved k how
settled_entry false k how = entry.Removed k

-- any other event is none of an HTLC's removal
abbrev pub with_settled : List ℕ → ChannelEvent → History Table Entry → History Table Entry
with_settled c (event.Added own id amount hash expiry onion) h = h
with_settled c (event.Settled own id how) h = with_entry (settled_entry own (record { channel = c; id = id }) how) h
with_settled c (event.Closed fee) h = h

-- it failed for a reason
abbrev pub has_reason : How → Bool
has_reason (how.Fulfilled preimage) = false
has_reason (how.Failed reason) = true
has_reason (how.Malformed sha code) = false

-- the book has offered the HTLC, and keeps the reason for which it failed
abbrev pub keeps_a_reason : List ℕ → ChannelEvent → Table → Bool
keeps_a_reason c (event.Added own id amount hash expiry onion) t = false
keeps_a_reason c (event.Settled own id how) t =
    own && (has_reason how && is_some (find (is_offered (record { channel = c; id = id })) t.htlcs))
keeps_a_reason c (event.Closed fee) t = false
