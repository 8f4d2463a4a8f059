-- The HTLCs of a book to which a command may be due in some channel, and their places.
use Rattle.std.specs.Prelude.{ℕ, List, filter, Bool, true, false, ◌&&◌, ◌||◌, if◌then◌else◌}
use Rattle.ln_log.specs.declared.mark.Mark.{Mark}
use Rattle.ln_log.specs.declared.mark.Mark.TheVariants as mark
use Rattle.ln_book_tables.specs.declared.htlc.OutgoingLeg.{OutgoingLeg}
use Rattle.ln_book_tables.specs.declared.htlc.OutgoingLeg.TheVariants as outgoing
use Rattle.ln_book_tables.specs.declared.htlc.Htlc.{Htlc}
use Rattle.ln_book_tables.specs.Places.{places_of}
use Rattle.ln_book_tables.specs.Replay.{is_open, is_settled, has_nothing_offered}

-- what has become of the outgoing HTLC is known
abbrev pub is_resolved : OutgoingLeg → Bool
is_resolved outgoing.Absent = false
is_resolved outgoing.Refused = false
is_resolved (outgoing.Offered k) = false
is_resolved (outgoing.Resolved k how) = true

-- it goes on in another channel
abbrev pub is_forwarded : Mark → Bool
is_forwarded mark.None = false
is_forwarded (mark.Forward channel amount expiry) = true
is_forwarded (mark.Fail reason) = false
is_forwarded (mark.Malformed code) = false
is_forwarded (mark.Fulfil preimage) = false
is_forwarded (mark.Held event) = false

-- the outgoing channel has told what becomes of it
abbrev pub is_told_by : OutgoingLeg → Bool
is_told_by outgoing.Absent = false
is_told_by outgoing.Refused = true
is_told_by (outgoing.Offered k) = false
is_told_by (outgoing.Resolved k h) = true

-- it is known how it is to be removed
abbrev pub has_removal : Mark → OutgoingLeg → Bool
has_removal mark.None w = false
has_removal (mark.Forward d amount expiry) w = is_told_by w
has_removal (mark.Fail reason) w = true
has_removal (mark.Malformed code) w = true
has_removal (mark.Fulfil preimage) w = true
has_removal (mark.Held event) w = false

-- a command may be due to it, once it is decided: where it is settled, to forget what became of its outgoing HTLC; else
-- to offer that, or to remove it
abbrev pub is_due : Htlc → Bool
is_due h = h.decided
    && (if is_settled h.incoming then is_resolved h.outgoing
    else ((has_nothing_offered h.outgoing && is_forwarded h.mark)
    || (has_removal h.mark h.outgoing && is_open h.incoming)))

abbrev pub due_htlcs : List Htlc → List Htlc
due_htlcs hs = filter is_due hs

abbrev pub due_places : List Htlc → List ℕ
due_places hs = places_of is_due hs
