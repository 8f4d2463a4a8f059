-- The indices of the slots of a book: by what an HTLC is found, and to which HTLCs a command may be due.
use Rattle.std.specs.Prelude.{◌≡◌, ℕ, ◌≤◌, List, length, get_or, false, ◌==◌, Option, Some, None}
use Rattle.std.specs.Prelude.{if◌then◌else◌}
use Rattle.std.specs.Option.{option_map}
use Rattle.std.specs.Vec.{vec_capacity}
use Rattle.ln_book_tables.specs.declared.htlc.Key.{Key}
use Rattle.ln_book_tables.specs.declared.htlc.OutgoingLeg.{OutgoingLeg}
use Rattle.ln_book_tables.specs.declared.htlc.OutgoingLeg.TheVariants as outgoing
use Rattle.ln_book_tables.specs.declared.htlc.Htlc.{Htlc}
use Rattle.ln_book_tables.specs.declared.key_index.Told.{Told}
use Rattle.ln_book_tables.specs.declared.key_index.Told.TheVariants as told
use Rattle.ln_book_tables.specs.declared.lists.Which.{Which}
use Rattle.ln_book_tables.specs.declared.lists.Which.TheVariants as which
use Rattle.ln_book_tables.specs.declared.names.Names.{Names}
use Rattle.ln_book_tables.specs.declared.indices.Indices.{Indices}
use Rattle.ln_book_tables.specs.Due.{is_due}
use Rattle.ln_book_tables.specs.Held.{number_in}
use Rattle.ln_book_tables.specs.KeyIndex.{IsIndexOf, told_in}
use Rattle.ln_book_tables.specs.Places.{places_of}
use Rattle.ln_book_tables.specs.Replay.{is_over}
use Rattle.ln_book_tables.specs.Slots.{passes}

-- a number in the channel of an HTLC
abbrev pub numbered : Htlc → ℕ → Key
numbered h n = record { channel = h.key.channel; id = n }

-- the event that told of it; no event has the number 2^64 - 1
abbrev pub event_name : Htlc → Option Key
event_name h = if h.event == 18446744073709551615 then None else Some (numbered h h.event)

-- that by which its mark holds it
abbrev pub held_name : Htlc → Option Key
held_name h = option_map (numbered h) (number_in h.mark)

abbrev pub outgoing_key : OutgoingLeg → Option Key
outgoing_key outgoing.Absent = None
outgoing_key outgoing.Refused = None
outgoing_key (outgoing.Offered k) = Some k
outgoing_key (outgoing.Resolved k how) = Some k

-- nothing is left to be done about it
abbrev pub over_name : Htlc → Option Key
over_name h = if is_over h then Some h.key else None

abbrev pub names_of : Htlc → Names
names_of h = record {
  key = Some h.key;
  event = event_name h;
  held = held_name h;
  outgoing = outgoing_key h.outgoing;
  over = over_name h;
  due = is_due h;
}

abbrev pub no_names : Names
no_names = record { key = None; event = None; held = None; outgoing = None; over = None; due = false }

abbrev pub names : Option Htlc → Names
names None = no_names
names (Some h) = names_of h

-- what stands at each place, by one of its names
abbrev pub names_at : List (Option Htlc) → (Names → Option Key) → ℕ → Option Key
names_at ss name i = name (names (get_or ss i None))

pub record IsIndexed (ss : List (Option Htlc)) (x : Indices) : Type 0 where
  pub due : x.due.items ≡ places_of (passes is_due) ss
  pub room : length ss ≤ vec_capacity x.due
  pub by_key : IsIndexOf (names_at ss (λ n. n.key)) x.by_key
  pub by_event : IsIndexOf (names_at ss (λ n. n.event)) x.by_event
  pub by_held : IsIndexOf (names_at ss (λ n. n.held)) x.by_held
  pub by_outgoing : IsIndexOf (names_at ss (λ n. n.outgoing)) x.by_outgoing
  pub by_over : IsIndexOf (names_at ss (λ n. n.over)) x.by_over

abbrev pub at_event : List ℕ → ℕ → Indices → Told
at_event c n x = if n == 18446744073709551615 then told.Unknown
    else told_in (record { channel = c; id = n }) x.by_event

-- where the one that is meant may stand
abbrev pub told_by : Which → Indices → Told
told_by (which.Htlc k) x = told_in k x.by_key
told_by (which.OfEvent c n) x = at_event c n x
told_by (which.Offered k) x = told_in k x.by_outgoing
told_by (which.Undecided c n) x = at_event c n x
told_by (which.Finished k) x = told_in k x.by_key
told_by (which.Decided k) x = told_in k x.by_key
told_by (which.Held c n) x = told_in (record { channel = c; id = n }) x.by_held
