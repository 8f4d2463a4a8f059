-- What a book's channels hold, and isn't being resumed.
use Rattle.std.specs.Prelude.{ℕ, List, [], ◌∷◌, not, ◌&&◌, Option, Some, None, if◌then◌else◌}
use Rattle.std.specs.List.{list_any, cons_option}
use Rattle.ln_log.specs.declared.mark.Mark.{Mark}
use Rattle.ln_log.specs.declared.mark.Mark.TheVariants as mark
use Rattle.ln_book_tables.specs.declared.htlc.Htlc.{Htlc}
use Rattle.ln_book_tables.specs.declared.entry.Queued.{Queued}
use Rattle.ln_book_tables.specs.declared.held.HeldHtlc.{HeldHtlc}
use Rattle.ln_book_tables.specs.Replay.{Table, is_held_in, is_resumed}

-- the number by which a mark holds an HTLC
abbrev pub number_in : Mark → Option ℕ
number_in mark.None = None
number_in (mark.Forward channel amount expiry) = None
number_in (mark.Fail reason) = None
number_in (mark.Malformed code) = None
number_in (mark.Fulfil preimage) = None
number_in (mark.Held n) = Some n

abbrev pub held_htlc : Htlc → ℕ → HeldHtlc
held_htlc h n = record {
  channel = h.key.channel;
  number = n;
  id = h.key.id;
  amount = h.offer.amount;
  hash = h.offer.hash;
  expiry = h.offer.expiry;
}

-- where it is held by this number in its channel, and not being resumed
abbrev pub held_by_number : List Queued → Htlc → Option ℕ → Option HeldHtlc
held_by_number qs h None = None
held_by_number qs h (Some n) =
    if is_held_in h.key.channel n h && not (list_any (is_resumed h.key.channel n) qs)
    then Some (held_htlc h n) else None

abbrev pub held_of : List Queued → Htlc → Option HeldHtlc
held_of qs h = held_by_number qs h (number_in h.mark)

abbrev pub held_in_slot : List Queued → Option Htlc → Option HeldHtlc
held_in_slot qs None = None
held_in_slot qs (Some h) = held_of qs h

abbrev pub held_among : List Queued → List Htlc → List HeldHtlc
held_among qs [] = []
held_among qs (h ∷ hs) = cons_option (held_of qs h) (held_among qs hs)

-- all, in order of deciding
abbrev pub all_held : Table → List HeldHtlc
all_held t = held_among t.queue t.htlcs
