-- The tests and changes of the book's HTLCs, by name.
use Rattle.std.specs.Prelude.{Bool}
use Rattle.ln_book_tables.specs.declared.htlc.Htlc.{Htlc}
use Rattle.ln_book_tables.specs.declared.lists.Which.{Which}
use Rattle.ln_book_tables.specs.declared.lists.Which.TheVariants as which
use Rattle.ln_book_tables.specs.declared.lists.Change.{Change}
use Rattle.ln_book_tables.specs.declared.lists.Change.TheVariants as change
use Rattle.ln_book_tables.specs.Replay.{is_htlc, is_told, is_offered, is_undecided, is_finished, is_decided, is_held_in}
use Rattle.ln_book_tables.specs.Replay.{decide, put_outgoing, put_incoming, put_mark}

abbrev pub picks : Which → Htlc → Bool
picks (which.Htlc k) h = is_htlc k h
picks (which.OfEvent c n) h = is_told c n h
picks (which.Offered k) h = is_offered k h
picks (which.Undecided c n) h = is_undecided c n h
picks (which.Finished k) h = is_finished k h
picks (which.Decided k) h = is_decided k h
picks (which.Held c n) h = is_held_in c n h

abbrev pub changed_by : Change → Htlc → Htlc
changed_by change.Decide h = decide h
changed_by (change.Outgoing w) h = put_outgoing w h
changed_by (change.Incoming b) h = put_incoming b h
changed_by (change.Mark m) h = put_mark m h
