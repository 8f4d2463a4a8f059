-- What is noted of a book, as its history.
use Rattle.std.specs.Prelude.{map}
use Rattle.ln_book_tables.specs.declared.entry.Entry.{Entry}
use Rattle.ln_book_tables.specs.declared.entry.Entry.TheVariants as entry
use Rattle.ln_book_tables.specs.Replay.{Table}
use Rattle.ln_history.specs.History.{History}
use Rattle.ln_book.specs.declared.noted.Note.{Note}
use Rattle.ln_book.specs.declared.noted.Note.TheVariants as note

abbrev pub entry_of : Note → Entry
entry_of (note.Entered e) = e.told.start
entry_of (note.Decided d) = entry.Decided d.told.start
entry_of (note.Resumed r) = entry.Resumed r.told.start
entry_of (note.Resolved k how) = entry.Resolved k how.told.start

abbrev pub history_of : History Table Note → History Table Entry
history_of h = record { start = h.start; entries = map entry_of h.entries }
