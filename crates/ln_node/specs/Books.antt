-- Which book the threads of a node's channels reach.
use Rattle.std.specs.Arc.{arc_value}
use Rattle.ln_book_tables.specs.declared.entry.Entry.{Entry}
use Rattle.ln_history.specs.History.{History}
use Rattle.ln_book_tables.specs.Replay.{Table}
use Rattle.ln_node.specs.declared.book.SharedBook.{SharedBook}
use Rattle.ln_node.specs.declared.book.Common.{Common}

-- the book that a thread reaches, as it began
abbrev pub begun_at : {O : Type 0} → SharedBook O → History Table Entry
begun_at b = (arc_value b.book).begun.value

-- the book that all channels share, as it began
abbrev pub begun_in : {O : Type 0} → Common O → History Table Entry
begun_in c = (arc_value c.book).begun.value
