-- Which commands no user orders: they are the book's alone.
use Rattle.std.specs.Prelude.{Bool, ◌||◌}
use Rattle.ln_channel.specs.declared.command.Command.{Command}
use Rattle.ln_channel.specs.Step.{is_of_records}
use Rattle.ln_book.specs.Alone.{is_books}

-- those of what a record keeps of decisions, and those that remove an HTLC or forward one
abbrev pub is_reserved : Command → Bool
is_reserved c = is_of_records c || is_books c
