-- What the book of a node's payments hears of its channels.
use Rattle.std.specs.Prelude.{ℕ, List, [], ◌∷◌, ◌++◌, Option, Some, None, nat_le, Result, Ok, Err, if◌then◌else◌}
use Rattle.ln_refusals.specs.declared.refusal.Refusal.{Refusal}
use Rattle.ln_refusals.specs.declared.refusal.Refusal.TheVariants as refusal
use Rattle.ln_hooks.specs.declared.event.ChannelEvent.{ChannelEvent}
use Rattle.ln_channel.specs.End.{End}
use Rattle.ln_channel.specs.Record.{saved_end}
use Rattle.ln_channel.specs.State.{State}
use Rattle.ln_history.specs.History.{History, with_entry}
use Rattle.ln_book_tables.specs.declared.entry.Entry.{Entry}
use Rattle.ln_book_tables.specs.declared.entry.Entry.TheVariants as entry
use Rattle.ln_book_tables.specs.Replay.{Table, table_of}
use Rattle.ln_book.specs.Legs.{other_leg}
use Rattle.ln_book.specs.Rebuild.{ChannelSnapshot}
use Rattle.ln_book.specs.Settled.{with_settled}
use Rattle.ln_book.specs.Snapshots.{snapshot_by}
use Rattle.ln_book.specs.Uses.{with_dropped}

-- what was entered in it since it began
abbrev pub Book : Type 0
Book = History Table Entry

-- ---- an event of the channel of this id

abbrev pub with_heard : Option (List ℕ) → Option ChannelEvent → Book → Book
with_heard None told b = b
with_heard (Some id) None b = b
with_heard (Some id) (Some told) b = with_settled id told b

-- the channel of the payment's other leg
abbrev pub heard_leg : Option (List ℕ) → Option ChannelEvent → Book → Option (List ℕ)
heard_leg None told b = None
heard_leg (Some id) None b = None
heard_leg (Some id) (Some told) b = other_leg id told (table_of b)

-- ---- what an end has kept, as its connection was lost

abbrev pub with_kept : Option End → Book → Book
with_kept None b = b
with_kept (Some e) b = with_dropped e.dance.channel e b

-- ---- the block height

-- 40 above 400,000,000
abbrev pub height_answer : ℕ → Result (Unit {0}) Refusal
height_answer h = if nat_le h 400000000 then Ok tt else Err refusal.NotReady

abbrev pub with_height : ℕ → Book → Book
with_height h b = if nat_le h 400000000 then with_entry (entry.Height h) b else b

-- ---- what a book begins with

-- what is read off the ends of these links, in their order
abbrev pub snapshots_of : {K : Type 0} → List (State K) → List ChannelSnapshot
snapshots_of [] = []
snapshots_of (l ∷ ls) = snapshot_by (saved_end l.stage) ++ snapshots_of ls
