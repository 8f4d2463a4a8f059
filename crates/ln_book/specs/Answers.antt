-- What a book is told of a command that a channel's end was given.
use Rattle.std.specs.Prelude.{ℕ, Bool, false, List, Option, Some, None, Result, Ok, Err}
use Rattle.ln_refusals.specs.declared.refusal.Refusal.{Refusal}
use Rattle.ln_refusals.specs.Refusal.{refusal_number}
use Rattle.ln_channel.specs.declared.command.Command.{Command}
use Rattle.ln_channel.specs.declared.command.Command.TheVariants as command
use Rattle.ln_channel.specs.End.{End}
use Rattle.ln_book_tables.specs.declared.entry.Entry.{Entry}
use Rattle.ln_history.specs.History.{History}
use Rattle.ln_book_tables.specs.Replay.{Table, table_of, pending_command_at, is_later}
use Rattle.ln_book.specs.Kept.{next_own_id}
use Rattle.ln_book.specs.Commands.{with_answered}

-- the id of the next HTLC that an end offers; 0 before both have signed its opening
abbrev pub next_id : Option End → ℕ
next_id None = 0
next_id (Some e) = next_own_id e

-- The id of the HTLC that a command is about, or the number of the event: an HTLC that is offered gets the end's next
-- id. 0 where it is about none.
abbrev pub command_subject : ℕ → Command → ℕ
command_subject next (command.Confirm id) = 0
command_subject next (command.Add amount hash expiry onion origin) = next
command_subject next (command.Fulfil id preimage) = id
command_subject next (command.Fail id reason) = id
command_subject next (command.Malformed id sha code) = id
command_subject next (command.Fee feerate) = 0
command_subject next command.Sign = 0
command_subject next (command.Shutdown script) = 0
command_subject next (command.Decide event mark) = event
command_subject next (command.Forget id) = id
command_subject next (command.Resume event mark) = event

-- what the command was about, where the end has done it; else the number of the refusal
abbrev pub answer_to : ℕ → Result (Unit {0}) Refusal → Result ℕ ℕ
answer_to id (Ok u) = Ok id
answer_to id (Err r) = Err (refusal_number r)

-- the book is told this of the command that is out in this channel
abbrev pub replied : List ℕ → Result ℕ ℕ → History Table Entry → History Table Entry
replied c a b = with_answered c a (pending_command_at c (table_of b)) b

-- a command that was answered so is handed out again: its channel can't take it now
abbrev pub waits : Result ℕ ℕ → Bool
waits (Ok id) = false
waits (Err r) = is_later r
