-- What a book is told of a channel's end: what it has answered to a command, and which removals of HTLCs it has come to
-- hold as irrevocably committed.
use Rattle.std.specs.Prelude.{ℕ, zero, suc, ◌+◌, ◌-◌, ◌*◌, List, [], ◌∷◌, length, Option, Some, None}
use Rattle.std.specs.Prelude.{Result, Ok, Err}
use Rattle.ln_refusals.specs.declared.refusal.Refusal.{Refusal}
use Rattle.ln_refusals.specs.declared.refusal.Refusal.TheVariants as refusal
use Rattle.ln_log.specs.declared.mark.Mark.{Mark}
use Rattle.ln_log.specs.declared.mark.Mark.TheVariants as mark
use Rattle.ln_hooks.specs.declared.event.ChannelEvent.{ChannelEvent}
use Rattle.ln_channel.specs.declared.command.Command.{Command}
use Rattle.ln_channel.specs.declared.command.Command.TheVariants as command
use Rattle.ln_channel.specs.End.{End as ChannelEnd}
use Rattle.ln_book.specs.Settled.{with_settled}
use Rattle.ln_book.specs.Answers.{answer_to}
use Rattle.ln_world_channels.specs.declared.line.Choice.{Choice}
use Rattle.ln_world_channels.specs.declared.line.Choice.TheVariants as choice
use Rattle.ln_world_channels.specs.declared.line.Line.{Line}
use Rattle.ln_world_channels.specs.declared.line.Line.TheVariants as line
use Rattle.ln_world_channels.specs.declared.step.End.{End}
use Rattle.ln_world_dispatch.specs.World.{undecided}
use Rattle.ln_world.specs.declared.follow_up.DecisionNote.{DecisionNote}
use Rattle.ln_world.specs.declared.follow_up.DecisionNote.TheVariants as noted
use Rattle.ln_world.specs.Node.{Book}

-- ---- what an end has answered to a command

-- Whether it has done it, by what is told of that. Where nothing could be done it wasn't ready (40), as an end answers
-- to a decision of an event that isn't its first undecided one.
abbrev pub done_by : List Line → Result (Unit {0}) Refusal
done_by (line.Refused e r ∷ ls) = Err r
done_by (line.Idle ∷ ls) = Err refusal.NotReady
done_by ls = Ok tt

-- what its book is told of a command that was about this
abbrev pub answer_by : ℕ → List Line → Result ℕ ℕ
answer_by id ls = answer_to id (done_by ls)

-- ---- a decision, by what a report tells of it

abbrev pub byte_at : ℕ → List ℕ → ℕ
byte_at n [] = 0
byte_at zero (b ∷ bs) = b
byte_at (suc n) (b ∷ bs) = byte_at n bs

-- The number of a channel of a world is the last byte of its id, as the output of its funding is 0; a failure's code
-- stands in the first two bytes of its reason, as the nodes' services pass a reason on as it is.
abbrev pub choice_of : Mark → Choice
choice_of mark.None = choice.None
choice_of (mark.Forward channel amount expiry) = choice.Forward (byte_at 31 channel)
choice_of (mark.Fail reason) = choice.Fail (256 * byte_at 0 reason + byte_at 1 reason)
choice_of (mark.Malformed code) = choice.Malformed code
choice_of (mark.Fulfil preimage) = choice.Fulfil
choice_of (mark.Held event) = choice.Held

-- the event's number and what is done about it, where a command is a decision
abbrev pub noted_of : Command → Option DecisionNote
noted_of (command.Decide event m) = Some (noted.Decided event (choice_of m))
noted_of (command.Resume event m) = Some (noted.Resumed event (choice_of m))
noted_of c = None

abbrev pub noted_line : End → DecisionNote → Line
noted_line e (noted.Decided event c) = line.Decided e event c
noted_line e (noted.Resumed event c) = line.Resumed e event c

-- it is told of where it was taken
abbrev pub decided_line : End → Option DecisionNote → Result ℕ ℕ → List Line
decided_line e (Some x) (Ok id) = noted_line e x ∷ []
decided_line e o answer = []

-- ---- what an end has come to hold

-- how many events it has told
abbrev pub event_count : Option ChannelEnd → ℕ
event_count None = 0
event_count (Some e) = e.ledger.decided + length e.ledger.undecided

-- the book is told of an event of the channel with this id
abbrev pub with_event : List ℕ → Option ChannelEvent → Book → Book
with_event id None b = b
with_event id (Some event) b = with_settled id event b

-- and of so many events, from this number on
abbrev pub with_events : List ℕ → ℕ → ℕ → ChannelEnd → Book → Book
with_events id n zero e b = b
with_events id n (suc k) e b = with_events id (n + 1) k e (with_event id (undecided n e) b)

-- of those after the count that it had told before
abbrev pub with_held : List ℕ → ℕ → Option ChannelEnd → Book → Book
with_held id before None b = b
with_held id before (Some e) b = with_events id before (event_count (Some e) - before) e b
