-- A world of nodes: their channels, the dispatchers of the channels' ends, and for each node its policy and its book of
-- forwarded payments. A command that a book gives is one of its channel's end: what the channels and dispatchers make
-- of it is said in ln_world_dispatch, by the steps of dispatchers that each step is.
use Rattle.std.specs.Prelude.{◌≡◌, ◌⊎◌, ℕ, List, [], ◌∷◌, ◌++◌, Bool, true, false, not, ◌&&◌, nat_le}
use Rattle.std.specs.Prelude.{Option, Some, None, is_some, option_map, Err, if◌then◌else◌}
use Rattle.std.specs.List.{cons_option}
use Rattle.ln_refusals.specs.declared.refusal.Refusal.{Refusal}
use Rattle.ln_refusals.specs.declared.refusal.Refusal.TheVariants as refusal
use Rattle.ln_keys.specs.declared.keys.ChannelKeys.{Ghosts}
use Rattle.ln_keys.specs.declared.role.Role.{Role}
use Rattle.ln_log.specs.declared.mark.Mark.{Mark}
use Rattle.ln_log.specs.declared.mark.Mark.TheVariants as mark
use Rattle.ln_hooks.specs.declared.event.ChannelEvent.{ChannelEvent}
use Rattle.ln_hooks.specs.declared.verdict.Verdict.{Verdict}
use Rattle.ln_channel.specs.declared.command.Command.{Command}
use Rattle.ln_channel.specs.declared.command.Command.TheVariants as command
use Rattle.ln_channel.specs.Step.{is_of_records}
use Rattle.ln_channel.specs.End.{End as ChannelEnd}
use Rattle.ln_channel.specs.Record.{saved_end}
use Rattle.ln_channel.specs.State.{State}
use Rattle.ln_book_tables.specs.declared.entry.Out.{Out}
use Rattle.ln_book_tables.specs.declared.entry.Entry.{Entry}
use Rattle.ln_book_tables.specs.declared.entry.Entry.TheVariants as entry
use Rattle.ln_history.specs.History.{with_entry}
use Rattle.ln_book_tables.specs.Replay.{table_of}
use Rattle.ln_book.specs.Commands.{first_command, with_taken}
use Rattle.ln_book.specs.Marks.{offer_of, decision, resumption}
use Rattle.ln_world_channels.specs.declared.line.Line.{Line}
use Rattle.ln_world_channels.specs.declared.line.Line.TheVariants as line
use Rattle.ln_world_channels.specs.declared.step.Act.{Act as ChannelAct}
use Rattle.ln_world_channels.specs.declared.step.Act.TheVariants as channel_act
use Rattle.ln_world_channels.specs.declared.step.Node.{Node}
use Rattle.ln_world_channels.specs.declared.step.End.{End}
use Rattle.ln_world_channels.specs.Settings.{channel_id_of}
use Rattle.ln_world_channels.specs.WorldChannel.{WorldChannel, side_of, place_of}
use Rattle.ln_world_channels.specs.World.{channel}
use Rattle.ln_world_dispatch.specs.declared.step.Step.{Step as DispatchStep}
use Rattle.ln_world_dispatch.specs.declared.step.Step.TheVariants as dispatcher_step
use Rattle.ln_world_dispatch.specs.World.{World as Dispatchers, waiting, may_act}
use Rattle.ln_world_dispatch.specs.World as dispatchers
use Rattle.ln_world.specs.declared.step.Act.{Act}
use Rattle.ln_world.specs.declared.step.Act.TheVariants as act
use Rattle.ln_world.specs.declared.step.Step.{Step}
use Rattle.ln_world.specs.declared.step.Step.TheVariants as step
use Rattle.ln_world.specs.declared.follow_up.PendingAnswer.{PendingAnswer}
use Rattle.ln_world.specs.declared.follow_up.FollowUp.{FollowUp}
use Rattle.ln_world.specs.declared.follow_up.FollowUp.TheVariants as follow_up
use Rattle.ln_world.specs.declared.node.NodeBook.{NodeBook}
use Rattle.ln_world.specs.Node.{Book, services, node_at, changed, with_policy, with_book}
use Rattle.ln_book.specs.Answers.{next_id, command_subject, replied}
use Rattle.ln_book.specs.Uses.{with_dropped}
use Rattle.ln_world.specs.BookReports.{answer_by, noted_of, decided_line, event_count, with_held}
use Rattle.ln_world.specs.Follow.{followed, begun_anew}

pub record World (K : Type 0) : Type 0 where
  pub dispatchers : Dispatchers K  -- channels, and the dispatchers of their ends
  pub nodes : List NodeBook  -- those of which something was said; of any other a new node's is said

-- so many hooks were handed in, and nothing has happened
abbrev pub empty : {K : Type 0} → ℕ → World K
empty n = record { dispatchers = dispatchers.empty n; nodes = [] }

-- ---- an end of a channel

abbrev pub id_of : End → List ℕ
id_of e = channel_id_of e.channel

abbrev pub link_by : {K : Type 0} → WorldChannel K → Option Role → Option (State K)
link_by c None = None
link_by c (Some side) = Some (place_of side c.both).link

abbrev pub link_there : {K : Type 0} → Node → Option (WorldChannel K) → Option (State K)
link_there n None = None
link_there n (Some c) = link_by c (side_of n c)

-- its link, where the channel is there and the node has an end of it
abbrev pub link_at : {K : Type 0} → End → List (WorldChannel K) → Option (State K)
link_at e cs = link_there e.node (channel e.channel cs)

abbrev pub saved_of : {K : Type 0} → Option (State K) → Option ChannelEnd
saved_of None = None
saved_of (Some l) = saved_end l.stage

-- the end, where both have signed its opening
abbrev pub end_at : {K : Type 0} → End → Dispatchers K → Option ChannelEnd
end_at e d = saved_of (link_at e d.channels.channels)

-- ---- what a book is asked for an end

abbrev pub book_of : End → List NodeBook → Book
book_of e xs = (node_at e.node xs).book

-- the first command of the end's channel
abbrev pub first_in : End → Book → Option (Out × Command)
first_in e b = first_command services (id_of e) (table_of b)

abbrev pub command_in : End → Book → Option Command
command_in e b = option_map (λ x. x.1) (first_in e b)

-- it is handed out
abbrev pub handed : End → Book → Book
handed e b = with_taken (id_of e) (first_in e b) b

-- what is decided of an event is entered: its number, the event, and what the hooks said of it
abbrev pub with_decision : End → ℕ × ChannelEvent × Verdict → Book → Book
with_decision e x b = with_entry (entry.Decided (decision services (table_of b) (id_of e) x.0 (offer_of x.1) x.2)) b

-- the book that is asked, where an event waits to be decided
abbrev pub deciding : End → Option (ℕ × ChannelEvent × Verdict) → Book → Option Book
deciding e None b = None
deciding e (Some x) b = Some (with_decision e x b)

-- what is held at the end is decided by what is said of it now: its mark is entered
abbrev pub with_resumed : End → ℕ → Book → Mark → Book
with_resumed e n b m = with_entry (entry.Resumed (record { channel = id_of e; event = n; mark = m })) b

-- where the book knows of it
abbrev pub resuming : End → ℕ → Verdict → Book → Option Book
resuming e n v b = option_map (with_resumed e n b) (resumption services (table_of b) (id_of e) n v)

abbrev pub if_there : Bool → Option Book → Option Book
if_there may b = if may then b else None

-- and where the end is there
abbrev pub taking : Bool → Book → Option Book
taking may b = if may then Some b else None

-- the book that an act takes a command from
abbrev pub asked : {K : Type 0} → End → Act → World K → Option Book
asked e act.Take w = taking (is_some (end_at e w.dispatchers)) (book_of e w.nodes)
asked e act.Decide w = deciding e (waiting e w.dispatchers) (book_of e w.nodes)
asked e (act.Resume n v) w = if_there (is_some (end_at e w.dispatchers)) (resuming e n v (book_of e w.nodes))
asked e a w = None

abbrev pub command_by : End → Option Book → Option Command
command_by e None = None
command_by e (Some b) = command_in e b

-- that command
abbrev pub command_of : {K : Type 0} → End → Act → World K → Option Command
command_of e a w = command_by e (asked e a w)

-- a book as it is handed out, where it is asked
abbrev pub handed_or : End → Option Book → Book → Book
handed_or e None b = b
handed_or e (Some c) b = handed e c

-- the books then
abbrev pub handed_out : End → Option Book → List NodeBook → List NodeBook
handed_out e None xs = xs
handed_out e (Some b) xs = changed e.node (with_book (handed e b)) xs

abbrev pub act_where : Bool → ChannelAct → Option ChannelAct
act_where may a = if may then Some a else None

-- what an end does of its own, where it can: decisions are the book's to command, and nobody else sends them
abbrev pub own_act : {K : Type 0} → End → Act → Dispatchers K → Option ChannelAct
own_act e act.Deliver d = act_where (may_act e channel_act.Deliver d) channel_act.Deliver
own_act e (act.Send c) d =
    act_where (not (is_of_records c) && may_act e (channel_act.Send c) d) (channel_act.Send c)
own_act e a d = None

abbrev pub sent_or : Option Command → Option ChannelAct → Option ChannelAct
sent_or None own = own
sent_or (Some c) own = Some (channel_act.Send c)

-- what an act is of its channel, where it can be taken
abbrev pub call_of : {K : Type 0} → End → Act → World K → Option ChannelAct
call_of e a w = sent_or (command_of e a w) (own_act e a w.dispatchers)

-- the number by which an act is to resume what is held, where the end is there
abbrev pub resumed_at : {K : Type 0} → End → Act → Dispatchers K → Option ℕ
resumed_at e (act.Resume n v) d = option_map (λ x. n) (end_at e d)
resumed_at e a d = None

abbrev pub resumes : ℕ → ChannelAct
resumes n = channel_act.Send (command.Resume n mark.None)

-- and where it isn't begun: nothing is decided then, and any decision of that event serves
abbrev pub unbegun : {K : Type 0} → End → Act → World K → Option ChannelAct
unbegun e act.Decide w = option_map (λ x. channel_act.Send (command.Decide x.0 mark.None)) (waiting e w.dispatchers)
unbegun e (act.Resume n v) w = option_map resumes (resumed_at e (act.Resume n v) w.dispatchers)
unbegun e a w = call_of e a w

-- the book that is asked then
abbrev pub asked_unbegun : {K : Type 0} → End → Act → World K → Option Book
asked_unbegun e act.Decide w = None
asked_unbegun e (act.Resume n v) w = None
asked_unbegun e a w = asked e a w

-- A node stops after an act. A book that knows of nothing that is held so refuses to resume it, and the node stops all
-- the same: nothing is done then.
abbrev pub stops_behind : {K : Type 0} {k : Ghosts K} → End → Option ChannelAct → Option ℕ → Option (DispatchStep K k)
stops_behind e (Some x) n = Some (dispatcher_step.StopAfter e x)
stops_behind e None n = option_map (λ i. dispatcher_step.StopBefore e (resumes i)) n

-- ---- the steps of dispatchers that a step is: none where it is about books alone, or can't be taken

abbrev pub plain : {K : Type 0} → (k : Ghosts K) → Step K k → World K → Option (DispatchStep K k)
plain k (step.Fees n fees) w = Some (dispatcher_step.Fees n fees)
plain k (step.Limits n limits) w = Some (dispatcher_step.Limits n limits)
plain k (step.Policy n policy) w = None
plain k (step.Height n height) w = None
plain k (step.Expect n invoice) w = None
plain k (step.Open o) w = Some (dispatcher_step.Open o)
plain k (step.Do e a) w = option_map (λ x. dispatcher_step.Do e x) (call_of e a w)
plain k (step.Down e) w = Some (dispatcher_step.Down e)
plain k (step.NoMemory e a) w = option_map (λ x. dispatcher_step.NoMemory e x) (unbegun e a w)
plain k (step.Restart n) w = Some (dispatcher_step.Restart n)
plain k (step.Reload e) w = Some (dispatcher_step.Reload e)
plain k (step.StopBefore e a) w = option_map (λ x. dispatcher_step.StopBefore e x) (unbegun e a w)
plain k (step.StopAfter e a) w = stops_behind e (call_of e a w) (resumed_at e a w.dispatchers)
plain k (step.Up n) w = Some (dispatcher_step.Up n)
plain k (step.Dispatch e) w = Some (dispatcher_step.Dispatch e)
plain k (step.Register e hook) w = Some (dispatcher_step.Register e hook)

abbrev pub moved_by : {K : Type 0} → (k : Ghosts K) → Verdict → Option (DispatchStep K k) → Dispatchers K
    → Dispatchers K
moved_by k v None d = d
moved_by k v (Some s) d = dispatchers.happens k v s d

-- what they tell; nothing could be done where there is none
abbrev pub lines_by : {K : Type 0} → (k : Ghosts K) → Verdict → Option (DispatchStep K k) → Dispatchers K → List Line
lines_by k v None d = line.Idle ∷ []
lines_by k v (Some s) d = dispatchers.step_lines k v s d

-- ---- what a step makes of the books: before the step of dispatchers, and after it

-- something is entered in a node's book
abbrev pub entered : Node → Entry → List NodeBook → List NodeBook
entered n x xs = changed n (λ b. with_book (with_entry x b.book) b) xs

-- no block has a greater height than 400,000,000
abbrev pub is_height : ℕ → Bool
is_height height = nat_le height 400000000

abbrev pub with_height : Node → ℕ → List NodeBook → List NodeBook
with_height n height xs = if is_height height then entered n (entry.Height height) xs else xs

abbrev pub prepared : {K : Type 0} {k : Ghosts K} → Step K k → World K → List NodeBook
prepared (step.Policy n policy) w = changed n (with_policy policy) w.nodes
prepared (step.Height n height) w = with_height n height w.nodes
prepared (step.Expect n invoice) w = entered n (entry.Expect invoice) w.nodes
prepared (step.Do e a) w = handed_out e (asked e a w) w.nodes
prepared (step.NoMemory e a) w = handed_out e (asked_unbegun e a w) w.nodes
prepared (step.StopBefore e a) w = handed_out e (asked_unbegun e a w) w.nodes
prepared (step.StopAfter e a) w = handed_out e (asked e a w) w.nodes
prepared s w = w.nodes

-- what the books have to do after a step: routes and use can change in these alone

abbrev pub asks_by : Option Command → ℕ → Option PendingAnswer
asks_by None next = None
asks_by (Some c) next = Some (record { command_subject = command_subject next c; noted = noted_of c })

-- what can't be resumed is refused by the book
abbrev pub refusing : End → Option ℕ → FollowUp
refusing e None = follow_up.None
refusing e (Some n) = follow_up.Refuse e

-- an end that acts: how many events it has told, and what its book has asked of it
abbrev pub acting : {K : Type 0} → End → Option Command → Option ChannelAct → Option ℕ → Dispatchers K → FollowUp
acting e c None n d = refusing e n
acting e c (Some x) n d = follow_up.Act e (event_count (end_at e d)) (asks_by c (next_id (end_at e d)))

abbrev pub if_begun : Option ChannelAct → FollowUp → FollowUp
if_begun None x = follow_up.None
if_begun (Some a) x = x

abbrev pub if_stopped : Option ChannelAct → Option ℕ → FollowUp → FollowUp
if_stopped (Some a) n x = x
if_stopped None (Some n) x = x
if_stopped None None x = follow_up.None

abbrev pub if_height : ℕ → Node → FollowUp
if_height height n = if is_height height then follow_up.Set n else follow_up.None

-- an end reloads: it comes back from its record where it has halted
abbrev pub coming_back : {K : Type 0} → End → Option (State K) → FollowUp
coming_back e None = follow_up.None
coming_back e (Some l) = if l.halted then follow_up.Disconnected e else follow_up.None

abbrev pub is_take : Act → Bool
is_take act.Take = true
is_take a = false

abbrev pub follow_up_of : {K : Type 0} {k : Ghosts K} → Step K k → World K → FollowUp
follow_up_of (step.Policy n policy) w = follow_up.Set n
follow_up_of (step.Height n height) w = if_height height n
follow_up_of (step.Expect n invoice) w = follow_up.Set n
follow_up_of (step.Do e a) w = acting e (command_of e a w) (call_of e a w) (resumed_at e a w.dispatchers) w.dispatchers
follow_up_of (step.Down e) w = follow_up.Disconnected e
follow_up_of (step.NoMemory e a) w = if_begun (unbegun e a w) (follow_up.Halt e (is_take a))
follow_up_of (step.Restart n) w = follow_up.Restart n
follow_up_of (step.Reload e) w = coming_back e (link_at e w.dispatchers.channels.channels)
follow_up_of (step.StopBefore e a) w = if_begun (unbegun e a w) (follow_up.Restart e.node)
follow_up_of (step.StopAfter e a) w = if_stopped (call_of e a w) (resumed_at e a w.dispatchers)
    (follow_up.Restart e.node)
follow_up_of (step.Up n) w = follow_up.Meet n
follow_up_of s w = follow_up.None

-- a node's book changes so, and follows the node's ends
abbrev pub follows : {K : Type 0} → Node → (Book → Book) → Dispatchers K → List NodeBook → List NodeBook
follows n f new xs = changed n (λ x. followed new.channels.channels (with_book (f x.book) x)) xs

-- the book is told the answer to the command that it has handed out for the end
abbrev pub answered : End → Option PendingAnswer → List Line → Book → Book
answered e None told b = b
answered e (Some a) told b = replied (id_of e) (answer_by a.command_subject told) b

-- and what the end has come to hold
abbrev pub reported : {K : Type 0} → End → ℕ → Option PendingAnswer → List Line → Dispatchers K → Book → Book
reported e before a told new b = with_held (id_of e) before (end_at e new) (answered e a told b)

-- one that has halted leaves its command in the book: it answers 62
abbrev pub unanswered : End → Bool → Book → Book
unanswered e out b = if out then replied (id_of e) (Err 62) b else b

-- what an end has kept, after a lost connection or a reload
abbrev pub saved_dropped : End → Option ChannelEnd → Book → Book
saved_dropped e None b = b
saved_dropped e (Some x) b = with_dropped (id_of e) x b

-- of one that has halted nothing is known before its node restarts
abbrev pub dropped : {K : Type 0} → End → State K → Book → Book
dropped e l b = if l.halted then b else saved_dropped e (saved_end l.stage) b

abbrev pub disconnected : {K : Type 0} → End → Dispatchers K → Option (State K) → List NodeBook → List NodeBook
disconnected e new None xs = xs
disconnected e new (Some l) xs = follows e.node (dropped e l) new xs

-- the node's book begins anew with what its ends have, and follows them
abbrev pub restarted : {K : Type 0} → Node → Dispatchers K → List NodeBook → List NodeBook
restarted n new xs = changed n (λ x. followed new.channels.channels (begun_anew new.channels.channels x)) xs

-- both nodes' books follow
abbrev pub met : {K : Type 0} → Dispatchers K → Option (WorldChannel K) → List NodeBook → List NodeBook
met new None xs = xs
met new (Some c) xs =
    changed c.fundee (followed new.channels.channels) (changed c.funder (followed new.channels.channels) xs)

-- where dispatchers are so after the step, and these lines were told of it
abbrev pub concluded : {K : Type 0} → FollowUp → List Line → Dispatchers K → List NodeBook → List NodeBook
concluded follow_up.None told new xs = xs
concluded (follow_up.Set n) told new xs = changed n (followed new.channels.channels) xs
concluded (follow_up.Act e before a) told new xs = follows e.node (reported e before a told new) new xs
concluded (follow_up.Disconnected e) told new xs = disconnected e new (link_at e new.channels.channels) xs
concluded (follow_up.Halt e out) told new xs = follows e.node (unanswered e out) new xs
concluded (follow_up.Refuse e) told new xs = xs
concluded (follow_up.Restart n) told new xs = restarted n new xs
concluded (follow_up.Meet n) told new xs = met new (channel n new.channels.channels) xs

-- ---- what a step makes of all; the hooks say v of an event that is dispatched in it

abbrev pub happens : {K : Type 0} → (k : Ghosts K) → Verdict → Step K k → World K → World K
happens k v s w =
    let new = moved_by k v (plain k s w) w.dispatchers in
    let told = lines_by k v (plain k s w) w.dispatchers in
    record { dispatchers = new; nodes = concluded (follow_up_of s w) told new (prepared s w) }

-- steps, each with what the hooks say in it
abbrev pub run : {K : Type 0} → (k : Ghosts K) → List (Step K k × Verdict) → World K → World K
run k [] w = w
run k (s ∷ ss) w = run k ss (happens k s.1 s.0 w)

-- the steps of dispatchers that they are
abbrev pub with_verdict : {K : Type 0} {k : Ghosts K} → Verdict → Option (DispatchStep K k)
    → Option (DispatchStep K k × Verdict)
with_verdict v None = None
with_verdict v (Some s) = Some (s, v)

abbrev pub plains : {K : Type 0} → (k : Ghosts K) → List (Step K k × Verdict) → World K
    → List (DispatchStep K k × Verdict)
plains k [] w = []
plains k (s ∷ ss) w = cons_option (with_verdict s.1 (plain k s.0 w)) (plains k ss (happens k s.1 s.0 w))

-- ---- what is told of a step, in the world before it

-- an end that takes a decision tells of that alone
abbrev pub decided_lines : End → Option PendingAnswer → List Line → List Line
decided_lines e None told = []
decided_lines e (Some a) told = decided_line e a.noted (answer_by a.command_subject told)

-- where the step of dispatchers told these lines; what is set for a node is told by none
abbrev pub tells : FollowUp → List Line → List Line
tells (follow_up.Set n) told = []
tells (follow_up.Refuse e) told = line.Refused e refusal.NotReady ∷ []
tells (follow_up.Act e before a) told = told ++ decided_lines e a told
tells x told = told

abbrev pub step_lines : {K : Type 0} → (k : Ghosts K) → Verdict → Step K k → World K → List Line
step_lines k v s w = tells (follow_up_of s w) (lines_by k v (plain k s w) w.dispatchers)

abbrev pub run_lines : {K : Type 0} → (k : Ghosts K) → List (Step K k × Verdict) → World K → List Line
run_lines k [] w = []
run_lines k (s ∷ ss) w = step_lines k s.1 s.0 w ++ run_lines k ss (happens k s.1 s.0 w)

-- ---- by what a step may fail

abbrev pub MayFailBy : {K : Type 0} → (k : Ghosts K) → Option (DispatchStep K k) → Refusal → Dispatchers K → Type 0
MayFailBy k None r d = r ≡ refusal.Memory
MayFailBy k (Some s) r d = (r ≡ refusal.Memory) ⊎ dispatchers.MayFail k s r d

abbrev pub MayFail : {K : Type 0} → (k : Ghosts K) → Step K k → Refusal → World K → Type 0
MayFail k s r w = MayFailBy k (plain k s w) r w.dispatchers

-- one of the steps, in the world before it
abbrev pub SomeMayFail : {K : Type 0} → (k : Ghosts K) → List (Step K k × Verdict) → Refusal → World K → Type 0
SomeMayFail k [] r w = ⊥
SomeMayFail k (s ∷ ss) r w = MayFail k s.0 r w ⊎ SomeMayFail k ss r (happens k s.1 s.0 w)
