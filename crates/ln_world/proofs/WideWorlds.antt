-- What a world has is as wide as in code over every list of steps that bring what is, and so is each command that a
-- book gives a channel.
use Rattle.std.proofs.Common.{◌≡◌, ◌-◌, ℕ, List, [], ◌∷◌, ◌++◌, length, take, map, replicate, refl, sym}
use Rattle.std.proofs.Common.{subst, arith, length-append, Bool, not, ◌&&◌, nat_le}
use Rattle.std.proofs.Common.{Option, Some, None, is_some, option_map, Result, Err}
use Rattle.std.proofs.Common.{◌/◌, ◌%◌, slice_index}
use Rattle.std.specs.Prelude.{bit_xor}
use Rattle.std.proofs.lemmas.List.{length-replicate, length-take-le}
use Rattle.std.specs.List.{cons_option}
use Rattle.ln_keys.specs.declared.keys.ChannelKeys.{Ghosts}
use Rattle.ln_keys.specs.declared.role.Role.{Role}
use Rattle.ln_hooks.specs.declared.event.ChannelEvent.{ChannelEvent}
use Rattle.ln_log.specs.declared.mark.Mark.{Mark}
use Rattle.ln_hooks.specs.declared.verdict.Verdict.{Verdict}
use Rattle.ln_channel.specs.declared.command.Command.{Command}
use Rattle.ln_channel.specs.End.{End as ChannelEnd}
use Rattle.ln_channel.specs.Record.{saved_end}
use Rattle.ln_channel.specs.State.{State}
use Rattle.ln_channel.specs.Step.{is_of_records}
use Rattle.ln_book_tables.specs.declared.entry.Out.{Out}
use Rattle.ln_book_tables.specs.declared.entry.PendingCommand.{PendingCommand as OutCommand}
use Rattle.ln_book_tables.specs.declared.entry.PendingCommand.TheVariants as out_command
use Rattle.ln_book_tables.specs.declared.entry.Entry.{Entry}
use Rattle.ln_book_tables.specs.declared.entry.Entry.TheVariants as entry
use Rattle.ln_history.specs.History.{with_entry}
use Rattle.ln_book_tables.specs.Replay.{table_of, pending_command_at as out_command_at}
use Rattle.ln_channel_laws.specs.Widths.{IsMark, IsCommand}
use Rattle.ln_channel_laws.proofs.Offered.{All, all-append, all-when, Where}
use Rattle.ln_book.specs.Commands.{with_taken, with_answered}
use Rattle.ln_book.specs.Marks.{offer_of, resumption}
use Rattle.ln_world_channels.specs.declared.line.Line.{Line}
use Rattle.ln_world_channels.specs.declared.step.Act.{Act as ChannelAct}
use Rattle.ln_world_channels.specs.declared.step.Act.TheVariants as channel_act
use Rattle.ln_world_channels.specs.declared.step.Node.{Node}
use Rattle.ln_world_channels.specs.declared.step.End.{End}
use Rattle.ln_world_channels.specs.declared.step.Step.{Step as ChannelStep}
use Rattle.ln_world_channels.specs.declared.step.Step.TheVariants as channel_step
use Rattle.ln_world_channels.specs.Settings.{channel_id_of, txid_of}
use Rattle.ln_world_channels.specs.WorldChannel.{WorldChannel, is_node, side_of}
use Rattle.ln_world_channels.specs.World.{World as Channels, channel, may_open}
use Rattle.ln_world_channels.specs.World as channels
use Rattle.ln_world_channels.specs.Promises.{Each}
use Rattle.ln_world_channels.specs.Records as record_of
use Rattle.ln_world_dispatch.specs.declared.step.Step.{Step as DispatchStep}
use Rattle.ln_world_dispatch.specs.declared.step.Step.TheVariants as dispatcher_step
use Rattle.ln_world_dispatch.specs.Dispatcher.{Epoch, Dispatcher, next, serving, registered, dispatcher_at}
use Rattle.ln_world_dispatch.specs.Dispatcher.{at_dispatcher, is_at}
use Rattle.ln_world_dispatch.specs.Dispatcher.{restarted as dispatcher_restarted}
use Rattle.ln_world_dispatch.specs.World.{World as Dispatchers, item, is_dispatched, may_act, saved_in}
use Rattle.ln_world_dispatch.specs.World.{undecided_of, event_for, numbered_for, next_event, both_of, served_in}
use Rattle.ln_world_dispatch.specs.World.{waiting_of}
use Rattle.ln_world_dispatch.specs.World.{waiting_for, waiting, new_dispatchers, restarts, may_register, served_at}
use Rattle.ln_world_dispatch.specs.World.{dispatchers_by}
use Rattle.ln_world_dispatch.specs.World as dispatchers
use Rattle.ln_world.specs.declared.step.Act.{Act}
use Rattle.ln_world.specs.declared.step.Act.TheVariants as act
use Rattle.ln_world.specs.declared.step.Step.{Step}
use Rattle.ln_world.specs.declared.step.Step.TheVariants as step
use Rattle.ln_world.specs.declared.follow_up.PendingAnswer.{PendingAnswer}
use Rattle.ln_world.specs.declared.follow_up.FollowUp.{FollowUp}
use Rattle.ln_world.specs.declared.follow_up.FollowUp.TheVariants as follow_up
use Rattle.ln_world.specs.declared.node.NodeBook.{NodeBook}
use Rattle.ln_world.specs.Node.{Book, services, new_node, node_at, changed, with_policy, with_book}
use Rattle.ln_world.specs.BookReports.{answer_by}
use Rattle.ln_world.specs.Follow.{followed, begun_anew}
use Rattle.ln_world.specs.World.{World, id_of, link_by, link_there, link_at, saved_of, end_at, book_of, first_in}
use Rattle.ln_world.specs.World.{command_in, handed, with_decision, deciding, asked, command_by, command_of}
use Rattle.ln_world.specs.World.{handed_out, own_act, sent_or, call_of, unbegun, asked_unbegun, plain}
use Rattle.ln_world.specs.World.{moved_by, lines_by, entered, with_height, is_height, prepared, follow_up_of, follows}
use Rattle.ln_world.specs.World.{answered, reported, unanswered, saved_dropped, dropped, disconnected, met}
use Rattle.ln_world.specs.World.{concluded, happens, with_verdict, plains}
use Rattle.ln_world.specs.World.{with_resumed, resuming, resumed_at, stops_behind}
use Rattle.ln_world.specs.Records.{IsAct, IsStep, AreWorldSteps}
use Rattle.ln_world.proofs.WideTables.{IsEntry, either, where-either, first_so}
use Rattle.ln_world.proofs.WideMarks.{IsEvent, nexts_so, failure_short, offer_so, decision_so}
use Rattle.ln_world.proofs.WideMarks.{resumption_so}
use Rattle.ln_world.proofs.WideReadings.{IsEnd, all-item, undecided_so, IsBook, entered_so, held_so}
use Rattle.ln_world.proofs.WideReadings.{IsState, AreEnds, at_side, channel_so, followed_so, begun_so}

-- ---- nodes and their books

abbrev pub IsNode : NodeBook → Type 0
IsNode x = IsBook x.book

new_so : (n : Node) → IsNode (new_node n)
new_so n = record { routes = tt; expected = tt; queue = tt; htlcs = tt }

node_so : (n : Node) (xs : List NodeBook) → All IsNode xs → IsNode (node_at n xs)
node_so n [] h = new_so n
node_so n (x ∷ xs) h = either IsNode (is_node x.node n) x (node_at n xs) h.0 (node_so n xs h.1)

changed_so : (n : Node) (f : NodeBook → NodeBook) → ((x : NodeBook) → IsNode x → IsNode (f x)) → (xs : List NodeBook)
    → All IsNode xs → All IsNode (changed n f xs)
changed_so n f keeps [] h = (keeps (new_node n) (new_so n), tt)
changed_so n f keeps (x ∷ xs) h =
    all-when IsNode (is_node x.node n) (f x ∷ xs) (x ∷ changed n f xs) (keeps x h.0, h.1)
    (h.0, changed_so n f keeps xs h.1)

-- something is entered in a node's book
entering_so : (n : Node) (x : Entry) (xs : List NodeBook) → IsEntry x → All IsNode xs → All IsNode (entered n x xs)
entering_so n x xs is h =
    changed_so n (λ b. with_book (with_entry x b.book) b) (λ b g. entered_so x b.book is g) xs h

height_so : (n : Node) (height : ℕ) (xs : List NodeBook) → All IsNode xs → All IsNode (with_height n height xs)
height_so n height xs h =
    all-when IsNode (is_height height) (entered n (entry.Height height) xs) xs
    (entering_so n (entry.Height height) xs tt h) h

-- the id of a channel has 32 bytes
pub id_so : (n : ℕ) → length (channel_id_of n) ≡ 32
unfolding channel_id_of
id_so n =
    let txid : length (txid_of n) ≡ 32 =
    omega (arith, length-append (replicate 31 0) (n ∷ []), length-replicate {A = ℕ} 31 0) in
    let front = length-take-le 30 (txid_of n) (omega (arith, txid)) in
    let last = bit_xor (slice_index (txid_of n) 30) (0 / 256) ∷ bit_xor (slice_index (txid_of n) 31) (0 % 256) ∷ [] in
    omega (arith, length-append (take 30 (txid_of n)) last, front)

-- ---- what a book is asked

first_is : (e : End) (b : Book) → IsBook b → Where (λ (x : Out × Command). IsCommand x.1) (first_in e b)
first_is e b h = first_so services nexts_so (id_of e) (table_of b) h

behind_out : (o : Option (Out × Command)) → Where (λ (x : Out × Command). IsCommand x.1) o
    → Where IsCommand (option_map (λ (x : Out × Command). x.1) o)
behind_out None h = tt
behind_out (Some x) h = h

command_so : (e : End) (b : Book) → IsBook b → Where IsCommand (command_in e b)
command_so e b h = behind_out (first_in e b) (first_is e b h)

taken_so : (c : List ℕ) (o : Option (Out × Command)) (b : Book) → IsBook b → IsBook (with_taken c o b)
taken_so c None b h = h
taken_so c (Some x) b h = entered_so (entry.Taken c x.0) b tt h

handed_so : (e : End) (b : Book) → IsBook b → IsBook (handed e b)
handed_so e b h = taken_so (id_of e) (first_in e b) b h

abbrev IsWaiting : ℕ × ChannelEvent × Verdict → Type 0
IsWaiting x = IsEvent x.1

decided_so : (e : End) (x : ℕ × ChannelEvent × Verdict) (b : Book) → IsWaiting x → IsBook b
    → IsBook (with_decision e x b)
decided_so e x b is h =
    entered_so (entry.Decided _) b
    (decision_so services (λ _. failure_short) (table_of b) (id_of e) x.0 (offer_of x.1) x.2 (id_so e.channel) h
    (offer_so x.1 is)) h

deciding_so : (e : End) (o : Option (ℕ × ChannelEvent × Verdict)) (b : Book) → Where IsWaiting o → IsBook b
    → Where IsBook (deciding e o b)
deciding_so e None b is h = tt
deciding_so e (Some x) b is h = decided_so e x b is h

resumed_so : (e : End) (n : ℕ) (o : Option Mark) (b : Book) → Where IsMark o → IsBook b
    → Where IsBook (option_map (with_resumed e n b) o)
resumed_so e n None b is h = tt
resumed_so e n (Some m) b is h = entered_so (entry.Resumed _) b is h

resuming_so : (e : End) (n : ℕ) (v : Verdict) (b : Book) → IsBook b → Where IsBook (resuming e n v b)
resuming_so e n v b h =
    resumed_so e n (resumption services (table_of b) (id_of e) n v) b
    (resumption_so services (λ _. failure_short) (table_of b) (id_of e) n v h) h

by_so : (e : End) (o : Option Book) → Where IsBook o → Where IsCommand (command_by e o)
by_so e None h = tt
by_so e (Some b) h = command_so e b h

handed_out_so : (e : End) (o : Option Book) (xs : List NodeBook) → Where IsBook o → All IsNode xs
    → All IsNode (handed_out e o xs)
handed_out_so e None xs is h = h
handed_out_so e (Some b) xs is h = changed_so e.node (with_book (handed e b)) (λ x g. handed_so e b is) xs h

-- ---- what a book hears

with_answered_so : (c : List ℕ) (a : Result ℕ ℕ) (d : OutCommand) (b : Book) → IsBook b → IsBook (with_answered c a d b)
with_answered_so c a out_command.Idle b h = h
with_answered_so c a (out_command.InFlight o) b h = entered_so (entry.Answered c a) b tt h
with_answered_so c a (out_command.Unknown o) b h = h

unanswered_so : (e : End) (out : Bool) (b : Book) → IsBook b → IsBook (unanswered e out b)
unanswered_so e out b h =
    let d = out_command_at (id_of e) (table_of b) in
    either IsBook out (with_answered (id_of e) (Err 62) d b) b (with_answered_so (id_of e) (Err 62) d b h) h

saved_dropped_so : (e : End) (o : Option ChannelEnd) (b : Book) → IsBook b → IsBook (saved_dropped e o b)
saved_dropped_so e None b h = h
saved_dropped_so e (Some x) b h = entered_so (entry.Dropped (id_of e) _) b tt h

-- ---- dispatchers

abbrev pub IsServing : Dispatcher → Type 0
IsServing d = All IsEvent d.epoch.served

dispatcher_so : (e : End) (ds : List Dispatcher) → All IsServing ds → Where IsServing (dispatcher_at e ds)
dispatcher_so e [] h = tt
dispatcher_so e (d ∷ ds) h = where-either IsServing (is_at e d) (Some d) (dispatcher_at e ds) h.0
    (dispatcher_so e ds h.1)

abbrev IsServed : ChannelEvent × Verdict → Type 0
IsServed p = IsEvent p.0

both_so : (x : Option ChannelEvent) (y : Option Verdict) → Where IsEvent x
    → Where IsServed (both_of x y)
both_so None None h = tt
both_so None (Some v) h = tt
both_so (Some x) None h = tt
both_so (Some x) (Some v) h = h

served_so : (n : ℕ) (l : Epoch) → All IsEvent l.served → Where IsServed (served_in n l)
served_so n l h =
    let o = both_of (item (n - l.start) l.served) (item (n - l.start) l.said) in
    where-either IsServed (nat_le l.start n) o None
    (both_so (item (n - l.start) l.served) (item (n - l.start) l.said) (all-item IsEvent (n - l.start) l.served h)) tt

numbered_so : (n : ℕ) (o : Option (ChannelEvent × Verdict)) → Where IsServed o
    → Where IsWaiting (option_map (λ (p : ChannelEvent × Verdict). (n, p.0, p.1)) o)
numbered_so n None h = tt
numbered_so n (Some p) h = h

waiting_of_so : (l : Epoch) (o : Option ChannelEnd) → All IsEvent l.served → Where IsWaiting (waiting_of l o)
waiting_of_so l None h = tt
waiting_of_so l (Some e) h =
    let n = e.ledger.decided in numbered_so n (served_in n l) (served_so n l h)

undecided_of_so : (n : ℕ) (o : Option ChannelEnd) → Where IsEnd o → Where IsEvent (undecided_of n o)
undecided_of_so n None h = tt
undecided_of_so n (Some e) h = undecided_so n e h

abbrev IsNumbered : ℕ × ChannelEvent → Type 0
IsNumbered p = IsEvent p.1

with_number : (n : ℕ) (o : Option ChannelEvent) → Where IsEvent o
    → Where IsNumbered (option_map (λ (x : ChannelEvent). (n, x)) o)
with_number n None h = tt
with_number n (Some x) h = h

at_dispatcher_so : (e : End) (f : Dispatcher → Dispatcher) → ((d : Dispatcher) → IsServing d → IsServing (f d))
    → (ds : List Dispatcher)
    → All IsServing ds → All IsServing (at_dispatcher e f ds)
at_dispatcher_so e f keeps [] h = tt
at_dispatcher_so e f keeps (d ∷ ds) h =
    all-when IsServing (is_at e d) (f d ∷ ds) (d ∷ at_dispatcher e f ds) (keeps d h.0, h.1)
    (h.0, at_dispatcher_so e f keeps ds h.1)

served_at_so : (e : End) (v : Verdict) (o : Option (ℕ × ChannelEvent)) (ds : List Dispatcher) → Where IsNumbered o
    → All IsServing ds → All IsServing (served_at e v o ds)
served_at_so e v None ds is h = h
served_at_so e v (Some p) ds is h =
    at_dispatcher_so e (serving p.1 v) (λ d g. all-append IsEvent d.epoch.served (p.1 ∷ []) g (is, tt)) ds h

sent_so : (o : Option Command) (own : Option ChannelAct) → Where IsCommand o → Where record_of.IsAct own
    → Where record_of.IsAct (sent_or o own)
sent_so None own h g = g
sent_so (Some c) own h g = h

module _ {K : Type 0} where
  -- ---- the ends of channels

  saved_in_so : (side : Role) (o : Option (WorldChannel K)) → Where AreEnds o → Where IsEnd (saved_in side o)
  saved_in_so side None h = tt
  saved_in_so side (Some c) h = at_side side c h

  next_for : (o : Option Dispatcher) (w : Channels K) → All AreEnds w.channels → Where IsNumbered (numbered_for o w)
  next_for None w h = tt
  next_for (Some d) w h =
      let c = channel d.end.channel w.channels in
      with_number (next d.epoch) (event_for d w) (undecided_of_so (next d.epoch) (saved_in d.side c)
      (saved_in_so d.side c (channel_so d.end.channel w.channels h)))

  waits_for : (o : Option Dispatcher) (w : Channels K) → Where IsServing o → Where IsWaiting (waiting_for o w)
  waits_for None w h = tt
  waits_for (Some d) w h = waiting_of_so d.epoch (saved_in d.side (channel d.end.channel w.channels)) h

  link_by_so : (c : WorldChannel K) (o : Option Role) → AreEnds c → Where IsState (link_by c o)
  link_by_so c None h = tt
  link_by_so c (Some side) h = at_side side c h

  link_there_so : (n : Node) (o : Option (WorldChannel K)) → Where AreEnds o → Where IsState (link_there n o)
  link_there_so n None h = tt
  link_there_so n (Some c) h = link_by_so c (side_of n c) h

  link_so : (e : End) (cs : List (WorldChannel K)) → All AreEnds cs → Where IsState (link_at e cs)
  link_so e cs h = link_there_so e.node (channel e.channel cs) (channel_so e.channel cs h)

  saved_so : (o : Option (State K)) → Where IsState o → Where IsEnd (saved_of o)
  saved_so None h = tt
  saved_so (Some l) h = h

  -- ---- a world

  pub record IsWide (w : World K) : Type 0 where
    pub channels : All AreEnds w.dispatchers.channels.channels
    pub served : All IsServing w.dispatchers.dispatchers
    pub nodes : All IsNode w.nodes

  book_so : (e : End) (w : World K) → IsWide w → IsBook (book_of e w.nodes)
  book_so e w h = node_so e.node w.nodes h.nodes

  waiting_so : (e : End) (w : World K) → IsWide w → Where IsWaiting (waiting e w.dispatchers)
  waiting_so e w h = waits_for (dispatcher_at e w.dispatchers.dispatchers) w.dispatchers.channels
      (dispatcher_so e w.dispatchers.dispatchers h.served)

  asked_so : (e : End) (a : Act) (w : World K) → IsWide w → Where IsBook (asked e a w)
  asked_so e act.Deliver w h = tt
  asked_so e (act.Send c) w h = tt
  asked_so e act.Take w h =
      where-either IsBook (is_some (end_at e w.dispatchers)) (Some (book_of e w.nodes)) None (book_so e w h) tt
  asked_so e act.Decide w h =
      deciding_so e (waiting e w.dispatchers) (book_of e w.nodes) (waiting_so e w h) (book_so e w h)
  asked_so e (act.Resume n v) w h =
      where-either IsBook (is_some (end_at e w.dispatchers)) (resuming e n v (book_of e w.nodes)) None
      (resuming_so e n v (book_of e w.nodes) (book_so e w h)) tt

  unbegun_so : (e : End) (a : Act) (w : World K) → IsWide w → Where IsBook (asked_unbegun e a w)
  unbegun_so e act.Deliver w h = tt
  unbegun_so e (act.Send c) w h = tt
  unbegun_so e act.Take w h = asked_so e act.Take w h
  unbegun_so e act.Decide w h = tt
  unbegun_so e (act.Resume n v) w h = tt

  -- ---- what an act is of its channel

  own_so : (e : End) (a : Act) (d : Dispatchers K) → IsAct a → Where record_of.IsAct (own_act e a d)
  own_so e act.Deliver d is =
      where-either record_of.IsAct (may_act e channel_act.Deliver d) (Some channel_act.Deliver) None tt tt
  own_so e (act.Send c) d is =
      where-either record_of.IsAct (not (is_of_records c) && may_act e (channel_act.Send c) d)
      (Some (channel_act.Send c)) None is tt
  own_so e act.Take d is = tt
  own_so e act.Decide d is = tt
  own_so e (act.Resume n v) d is = tt

  call_so : (e : End) (a : Act) (w : World K) → IsAct a → IsWide w → Where record_of.IsAct (call_of e a w)
  call_so e a w is h =
      sent_so (command_of e a w) (own_act e a w.dispatchers) (by_so e (asked e a w) (asked_so e a w h))
      (own_so e a w.dispatchers is)

module _ {K : Type 0} (k : Ghosts K) where
  -- ---- the step of channels that a step is

  -- what a step of dispatchers brings
  abbrev Brings : DispatchStep K k → Type 0
  Brings (dispatcher_step.Fees n fees) = Unit {0}
  Brings (dispatcher_step.Do e a) = record_of.IsAct a
  Brings (dispatcher_step.SaveFails e a left) = record_of.IsAct a
  Brings (dispatcher_step.StopAfter e a) = record_of.IsAct a
  Brings s = Unit {0}

  done_so : (e : End) (o : Option ChannelAct) → Where record_of.IsAct o
      → Where Brings (option_map (λ (x : ChannelAct). dispatcher_step.Do e x) o)
  done_so e None h = tt
  done_so e (Some x) h = h

  stopped_so : (e : End) (o : Option ChannelAct) (n : Option ℕ) → Where record_of.IsAct o
      → Where Brings (stops_behind e o n)
  stopped_so e None None h = tt
  stopped_so e None (Some n) h = tt
  stopped_so e (Some x) n h = h

  unmade_so : (e : End) (o : Option ChannelAct)
      → Where Brings (option_map (λ (x : ChannelAct). dispatcher_step.NoMemory e x) o)
  unmade_so e None = tt
  unmade_so e (Some x) = tt

  before_so : (e : End) (o : Option ChannelAct)
      → Where Brings (option_map (λ (x : ChannelAct). dispatcher_step.StopBefore e x) o)
  before_so e None = tt
  before_so e (Some x) = tt

  plain_so : (s : Step K k) (w : World K) → IsStep k s → IsWide w → Where Brings (plain k s w)
  plain_so (step.Fees n fees) w is h = tt
  plain_so (step.Limits n limits) w is h = is
  plain_so (step.Policy n policy) w is h = tt
  plain_so (step.Height n height) w is h = tt
  plain_so (step.Expect n invoice) w is h = tt
  plain_so (step.Open o) w is h = is
  plain_so (step.Do e a) w is h = done_so e (call_of e a w) (call_so e a w is h)
  plain_so (step.Down e) w is h = tt
  plain_so (step.NoMemory e a) w is h = unmade_so e (unbegun e a w)
  plain_so (step.Restart n) w is h = tt
  plain_so (step.Reload e) w is h = tt
  plain_so (step.StopBefore e a) w is h = before_so e (unbegun e a w)
  plain_so (step.StopAfter e a) w is h = stopped_so e (call_of e a w) (resumed_at e a w.dispatchers)
      (call_so e a w is h)
  plain_so (step.Up n) w is h = tt
  plain_so (step.Dispatch e) w is h = tt
  plain_so (step.Register e hook) w is h = tt

  abbrev OfChannels : ChannelStep K k → Type 0
  OfChannels s = record_of.IsStep k s

  dispatcher_plain_so : (s : DispatchStep K k) (d : Dispatchers K) → Brings s
      → Where OfChannels (dispatchers.plain k s d)
  dispatcher_plain_so (dispatcher_step.Fees n fees) d is = tt
  dispatcher_plain_so (dispatcher_step.Limits n limits) d is = is
  dispatcher_plain_so (dispatcher_step.Open o) d is = is
  dispatcher_plain_so (dispatcher_step.Do e a) d is =
      where-either OfChannels (is_dispatched e a d) (Some (channel_step.Do e a)) None is tt
  dispatcher_plain_so (dispatcher_step.Down e) d is = tt
  dispatcher_plain_so (dispatcher_step.NoMemory e a) d is =
      where-either OfChannels (is_dispatched e a d) (Some (channel_step.NoMemory e a)) None tt tt
  dispatcher_plain_so (dispatcher_step.SaveFails e a left) d is =
      where-either OfChannels (is_dispatched e a d) (Some (channel_step.SaveFails e a left)) None is tt
  dispatcher_plain_so (dispatcher_step.Restart n) d is = tt
  dispatcher_plain_so (dispatcher_step.Reload e) d is = tt
  dispatcher_plain_so (dispatcher_step.StopBefore e a) d is =
      where-either OfChannels (is_dispatched e a d) (Some (channel_step.StopBefore e a)) None tt tt
  dispatcher_plain_so (dispatcher_step.StopAfter e a) d is =
      where-either OfChannels (is_dispatched e a d) (Some (channel_step.StopAfter e a)) None is tt
  dispatcher_plain_so (dispatcher_step.Up n) d is = tt
  dispatcher_plain_so (dispatcher_step.Dispatch e) d is = tt
  dispatcher_plain_so (dispatcher_step.Register e hook) d is = tt

  -- ---- dispatchers after a step

  restarts_so : (n : Node) (w : Channels K) (ds : List Dispatcher) → All IsServing ds
      → All IsServing (map (restarts n w) ds)
  restarts_so n w [] h = tt
  restarts_so n w (d ∷ ds) h =
      let anew = dispatcher_restarted (dispatchers.decided_for d w) d in
      (either IsServing (is_node d.end.node n) anew d tt h.0, restarts_so n w ds h.1)

  dispatchers_so : (v : Verdict) (s : DispatchStep K k) (d : Dispatchers K) (new : Channels K)
      → All AreEnds d.channels.channels
      → All IsServing d.dispatchers → All IsServing (dispatchers_by k v s d new)
  dispatchers_so v (dispatcher_step.Fees n fees) d new c h = h
  dispatchers_so v (dispatcher_step.Limits n limits) d new c h = h
  dispatchers_so v (dispatcher_step.Open o) d new c h =
      all-when IsServing (may_open o d.channels) (d.dispatchers
      ++ new_dispatchers o.channel o.funder o.fundee) d.dispatchers
      (all-append IsServing d.dispatchers (new_dispatchers o.channel o.funder o.fundee) h (tt, (tt, tt))) h
  dispatchers_so v (dispatcher_step.Do e a) d new c h = h
  dispatchers_so v (dispatcher_step.Down e) d new c h = h
  dispatchers_so v (dispatcher_step.NoMemory e a) d new c h = h
  dispatchers_so v (dispatcher_step.SaveFails e a left) d new c h = h
  dispatchers_so v (dispatcher_step.Reload e) d new c h = h
  dispatchers_so v (dispatcher_step.Restart n) d new c h = restarts_so n new d.dispatchers h
  dispatchers_so v (dispatcher_step.StopBefore e a) d new c h =
      all-when IsServing (may_act e a d) (map (restarts e.node new) d.dispatchers) d.dispatchers
      (restarts_so e.node new d.dispatchers h) h
  dispatchers_so v (dispatcher_step.StopAfter e a) d new c h =
      all-when IsServing (may_act e a d) (map (restarts e.node new) d.dispatchers) d.dispatchers
      (restarts_so e.node new d.dispatchers h) h
  dispatchers_so v (dispatcher_step.Up n) d new c h = h
  dispatchers_so v (dispatcher_step.Dispatch e) d new c h =
      served_at_so e v (next_event e d) d.dispatchers (next_for (dispatcher_at e d.dispatchers) d.channels c) h
  dispatchers_so v (dispatcher_step.Register e hook) d new c h =
      all-when IsServing (may_register e hook d) (at_dispatcher e (registered hook) d.dispatchers) d.dispatchers
      (at_dispatcher_so e (registered hook) (λ x g. g) d.dispatchers h) h

  moved_so : (v : Verdict) (o : Option (DispatchStep K k)) (d : Dispatchers K) → All AreEnds d.channels.channels
      → All IsServing d.dispatchers → All IsServing (moved_by k v o d).dispatchers
  moved_so v None d c h = h
  moved_so v (Some s) d c h = dispatchers_so v s d (dispatchers.moved_by k (dispatchers.plain k s d) d.channels) c h

  -- ---- books before it

  prepared_so : (s : Step K k) (w : World K) → IsStep k s → IsWide w → All IsNode (prepared s w)
  prepared_so (step.Fees n fees) w is h = h.nodes
  prepared_so (step.Limits n limits) w is h = h.nodes
  prepared_so (step.Policy n policy) w is h = changed_so n (with_policy policy) (λ x g. g) w.nodes h.nodes
  prepared_so (step.Height n height) w is h = height_so n height w.nodes h.nodes
  prepared_so (step.Expect n invoice) w is h =
      entering_so n (entry.Expect invoice) w.nodes is h.nodes
  prepared_so (step.Open o) w is h = h.nodes
  prepared_so (step.Do e a) w is h = handed_out_so e (asked e a w) w.nodes (asked_so e a w h) h.nodes
  prepared_so (step.Down e) w is h = h.nodes
  prepared_so (step.NoMemory e a) w is h =
      handed_out_so e (asked_unbegun e a w) w.nodes (unbegun_so e a w h) h.nodes
  prepared_so (step.Restart n) w is h = h.nodes
  prepared_so (step.Reload e) w is h = h.nodes
  prepared_so (step.StopBefore e a) w is h =
      handed_out_so e (asked_unbegun e a w) w.nodes (unbegun_so e a w h) h.nodes
  prepared_so (step.StopAfter e a) w is h = handed_out_so e (asked e a w) w.nodes (asked_so e a w h) h.nodes
  prepared_so (step.Up n) w is h = h.nodes
  prepared_so (step.Dispatch e) w is h = h.nodes
  prepared_so (step.Register e hook) w is h = h.nodes

  -- ---- and after it

  answered_so : (e : End) (a : Option PendingAnswer) (told : List Line) (b : Book) → IsBook b
      → IsBook (answered e a told b)
  answered_so e None told b h = h
  answered_so e (Some a) told b h =
      with_answered_so (id_of e) (answer_by a.command_subject told) (out_command_at (id_of e) (table_of b)) b h

  heard_so : (e : End) (before : ℕ) (a : Option PendingAnswer) (told : List Line) (new : Dispatchers K) (b : Book)
      → All AreEnds new.channels.channels → IsBook b → IsBook (reported e before a told new b)
  heard_so e before a told new b c h =
      held_so (id_of e) before (end_at e new) (answered e a told b)
      (saved_so (link_at e new.channels.channels) (link_so e new.channels.channels c)) (answered_so e a told b h)

  follows_so : (n : Node) (f : Book → Book) (new : Dispatchers K) (xs : List NodeBook)
      → ((b : Book) → IsBook b → IsBook (f b)) → All AreEnds new.channels.channels → All IsNode xs
      → All IsNode (follows n f new xs)
  follows_so n f new xs keeps c h =
      changed_so n (λ x. followed new.channels.channels (with_book (f x.book) x))
      (λ x g. followed_so new.channels.channels (with_book (f x.book) x) c (keeps x.book g)) xs h

  dropped_so : (e : End) (l : State K) (b : Book) → IsBook b → IsBook (dropped e l b)
  dropped_so e l b h = either IsBook l.halted b (saved_dropped e (saved_end l.stage) b) h
      (saved_dropped_so e (saved_end l.stage) b h)

  fallen_so : (e : End) (new : Dispatchers K) (o : Option (State K)) (xs : List NodeBook)
      → All AreEnds new.channels.channels → All IsNode xs → All IsNode (disconnected e new o xs)
  fallen_so e new None xs c h = h
  fallen_so e new (Some l) xs c h = follows_so e.node (dropped e l) new xs (dropped_so e l) c h

  set_so : (n : Node) (new : Dispatchers K) (xs : List NodeBook) → All AreEnds new.channels.channels → All IsNode xs
      → All IsNode (changed n (followed new.channels.channels) xs)
  set_so n new xs c h =
      changed_so n (followed new.channels.channels) (λ x g. followed_so new.channels.channels x c g) xs h

  met_so : (new : Dispatchers K) (o : Option (WorldChannel K)) (xs : List NodeBook) → All AreEnds new.channels.channels
      → All IsNode xs → All IsNode (met new o xs)
  met_so new None xs c h = h
  met_so new (Some x) xs c h =
      set_so x.fundee new (changed x.funder (followed new.channels.channels) xs) c (set_so x.funder new xs c h)

  concluded_so : (x : FollowUp) (told : List Line) (new : Dispatchers K) (xs : List NodeBook)
      → All AreEnds new.channels.channels → All IsNode xs → All IsNode (concluded x told new xs)
  concluded_so follow_up.None told new xs c h = h
  concluded_so (follow_up.Set n) told new xs c h = set_so n new xs c h
  concluded_so (follow_up.Act e before a) told new xs c h =
      follows_so e.node (reported e before a told new) new xs (λ b g. heard_so e before a told new b c g) c h
  concluded_so (follow_up.Disconnected e) told new xs c h = fallen_so e new (link_at e new.channels.channels) xs c h
  concluded_so (follow_up.Halt e out) told new xs c h =
      follows_so e.node (unanswered e out) new xs (λ b g. unanswered_so e out b g) c h
  concluded_so (follow_up.Refuse e) told new xs c h = h
  concluded_so (follow_up.Restart n) told new xs c h =
      let cs = new.channels.channels in
      changed_so n (λ x. followed cs (begun_anew cs x))
      (λ x g. followed_so cs (begun_anew cs x) c (begun_so cs x c g)) xs h
  concluded_so (follow_up.Meet n) told new xs c h = met_so new (channel n new.channels.channels) xs c h

  -- ---- a step

  pub happens_so : (v : Verdict) (s : Step K k) (w : World K) → IsStep k s → IsWide w
      → All AreEnds (happens k v s w).dispatchers.channels.channels → IsWide (happens k v s w)
  happens_so v s w is h c = record {
    channels = c;
    served = moved_so v (plain k s w) w.dispatchers h.channels h.served;
    nodes = concluded_so (follow_up_of s w) (lines_by k v (plain k s w) w.dispatchers) (moved_by k v
        (plain k s w) w.dispatchers)
        (prepared s w) c (prepared_so s w is h);
  }

  -- ---- steps

  each_cons : (P : ChannelStep K k → Type 0) (o : Option (ChannelStep K k)) (xs : List (ChannelStep K k))
      → Where P o → Each P xs → Each P (cons_option o xs)
  each_cons P None xs h g = g
  each_cons P (Some x) xs h g = (h, g)

  -- the step of channels that a step of dispatchers is, if there is one
  abbrev of_dispatchers : Option (DispatchStep K k) → Dispatchers K → Option (ChannelStep K k)
  of_dispatchers None d = None
  of_dispatchers (Some s) d = dispatchers.plain k s d

  of_dispatchers_so : (o : Option (DispatchStep K k)) (d : Dispatchers K) → Where Brings o
      → Where OfChannels (of_dispatchers o d)
  of_dispatchers_so None d h = tt
  of_dispatchers_so (Some s) d h = dispatcher_plain_so s d h

  one_more : (v : Verdict) (o : Option (DispatchStep K k)) (ss : List (DispatchStep K k × Verdict)) (d : Dispatchers K)
      → dispatchers.plains k (cons_option (with_verdict v o) ss) d
      ≡ cons_option (of_dispatchers o d) (dispatchers.plains k ss (moved_by k v o d))
  one_more v None ss d = refl
  one_more v (Some s) ss d = refl

  -- where the ends of channels stay wide over wide steps of channels
  module _ (Fit : Channels K → Type 0)
      (keeps : (s : ChannelStep K k) (w : Channels K) → OfChannels s → Fit w → Fit (channels.happens k s w))
      (ends : (w : Channels K) → Fit w → All AreEnds w.channels) where
    stays_by : (o : Option (ChannelStep K k)) (w : Channels K) → Where OfChannels o → Fit w
        → Fit (dispatchers.moved_by k o w)
    stays_by None w is h = h
    stays_by (Some s) w is h = keeps s w is h

    stays : (v : Verdict) (o : Option (DispatchStep K k)) (d : Dispatchers K)
        → Where OfChannels (of_dispatchers o d) → Fit d.channels → Fit (moved_by k v o d).channels
    stays v None d is h = h
    stays v (Some s) d is h = stays_by (dispatchers.plain k s d) d.channels is h

    pub steps_so : (ss : List (Step K k × Verdict)) (w : World K)
        → AreWorldSteps k ss → Fit w.dispatchers.channels → IsWide w
        → Each OfChannels (dispatchers.plains k (plains k ss w) w.dispatchers)
    steps_so [] w is fit h = tt
    steps_so (s ∷ ss) w is fit h =
        let o = plain k s.0 w in
        let d = w.dispatchers in
        let x = of_dispatchers o d in
        let new = happens k s.1 s.0 w in
        let rest = dispatchers.plains k (plains k ss new) new.dispatchers in
        let e = one_more s.1 o (plains k ss new) d in
        let wide : Where OfChannels x = of_dispatchers_so o d (plain_so s.0 w is.0 h) in
        let fit_next : Fit new.dispatchers.channels =
        stays s.1 o d wide fit in
        let next : IsWide new = happens_so s.1 s.0 w is.0 h (ends new.dispatchers.channels fit_next) in
        subst (λ l. Each OfChannels l) (sym e)
        (each_cons OfChannels x rest wide (steps_so ss new is.1 fit_next next))
