-- The turns of a worker, one after the other, and the events that are put for its dispatcher.
use Rattle.std.specs.Prelude.{◌≡◌, ◌⊎◌, ℕ, List, [], ◌∷◌, ◌++◌, Option, Some, None, Result, Ok, Err, Bool, true, false}
use Rattle.std.specs.Prelude.{if◌then◌else◌, nat_lt, ◌||◌, ◌&&◌, not, ⊤}
use Rattle.ln_msgs.specs.declared.messages.message.Message.{Message}
use Rattle.ln_refusals.specs.declared.refusal.Refusal.{Refusal}
use Rattle.ln_refusals.specs.declared.refusal.Refusal.TheVariants as refusal
use Rattle.ln_hooks.specs.declared.event.ChannelEvent.{ChannelEvent}
use Rattle.ln_channel.specs.declared.command.Command.{Command}
use Rattle.ln_channel.specs.declared.command.Command.TheVariants as command
use Rattle.ln_channel.specs.declared.output.Output.{Output}
use Rattle.ln_channel.specs.declared.output.Output.TheVariants as output
use Rattle.ln_book.specs.declared.switch.saying.Saying.{Saying}
use Rattle.ln_book.specs.Alone.{is_books}
use Rattle.ln_book.specs.Answers.{command_subject, answer_to, waits}
use Rattle.ln_book.specs.Seen.{Seen, channel_of, next_htlc}
use Rattle.ln_node_loops.specs.Reserved.{is_reserved}
use Rattle.ln_node_loops.specs.Owed.{owed, asked}
use Rattle.ln_node_loops.specs.Orders.{Reply, subject_in, reply_of, replies_to}
use Rattle.ln_node_loops.specs.declared.noted.Noted.{Noted}
use Rattle.ln_node_loops.specs.declared.noted.Noted.TheVariants.{Tells}
use Rattle.ln_node_loops.specs.Noted.{meets, became, became_unless, awaits_init}
use Rattle.ln_node_loops.specs.declared.notice.Notice.TheVariants as notice
use Rattle.ln_node_loops.specs.declared.features.PeerFeatures.{PeerFeatures}
use Rattle.ln_node_loops.specs.declared.item.Item.{Item}
use Rattle.ln_node_loops.specs.declared.item.Item.TheVariants as item
use Rattle.ln_node_loops.specs.declared.task.Task.{Task}
use Rattle.ln_node_loops.specs.declared.task.Task.TheVariants as task
use Rattle.ln_node_loops.specs.declared.worker.Phase.{Phase}
use Rattle.ln_node_loops.specs.declared.worker.Phase.TheVariants.{Unconnected}
use Rattle.ln_node_loops.specs.Act.{Act}
use Rattle.ln_node_loops.specs.Act as act
use Rattle.ln_node_loops.specs.Connection.{Latest, Open, is_open, closed}
use Rattle.ln_node_loops.specs.Turn.{IsTurn, IsObeyed}
use Rattle.ln_node_loops.specs.Phase.{is_served, PassesOver, begun, is_over, is_lost, unless_over, kept_connection}
use Rattle.ln_node_loops.specs.Phase.{met_by}

-- ---- turns

-- who gives a command: the book, a user by an order, or the worker itself
pub data Giver : Type 0 where
  OfBook : Giver
  OfUser : Giver
  OfWorker : Giver

module _ {S : Type 0} (owes : S → Bool) where
  -- what is reserved for the book isn't ordered; by itself a worker only signs, where its end owes a signature
  abbrev pub MayGive : S → Giver → Command → Type 0
  MayGive s OfBook c = ⊤
  MayGive s OfUser c = is_reserved c ≡ false
  MayGive s OfWorker c = (c ≡ command.Sign) × (owes s ≡ true)

-- one turn of a worker, whose relay has items with writers W
pub data Turn (W : Type 0) : Type 0 where
  Serves : (i : Item W) (outputs : List Output) (answer : Result (Unit {0}) Refusal) → Turn W
  Passes : (i : Item W) → Turn W
  Obeys : (by : Giver) (c : Command) (outputs : List Output) (answer written : Result (Unit {0}) Refusal) → Turn W
  Loads : (pending : List (ℕ × ChannelEvent)) → Turn W
  StaysHalted : (r : Refusal) → Turn W
  Rests : (allowed : Bool) → Turn W

-- an item that is served; an order is obeyed
abbrev pub served_turn : {W : Type 0} → Item W → List Output → (answer written : Result (Unit {0}) Refusal) → Turn W
served_turn (item.Joined w) os a b = Serves (item.Joined w) os a
served_turn (item.Read m) os a b = Serves (item.Read m) os a
served_turn item.Broken os a b = Serves item.Broken os a
served_turn (item.Order c) os a b = Obeys OfUser c os a b
served_turn item.Stop os a b = Serves item.Stop os a

abbrev pub turn_of : {W : Type 0} → Bool → Item W → List Output → (answer written : Result (Unit {0}) Refusal) → Turn W
turn_of true i os a b = served_turn i os a b
turn_of false i os a b = Passes i

-- an order that is passed over is refused (40), and nothing else is
abbrev pub Declines : {W : Type 0} → Item W → Result (Unit {0}) Refusal → Type 0
Declines (item.Joined w) a = a ≡ Ok tt
Declines (item.Read m) a = a ≡ Ok tt
Declines item.Broken a = a ≡ Ok tt
Declines (item.Order c) a = a ≡ Err refusal.NotReady
Declines item.Stop a = a ≡ Ok tt

abbrev pub load_of : {W : Type 0} → Result (Unit {0}) Refusal → List (ℕ × ChannelEvent) → Turn W
load_of (Ok u) es = Loads es
load_of (Err r) es = StaysHalted r

-- the events that are pending after a load; none after one that is refused
abbrev pub told_after : Result (Unit {0}) Refusal → List (ℕ × ChannelEvent) → List (ℕ × ChannelEvent)
told_after (Ok u) es = es
told_after (Err r) es = []

-- the item of a turn, with what greets the peer in the place of its writer
abbrev pub greets : {W : Type 0} → Message → Item W → Item Message
greets g (item.Joined w) = item.Joined g
greets g (item.Read m) = item.Read m
greets g item.Broken = item.Broken
greets g (item.Order c) = item.Order c
greets g item.Stop = item.Stop

-- what a worker stands for: its end, how far its connection is, and the latest one, with what was written to it
pub record Stand (S : Type 0) : Type 0 where
  pub end : S
  pub phase : Phase
  pub connection : Latest

-- what was written as an item comes
abbrev pub joined_connection : {W : Type 0} → (W → Option (List ℕ)) → Latest → Item W → Latest
joined_connection contents connection (item.Joined w) = Open (record { bytes = contents w; failed = 0 })
joined_connection contents connection (item.Read m) = connection
joined_connection contents connection item.Broken = connection
joined_connection contents connection (item.Order c) = connection
joined_connection contents connection item.Stop = connection

module _ {S : Type 0} (halted : S → Bool) where
  -- what is left of a connection after a turn
  abbrev pub Leaves : Phase → Bool → Latest → Stand S → Type 0
  Leaves p over connection s' =
      (s'.phase ≡ unless_over (over || halted s'.end) p) × (s'.connection ≡ kept_connection s'.phase connection)

module _ {S W : Type 0} (acts : S → Act → Result (List Output) Refusal → S → Type 0) (halted : S → Bool)
    (pending : S → List (ℕ × ChannelEvent)) (owes : S → Bool) (contents : W → Option (List ℕ)) (own_init : Message)
    (peer : PeerFeatures) where
  -- An item is served or passed over, a command of the book, an order or the worker's own is obeyed, or a halted end
  -- comes back from its record, or can't. Or there was nothing to do: it rests where it isn't to sign by itself, or
  -- where no signature is owed.
  -- Each turn appends to what the one before has left on the connection. A turn that couldn't write all cuts it off: it
  -- is closed, and nothing is written until the next one joins.
  abbrev pub Step : Stand S → Turn W → Stand S → Type 0
  Step s (Serves i os a) s' =
      (is_served s.phase i ≡ true) × (connection : Latest)
      × IsTurn acts s.end (greets own_init i) os a s'.end (joined_connection contents
      (kept_connection s.phase s.connection) i) connection
      × Leaves halted (begun s.phase i) (is_over i a) connection s'
  Step s (Passes i) s' =
      (is_served s.phase i ≡ false) × (s'.end ≡ s.end) × PassesOver peer s.phase i s'.phase
      × (s'.connection ≡ kept_connection s'.phase s.connection)
  Step s (Obeys by c os a w) s' =
      MayGive owes s.end by c × (connection : Latest)
      × IsObeyed acts s.end c os a w s'.end (kept_connection s.phase s.connection) connection
      × Leaves halted s.phase (is_lost w) connection s'
  Step s (Loads es) s' =
      (halted s.end ≡ true) × acts s.end act.Loads (Ok []) s'.end × (es ≡ pending s'.end) × (s'.phase ≡ Unconnected)
      × (s'.connection ≡ closed s.connection)
  Step s (StaysHalted r) s' =
      (halted s.end ≡ true) × acts s.end act.Loads (Err r) s'.end × (s'.phase ≡ s.phase)
      × (s'.connection ≡ s.connection)
  Step s (Rests allowed) s' = ((allowed && owes s.end) ≡ false) × (s' ≡ s)

-- ---- events

-- the events among outputs, each with its number
abbrev pub events : List Output → List (ℕ × ChannelEvent)
events [] = []
events (output.Send m ∷ os) = events os
events (output.Signed n ∷ os) = events os
events (output.Committed own peer ∷ os) = events os
events (output.Event n e ∷ os) = (n, e) ∷ events os
events (output.Closed fee ∷ os) = events os

-- ---- what is told

-- the events that a turn tells of: those of its outputs, or those that are pending after a load
abbrev pub told : {W : Type 0} → Turn W → List (ℕ × ChannelEvent)
told (Serves i os a) = events os
told (Passes i) = []
told (Obeys by c os a w) = events os
told (Loads es) = es
told (StaysHalted r) = []
told (Rests allowed) = []

-- what one turn tells of: the channel, once both have signed its opening, the events, the reply to an order, and what
-- is noted for whoever watches
abbrev pub News : Type 0
News = Option (List ℕ) × List (ℕ × ChannelEvent) × List Reply × List Noted

-- the events of all turns
abbrev pub told_in : List News → List (ℕ × ChannelEvent)
told_in [] = []
told_in ((c, es, rs, qs) ∷ ns) = es ++ told_in ns

-- the replies of all turns
abbrev pub replies_in : List News → List Reply
replies_in [] = []
replies_in ((c, es, rs, qs) ∷ ns) = rs ++ replies_in ns

-- what is noted of all turns
abbrev pub noted_in : List News → List Noted
noted_in [] = []
noted_in ((c, es, rs, qs) ∷ ns) = qs ++ noted_in ns

module _ {S W : Type 0} (seen : S → Option Seen) where
  -- what is replied for a turn, by the end before it: one that is reserved for the book is no order (40)
  abbrev pub replies : S → Turn W → List Reply
  replies s (Serves i os a) = []
  replies s (Passes i) = replies_to (subject_in 0 i) (Err refusal.NotReady)
  replies s (Obeys OfBook c os a w) = []
  replies s (Obeys OfUser c os a w) = reply_of (command_subject (next_htlc (seen s)) c) a ∷ []
  replies s (Obeys OfWorker c os a w) = []
  replies s (Loads es) = []
  replies s (StaysHalted r) = []
  replies s (Rests allowed) = []

-- ---- what is noted

-- by which init a peer is met; nobody is by an item that is served
abbrev pub met_in : {W : Type 0} → Bool → Phase → Item W → Phase → Option Message
met_in true p i p' = None
met_in false p i p' = met_by p i p'

module _ {S W : Type 0} (halted : S → Bool) (seen : S → Option Seen) where
  -- what is noted of a turn
  abbrev pub notes : Stand S → Turn W → Stand S → List Noted
  notes s (Serves i os a) s' = became (awaits_init s.phase) (halted s.end) a s'.phase (halted s'.end)
  notes s (Passes i) s' =
      meets (met_by s.phase i s'.phase)
      ++ became (awaits_init s.phase) (halted s.end) (Ok tt) s'.phase (halted s'.end)
  notes s (Obeys OfBook c os a w) s' =
      became_unless (waits (answer_to (command_subject (next_htlc (seen s.end)) c) a)) (halted s.end) a s'.phase
      (halted s'.end)
  notes s (Obeys OfUser c os a w) s' = became (awaits_init s.phase) (halted s.end) w s'.phase (halted s'.end)
  notes s (Obeys OfWorker c os a w) s' = became false (halted s.end) a s'.phase (halted s'.end)
  notes s (Loads es) s' = Tells notice.Loaded ∷ []
  notes s (StaysHalted r) s' = []
  notes s (Rests allowed) s' = []

-- ---- what is owed to the book

-- where an end has lost its connection and hasn't halted, what it has kept is told; of one that has halted it is known
-- once it is loaded
abbrev pub drops : {W : Type 0} → Item W → Bool → Bool
drops (item.Joined w) halted = false
drops (item.Read m) halted = false
drops item.Broken halted = not halted
drops (item.Order c) halted = false
drops item.Stop halted = false

module _ {S W : Type 0} (halted : S → Bool) (seen : S → Option Seen) where
  -- what is said to the book for a turn
  abbrev pub says : S → Turn W → S → List Saying
  says s (Serves i os a) s' = owed (seen s') (drops i (halted s')) (events os)
  says s (Passes i) s' = owed (seen s') false []
  says s (Obeys OfBook c os a w) s' = asked (seen s) c a ++ owed (seen s') false (events os)
  says s (Obeys OfUser c os a w) s' = owed (seen s') false (events os)
  says s (Obeys OfWorker c os a w) s' = owed (seen s') false (events os)
  says s (Loads es) s' = owed (seen s') true es
  says s (StaysHalted r) s' = []
  says s (Rests allowed) s' = []

-- whether a load was tried
abbrev pub is_load : {W : Type 0} → Turn W → Bool
is_load (Serves i os a) = false
is_load (Passes i) = false
is_load (Obeys by c os a w) = false
is_load (Loads es) = true
is_load (StaysHalted r) = true
is_load (Rests allowed) = false

-- Nothing is taken from the relay for an end that has halted, unless its load was tried directly before.
abbrev pub may_come : {W : Type 0} → Bool → Bool → Turn W → Bool
may_come tried halted (Serves i os a) = tried || not halted
may_come tried halted (Passes i) = tried || not halted
may_come tried halted (Obeys OfBook c os a w) = true
may_come tried halted (Obeys OfUser c os a w) = tried || not halted
may_come tried halted (Obeys OfWorker c os a w) = true
may_come tried halted (Loads es) = true
may_come tried halted (StaysHalted r) = true
may_come tried halted (Rests allowed) = true

module _ {S W : Type 0} (acts : S → Act → Result (List Output) Refusal → S → Type 0) (halted : S → Bool)
    (pending : S → List (ℕ × ChannelEvent)) (owes : S → Bool) (seen : S → Option Seen) (contents : W → Option (List ℕ))
    (own_init : Message) (peer : PeerFeatures) where
  -- The turns lead from one stand to the other, these things are said to the book for them, in order, and they tell of
  -- these events, each turn of those of the channel that its end has then, of these replies and notes. Whether a load
  -- was tried directly before stands first.
  abbrev pub Leads : Bool → Stand S → List (Turn W) → List Saying → List News → Stand S → Type 0
  Leads tried s [] words news s' = (s' ≡ s) × (words ≡ []) × (news ≡ [])
  Leads tried s (t ∷ ts) words news s' =
      (mid : Stand S) × (rest : List Saying) × (later : List News)
      × Step acts halted pending owes contents own_init peer s t mid × (may_come tried (halted s.end) t ≡ true)
      × (words ≡ says halted seen s.end t mid.end ++ rest)
      × (news ≡ (channel_of (seen mid.end), told t, replies seen s.end t, notes halted seen s t mid) ∷ later)
      × Leads (is_load t) mid ts rest later s'

-- the items of turns
abbrev pub items_of : {W : Type 0} → List (Turn W) → List (Item W)
items_of [] = []
items_of (Serves i os a ∷ ts) = i ∷ items_of ts
items_of (Passes i ∷ ts) = i ∷ items_of ts
items_of (Obeys OfBook c os a w ∷ ts) = items_of ts
items_of (Obeys OfUser c os a w ∷ ts) = item.Order c ∷ items_of ts
items_of (Obeys OfWorker c os a w ∷ ts) = items_of ts
items_of (Loads es ∷ ts) = items_of ts
items_of (StaysHalted r ∷ ts) = items_of ts
items_of (Rests allowed ∷ ts) = items_of ts

-- ---- what a worker does by itself

-- what it was told as it asked whether it is to sign by itself: it has signed, or it rests
abbrev pub asks : {W : Type 0} → Turn W → List Bool
asks (Serves i os a) = []
asks (Passes i) = []
asks (Obeys OfBook c os a w) = []
asks (Obeys OfUser c os a w) = []
asks (Obeys OfWorker c os a w) = true ∷ []
asks (Loads es) = []
asks (StaysHalted r) = []
asks (Rests allowed) = allowed ∷ []

abbrev pub asked_in : {W : Type 0} → List (Turn W) → List Bool
asked_in [] = []
asked_in (t ∷ ts) = asks t ++ asked_in ts

abbrev pub is_idle : {W : Type 0} → Turn W → Bool
is_idle (Serves i os a) = false
is_idle (Passes i) = false
is_idle (Obeys OfBook c os a w) = false
is_idle (Obeys OfUser c os a w) = false
is_idle (Obeys OfWorker c os a w) = true
is_idle (Loads es) = false
is_idle (StaysHalted r) = false
is_idle (Rests allowed) = true

-- it signs by itself or rests only where its relay was empty, after these items and those of the turns before
abbrev pub FindsNone : {W : Type 0} → (List (Item W) → Type 0) → List (Item W) → List (Turn W) → Type 0
FindsNone empty taken [] = ⊤
FindsNone empty taken (t ∷ ts) =
    (is_idle t ≡ true → empty taken) × FindsNone empty (taken ++ items_of (t ∷ [])) ts

-- ---- who removes and forwards

-- the book alone: no command of a user, and none that a worker gives by itself, does so
abbrev pub RemoveByBookAlone : {W : Type 0} → List (Turn W) → Type 0
RemoveByBookAlone [] = ⊤
RemoveByBookAlone (Serves i os a ∷ ts) = RemoveByBookAlone ts
RemoveByBookAlone (Passes i ∷ ts) = RemoveByBookAlone ts
RemoveByBookAlone (Obeys by c os a w ∷ ts) = (is_books c ≡ true → by ≡ OfBook) × RemoveByBookAlone ts
RemoveByBookAlone (Loads es ∷ ts) = RemoveByBookAlone ts
RemoveByBookAlone (StaysHalted r ∷ ts) = RemoveByBookAlone ts
RemoveByBookAlone (Rests allowed ∷ ts) = RemoveByBookAlone ts

-- ---- connections

-- none is open, and so nothing is written
abbrev pub IsCutOff : {S : Type 0} → Stand S → Type 0
IsCutOff s = (s.phase ≡ Unconnected) × (is_open s.connection ≡ false)

-- whether it cuts the connection off, as it couldn't write all or as the end takes none or comes back
abbrev pub cuts_off : {W : Type 0} → Turn W → Bool
cuts_off (Serves i os a) = is_over i a
cuts_off (Passes i) = false
cuts_off (Obeys by c os a w) = is_lost w
cuts_off (Loads es) = true
cuts_off (StaysHalted r) = false
cuts_off (Rests allowed) = false

abbrev pub is_joined : {W : Type 0} → Item W → Bool
is_joined (item.Joined w) = true
is_joined (item.Read m) = false
is_joined item.Broken = false
is_joined (item.Order c) = false
is_joined item.Stop = false

-- no connection is among them
abbrev pub JoinNone : {W : Type 0} → List (Item W) → Type 0
JoinNone [] = ⊤
JoinNone (i ∷ is) = (is_joined i ≡ false) × JoinNone is

-- this number is above the last
abbrev pub is_new : Option ℕ → ℕ → Bool
is_new None n = true
is_new (Some last) n = nat_lt last n

-- of these events those that weren't put yet: whose numbers are above all that were put, one by one
abbrev pub fresh : Option ℕ → List (ℕ × ChannelEvent) → List (ℕ × ChannelEvent)
fresh last [] = []
fresh last ((n, e) ∷ es) = if is_new last n then (n, e) ∷ fresh (Some n) es else fresh last es

-- the last number that was put
abbrev pub last_of : Option ℕ → List (ℕ × ChannelEvent) → Option ℕ
last_of last [] = last
last_of last ((n, e) ∷ es) = if is_new last n then last_of (Some n) es else last_of last es

-- the tasks of a channel's events
abbrev pub tasks : {H : Type 0} → Option (List ℕ) → List (ℕ × ChannelEvent) → List (Task H)
tasks c [] = []
tasks c ((n, e) ∷ es) = task.Event c n e ∷ tasks c es

-- those of what turns tell of and wasn't put yet
abbrev pub tasks_of : {H : Type 0} → Option ℕ → List News → List (Task H)
tasks_of last [] = []
tasks_of last ((c, es, rs, qs) ∷ ns) = tasks c (fresh last es) ++ tasks_of (last_of last es) ns

-- these tasks are these events, in order, each with some channel
abbrev pub AreEvents : {H : Type 0} → List (Task H) → List (ℕ × ChannelEvent) → Type 0
AreEvents [] es = es ≡ []
AreEvents (task.Event c n e ∷ ts) es = (rest : List (ℕ × ChannelEvent)) × (es ≡ (n, e) ∷ rest) × AreEvents ts rest
AreEvents (task.Register h ∷ ts) es = ⊥
AreEvents (task.Stop ∷ ts) es = ⊥

-- ---- a worker between its relay, its dispatcher and the book

-- what it stands for, the last number that it has put, what its seats have taken and put, what it has said to the book
-- and noted beside it, what it has replied to orders, and what it was told as it asked whether it is to sign by itself
pub record LoopState (S W H : Type 0) : Type 0 where
  pub stand : Stand S
  pub last : Option ℕ
  pub taken : List (Item W)
  pub put : List (Task H)
  pub said : List Saying
  pub noted : List Noted
  pub replied : List Reply
  pub allowed : List Bool

abbrev pub is_stop : {W : Type 0} → Item W → Bool
is_stop (item.Joined w) = false
is_stop (item.Read m) = false
is_stop item.Broken = false
is_stop (item.Order c) = false
is_stop item.Stop = true

-- none of them is Stop
abbrev pub NoneStops : {W : Type 0} → List (Item W) → Type 0
NoneStops [] = ⊤
NoneStops (i ∷ is) = (is_stop i ≡ false) × NoneStops is

-- what was taken since then has no Stop
abbrev pub TakesNoStop : {W : Type 0} → List (Item W) → List (Item W) → Type 0
TakesNoStop {W} taken taken' = (items : List (Item W)) × NoneStops items × (taken' ≡ taken ++ items)

-- what was taken since then ends with its first Stop
abbrev pub StopsAtOnce : {W : Type 0} → List (Item W) → List (Item W) → Type 0
StopsAtOnce {W} taken taken' =
    (before : List (Item W)) × TakesNoStop taken before × (taken' ≡ before ++ item.Stop ∷ [])

module _ {S W H : Type 0} (acts : S → Act → Result (List Output) Refusal → S → Type 0) (halted : S → Bool)
    (pending : S → List (ℕ × ChannelEvent)) (owes : S → Bool) (seen : S → Option Seen) (contents : W → Option (List ℕ))
    (own_init : Message) (peer : PeerFeatures) where
  pub record OneTurn (a : LoopState S W H) (t : Turn W) (b : LoopState S W H) : Type 0 where
    pub step : Step acts halted pending owes contents own_init peer a.stand t b.stand
    pub took : b.taken ≡ a.taken ++ items_of (t ∷ [])
    pub put : b.put ≡ a.put ++ tasks (channel_of (seen b.stand.end)) (fresh a.last (told t))
    pub last : b.last ≡ last_of a.last (told t)
    pub spoke : b.said ≡ a.said ++ says halted seen a.stand.end t b.stand.end
    pub noted : b.noted ≡ a.noted ++ notes halted seen a.stand t b.stand
    pub replied : b.replied ≡ a.replied ++ replies seen a.stand.end t
    pub allowed : b.allowed ≡ a.allowed ++ asks t

  -- A halted end was to be loaded: it hadn't halted, and nothing was done; or its load was tried.
  abbrev pub ReloadsIfHalted : LoopState S W H → LoopState S W H → Type 0
  ReloadsIfHalted a b =
      ((halted a.stand.end ≡ false) × (b ≡ a))
      ⊎ ((t : Turn W) × (is_load t ≡ true) × OneTurn a t b)

module _ {S W H : Type 0} (acts : S → Act → Result (List Output) Refusal → S → Type 0) (halted : S → Bool)
    (pending : S → List (ℕ × ChannelEvent)) (owes : S → Bool) (seen : S → Option Seen) (contents : W → Option (List ℕ))
    (own_init : Message) (peer : PeerFeatures) (empty : List (Item W) → Type 0) where
  -- Turns led from one state of the loop to the other: their items are those that were taken, in order; put were, once
  -- each, by
  -- channel and number, the events that they told of; said was to the book what they owe it; noted was what has become
  -- of the end and its connections; replied was to each order, in their order; and it signed by itself where it was
  -- told that it is to, with nothing in its relay.
  pub record Ran (tried : Bool) (a b : LoopState S W H) : Type 0 where
    pub turns : List (Turn W)
    pub words : List Saying
    pub news : List News
    pub leads : Leads acts halted pending owes seen contents own_init peer tried a.stand turns words news b.stand
    pub took : b.taken ≡ a.taken ++ items_of turns
    pub put : b.put ≡ a.put ++ tasks_of a.last news
    pub last : b.last ≡ last_of a.last (told_in news)
    pub spoke : b.said ≡ a.said ++ words
    pub noted : b.noted ≡ a.noted ++ noted_in news
    pub replied : b.replied ≡ a.replied ++ replies_in news
    pub allowed : b.allowed ≡ a.allowed ++ asked_in turns
    pub idle : FindsNone empty a.taken turns

  -- The book was told what has become of HTLCs by the events that were pending at first, and which payments the end
  -- takes; the events were put; and then turns led on, until Stop was taken.
  pub record Began (a b : LoopState S W H) : Type 0 where
    pub mid : LoopState S W H
    pub same_stand : mid.stand ≡ a.stand
    pub took_nothing : mid.taken ≡ a.taken
    pub noted_nothing : mid.noted ≡ a.noted
    pub replied_nothing : mid.replied ≡ a.replied
    pub asked_nothing : mid.allowed ≡ a.allowed
    pub put_pending : mid.put
        ≡ a.put ++ tasks (channel_of (seen a.stand.end)) (fresh a.last (pending a.stand.end))
    pub last_pending : mid.last ≡ last_of a.last (pending a.stand.end)
    pub told_pending : mid.said ≡ a.said ++ owed (seen a.stand.end) false (pending a.stand.end)
    pub ran : Ran false mid b
    pub stopped : StopsAtOnce a.taken b.taken
