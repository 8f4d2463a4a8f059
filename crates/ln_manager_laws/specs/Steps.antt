-- What the calls of a manager are made of: each step is of one of its links, or of its book, or of both together.
use Rattle.std.specs.Prelude.{◌≡◌, ◌⊎◌, ℕ, List, [], ◌∷◌, ◌++◌, take, Bool, true, false, Some, None, Result}
use Rattle.std.specs.Prelude.{IfSome, Ok, Err}
use Rattle.ln_refusals.specs.declared.refusal.Refusal.{Refusal}
use Rattle.ln_keys.specs.Signer.{Signer}
use Rattle.ln_log.specs.declared.mark.EventRef.{EventRef}
use Rattle.ln_log.specs.declared.mark.Mark.{Mark}
use Rattle.ln_log.specs.declared.update.Update.{Update}
use Rattle.ln_hooks.specs.declared.event.ChannelEvent.{ChannelEvent}
use Rattle.ln_hooks.specs.declared.event.ChannelEvent.TheVariants as event
use Rattle.ln_hooks.specs.declared.verdict.Verdict.{Verdict}
use Rattle.ln_hooks.specs.Event.{event_of}
use Rattle.ln_channel.specs.declared.command.Command as declared
use Rattle.ln_channel.specs.declared.command.Command.TheVariants as command
use Rattle.ln_channel.specs.declared.machine.Stage.{Stage}
use Rattle.ln_channel.specs.declared.machine.Stage.TheVariants as stage
use Rattle.ln_channel.specs.Pending.{named_by}
use Rattle.ln_channel.specs.End.{End, end_dropped}
use Rattle.ln_channel.specs.State.{State, is_down}
use Rattle.ln_channel.specs.Step.{Done, commanded}
use Rattle.ln_store.specs.Store.{Records}
use Rattle.ln_link.specs.Saving.{is_known}
use Rattle.ln_book_tables.specs.declared.htlc.Htlc.{Htlc}
use Rattle.ln_book_tables.specs.declared.entry.Decided.{Decided}
use Rattle.ln_book_tables.specs.declared.entry.Out.{Out}
use Rattle.ln_book_tables.specs.declared.entry.Out.TheVariants as out
use Rattle.ln_book_tables.specs.declared.entry.KeptState.{KeptState}
use Rattle.ln_book_tables.specs.declared.entry.PendingCommand.TheVariants as pending_command
use Rattle.ln_book_tables.specs.declared.entry.Entry.{Entry}
use Rattle.ln_book_tables.specs.declared.entry.Entry.TheVariants as entry
use Rattle.ln_book_tables.specs.Replay.{Table, replay, pending_command_at}
use Rattle.ln_book.specs.Answers.{command_subject, answer_to}
use Rattle.ln_keys.specs.Services.{Services}
use Rattle.ln_book.specs.Commands.{due, command_of}
use Rattle.ln_book.specs.Kept.{kept_state_of, next_own_id, has_own_removal, has_decided}
use Rattle.ln_book.specs.Marks.{offer_of, decision, resumption}
use Rattle.ln_book.specs.Settled.{settled_entry}
use Rattle.ln_payment_circuits.specs.Snapshot.{All, IsIn}
use Rattle.ln_manager_laws.specs.Calls.{Seat, begun_seat, Call, SetKeys, NameFunding, Handle, Command, Connect}
use Rattle.ln_manager_laws.specs.Calls.{DropConnection, Halt, Load, called}
use Rattle.ln_manager_laws.specs.Manager.{Manager, seat_id}

-- ---- a seat changes, and no other one

pub record Changes {K : Type 0} (x y : Seat K) (m n : Manager K) : Type 0 where
  pub before : List (Seat K)
  pub after : List (Seat K)
  pub was : m.seats ≡ before ++ x ∷ after
  pub is : n.seats ≡ before ++ y ∷ after

abbrev pub others : {K : Type 0} {x y : Seat K} {m n : Manager K} → Changes x y m n → List (Seat K)
others g = g.before ++ g.after

-- ---- what the book has no part in

-- a funder, or a fundee
abbrev pub IsFirst : Stage → Type 0
IsFirst (stage.AwaitsOpen c) = Unit {0}
IsFirst (stage.AwaitsAccept s) = Unit {0}
IsFirst (stage.AwaitsCreated a) = ⊥
IsFirst (stage.AwaitsSigned e) = ⊥
IsFirst (stage.Funded e) = ⊥
IsFirst stage.Gone = ⊥

-- what a user may command: it neither removes an HTLC nor decides about one, nor offers one that forwards another
abbrev pub is_users : declared.Command → Bool
is_users (command.Confirm id) = true
is_users (command.Add amount hash expiry onion None) = true
is_users (command.Add amount hash expiry onion (Some origin)) = false
is_users (command.Fulfil id preimage) = false
is_users (command.Fail id reason) = false
is_users (command.Malformed id sha code) = false
is_users (command.Fee feerate) = true
is_users command.Sign = true
is_users (command.Shutdown script) = true
is_users (command.Decide event mark) = false
is_users (command.Forget id) = false
is_users (command.Resume event mark) = false

-- the ids that other links have agreed on, or have, are known to the store that a message is taken over
abbrev pub Knows : {K : Type 0} → Records → Seat K → Type 0
Knows known x = IfSome (seat_id x) (λ id. is_known (Some id) known ≡ true)

-- a call that a host makes for a peer or a user, beside these other links
abbrev pub IsHosts : {K : Type 0} → List (Seat K) → Call K → Type 0
IsHosts xs (SetKeys keys) = Unit {0}
IsHosts xs (NameFunding txid output) = Unit {0}
IsHosts xs (Handle known m) = All (Knows known) xs
IsHosts xs (Command c) = is_users c ≡ true
IsHosts xs Connect = Unit {0}
IsHosts xs DropConnection = ⊥
IsHosts xs (Halt left) = ⊥
IsHosts xs (Load keys failure) = ⊥

-- ---- what the book is told

-- settings, by which no payment is read
abbrev pub IsSetting : Entry → Type 0
IsSetting (entry.Route id l) = Unit {0}
IsSetting (entry.Use c u) = Unit {0}
IsSetting (entry.Height h) = Unit {0}
IsSetting (entry.Expect i) = Unit {0}
IsSetting (entry.Decided d) = ⊥
IsSetting (entry.Resumed r) = ⊥
IsSetting (entry.Taken c o) = ⊥
IsSetting (entry.Answered c a) = ⊥
IsSetting (entry.Resolved k how) = ⊥
IsSetting (entry.Removed k) = ⊥
IsSetting (entry.Dropped c told) = ⊥

-- an end holds an update that is this event as irrevocably committed
abbrev pub HasTold : End → ChannelEvent → Type 0
HasTold e told =
    ((u : Update) × IsIn u (take e.dance.log.current.own e.dance.log.own) × (event_of true u ≡ Some told))
    ⊎ ((u : Update) × IsIn u (take e.dance.log.acknowledged.peer e.dance.log.received) × (event_of false u ≡ Some told))

-- an event of the channel of this id is heard
abbrev pub heard : List ℕ → ChannelEvent → List Entry
heard c (event.Added own id amount hash expiry onion) = []
heard c (event.Settled own id how) = settled_entry own (record { channel = c; id = id }) how ∷ []
heard c (event.Closed fee) = []

-- what an end has kept, as its connection was lost
abbrev pub kept_by : End → Table → KeptState
kept_by e t =
    kept_state_of (next_own_id e) (λ id. has_own_removal id e.dance.log) (λ n mark. has_decided n mark e)
    e.dance.channel t

-- ---- what the book commands

abbrev pub done_or_refused : Result Done Refusal → Result (Unit {0}) Refusal
done_or_refused (Ok d) = Ok tt
done_or_refused (Err r) = Err r

-- a command is taken of the book, a link of this end is given it, and the book is told what the link answers
abbrev pub obeying : {K : Type 0} → (K → Signer) → State K → End → Out → declared.Command → List Entry
obeying signer l e o y =
    entry.Taken e.dance.channel o
    ∷ entry.Answered e.dance.channel (answer_to (command_subject (next_own_id e) y)
    (done_or_refused (commanded (signer l.keys) l y)))
    ∷ []

-- a link that works, with its end
pub record Works {K : Type 0} (x : Seat K) (e : End) : Type 0 where
  pub end : x.end ≡ Some e
  pub halted : x.link.halted ≡ false

-- its first undecided event
pub record IsNext (e : End) (told : ChannelEvent) : Type 0 where
  pub first : EventRef
  pub rest : List EventRef
  pub undecided : e.ledger.undecided ≡ first ∷ rest
  pub is : named_by first e ≡ Some told

-- ---- each step

pub data Step {K : Type 0} (signer : K → Signer) (m n : Manager K) : Type 0 where
  -- a channel is added
  Adds : (keys : K) (s : Stage) → IsFirst s → n.seats ≡ m.seats ++ begun_seat keys s ∷ [] → n.book ≡ m.book
      → Step signer m n
  -- a peer's message, a user's command, a connection
  Calls : (x : Seat K) (k : Call K) (g : Changes x (called signer k x) m n) → IsHosts (others g) k → n.book ≡ m.book
      → Step signer m n
  -- a link halts for want of memory, and the book hears nothing by which a payment is read
  Halts : (x : Seat K) (left : State K) → Changes x (called signer (Halt left) x) m n → n.book.htlcs ≡ m.book.htlcs
      → Step signer m n
  -- an opening that isn't signed by both is lost with its connection
  LosesOpening : (x : Seat K) → x.end ≡ None → Changes x (called signer DropConnection x) m n → n.book ≡ m.book
      → Step signer m n
  -- a connection is lost, and the book is told at once what the end has kept; no command is out in its channel
  Disconnects : (x : Seat K) (e : End) → Works x e → is_down x.link.connection ≡ false
      → Changes x (called signer DropConnection x) m n
      → pending_command_at e.dance.channel m.book ≡ pending_command.Idle
      → n.book ≡ replay m.book (entry.Dropped e.dance.channel (kept_by (end_dropped e) m.book) ∷ []) → Step signer m n
  -- the book hears an event of a link that works
  Hears : (x : Seat K) (e : End) (told : ChannelEvent) → IsIn x m.seats → Works x e → HasTold e told
      → n.seats ≡ m.seats → n.book ≡ replay m.book (heard e.dance.channel told) → Step signer m n
  Sets : (setting : Entry) → IsSetting setting → n.seats ≡ m.seats → n.book ≡ replay m.book (setting ∷ [])
      → Step signer m n
  -- a link is given what the book commands about an HTLC
  Obeys : (v : Services) (x : Seat K) (e : End) (h : Htlc) (o : Out) (y : declared.Command) → Works x e
      → IsIn h m.book.htlcs → due e.dance.channel h ≡ Some o → command_of v h o ≡ Some y
      → Changes x (called signer (Command y) x) m n → n.book ≡ replay m.book (obeying signer x.link e o y)
      → Step signer m n
  -- an event is decided by what is said of it
  Decides : (v : Services) (x : Seat K) (e : End) (told : ChannelEvent) (verdict : Verdict) (d : Decided) → Works x e
      → IsNext e told → d ≡ decision v m.book e.dance.channel e.ledger.decided (offer_of told) verdict
      → Changes x (called signer (Command (command.Decide d.event d.mark)) x) m n
      → n.book ≡ replay m.book (entry.Decided d
      ∷ obeying signer x.link e (out.Deciding d.event) (command.Decide d.event d.mark)) → Step signer m n
  -- or the link halts before it has decided it
  HaltsDeciding : (v : Services) (x : Seat K) (e : End) (told : ChannelEvent) (verdict : Verdict) (left : State K)
      → Works x e → IsNext e told → Changes x (called signer (Halt left) x) m n
      → n.book.htlcs ≡ (replay m.book (entry.Decided (decision v m.book e.dance.channel e.ledger.decided (offer_of told)
      verdict) ∷ [])).htlcs → Step signer m n
  -- what is held is decided
  Resumes : (v : Services) (x : Seat K) (e : End) (n' : ℕ) (verdict : Verdict) (mark : Mark) → Works x e
      → resumption v m.book e.dance.channel n' verdict ≡ Some mark
      → Changes x (called signer (Command (command.Resume n' mark)) x) m n
      → n.book ≡ replay m.book (entry.Resumed (record { channel = e.dance.channel; event = n'; mark = mark })
      ∷ obeying signer x.link e (out.Resuming n') (command.Resume n' mark)) → Step signer m n

-- ---- one after the other

abbrev pub AreSteps : {K : Type 0} → (K → Signer) → Manager K → List (Manager K) → Type 0
AreSteps signer m [] = Unit {0}
AreSteps signer m (n ∷ ns) = Step signer m n × AreSteps signer n ns

abbrev pub last_step : {K : Type 0} → Manager K → List (Manager K) → Manager K
last_step m [] = m
last_step m (n ∷ ns) = last_step n ns
