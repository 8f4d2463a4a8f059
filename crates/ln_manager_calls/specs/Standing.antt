-- What the links, the records and the book of a node's channels stand for: a manager, as its laws have it.
use Rattle.std.specs.Prelude.{◌≡◌, ◌⊎◌, ℕ, List, [], ◌∷◌, map, true, false, Option, Some, None, option_map, slice_get}
use Rattle.std.specs.FinMap as finmap
use Rattle.ln_refusals.specs.declared.refusal.Refusal.{Refusal}
use Rattle.ln_channel.specs.End.{End}
use Rattle.ln_channel.specs.Failing.{fails}
use Rattle.ln_channel.specs.Record.{saved_end}
use Rattle.ln_channel.specs.State.{State, kept_channel}
use Rattle.ln_store.specs.Store.{Records}
use Rattle.ln_store.specs.Record.{record_bytes}
use Rattle.ln_link.specs.Record.{items_of}
use Rattle.ln_link.specs.Loading.{HasRecord}
use Rattle.ln_book_tables.specs.declared.entry.PendingCommand.TheVariants as pending_command
use Rattle.ln_book_tables.specs.Replay.{pending_command_at, table_of}
use Rattle.ln_payment_circuits.specs.Snapshot.{IsIn}
use Rattle.ln_manager_laws.specs.Calls.{Seat}
use Rattle.ln_manager_laws.specs.Manager.{Manager, end_in, seat_id}
use Rattle.ln_manager_channels.specs.declared.newest.Newest.{Newest}
use Rattle.ln_manager_channels.specs.Calls.{Parts}
use Rattle.ln_manager_channels.specs.Numbers.{number_at}

abbrev pub link_of : {K : Type 0} → Seat K → State K
link_of x = x.link

-- ---- what records tell of a seat

-- the record of each id that a node was loaded of
abbrev pub Loaded : Type 0
Loaded = List ℕ → Option (List ℕ)

abbrev pub nothing_loaded : Loaded
nothing_loaded id = None

-- the records of one channel: those that were saved since, where there is a place for them, and what was loaded before
pub record Kept : Type 0 where
  pub since : Option Records
  pub loaded : Loaded

-- what stands at the place of a channel
abbrev pub kept_at : Loaded → List Newest → ℕ → Kept
kept_at old ns k = record { since = option_map (λ (n : Newest). n.kept) (slice_get ns k); loaded = old }

-- an empty one stands for an id that another channel has
abbrev pub told_by : Option (List ℕ) → Option (List ℕ) → Option (List ℕ)
told_by None before = before
told_by (Some []) before = before
told_by (Some (b ∷ bytes)) before = Some (b ∷ bytes)

abbrev pub newest_in : Option Records → List ℕ → Option (List ℕ) → Option (List ℕ)
newest_in None id before = before
newest_in (Some rs) id before = told_by (finmap.get rs id) before

-- the newest record of this id
abbrev pub newest : Kept → List ℕ → Option (List ℕ)
newest k id = newest_in k.since id (k.loaded id)

abbrev pub HasId : Option End → List ℕ → Type 0
HasId o id = (e : End) × (o ≡ Some e) × (e.dance.channel ≡ id)

-- the newest is this end's, and has such a failure; none tells of another end
pub record AreOf (Fails : Option Refusal → Type 0) (o : Option End) (k : Kept) : Type 0 where
  pub has : (e : End) → o ≡ Some e → (failure : Option Refusal) × Fails failure × HasRecord failure e
      × (newest k e.dance.channel ≡ Some (record_bytes (items_of failure e)))
  pub alone : (rs : Records) → k.since ≡ Some rs → (id bytes : List ℕ) → finmap.get rs id ≡ Some bytes
      → (bytes ≡ []) ⊎ HasId o id

-- by this a channel fails
abbrev pub IsFailing : Option Refusal → Type 0
IsFailing failure = (r : Refusal) → failure ≡ Some r → fails r ≡ true

-- a link that works has failed by what its record says
abbrev pub FailsAs : {K : Type 0} → Option (Seat K) → Option Refusal → Type 0
FailsAs None failure = IsFailing failure
FailsAs (Some x) failure = IsFailing failure × (x.link.halted ≡ false → failure ≡ x.link.failure)

abbrev pub IsRecorded : {K : Type 0} → Option (Seat K) → Kept → Type 0
IsRecorded o k = AreOf (FailsAs o) (end_in o) k

-- ---- of each seat

-- it has halted, and has this id
abbrev pub IsStuck : {K : Type 0} → List ℕ → Seat K → Type 0
IsStuck id x = (x.link.halted ≡ true) × (seat_id x ≡ Some id)

-- Each link has its seat. While it works, its end is the seat's; where it has halted, the seat has the end as it was
-- before that, without what a lost connection forgets. Its newest record is that of this end, and its id has its
-- number. Each channel that was loaded is there. A command of the book is out only in the channel of a link that has
-- halted.
pub record StandsFor {K : Type 0} (old : Loaded) (p : Parts K) (m : Manager K) : Type 0 where
  pub links : map link_of m.seats ≡ p.links
  pub ends : (x : Seat K) → IsIn x m.seats → x.link.halted ≡ false → x.end ≡ saved_end x.link.stage
  pub channels : (x : Seat K) → IsIn x m.seats → (e : End) → x.end ≡ Some e
      → kept_channel x.link.stage ≡ Some e.dance.channel
  pub failures : (x : Seat K) → IsIn x m.seats → x.link.halted ≡ false → IsFailing x.link.failure
  pub records : (k : ℕ) → IsRecorded (slice_get m.seats k) (kept_at old p.records k)
  pub loaded : (id bytes : List ℕ) → old id ≡ Some bytes → (x : Seat K) × IsIn x m.seats × HasId x.end id
  pub numbers : (k : ℕ) (x : Seat K) → slice_get m.seats k ≡ Some x → (id : List ℕ) → seat_id x ≡ Some id
      → number_at id p.numbers ≡ Some k
  pub commands : (id : List ℕ) → (pending_command_at id m.book ≡ pending_command.Idle)
      ⊎ ((x : Seat K) × IsIn x m.seats × IsStuck id x)
  pub book : m.book ≡ table_of p.book
