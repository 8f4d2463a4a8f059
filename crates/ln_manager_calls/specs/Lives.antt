-- A node's channels over its lives: calls lead on, and where the node has stopped, they come back from the records of
-- the last batch that its host has saved.
use Rattle.std.specs.Prelude.{◌≡◌, ◌<◌, ◌^◌, ℕ, List, [], ◌∷◌, length, map, Bool, false, Option, Some, option_map}
use Rattle.std.specs.Prelude.{Result, Ok, Err, ⊤}
use Rattle.std.specs.List.{find}
use Rattle.ln_refusals.specs.declared.refusal.Refusal.{Refusal}
use Rattle.ln_keys.specs.Signer.{Signer}
use Rattle.ln_channel.specs.End.{End, end_dropped}
use Rattle.ln_channel.specs.Record.{came_back}
use Rattle.ln_channel.specs.State.{State}
use Rattle.ln_store.specs.declared.record.Items.{Items}
use Rattle.ln_store.specs.Record.{record_at}
use Rattle.ln_link.specs.Record.{items_of}
use Rattle.ln_link.specs.Loading.{HasRecord, end_of}
use Rattle.ln_book_tables.specs.Replay.{same}
use Rattle.ln_payment_circuits.specs.Snapshot.{IsIn}
use Rattle.ln_manager_laws.specs.Manager.{Manager, no_channels}
use Rattle.ln_manager_laws.specs.Runs.{IsLoaded}
use Rattle.ln_manager_laws.specs.Steps.{AreSteps, last_step}
use Rattle.ln_manager_channels.specs.declared.saved.Saved.{Saved}
use Rattle.ln_manager_channels.specs.Calls.{Call, Parts, AreLoaded, Makes, no_parts}
use Rattle.ln_manager_channels.specs.Numbers.{number_at}
use Rattle.ln_manager_calls.specs.Standing.{Loaded, StandsFor, kept_at, link_of, newest, nothing_loaded}

-- what its channels have, what they were loaded of, and what that stands for
pub record Moment (K : Type 0) : Type 0 where
  pub parts : Parts K
  pub loaded : Loaded
  pub stood : Manager K

abbrev pub first_moment : {K : Type 0} → Moment K
first_moment = record { parts = no_parts; loaded = nothing_loaded; stood = no_channels }

-- ---- a batch is saved

-- the newest record of this id, which is that of the channel of this number
abbrev pub HasNewest : {K : Type 0} → Moment K → ℕ → List ℕ → List ℕ → Type 0
HasNewest s k id bytes = (number_at id s.parts.numbers ≡ Some k)
    × (newest (kept_at s.loaded s.parts.records k) id ≡ Some bytes)

-- what a host has that has saved each batch up to this moment: the newest record of each id
pub record AreSaved {K : Type 0} (saved : List (Saved K)) (s : Moment K) : Type 0 where
  pub each : (x : Saved K) → IsIn x saved → (k : ℕ) × ((id : List ℕ) × HasNewest s k id x.bytes)
  pub all : (k : ℕ) (id bytes : List ℕ) → HasNewest s k id bytes → (x : Saved K) × IsIn x saved × (x.bytes ≡ bytes)
  pub short : (x : Saved K) → IsIn x saved → length x.bytes < 2 ^ 64

-- ---- and loaded

-- A link that is loaded, and one that has again what no record tells one by one: which updates are in its base. No
-- process keeps them.
pub record IsAgain {K : Type 0} (l l' : State K) : Type 0 where
  pub keys : K
  pub failure : Option Refusal
  pub end : End
  pub has : HasRecord failure end
  pub loaded : l ≡ came_back keys failure (end_of (items_of failure end))
  pub again : l' ≡ came_back keys failure (end_dropped end)

abbrev pub AreAgain : {K : Type 0} → List (State K) → List (State K) → Type 0
AreAgain [] [] = ⊤
AreAgain [] (m ∷ ms) = ⊥
AreAgain (l ∷ ls) [] = ⊥
AreAgain (l ∷ ls) (m ∷ ms) = IsAgain l m × AreAgain ls ms

abbrev pub again : {K : Type 0} → Parts K → Manager K → Parts K
again q n = record { links = map link_of n.seats; records = q.records; numbers = q.numbers; book = q.book }

-- ---- the record of each id

abbrev pub tells_of : List ℕ → Result Items Refusal → Bool
tells_of id (Ok i) = same id i.header.channel
tells_of id (Err r) = false

abbrev pub loaded_of : {K : Type 0} → List (Saved K) → Loaded
loaded_of saved id =
    option_map (λ (x : Saved _). x.bytes) (find (λ (x : Saved _). tells_of id (record_at x.bytes)) saved)

-- ---- from one moment to another one

pub data Goes {K : Type 0} (signer : K → Signer) (s t : Moment K) : Type 0 where
  Calls : (k : Call K) → Makes signer k s.parts t.parts → t.loaded ≡ s.loaded
      → (ms : List (Manager K)) → AreSteps signer s.stood ms → t.stood ≡ last_step s.stood ms
      → StandsFor t.loaded t.parts t.stood → Goes signer s t
  -- at this moment the last batch was closed that is saved; what came after it was never sent, and is lost
  Loads : (saved : List (Saved K)) (q : Parts K) → AreSaved saved s → AreLoaded saved q
      → AreAgain q.links (map link_of t.stood.seats) → t.parts ≡ again q t.stood → t.loaded ≡ loaded_of saved
      → IsLoaded s.stood t.stood → StandsFor t.loaded t.parts t.stood → Goes signer s t

abbrev pub AreMoments : {K : Type 0} → (K → Signer) → Moment K → List (Moment K) → Type 0
AreMoments signer s [] = ⊤
AreMoments signer s (t ∷ ts) = Goes signer s t × AreMoments signer t ts

abbrev pub last_moment : {K : Type 0} → Moment K → List (Moment K) → Moment K
last_moment s [] = s
last_moment s (t ∷ ts) = last_moment t ts
