-- A manager over every list of its steps, of batches that are saved, and of loads from what was saved last.
use Rattle.std.specs.Prelude.{◌≡◌, ℕ, List, [], ◌∷◌, ◌++◌, Option, Some, None}
use Rattle.ln_refusals.specs.declared.refusal.Refusal.{Refusal}
use Rattle.ln_keys.specs.Signer.{Signer}
use Rattle.ln_channel.specs.End.{End, end_dropped}
use Rattle.ln_channel.specs.Record.{came_back}
use Rattle.ln_book.specs.Rebuild.{ChannelSnapshot, rebuilt_htlcs}
use Rattle.ln_book.specs.Snapshots.{snapshot_by}
use Rattle.ln_payment_circuits.specs.Snapshot.{All, IsIn}
use Rattle.ln_manager_laws.specs.Calls.{Seat, working}
use Rattle.ln_manager_laws.specs.Manager.{Manager, no_channels, seat_id}
use Rattle.ln_manager_laws.specs.Steps.{Step}

-- ---- a load

-- what a book reads off the ends of links, in their order
abbrev pub read_off : {K : Type 0} → List (Seat K) → List ChannelSnapshot
read_off [] = []
read_off (x ∷ xs) = snapshot_by x.end ++ read_off xs

-- a link comes back from the record of another one's end
abbrev pub IsBackOf : {K : Type 0} → Seat K → End → Type 0
IsBackOf {K} y e = (keys : K) × (failure : Option Refusal) × (y ≡ working (came_back keys failure (end_dropped e)))

-- no two of these links have one id
abbrev pub AreOther : Option (List ℕ) → Option (List ℕ) → Type 0
AreOther None b = Unit {0}
AreOther (Some a) None = Unit {0}
AreOther (Some a) (Some b) = a ≡ b → ⊥

abbrev pub AreOnce : {K : Type 0} → List (Seat K) → Type 0
AreOnce [] = Unit {0}
AreOnce (x ∷ xs) = All (λ y. AreOther (seat_id x) (seat_id y)) xs × AreOnce xs

-- all channels that have an end come back, each once and in any order, and the book is read off them
pub record IsLoaded {K : Type 0} (m n : Manager K) : Type 0 where
  pub back : (y : Seat K) → IsIn y n.seats
      → (x : Seat K) × IsIn x m.seats × ((e : End) × (x.end ≡ Some e) × IsBackOf y e)
  pub all : (x : Seat K) → IsIn x m.seats → (e : End) → x.end ≡ Some e
      → (y : Seat K) × IsIn y n.seats × (y.end ≡ Some (end_dropped e))
  pub once : AreOnce n.seats
  pub book : n.book.htlcs ≡ rebuilt_htlcs (read_off n.seats)

-- ---- a run

-- a manager now, as its last batch was closed, and as the last one that is saved was
pub record Course (K : Type 0) : Type 0 where
  pub now : Manager K
  pub closed : Manager K
  pub saved : Manager K

abbrev pub beginning : {K : Type 0} → Course K
beginning = record { now = no_channels; closed = no_channels; saved = no_channels }

pub data Goes {K : Type 0} (signer : K → Signer) (s t : Course K) : Type 0 where
  Steps : Step signer s.now t.now → t.closed ≡ s.closed → t.saved ≡ s.saved → Goes signer s t
  -- a batch is closed, and then it is saved
  Closes : t.now ≡ s.now → t.closed ≡ s.now → t.saved ≡ s.saved → Goes signer s t
  Saves : t.now ≡ s.now → t.closed ≡ s.closed → t.saved ≡ s.closed → Goes signer s t
  -- the manager is gone, and another one is loaded of what was saved, or of the batch that was just being saved
  LoadsSaved : IsLoaded s.saved t.now → t.closed ≡ s.saved → t.saved ≡ s.saved → Goes signer s t
  LoadsClosed : IsLoaded s.closed t.now → t.closed ≡ s.closed → t.saved ≡ s.closed → Goes signer s t

abbrev pub AreCourses : {K : Type 0} → (K → Signer) → Course K → List (Course K) → Type 0
AreCourses signer s [] = Unit {0}
AreCourses signer s (t ∷ ts) = Goes signer s t × AreCourses signer t ts

abbrev pub last_of : {K : Type 0} → Course K → List (Course K) → Course K
last_of s [] = s
last_of s (t ∷ ts) = last_of t ts
