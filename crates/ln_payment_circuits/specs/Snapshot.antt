-- A node at one moment: what its channels have saved, which of their links have halted, and what its book has of the
-- HTLCs that came in.
use Rattle.std.specs.Prelude.{◌≡◌, ◌⊎◌, ℕ, ◌≤◌, ◌<◌, ◌==◌, List, [], ◌∷◌, take, map, Bool, false, not, Option, Some}
use Rattle.std.specs.Prelude.{None}
use Rattle.ln_log.specs.declared.mark.EventRef.{EventRef}
use Rattle.ln_log.specs.declared.mark.EventRef.TheVariants as ref
use Rattle.ln_log.specs.declared.outcome.Outcome.TheVariants.{Live}
use Rattle.ln_log.specs.declared.update.Update.{Update}
use Rattle.ln_log.specs.Updates.{outcome, is_live, next_id}
use Rattle.ln_log.specs.Log.{Log, AreNumbered, AreRemovals, IsWithin}
use Rattle.ln_channel.specs.End.{End}
use Rattle.ln_book_tables.specs.declared.htlc.Key.{Key}
use Rattle.ln_book_tables.specs.declared.htlc.Htlc.{Htlc}
use Rattle.ln_book.specs.Rebuild.{ChannelSnapshot, channel_snapshot_of}

pub record Snapshot : Type 0 where
  pub ends : ℕ → Option End  -- as they are saved, by the numbers of their channels
  pub halted : ℕ → Bool  -- links that want memory, and answer nothing until they are loaded or the node restarts
  pub book : List Htlc

-- no channel is open yet
abbrev pub nothing_yet : Snapshot
nothing_yet = record { ends = λ c. None; halted = λ c. false; book = [] }

-- ---- an HTLC that came in

-- the number of its channel, and its id there
pub record Incoming : Type 0 where
  pub channel : ℕ
  pub id : ℕ

-- as books and adds name it: by the 32 bytes of its channel's id
abbrev pub key_at : (ℕ → List ℕ) → ℕ → ℕ → Key
key_at id_of c i = record { channel = id_of c; id = i }

abbrev pub key_of : (ℕ → List ℕ) → Incoming → Key
key_of id_of h = key_at id_of h.channel h.id

abbrev pub origin : (ℕ → List ℕ) → Incoming → List ℕ × ℕ
origin id_of h = (id_of h.channel, h.id)

-- these updates remove the other side's HTLC of this id
abbrev pub is_gone : ℕ → List Update → Bool
is_gone id us = not (is_live (outcome id us))

-- ---- words of lists

abbrev pub All : {A : Type 0} → (A → Type 0) → List A → Type 0
All P [] = Unit {0}
All P (x ∷ xs) = P x × All P xs

abbrev pub IsIn : {A : Type 0} → A → List A → Type 0
IsIn x [] = ⊥
IsIn x (y ∷ ys) = (y ≡ x) ⊎ IsIn x ys

abbrev pub NonePasses : {A : Type 0} → (A → Bool) → List A → Type 0
NonePasses p [] = Unit {0}
NonePasses p (x ∷ xs) = (p x ≡ false) × NonePasses p xs

-- no number stands twice
abbrev pub AreDistinct : List (ℕ × End) → Type 0
AreDistinct [] = Unit {0}
AreDistinct (x ∷ es) = All (λ y. (y.0 == x.0) ≡ false) es × AreDistinct es

-- what a book reads off ends
abbrev pub snapshots : List (ℕ × End) → List ChannelSnapshot
snapshots es = map (λ x. channel_snapshot_of x.1) es

-- ---- what is known of each end of a channel, whatever its peer does

-- Counts are in their order, each own HTLC has the next id, and the peer removes what it may: an HTLC that its
-- commitment has, once (BOLT 2, "Removing an HTLC").
pub record IsSoundLog (l : Log) : Type 0 where
  pub within : IsWithin l
  pub own_first : l.first.own ≤ l.current.own
  pub own_ids : AreNumbered 0 l.own
  pub peer_removals : AreRemovals (take l.current.own l.own) [] l.received

-- an undecided event is of an update of the peer's that is held, and that isn't in the base
abbrev pub IsBelow : ℕ → EventRef → Type 0
IsBelow m (ref.Own n) = Unit {0}
IsBelow m (ref.Peer n) = n < m
IsBelow m ref.Close = Unit {0}

abbrev pub IsFrom : ℕ → EventRef → Type 0
IsFrom m (ref.Own n) = Unit {0}
IsFrom m (ref.Peer n) = m ≤ n
IsFrom m ref.Close = Unit {0}

pub record IsFitLog (l : Log) (rs : List EventRef) : Type 0 where
  pub sound : IsSoundLog l
  pub peer_ids : AreNumbered 0 l.received
  pub peer_first : l.first.peer ≤ l.acknowledged.peer
  pub below : All (IsBelow l.acknowledged.peer) rs
  pub from : All (IsFrom l.first.peer) rs
  -- the base removes nothing that it doesn't offer
  pub closed : (id : ℕ) → next_id (take l.first.peer l.received) ≤ id → outcome id (take l.first.own l.own) ≡ Live

abbrev pub IsFit : End → Type 0
IsFit e = IsFitLog e.dance.log e.ledger.undecided

-- of each end of a node; and each has its channel's id
pub record AreFit (id_of : ℕ → List ℕ) (s : Snapshot) : Type 0 where
  pub fit : (c : ℕ) (e : End) → s.ends c ≡ Some e → IsFit e
  pub channel : (c : ℕ) (e : End) → s.ends c ≡ Some e → e.dance.channel ≡ id_of c
