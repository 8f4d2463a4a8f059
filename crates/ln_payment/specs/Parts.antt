-- A payment: what the records of a node's links, and its book, have of one HTLC that came in (BOLT 2, "Forwarding
-- HTLCs"). It is the HTLC's own part of them: of others nothing is said.
use Rattle.std.specs.Prelude.{◌≡◌, ◌⊎◌, ℕ, List, [], ◌∷◌, Bool, false, Option, None}

-- ---- what the records keep

-- how an HTLC is removed
pub data Kind : Type 0 where
  Fulfils : Kind
  Fails : Kind

-- what is done about it
pub data Mark : Type 0 where
  Forward : Mark
  Hold : Mark
  Answer : (k : Kind) → Mark

pub data Decision : Type 0 where
  Undecided : Decision
  Decided : (m : Mark) → Decision
  Past : Decision  -- it has left the record, as the HTLC is gone

pub data Stage : Type 0 where
  Proposed : Stage
  Signed : Stage
  Held : Stage  -- irrevocably committed

-- the own removal of the HTLC that came in
pub data Removal : Type 0 where
  NoRemoval : Removal
  By : (k : Kind) (s : Stage) → Removal

-- what has become of an own add
pub data Course : Type 0 where
  Uncovered : Course  -- no signature covers it
  Covered : Course
  Ended : (k : Kind) (result : Bool) → Course  -- its removal is held; whether the record still has this result

-- an own add whose origin this HTLC is
pub record Out : Type 0 where
  pub channel : ℕ
  pub id : ℕ
  pub course : Course

-- ---- what the book keeps

-- the HTLC that goes out
pub data OutgoingLeg : Type 0 where
  Absent : OutgoingLeg
  Refused : OutgoingLeg
  Offered : (c i : ℕ) → OutgoingLeg
  Resolved : (c i : ℕ) (k : Kind) → OutgoingLeg  -- it ended so

-- the removal of the HTLC that came in
pub data IncomingLeg : Type 0 where
  Open : IncomingLeg  -- there is none
  RemovalSent : IncomingLeg
  RemovalRefused : IncomingLeg  -- it was refused
  Settled : IncomingLeg  -- it is held

pub record Note : Type 0 where
  pub mark : Mark
  pub outgoing : OutgoingLeg
  pub incoming : IncomingLeg

-- ---- all of it

pub record Payment : Type 0 where
  pub decision : Decision
  pub removal : Removal
  pub outs : List Out  -- over all channels of the node
  pub note : Option Note
  pub halted : ℕ → Bool  -- the links that have halted, by their channels

abbrev pub begun : Payment
begun = record { decision = Undecided; removal = NoRemoval; outs = []; note = None; halted = λ c. false }

-- ---- words

abbrev pub Each : {A : Type 0} → (A → Type 0) → List A → Type 0
Each P [] = Unit {0}
Each P (x ∷ xs) = P x × Each P xs

abbrev pub Among : {A : Type 0} → (A → Type 0) → List A → Type 0
Among P [] = ⊥
Among P (x ∷ xs) = P x ⊎ Among P xs

abbrev pub IsAt : ℕ → ℕ → Out → Type 0
IsAt c i o = (o.channel ≡ c) × (o.id ≡ i)

abbrev pub IsEnd : Kind → Course → Type 0
IsEnd k Uncovered = ⊥
IsEnd k Covered = ⊥
IsEnd k (Ended j r) = j ≡ k

abbrev pub HasEnded : Kind → Out → Type 0
HasEnded k o = IsEnd k o.course

abbrev pub IsHeld : Removal → Type 0
IsHeld NoRemoval = ⊥
IsHeld (By k Proposed) = ⊥
IsHeld (By k Signed) = ⊥
IsHeld (By k Held) = Unit {0}
