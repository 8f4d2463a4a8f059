-- Frames that come in pieces: what a framer holds, what one call answers, and what a run of calls has heard.
use Rattle.std.specs.Prelude.{◌≡◌, ℕ, List, [], ◌∷◌, ◌++◌, length, Option, Some, None, ◌==◌, if◌then◌else◌, ◌⊎◌}
use Rattle.std.specs.Prelude.{MatchOption}
use Rattle.ln_bytes.specs.Fault.{fault_number}
use Rattle.ln_bytes.specs.declared.fault.Fault.{Fault}
use Rattle.ln_bytes.specs.declared.fault.Fault.TheVariants.{Memory}
use Rattle.ln_msgs.specs.Messages.Message.{Heard}
use Rattle.ln_msgs.specs.Frames.Frame.{Hears, HasNoFrame, IsFaulty}

-- the bytes of a frame that isn't whole yet, and the fault that was found
pub record Fed : Type 0 where
  pub held : List ℕ
  pub fault : Option Fault

-- nothing came yet
abbrev pub unfed : Fed
unfed = record { held = []; fault = None }

-- the front of the bytes is whole frames of these messages, and the rest is left
pub record HearsSoFar (bytes : List ℕ) (heard : List Heard) (rest : List ℕ) : Type 0 where
  pub front : List ℕ
  pub hears : Hears heard front
  pub bytes_are : bytes ≡ front ++ rest

-- so many bytes at the front are whole frames of these messages; after them is no whole frame, or a faulty one
pub record HearsFront (bytes : List ℕ) (heard : List Heard) (taken : ℕ) (fault : Option Fault) : Type 0 where
  pub front : List ℕ
  pub rest : List ℕ
  pub hears : Hears heard front
  pub bytes_are : bytes ≡ front ++ rest
  pub taken_is : taken ≡ length front
  pub stops : MatchOption fault (HasNoFrame rest) (IsFaulty rest)

-- the bytes are whole frames of these messages, and then a rest: no whole frame, which is held, or a faulty one,
-- whose fault is kept
pub record HasHeard (bytes : List ℕ) (heard : List Heard) (fed : Fed) : Type 0 where
  pub front : List ℕ
  pub rest : List ℕ
  pub hears : Hears heard front
  pub bytes_are : bytes ≡ front ++ rest
  pub left : MatchOption fed.fault ((fed.held ≡ rest) × HasNoFrame rest) (λ f. (fed.held ≡ []) × IsFaulty rest f)

-- ---- one call

-- A call answers these messages: those that the piece made whole. If it then found a fault, there is one at
-- least.
pub record Answers (old : Fed) (piece : List ℕ) (heard : List Heard) (new : Fed) : Type 0 where
  pub sound : old.fault ≡ None
  pub has_heard : HasHeard (old.held ++ piece) heard new
  pub some_heard : heard ≡ [] → new.fault ≡ None

-- The piece makes a faulty frame whole, and no message before it.
pub record Finds (old : Fed) (piece : List ℕ) (f : Fault) (new : Fed) : Type 0 where
  pub sound : old.fault ≡ None
  pub has_heard : HasHeard (old.held ++ piece) [] new
  pub kept : new.fault ≡ Some f

-- A call answers this fault: the one that was found earlier, or want of memory, neither of which changes
-- anything, or one that the piece brings.
abbrev pub Refuses : Fed → List ℕ → Fault → Fed → Type 0
Refuses old piece f new = ((old.fault ≡ Some f) × (new ≡ old))
    ⊎ ((old.fault ≡ None) × (f ≡ Memory) × (new ≡ old)) ⊎ Finds old piece f new

-- ---- calls one after the other

-- a call with this piece, and its answer
pub data Call : Type 0 where
  Answered : (piece : List ℕ) (heard : List Heard) → Call
  Refused : (piece : List ℕ) (f : Fault) → Call

-- the calls lead from one state to the other
abbrev pub Runs : Fed → List Call → Fed → Type 0
Runs old [] new = new ≡ old
Runs old (Answered piece heard ∷ calls) new = (mid : Fed) × Answers old piece heard mid × Runs mid calls new
Runs old (Refused piece f ∷ calls) new = (mid : Fed) × Refuses old piece f mid × Runs mid calls new

-- what came: the pieces, but for those that were refused for want of memory
abbrev pub came : List Call → List ℕ
came [] = []
came (Answered piece heard ∷ calls) = piece ++ came calls
came (Refused piece f ∷ calls) = (if fault_number f == 60 then [] else piece) ++ came calls

-- the messages that were answered, in their order
abbrev pub answered : List Call → List Heard
answered [] = []
answered (Answered piece heard ∷ calls) = heard ++ answered calls
answered (Refused piece f ∷ calls) = answered calls
