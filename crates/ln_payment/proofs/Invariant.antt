-- What every move of a payment keeps.
use Rattle.std.specs.Prelude.{◌≡◌, ◌⊎◌, ℕ, List, [], ◌∷◌, Bool, true, Option, Some, None}
use Rattle.ln_payment.specs.Parts.{Among, Answer, IncomingLeg, Course, Covered, Decided, Decision, Each, Ended, Forward}
use Rattle.ln_payment.specs.Parts.{RemovalRefused, HasEnded, Hold, IsAt, IsHeld, Mark, NoRemoval, Note, Absent, Offered}
use Rattle.ln_payment.specs.Parts.{Open, Out, Resolved, Past, Payment, Refused, Removal, RemovalSent, Settled}
use Rattle.ln_payment.specs.Parts.{Uncovered}
use Rattle.ln_payment.specs.Parts.{Undecided, OutgoingLeg}
use Rattle.ln_payment.specs.Promises.{Follows}

-- ---- records

abbrev pub AtMostOne : List Out → Type 0
AtMostOne [] = Unit {0}
AtMostOne (o ∷ []) = Unit {0}
AtMostOne (o ∷ o2 ∷ os) = ⊥

-- nothing before it is decided
abbrev pub IsEarly : Decision → Removal → List Out → Option Note → Type 0
IsEarly Undecided r os e = (r ≡ NoRemoval) × (os ≡ []) × (e ≡ None)
IsEarly (Decided m) r os e = Unit {0}
IsEarly Past r os e = Unit {0}

-- an outgoing add comes of a decision to forward
abbrev pub IsForwarded : Decision → List Out → Type 0
IsForwarded d [] = Unit {0}
IsForwarded Undecided (o ∷ os) = ⊥
IsForwarded (Decided Forward) (o ∷ os) = Unit {0}
IsForwarded (Decided Hold) (o ∷ os) = ⊥
IsForwarded (Decided (Answer k)) (o ∷ os) = ⊥
IsForwarded Past (o ∷ os) = ⊥

-- what is held has no removal
abbrev pub Waits : Decision → Removal → Type 0
Waits (Decided Hold) r = r ≡ NoRemoval
Waits d r = Unit {0}

-- what has ended has its result
abbrev pub HasResult : Course → Type 0
HasResult Uncovered = Unit {0}
HasResult Covered = Unit {0}
HasResult (Ended k b) = b ≡ true

-- ---- the book

abbrev pub ForNote : (Note → Type 0) → Option Note → Type 0
ForNote P None = Unit {0}
ForNote P (Some e) = P e

-- it knows of the add
abbrev pub Names : OutgoingLeg → Out → Type 0
Names Absent o = ⊥
Names Refused o = ⊥
Names (Offered c i) o = IsAt c i o
Names (Resolved c i k) o = IsAt c i o

abbrev pub IsKnown : Option Note → List Out → Type 0
IsKnown None os = os ≡ []
IsKnown (Some e) os = Each (Names e.outgoing) os

-- what it says is offered is, unless that link has halted
abbrev pub IsOffered : OutgoingLeg → List Out → (ℕ → Bool) → Type 0
IsOffered Absent os h = Unit {0}
IsOffered Refused os h = Unit {0}
IsOffered (Offered c i) os h = (h c ≡ true) ⊎ Among (IsAt c i) os
IsOffered (Resolved c i k) os h = Unit {0}

-- what it says is over is
abbrev pub IsOver : OutgoingLeg → List Out → Type 0
IsOver Absent os = Unit {0}
IsOver Refused os = Unit {0}
IsOver (Offered c i) os = Unit {0}
IsOver (Resolved c i k) os = Among (λ o. IsAt c i o × HasEnded k o) os

-- what may be offered has no removal
abbrev pub NotAgain : Mark → OutgoingLeg → IncomingLeg → Removal → Type 0
NotAgain Forward Absent Settled r = Unit {0}
NotAgain Forward Absent Open r = r ≡ NoRemoval
NotAgain Forward Absent RemovalSent r = r ≡ NoRemoval
NotAgain Forward Absent RemovalRefused r = r ≡ NoRemoval
NotAgain Forward (Offered c i) Settled r = Unit {0}
NotAgain Forward (Offered c i) Open r = r ≡ NoRemoval
NotAgain Forward (Offered c i) RemovalSent r = r ≡ NoRemoval
NotAgain Forward (Offered c i) RemovalRefused r = r ≡ NoRemoval
NotAgain m w l r = Unit {0}

abbrev pub IsSettledOnly : IncomingLeg → Removal → Type 0
IsSettledOnly Open r = Unit {0}
IsSettledOnly RemovalSent r = Unit {0}
IsSettledOnly RemovalRefused r = Unit {0}
IsSettledOnly Settled r = IsHeld r

abbrev pub MarkIs : Decision → Mark → Type 0
MarkIs Undecided m = ⊥
MarkIs (Decided n) m = n ≡ m
MarkIs Past m = ⊥

-- ---- all of it, of a payment's parts

pub record Kept (d : Decision) (r : Removal) (os : List Out) (e : Option Note) (h : ℕ → Bool) : Type 0 where
  pub one : AtMostOne os
  pub early : IsEarly d r os e
  pub forwards : IsHeld r ⊎ IsForwarded d os
  pub waits : Waits d r
  pub follows : Follows r os
  pub results : IsHeld r ⊎ Each (λ o. HasResult o.course) os
  pub knows : IsHeld r ⊎ IsKnown e os
  pub offered : ForNote (λ f. IsOffered f.outgoing os h) e
  pub over : ForNote (λ f. IsOver f.outgoing os) e
  pub not_again : ForNote (λ f. NotAgain f.mark f.outgoing f.incoming r) e
  pub settled : ForNote (λ f. IsSettledOnly f.incoming r) e
  pub marks : IsHeld r ⊎ ForNote (λ f. MarkIs d f.mark) e

abbrev pub IsKept : Payment → Type 0
IsKept p = Kept p.decision p.removal p.outs p.note p.halted
