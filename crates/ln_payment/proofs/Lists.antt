-- Facts about the outgoing adds of a payment that outlive a change of their courses, or a loss of some of them.
use Rattle.std.proofs.Common.{◌≡◌, inl, inr, ℕ, List, [], ◌∷◌, Bool, true, false, ◌&&◌, refl, ap, sym, subst, ◌∙◌}
use Rattle.std.proofs.Common.{map, Option, Some, None}
use Rattle.std.specs.Prelude.{not, cond}
use Rattle.ln_payment.specs.Parts.{Among, Answer, By, Course, Covered, Decided, Decision, Each, Ended, Forward}
use Rattle.ln_payment.specs.Parts.{HasEnded, Hold, IsAt, IsEnd, Kind, NoRemoval, Note, Absent, Offered, Out}
use Rattle.ln_payment.specs.Parts.{Resolved, Past, Refused, Removal, Uncovered, Undecided, OutgoingLeg}
use Rattle.ln_payment.specs.Rebuild.{is_uncovered, kept_outs}
use Rattle.ln_payment.specs.Moves.{with_course}
use Rattle.ln_payment.specs.Promises.{Follows}
use Rattle.ln_payment.proofs.Invariant.{AtMostOne, IsEarly, IsForwarded, IsKnown, IsOffered, IsOver, Names}

-- ---- other courses

abbrev pub recourse : (Out → Course) → List Out → List Out
recourse g os = map (λ o. with_course (g o) o) os

pub each_course : (g : Out → Course) (P Q : Out → Type 0) → ((o : Out) → P o → Q (with_course (g o) o))
    → (os : List Out)
    → Each P os → Each Q (recourse g os)
each_course g P Q f [] e = tt
each_course g P Q f (o ∷ os) e = (f o (e.0), each_course g P Q f os (e.1))

pub among_course : (g : Out → Course) (P Q : Out → Type 0) → ((o : Out) → P o → Q (with_course (g o) o))
    → (os : List Out)
    → Among P os → Among Q (recourse g os)
among_course g P Q f [] a = absurd a
among_course g P Q f (o ∷ os) (inl p) = inl (f o p)
among_course g P Q f (o ∷ os) (inr a) = inr (among_course g P Q f os a)

pub one_course : (g : Out → Course) (os : List Out) → AtMostOne os → AtMostOne (recourse g os)
one_course g [] a = tt
one_course g (o ∷ []) a = tt
one_course g (o ∷ o2 ∷ os) a = absurd a

pub early_course : (g : Out → Course) (d : Decision) (r : Removal) (os : List Out) (e : Option Note) → IsEarly d r os e
    → IsEarly d r (recourse g os) e
early_course g Undecided r os e a = (a.0, ap (recourse g) (a.1), a.2)
early_course g (Decided m) r os e a = tt
early_course g Past r os e a = tt

pub forwarded_course : (g : Out → Course) (d : Decision) (os : List Out) → IsForwarded d os
    → IsForwarded d (recourse g os)
forwarded_course g d [] a = tt
forwarded_course g Undecided (o ∷ os) a = a
forwarded_course g (Decided Forward) (o ∷ os) a = tt
forwarded_course g (Decided Hold) (o ∷ os) a = a
forwarded_course g (Decided (Answer k)) (o ∷ os) a = a
forwarded_course g Past (o ∷ os) a = a

names_course : (g : Out → Course) (w : OutgoingLeg) (o : Out) → Names w o → Names w (with_course (g o) o)
names_course g Absent o n = n
names_course g Refused o n = n
names_course g (Offered c i) o n = n
names_course g (Resolved c i k) o n = n

pub known_course : (g : Out → Course) (e : Option Note) (os : List Out) → IsKnown e os → IsKnown e (recourse g os)
known_course g None os a = ap (recourse g) a
known_course g (Some e) os a = each_course g (Names e.outgoing) (Names e.outgoing) (names_course g e.outgoing) os a

pub offered_course : (g : Out → Course) (w : OutgoingLeg) (os : List Out) (h : ℕ → Bool) → IsOffered w os h
    → IsOffered w (recourse g os) h
offered_course g Absent os h a = tt
offered_course g Refused os h a = tt
offered_course g (Offered c i) os h (inl b) = inl b
offered_course g (Offered c i) os h (inr b) = inr (among_course g (IsAt c i) (IsAt c i) (λ o p. p) os b)
offered_course g (Resolved c i k) os h a = tt

pub over_course : (g : Out → Course) → ((k : Kind) (o : Out) → HasEnded k o → IsEnd k (g o)) → (w : OutgoingLeg)
    (os : List Out) → IsOver w os → IsOver w (recourse g os)
over_course g f Absent os a = tt
over_course g f Refused os a = tt
over_course g f (Offered c i) os a = tt
over_course g f (Resolved c i k) os a =
    among_course g (λ o. IsAt c i o × HasEnded k o) (λ o. IsAt c i o × HasEnded k o)
    (λ o p. (p.0, f k o (p.1))) os a

pub follows_course : (g : Out → Course) → ((k : Kind) (o : Out) → HasEnded k o → IsEnd k (g o))
    → (r : Removal)
    (os : List Out) → Follows r os → Follows r (recourse g os)
follows_course g f NoRemoval os a = tt
follows_course g f (By k s) os a = each_course g (HasEnded k) (HasEnded k) (f k) os a

-- ---- some of them are lost

each_if : (P : Out → Type 0) (b : Bool) (o : Out) (os : List Out) → P o → Each P os → Each P (cond (not b) (o ∷ os) os)
each_if P true o os p e = e
each_if P false o os p e = (p, e)

pub each_kept : (f : ℕ → Bool) (P : Out → Type 0) (os : List Out) → Each P os → Each P (kept_outs f os)
each_kept f P [] e = tt
each_kept f P (o ∷ os) e =
    each_if P (is_uncovered o.course && f o.channel) o (kept_outs f os) (e.0) (each_kept f P os (e.1))

one_if : (b : Bool) (o : Out) → AtMostOne (cond (not b) (o ∷ []) [])
one_if true o = tt
one_if false o = tt

pub one_kept : (f : ℕ → Bool) (os : List Out) → AtMostOne os → AtMostOne (kept_outs f os)
one_kept f [] a = tt
one_kept f (o ∷ []) a = one_if (is_uncovered o.course && f o.channel) o
one_kept f (o ∷ o2 ∷ os) a = absurd a

pub early_kept : (f : ℕ → Bool) (d : Decision) (r : Removal) (os : List Out) (e : Option Note) → IsEarly d r os e
    → IsEarly d r (kept_outs f os) e
early_kept f Undecided r os e a = (a.0, ap (kept_outs f) (a.1), a.2)
early_kept f (Decided m) r os e a = tt
early_kept f Past r os e a = tt

forwards_all : (os : List Out) → IsForwarded (Decided Forward) os
forwards_all [] = tt
forwards_all (o ∷ os) = tt

pub forwarded_kept : (f : ℕ → Bool) (d : Decision) (os : List Out) → IsForwarded d os → IsForwarded d (kept_outs f os)
forwarded_kept f d [] a = tt
forwarded_kept f Undecided (o ∷ os) a = absurd a
forwarded_kept f (Decided Forward) (o ∷ os) a = forwards_all (kept_outs f (o ∷ os))
forwarded_kept f (Decided Hold) (o ∷ os) a = absurd a
forwarded_kept f (Decided (Answer k)) (o ∷ os) a = absurd a
forwarded_kept f Past (o ∷ os) a = absurd a

pub known_kept : (f : ℕ → Bool) (e : Option Note) (os : List Out) → IsKnown e os → IsKnown e (kept_outs f os)
known_kept f None os a = ap (kept_outs f) a
known_kept f (Some e) os a = each_kept f (Names e.outgoing) os a

pub follows_kept : (f : ℕ → Bool) (r : Removal) (os : List Out) → Follows r os → Follows r (kept_outs f os)
follows_kept f NoRemoval os a = tt
follows_kept f (By k s) os a = each_kept f (HasEnded k) os a

-- what has ended isn't lost
not_both : (a : Bool) {b : Bool} → b ≡ false → (a && b) ≡ false
not_both true n = n
not_both false n = refl

among_if : (P : Out → Type 0) (b : Bool) (o : Out) (os : List Out) → Among P os → Among P (cond (not b) (o ∷ os) os)
among_if P true o os a = a
among_if P false o os a = inr a

covered_by_end : (k : Kind) (s : Course) → IsEnd k s → is_uncovered s ≡ false
covered_by_end k Uncovered h = absurd h
covered_by_end k Covered h = refl
covered_by_end k (Ended j b) h = refl

abbrev HasEndedAt : ℕ → ℕ → Kind → Out → Type 0
HasEndedAt c i k o = IsAt c i o × HasEnded k o

ended_kept : (f : ℕ → Bool) (c i : ℕ) (k : Kind) (os : List Out) → Among (HasEndedAt c i k) os
    → Among (HasEndedAt c i k) (kept_outs f os)
ended_kept f c i k [] a = absurd a
ended_kept f c i k (o ∷ os) (inl p) =
    subst (λ x. Among (HasEndedAt c i k) (cond (not (x && f o.channel)) (o ∷ kept_outs f os) (kept_outs f os)))
    (sym (covered_by_end k o.course (p.1))) (inl p)
ended_kept f c i k (o ∷ os) (inr a) =
    among_if (HasEndedAt c i k) (is_uncovered o.course && f o.channel) o (kept_outs f os) (ended_kept f c i k os a)

pub over_kept : (f : ℕ → Bool) (w : OutgoingLeg) (os : List Out) → IsOver w os → IsOver w (kept_outs f os)
over_kept f Absent os a = tt
over_kept f Refused os a = tt
over_kept f (Offered c i) os a = tt
over_kept f (Resolved c i k) os a = ended_kept f c i k os a

-- an add of another channel isn't lost
pub elsewhere_kept : (f : ℕ → Bool) (c i : ℕ) (os : List Out) → f c ≡ false → Among (IsAt c i) os
    → Among (IsAt c i) (kept_outs f os)
elsewhere_kept f c i [] n a = absurd a
elsewhere_kept f c i (o ∷ os) n (inl p) =
    let other : (is_uncovered o.course && f o.channel) ≡ false = not_both (is_uncovered o.course) (ap f (p.0) ∙ n) in
    subst (λ x. Among (IsAt c i) (cond (not x) (o ∷ kept_outs f os) (kept_outs f os))) (sym other) (inl p)
elsewhere_kept f c i (o ∷ os) n (inr a) =
    among_if (IsAt c i) (is_uncovered o.course && f o.channel) o (kept_outs f os) (elsewhere_kept f c i os n a)
