-- What the clauses of what is kept give of a payment, one by one.
use Rattle.std.proofs.Common.{◌≡◌, ◌⊎◌, inl, inr, ℕ, List, [], ◌∷◌, refl, sym}
use Rattle.std.proofs.Common.{subst, Option, Some}
use Rattle.ln_payment.specs.Parts.{Among, Answer, IncomingLeg, By, Decided, Decision, Each, Forward, RemovalRefused}
use Rattle.ln_payment.specs.Parts.{Hold, IsHeld}
use Rattle.ln_payment.specs.Parts.{Kind, Mark, NoRemoval, Note, Absent, Offered, Open, Out, Resolved, Past, Refused}
use Rattle.ln_payment.specs.Parts.{Removal, RemovalSent, Settled, Stage, Undecided, OutgoingLeg}
use Rattle.ln_payment.specs.Moves.{IsAnswer}
use Rattle.ln_payment.proofs.Invariant.{IsEarly, IsForwarded, IsSettledOnly, MarkIs, NotAgain, Waits}

abbrev pub noted : Mark → OutgoingLeg → IncomingLeg → Note
noted m w l = record { mark = m; outgoing = w; incoming = l }

pub again_none : (m : Mark) (w : OutgoingLeg) (l : IncomingLeg) → NotAgain m w l NoRemoval
again_none Forward Absent Open = refl
again_none Forward Absent RemovalSent = refl
again_none Forward Absent RemovalRefused = refl
again_none Forward Absent Settled = tt
again_none Forward Refused l = tt
again_none Forward (Offered c i) Open = refl
again_none Forward (Offered c i) RemovalSent = refl
again_none Forward (Offered c i) RemovalRefused = refl
again_none Forward (Offered c i) Settled = tt
again_none Forward (Resolved c i k) l = tt
again_none Hold w l = tt
again_none (Answer k) w l = tt

-- what has a note has been decided
pub early_note : (d : Decision) (r s : Removal) (os ps : List Out) (f : Note) (e : Option Note)
    → IsEarly d r os (Some f) → IsEarly d s ps e
early_note Undecided r s os ps f e a = absurd (cc (a.2))
early_note (Decided m) r s os ps f e a = tt
early_note Past r s os ps f e a = tt

-- and so has what has a removal
pub early_removal : (d : Decision) (k : Kind) (t : Stage) (s : Removal) (os ps : List Out) (e f : Option Note)
    → IsEarly d (By k t) os e → IsEarly d s ps f
early_removal Undecided k t s os ps e f a = absurd (cc (a.0))
early_removal (Decided m) k t s os ps e f a = tt
early_removal Past k t s os ps e f a = tt

pub forwards_by_mark : (d : Decision) (os : List Out) → MarkIs d Forward → IsForwarded d os
forwards_by_mark d [] a = tt
forwards_by_mark Undecided (o ∷ os) a = absurd a
forwards_by_mark (Decided Forward) (o ∷ os) a = tt
forwards_by_mark (Decided Hold) (o ∷ os) a = absurd (cc a)
forwards_by_mark (Decided (Answer k)) (o ∷ os) a = absurd (cc a)
forwards_by_mark Past (o ∷ os) a = absurd a

-- nothing is offered of what is to be answered
pub none_by_mark : (d : Decision) (k : Kind) (os : List Out) → MarkIs d (Answer k) → IsForwarded d os → os ≡ []
none_by_mark d k [] a f = refl
none_by_mark Undecided k (o ∷ os) a f = absurd f
none_by_mark (Decided Forward) k (o ∷ os) a f = absurd (cc a)
none_by_mark (Decided Hold) k (o ∷ os) a f = absurd f
none_by_mark (Decided (Answer j)) k (o ∷ os) a f = absurd f
none_by_mark Past k (o ∷ os) a f = absurd f

pub waits_none : (d : Decision) → Waits d NoRemoval
waits_none Undecided = tt
waits_none (Decided Forward) = tt
waits_none (Decided Hold) = refl
waits_none (Decided (Answer k)) = tt
waits_none Past = tt

pub waits_by : (d : Decision) (j : Kind) (s : Stage) (r : Removal) → Waits d (By j s) → Waits d r
waits_by Undecided j s r a = tt
waits_by (Decided Forward) j s r a = tt
waits_by (Decided Hold) j s r a = absurd (cc a)
waits_by (Decided (Answer k)) j s r a = tt
waits_by Past j s r a = tt

-- what is answered isn't held
pub waits_answer : (d : Decision) (k : Kind) (r : Removal) → MarkIs d (Answer k) → Waits d r
waits_answer Undecided k r a = absurd a
waits_answer (Decided Forward) k r a = tt
waits_answer (Decided Hold) k r a = absurd (cc a)
waits_answer (Decided (Answer j)) k r a = tt
waits_answer Past k r a = absurd a

pub waits_forward : (d : Decision) (r : Removal) → MarkIs d Forward → Waits d r
waits_forward Undecided r a = absurd a
waits_forward (Decided Forward) r a = tt
waits_forward (Decided Hold) r a = absurd (cc a)
waits_forward (Decided (Answer j)) r a = tt
waits_forward Past r a = absurd a

pub again_by : (m : Mark) (w : OutgoingLeg) (l : IncomingLeg) (j : Kind) (s : Stage) (r : Removal)
    → NotAgain m w l (By j s)
    → NotAgain m w l r
again_by Forward Absent Open j s r a = absurd (cc a)
again_by Forward Absent RemovalSent j s r a = absurd (cc a)
again_by Forward Absent RemovalRefused j s r a = absurd (cc a)
again_by Forward Absent Settled j s r a = tt
again_by Forward Refused l j s r a = tt
again_by Forward (Offered c i) Open j s r a = absurd (cc a)
again_by Forward (Offered c i) RemovalSent j s r a = absurd (cc a)
again_by Forward (Offered c i) RemovalRefused j s r a = absurd (cc a)
again_by Forward (Offered c i) Settled j s r a = tt
again_by Forward (Resolved c i k) l j s r a = tt
again_by Hold w l j s r a = tt
again_by (Answer k) w l j s r a = tt

pub again_settled : (m : Mark) (w : OutgoingLeg) (r : Removal) → NotAgain m w Settled r
again_settled Forward Absent r = tt
again_settled Forward Refused r = tt
again_settled Forward (Offered c i) r = tt
again_settled Forward (Resolved c i k) r = tt
again_settled Hold w r = tt
again_settled (Answer k) w r = tt

pub again_over : (m : Mark) (c i : ℕ) (k : Kind) (l : IncomingLeg) (r : Removal) → NotAgain m (Resolved c i k) l r
again_over Forward c i k l r = tt
again_over Hold c i k l r = tt
again_over (Answer j) c i k l r = tt

pub again_given : (k : Kind) (m : Mark) (w : OutgoingLeg) (l : IncomingLeg) (r : Removal) → IsAnswer k m w
    → NotAgain m w l r
again_given k Forward Absent l r a = absurd a
again_given k Forward Refused l r a = tt
again_given k Forward (Offered c i) l r a = absurd a
again_given k Forward (Resolved c i j) l r a = tt
again_given k Hold w l r a = tt
again_given k (Answer j) w l r a = tt

pub again_back : (m : Mark) (c i : ℕ) (l : IncomingLeg) (r : Removal) → NotAgain m (Offered c i) l r
    → NotAgain m Absent l r
again_back Forward c i Open r a = a
again_back Forward c i RemovalSent r a = a
again_back Forward c i RemovalRefused r a = a
again_back Forward c i Settled r a = tt
again_back Hold c i l r a = tt
again_back (Answer k) c i l r a = tt

pub again_offered : (m : Mark) (c i : ℕ) (l : IncomingLeg) (r : Removal) → NotAgain m Absent l r
    → NotAgain m (Offered c i) l r
again_offered Forward c i Open r a = a
again_offered Forward c i RemovalSent r a = a
again_offered Forward c i RemovalRefused r a = a
again_offered Forward c i Settled r a = tt
again_offered Hold c i l r a = tt
again_offered (Answer k) c i l r a = tt

pub settled_later : (l : IncomingLeg) (r s : Removal) → (IsHeld r → IsHeld s) → IsSettledOnly l r → IsSettledOnly l s
settled_later Open r s f a = tt
settled_later RemovalSent r s f a = tt
settled_later RemovalRefused r s f a = tt
settled_later Settled r s f a = f a

pub held_settled : (l : IncomingLeg) (r : Removal) → IsHeld r → IsSettledOnly l r
held_settled Open r a = tt
held_settled RemovalSent r a = tt
held_settled RemovalRefused r a = tt
held_settled Settled r a = a

pub or_else : {A B C : Type 0} → (B → C) → A ⊎ B → A ⊎ C
or_else f (inl a) = inl a
or_else f (inr b) = inr (f b)

pub first_as : {A B C : Type 0} → (A → C) → A ⊎ B → C ⊎ B
first_as f (inl a) = inl (f a)
first_as f (inr b) = inr b

pub second_of : {A B : Type 0} → (A → ⊥) → A ⊎ B → B
second_of f (inl a) = absurd (f a)
second_of f (inr b) = b

pub each_none : (P : Out → Type 0) (os : List Out) → os ≡ [] → Each P os
each_none P os e = subst (Each P) (sym e) tt

pub each_absurd : (P Q : Out → Type 0) (os : List Out) → Each P os → Each (λ o. P o → ⊥) os → Each Q os
each_absurd P Q [] a b = tt
each_absurd P Q (o ∷ os) a b = absurd (b.0 (a.0))

pub each_map : (P Q : Out → Type 0) → ((o : Out) → P o → Q o) → (os : List Out) → Each P os → Each Q os
each_map P Q f [] a = tt
each_map P Q f (o ∷ os) a = (f o (a.0), each_map P Q f os (a.1))

pub among_map : (P Q R : Out → Type 0) → ((o : Out) → P o → R o → Q o) → (os : List Out) → Among P os → Each R os
    → Among Q os
among_map P Q R f [] a e = absurd a
among_map P Q R f (o ∷ os) (inl p) e = inl (f o p (e.0))
among_map P Q R f (o ∷ os) (inr a) e = inr (among_map P Q R f os a (e.1))

pub among_absurd : (P : Out → Type 0) (os : List Out) → Among P os → Each (λ o. P o → ⊥) os → ⊥
among_absurd P [] a e = a
among_absurd P (o ∷ os) (inl p) e = e.0 p
among_absurd P (o ∷ os) (inr a) e = among_absurd P os a (e.1)
