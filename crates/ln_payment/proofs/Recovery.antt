-- A book that is read off the records is the one that was lost, but for what no signature covered.
use Rattle.std.proofs.Common.{◌≡◌, ◌⊎◌, inl, inr, ℕ, List, [], ◌∷◌, Bool, true, false, refl, ap, sym, subst, ◌∙◌}
use Rattle.std.proofs.Common.{Option, Some, None}
use Rattle.std.specs.Prelude.{◌==◌, ◌&&◌, if◌then◌else◌}
use Rattle.std.proofs.lemmas.Bool.{eq-eqb}
use Rattle.ln_payment.specs.Parts.{Among, Answer, IncomingLeg, By, Course, Covered, Decided, Decision, Ended, Forward}
use Rattle.ln_payment.specs.Parts.{RemovalRefused}
use Rattle.ln_payment.specs.Parts.{HasEnded, Held, Hold, IsAt, IsHeld, Kind, Mark, NoRemoval, Note, Absent}
use Rattle.ln_payment.specs.Parts.{Offered, Open, Out, Resolved, Past, Payment, Proposed, Refused, Removal, RemovalSent}
use Rattle.ln_payment.specs.Parts.{Stage}
use Rattle.ln_payment.specs.Parts.{Settled, Signed, Uncovered, Undecided, OutgoingLeg, begun}
use Rattle.ln_payment.specs.Rebuild.{incoming_leg_of, everywhere, kept_outs, kept_removal, note_by, note_of_result}
use Rattle.ln_payment.specs.Rebuild.{note_read}
use Rattle.ln_payment.specs.Rebuild.{settled_note, outgoing_of, outgoing_read}
use Rattle.ln_payment.specs.Moves.{AreMade, Move, after}
use Rattle.ln_payment.specs.Recovery.{IsReadBack, note_left, outgoing_left}
use Rattle.ln_payment.proofs.Invariant.{IsKept, IsSettledOnly, Kept, MarkIs, Names, NotAgain}
use Rattle.ln_payment.proofs.Clauses.{again_back, noted, second_of}
use Rattle.ln_payment.proofs.Law.{kept_after, kept_begun}
use Rattle.ln_payment.proofs.Moves as moves

abbrev made : ℕ → ℕ → Course → List Out
made c i s = record { channel = c; id = i; course = s } ∷ []

abbrev left : List Out → List Out
left os = kept_outs everywhere os

-- ---- an add is found where it is

found : (c i d j : ℕ) (w : OutgoingLeg) → c ≡ d → i ≡ j → w ≡ (if (c == d) && (i == j) then w else Absent)
found c i d j w e f =
    subst (λ x. w ≡ (if x && (i == j) then w else Absent)) (sym (eq-eqb c d e))
    (subst (λ x. w ≡ (if true && x then w else Absent)) (sym (eq-eqb i j f)) refl)

at_offer : (c i d j : ℕ) → c ≡ d → i ≡ j → Offered c i ≡ Offered d j
at_offer c i d j e f = cc

at_end : (c i d j : ℕ) (q k : Kind) → c ≡ d → i ≡ j → q ≡ k → Resolved c i q ≡ Resolved d j k
at_end c i d j q k e f g = cc

abbrev at : ℕ → ℕ → Course → Out
at c i s = record { channel = c; id = i; course = s }

-- what the book has as over has ended
not_over : (c i d j : ℕ) (n : Kind) (s : Course) → (HasEnded n (at c i s) → ⊥)
    → Among (λ o. IsAt d j o × HasEnded n o) (made c i s) → ⊥
not_over c i d j n s f (inl a) = f (a.1)
not_over c i d j n s f (inr a) = absurd a

over_there : (c i d j : ℕ) (n q : Kind) (b : Bool)
    → Among (λ o. IsAt d j o × HasEnded n o) (made c i (Ended q b)) → Resolved c i q ≡ Resolved d j n
over_there c i d j n q b (inl a) = at_end c i d j q n (a.0.0) (a.0.1) (a.1)
over_there c i d j n q b (inr a) = absurd a

-- the book knows of the add
named : (w : OutgoingLeg) (o : Out) (r : Removal) → (IsHeld r → ⊥) → IsHeld r ⊎ (Names w o × Unit {0}) → Names w o
named w o r f x = (second_of f x).0

-- ---- where it goes, where there is no removal

open_at : (t : Bool) (m : Mark) (w : OutgoingLeg) (l : IncomingLeg) (c i : ℕ) (s : Course) (h : ℕ → Bool)
    → Kept (Decided m) NoRemoval (made c i s) (Some (noted m w l)) h
    → outgoing_of t (left (made c i s)) ≡ outgoing_left w m NoRemoval (left (made c i s))
open_at t m Absent l c i Uncovered h k = refl
open_at t m Refused l c i Uncovered h k = refl
open_at t m (Offered d j) l c i Uncovered h k = refl
open_at t m (Resolved d j n) l c i Uncovered h k = absurd (not_over c i d j n Uncovered (λ x. x) (k.over))
open_at t m Absent l c i Covered h k = absurd (named Absent (at c i Covered) NoRemoval (λ x. x) (k.knows))
open_at t m Refused l c i Covered h k = absurd (named Refused (at c i Covered) NoRemoval (λ x. x) (k.knows))
open_at t m (Offered d j) l c i Covered h k =
    let a : IsAt d j (at c i Covered) = named (Offered d j) (at c i Covered) NoRemoval (λ x. x) (k.knows) in
    at_offer c i d j (a.0) (a.1) ∙ found c i d j (Offered d j) (a.0) (a.1)
open_at t m (Resolved d j n) l c i Covered h k = absurd (not_over c i d j n Covered (λ x. x) (k.over))
open_at t m Absent l c i (Ended q true) h k =
    absurd (named Absent (at c i (Ended q true)) NoRemoval (λ x. x) (k.knows))
open_at t m Refused l c i (Ended q true) h k =
    absurd (named Refused (at c i (Ended q true)) NoRemoval (λ x. x) (k.knows))
open_at t m (Offered d j) l c i (Ended q true) h k =
    let a : IsAt d j (at c i (Ended q true)) = named (Offered d j) (at c i (Ended q true)) NoRemoval (λ x. x)
    (k.knows) in
    at_end c i d j q q (a.0) (a.1) refl ∙ found c i d j (Resolved d j q) (a.0) (a.1)
open_at t m (Resolved d j n) l c i (Ended q true) h k = over_there c i d j n q true (k.over)
open_at t m w l c i (Ended q false) h k = absurd (cc ((second_of (λ x. x) (k.results)).0))

open_of : (t : Bool) (m : Mark) (w : OutgoingLeg) (l : IncomingLeg) (os : List Out) (h : ℕ → Bool)
    → Kept (Decided m) NoRemoval os (Some (noted m w l)) h
    → outgoing_of t (left os) ≡ outgoing_left w m NoRemoval (left os)
open_of t m Absent l [] h k = refl
open_of t m Refused l [] h k = refl
open_of t m (Offered d j) l [] h k = refl
open_of t m (Resolved d j n) l [] h k = absurd (k.over)
open_of t m w l (o ∷ []) h k = open_at t m w l o.channel o.id o.course h k
open_of t m w l (o ∷ o2 ∷ os) h k = absurd (k.one)

-- ---- and where there is one that isn't held

-- what may be offered has none
not_offered : (l : IncomingLeg) (n : Kind) (s : Stage) → (IsHeld (By n s) → ⊥) → IsSettledOnly l (By n s)
    → NotAgain Forward Absent l (By n s) → ⊥
not_offered Open n s f a b = cc b
not_offered RemovalSent n s f a b = cc b
not_offered RemovalRefused n s f a b = cc b
not_offered Settled n s f a b = f a

sent_none : (m : Mark) (w : OutgoingLeg) (l : IncomingLeg) (n : Kind) (h : ℕ → Bool)
    → Kept (Decided m) (By n Signed) [] (Some (noted m w l)) h
    → outgoing_read m Absent ≡ outgoing_left w m (By n Signed) []
sent_none Hold w l n h k = absurd (cc (k.waits))
sent_none Forward Absent l n h k =
    absurd (not_offered l n Signed (λ x. x) (k.settled) (k.not_again))
sent_none Forward Refused l n h k = refl
sent_none Forward (Offered d j) l n h k =
    absurd (not_offered l n Signed (λ x. x) (k.settled)
    (again_back Forward d j l (By n Signed) (k.not_again)))
sent_none Forward (Resolved d j q) l n h k = absurd (k.over)
sent_none (Answer q) Absent l n h k = refl
sent_none (Answer q) Refused l n h k = refl
sent_none (Answer q) (Offered d j) l n h k = refl
sent_none (Answer q) (Resolved d j g) l n h k = absurd (k.over)

sent_at : (t : Bool) (m : Mark) (w : OutgoingLeg) (l : IncomingLeg) (n : Kind) (c i : ℕ) (s : Course) (h : ℕ → Bool)
    → Kept (Decided m) (By n Signed) (made c i s) (Some (noted m w l)) h
    → outgoing_read m (outgoing_of t (left (made c i s))) ≡ outgoing_left w m (By n Signed) (left (made c i s))
sent_at t m w l n c i Uncovered h k = absurd (k.follows.0)
sent_at t m w l n c i Covered h k = absurd (k.follows.0)
sent_at t m w l n c i (Ended q false) h k = absurd (cc ((second_of (λ x. x) (k.results)).0))
sent_at t Hold w l n c i (Ended q true) h k = absurd (cc (k.waits))
sent_at t (Answer g) w l n c i (Ended q true) h k = absurd (second_of (λ x. x) (k.forwards))
sent_at t Forward Absent l n c i (Ended q true) h k =
    absurd (named Absent (at c i (Ended q true)) (By n Signed) (λ x. x) (k.knows))
sent_at t Forward Refused l n c i (Ended q true) h k =
    absurd (named Refused (at c i (Ended q true)) (By n Signed) (λ x. x) (k.knows))
sent_at t Forward (Offered d j) l n c i (Ended q true) h k =
    let a : IsAt d j (at c i (Ended q true)) = named (Offered d j) (at c i (Ended q true)) (By n Signed) (λ x. x)
    (k.knows) in
    at_end c i d j q q (a.0) (a.1) refl ∙ found c i d j (Resolved d j q) (a.0) (a.1)
sent_at t Forward (Resolved d j g) l n c i (Ended q true) h k = over_there c i d j g q true (k.over)

sent_of : (t : Bool) (m : Mark) (w : OutgoingLeg) (l : IncomingLeg) (n : Kind) (os : List Out) (h : ℕ → Bool)
    → Kept (Decided m) (By n Signed) os (Some (noted m w l)) h
    → outgoing_read m (outgoing_of t (left os)) ≡ outgoing_left w m (By n Signed) (left os)
sent_of t m w l n [] h k = sent_none m w l n h k
sent_of t m w l n (o ∷ []) h k = sent_at t m w l n o.channel o.id o.course h k
sent_of t m w l n (o ∷ o2 ∷ os) h k = absurd (k.one)

-- ---- the note

-- by its mark, which is the decision's
note_of : (t : Bool) (m : Mark) (r : Removal) (os : List Out) (w : OutgoingLeg) (l : IncomingLeg) (h : ℕ → Bool)
    → (IsHeld r → ⊥)
    → Kept (Decided m) r os (Some (noted m w l)) h
    → note_by m (outgoing_of t (left os)) (incoming_leg_of (kept_removal r))
    ≡ Some (note_left (noted m w l) (kept_removal r) (left os))
note_of t m NoRemoval os w l h n k = ap (λ x. Some (noted m x Open)) (open_of t m w l os h k)
note_of t m (By q Proposed) os w l h n k =
    ap (λ x. Some (noted m x Open)) (open_of t m w l os h (moves.kept_drop_removal (Decided m) (By q Proposed) os
    (Some (noted m w l)) h k))
note_of t m (By q Signed) os w l h n k = ap (λ x. Some (noted m x RemovalSent)) (sent_of t m w l q os h k)
note_of t m (By q Held) os w l h n k = absurd (n tt)

there : (t : Bool) (d : Decision) (r : Removal) (os : List Out) (e : Note) (h : ℕ → Bool) → (IsHeld r → ⊥)
    → MarkIs d e.mark → Kept d r os (Some e) h
    → note_read d (outgoing_of t (left os)) (kept_removal r) ≡ Some (note_left e (kept_removal r) (left os))
there t Undecided r os e h n a k = absurd a
there t (Decided m) r os e h n a k =
    subst (λ x. note_by x (outgoing_of t (left os)) (incoming_leg_of (kept_removal r))
    ≡ Some (note_left e (kept_removal r) (left os))) (sym a)
    (note_of t e.mark r os e.outgoing e.incoming h n (subst (λ x. Kept (Decided x) r os (Some e) h) a k))
there t Past r os e h n a k = absurd a

-- ---- what is held

abbrev incoming_in : Option Note → IncomingLeg
incoming_in None = Settled
incoming_in (Some e) = e.incoming

abbrev IsIncomingSettled : Option Note → Type 0
IsIncomingSettled e = incoming_in e ≡ Settled

settled_by : (m : Mark) (w : OutgoingLeg) → IsIncomingSettled (settled_note m w)
settled_by Hold w = refl
settled_by Forward Absent = refl
settled_by Forward Refused = refl
settled_by Forward (Offered c i) = refl
settled_by Forward (Resolved c i k) = refl
settled_by (Answer j) Absent = refl
settled_by (Answer j) Refused = refl
settled_by (Answer j) (Offered c i) = refl
settled_by (Answer j) (Resolved c i k) = refl

settled_result : (w : OutgoingLeg) → IsIncomingSettled (note_of_result w)
settled_result Absent = refl
settled_result Refused = refl
settled_result (Offered c i) = refl
settled_result (Resolved c i k) = refl

held : (d : Decision) (w : OutgoingLeg) (r : Removal) → IsHeld r → IsIncomingSettled (note_read d w (kept_removal r))
held d w NoRemoval a = absurd a
held d w (By k Proposed) a = absurd a
held d w (By k Signed) a = absurd a
held Undecided w (By k Held) a = refl
held (Decided m) w (By k Held) a = settled_by m (outgoing_read m w)
held Past w (By k Held) a = settled_result w

-- ---- all of it

read_back : (t : Bool) (p : Payment) → IsKept p → IsReadBack t p
read_back t p k = record {
  is_what_was_there = λ e q n.
      let x : Kept p.decision p.removal p.outs (Some e) p.halted =
      subst (λ y. Kept p.decision p.removal p.outs y p.halted) q k in
      there t p.decision p.removal p.outs e p.halted n (second_of n (x.marks)) x;
  lets_nothing_go = λ q n.
      let x : Kept p.decision p.removal p.outs None p.halted =
      subst (λ y. Kept p.decision p.removal p.outs y p.halted) q k in
      second_of n (x.knows);
  is_settled_once_held = λ a e q.
      sym (ap incoming_in q) ∙ held p.decision (outgoing_of t (left p.outs)) p.removal a;
}

pub the_book : (t : Bool) (vs : List Move) → AreMade vs begun → IsReadBack t (after vs begun)
the_book t vs a = read_back t (after vs begun) (kept_after vs begun a kept_begun)
