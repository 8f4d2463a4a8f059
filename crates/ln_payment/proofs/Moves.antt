-- Each move keeps what is kept of a payment.
use Rattle.std.proofs.Common.{◌≡◌, ◌⊎◌, inl, inr, ℕ, List, [], ◌∷◌, Bool, true, false, ◌||◌, ◌==◌, refl, ap, sym}
use Rattle.std.proofs.Common.{subst, ◌∙◌, Option, Some, None}
use Rattle.std.specs.Prelude.{if◌then◌else◌, not, ◌&&◌}
use Rattle.std.proofs.lemmas.Bool.{eqb-true}
use Rattle.ln_payment.specs.Parts.{Among, Answer, IncomingLeg, By, Course, Covered, Decided, Decision, Each, Ended}
use Rattle.ln_payment.specs.Parts.{Forward, RemovalRefused, HasEnded, Held, Hold, IsAt, IsEnd, IsHeld, Kind, Mark}
use Rattle.ln_payment.specs.Parts.{NoRemoval, Note, Absent, Offered, Open, Out, Resolved, Past, Proposed, Refused}
use Rattle.ln_payment.specs.Parts.{Removal, RemovalSent, Settled, Signed, Stage, Uncovered, Undecided, OutgoingLeg}
use Rattle.ln_payment.specs.Rebuild.{kept_outs, kept_removal, settled_note}
use Rattle.ln_payment.specs.Moves.{AsksToOffer, AsksToRemove, IsAnswer, OutgoingIsAt, OutgoingStays, after_end}
use Rattle.ln_payment.specs.Moves.{after_forget, after_sign, is_at, is_of, removal_held, removal_signed}
use Rattle.ln_payment.specs.Moves.{with_mark}
use Rattle.ln_payment.proofs.Invariant.{AtMostOne, ForNote, HasResult, IsOffered, IsOver, IsSettledOnly, Kept}
use Rattle.ln_payment.proofs.Invariant.{Names, NotAgain, Waits}
use Rattle.ln_payment.proofs.Clauses.{again_back, again_by, again_given, again_none, again_over, again_settled}
use Rattle.ln_payment.proofs.Clauses.{among_absurd, among_map, each_absurd, each_map, each_none, early_note}
use Rattle.ln_payment.proofs.Clauses.{early_removal, first_as, forwards_by_mark, none_by_mark, noted, or_else}
use Rattle.ln_payment.proofs.Clauses.{second_of, settled_later, waits_answer, waits_by, waits_forward}
use Rattle.ln_payment.proofs.Clauses.{waits_none}
use Rattle.ln_payment.proofs.Lists as lists

-- ---- Decide, Resume

pub kept_decide : (m : Mark) (r : Removal) (os : List Out) (e : Option Note) (h : ℕ → Bool) → Kept Undecided r os e h
    → Kept (Decided m) r os (Some (noted m Absent Open)) h
kept_decide m NoRemoval [] e h k = record {
  one = tt;
  early = tt;
  forwards = inr tt;
  waits = waits_none (Decided m);
  follows = tt;
  results = inr tt;
  knows = inr tt;
  offered = tt;
  over = tt;
  not_again = again_none m Absent Open;
  settled = tt;
  marks = inr refl;
}
kept_decide m NoRemoval (o ∷ os) e h k = absurd (cc (k.early.1))
kept_decide m (By j s) os e h k = absurd (cc (k.early.0))

-- first by the channel, and then by the book
pub kept_take : (m : Mark) (r : Removal) (os : List Out) (e : Option Note) (h : ℕ → Bool) → Kept Undecided r os e h
    → Kept (Decided m) r os e h
kept_take m NoRemoval [] None h k = record {
  one = tt;
  early = tt;
  forwards = inr tt;
  waits = waits_none (Decided m);
  follows = tt;
  results = inr tt;
  knows = inr refl;
  offered = tt;
  over = tt;
  not_again = tt;
  settled = tt;
  marks = inr tt;
}
kept_take m NoRemoval [] (Some f) h k = absurd (cc (k.early.2))
kept_take m NoRemoval (o ∷ os) e h k = absurd (cc (k.early.1))
kept_take m (By j s) os e h k = absurd (cc (k.early.0))

pub kept_hear : (m n : Mark) (r : Removal) (os : List Out) (e : Option Note) (h : ℕ → Bool) → n ≡ m → e ≡ None
    → r ≡ NoRemoval → Kept (Decided n) r os e h → Kept (Decided n) r os (Some (noted m Absent Open)) h
kept_hear m n r os (Some f) h is none nothing k = absurd (cc none)
kept_hear m n (By j s) os None h is none nothing k = absurd (cc nothing)
kept_hear m n NoRemoval (o ∷ os) None h is none nothing k = absurd (cc (second_of (λ x. x) (k.knows)))
kept_hear m n NoRemoval [] None h is none nothing k = record {
  one = tt;
  early = tt;
  forwards = inr tt;
  waits = waits_none (Decided n);
  follows = tt;
  results = inr tt;
  knows = inr tt;
  offered = tt;
  over = tt;
  not_again = again_none m Absent Open;
  settled = tt;
  marks = inr is;
}

pub kept_resume : (m : Mark) (r : Removal) (os : List Out) (e : Option Note) (h : ℕ → Bool)
    → Kept (Decided Hold) r os e h → Kept (Decided m) r os (with_mark m e) h
kept_resume m (By j s) os e h k = absurd (cc (k.waits))
kept_resume m NoRemoval (o ∷ os) e h k = absurd (second_of (λ x. x) (k.forwards))
kept_resume m NoRemoval [] None h k = record {
  one = tt;
  early = tt;
  forwards = inr tt;
  waits = waits_none (Decided m);
  follows = tt;
  results = inr tt;
  knows = inr refl;
  offered = tt;
  over = tt;
  not_again = tt;
  settled = tt;
  marks = inr tt;
}
kept_resume m NoRemoval [] (Some f) h k = record {
  one = tt;
  early = tt;
  forwards = inr tt;
  waits = waits_none (Decided m);
  follows = tt;
  results = inr tt;
  knows = inr tt;
  offered = k.offered;
  over = k.over;
  not_again = again_none m f.outgoing f.incoming;
  settled = k.settled;
  marks = inr refl;
}

-- ---- an add is offered, or can't be

abbrev pub out_at : ℕ → ℕ → Out
out_at c i = record { channel = c; id = i; course = Uncovered }

offered_with : (c i : ℕ) (d : Decision) (l : IncomingLeg) (h : ℕ → Bool)
    → Kept d NoRemoval [] (Some (noted Forward Absent l)) h
    → Kept d NoRemoval (out_at c i ∷ []) (Some (noted Forward (Offered c i) l)) h
offered_with c i d l h k = record {
  one = tt;
  early = early_note d NoRemoval NoRemoval [] (out_at c i ∷ []) (noted Forward Absent l)
      (Some (noted Forward (Offered c i) l)) (k.early);
  forwards = inr (forwards_by_mark d (out_at c i ∷ []) (second_of (λ x. x) (k.marks)));
  waits = waits_none d;
  follows = tt;
  results = inr (tt, tt);
  knows = inr ((refl, refl), tt);
  offered = inr (inl (refl, refl));
  over = tt;
  not_again = again_none Forward (Offered c i) l;
  settled = k.settled;
  marks = k.marks;
}

offers_nothing : (d : Decision) (l : IncomingLeg) (o : Out) (os : List Out) (h : ℕ → Bool)
    → Kept d NoRemoval (o ∷ os) (Some (noted Forward Absent l)) h → ⊥
offers_nothing d l o os h k = (second_of (λ x. x) (k.knows)).0

pub kept_offer : (c i : ℕ) (d : Decision) (r : Removal) (os : List Out) (m : Mark) (w : OutgoingLeg)
    (l : IncomingLeg) (h : ℕ → Bool)
    → AsksToOffer m w l → Kept d r os (Some (noted m w l)) h
    → Kept d r (out_at c i ∷ os) (Some (noted m (Offered c i) l)) h
kept_offer c i d NoRemoval [] Forward Absent Open h a k = offered_with c i d Open h k
kept_offer c i d NoRemoval [] Forward Absent RemovalSent h a k = offered_with c i d RemovalSent h k
kept_offer c i d NoRemoval [] Forward Absent RemovalRefused h a k = offered_with c i d RemovalRefused h k
kept_offer c i d NoRemoval (o ∷ os) Forward Absent l h a k = absurd (offers_nothing d l o os h k)
kept_offer c i d (By j s) os Forward Absent Open h a k = absurd (cc (k.not_again))
kept_offer c i d (By j s) os Forward Absent RemovalSent h a k = absurd (cc (k.not_again))
kept_offer c i d (By j s) os Forward Absent RemovalRefused h a k = absurd (cc (k.not_again))
kept_offer c i d r os Forward Absent Settled h a k = absurd a
kept_offer c i d r os Forward Refused l h a k = absurd a
kept_offer c i d r os Forward (Offered b j) l h a k = absurd a
kept_offer c i d r os Forward (Resolved b j n) l h a k = absurd a
kept_offer c i d r os Hold w l h a k = absurd a
kept_offer c i d r os (Answer n) w l h a k = absurd a

pub kept_refuse : (d : Decision) (r : Removal) (os : List Out) (m : Mark) (w : OutgoingLeg)
    (l : IncomingLeg) (h : ℕ → Bool)
    → AsksToOffer m w l → Kept d r os (Some (noted m w l)) h → Kept d r os (Some (noted m Refused l)) h
kept_refuse d r os Forward Absent l h a k = record {
  one = k.one;
  early = early_note d r r os os (noted Forward Absent l) (Some (noted Forward Refused l)) (k.early);
  forwards = k.forwards;
  waits = k.waits;
  follows = k.follows;
  results = k.results;
  knows = or_else (each_map (Names Absent) (Names Refused) (λ o n. n) os) (k.knows);
  offered = tt;
  over = tt;
  not_again = tt;
  settled = k.settled;
  marks = k.marks;
}
kept_refuse d r os Forward Refused l h a k = k
kept_refuse d r os Forward (Offered b j) Open h a k = absurd a
kept_refuse d r os Forward (Offered b j) RemovalSent h a k = absurd a
kept_refuse d r os Forward (Offered b j) RemovalRefused h a k = absurd a
kept_refuse d r os Forward (Offered b j) Settled h a k = absurd a
kept_refuse d r os Forward (Resolved b j n) Open h a k = absurd a
kept_refuse d r os Forward (Resolved b j n) RemovalSent h a k = absurd a
kept_refuse d r os Forward (Resolved b j n) RemovalRefused h a k = absurd a
kept_refuse d r os Forward (Resolved b j n) Settled h a k = absurd a
kept_refuse d r os Hold w l h a k = absurd a
kept_refuse d r os (Answer n) w l h a k = absurd a

-- the book lets go of it
none_known : (os : List Out) → Each (Names Absent) os → os ≡ []
none_known [] a = refl
none_known (o ∷ os) a = absurd (a.0)

let_go : (d : Decision) (r : Removal) (os : List Out) (f : Note) (h : ℕ → Bool) → IsHeld r ⊎ (os ≡ [])
    → Kept d r os (Some f) h → Kept d r os None h
let_go d r os f h n k = record {
  one = k.one;
  early = early_note d r r os os f None (k.early);
  forwards = k.forwards;
  waits = k.waits;
  follows = k.follows;
  results = k.results;
  knows = n;
  offered = tt;
  over = tt;
  not_again = tt;
  settled = tt;
  marks = inr tt;
}

pub kept_leave : (d : Decision) (r : Removal) (os : List Out) (m : Mark) (w : OutgoingLeg)
    (l : IncomingLeg) (h : ℕ → Bool)
    → AsksToOffer m w l → Kept d r os (Some (noted m w l)) h → Kept d r os None h
kept_leave d r os Forward Absent l h a k =
    let_go d r os (noted Forward Absent l) h (or_else (none_known os) (k.knows)) k
kept_leave d r os Forward Refused l h a k = absurd a
kept_leave d r os Forward (Offered b j) l h a k = absurd a
kept_leave d r os Forward (Resolved b j n) l h a k = absurd a
kept_leave d r os Hold w l h a k = absurd a
kept_leave d r os (Answer n) w l h a k = absurd a

-- ---- a removal is proposed, or can't be

removing : (k : Kind) (d : Decision) (os : List Out) (m : Mark) (w : OutgoingLeg) (h : ℕ → Bool)
    → Each (HasEnded k) os
    → Waits d (By k Proposed) → IsAnswer k m w → Kept d NoRemoval os (Some (noted m w Open)) h
    → Kept d (By k Proposed) os (Some (noted m w RemovalSent)) h
removing k d os m w h e v g p = record {
  one = p.one;
  early = early_note d NoRemoval (By k Proposed) os os (noted m w Open) (Some (noted m w RemovalSent)) (p.early);
  forwards = first_as absurd (p.forwards);
  waits = v;
  follows = e;
  results = first_as absurd (p.results);
  knows = first_as absurd (p.knows);
  offered = p.offered;
  over = p.over;
  not_again = again_given k m w RemovalSent (By k Proposed) g;
  settled = tt;
  marks = first_as absurd (p.marks);
}

ended_over : (c i : ℕ) (k : Kind) (os : List Out) → AtMostOne os → Among (λ o. IsAt c i o × HasEnded k o) os
    → Each (HasEnded k) os
ended_over c i k [] a b = tt
ended_over c i k (o ∷ []) a (inl p) = (p.1, tt)
ended_over c i k (o ∷ []) a (inr p) = absurd p
ended_over c i k (o ∷ o2 ∷ os) a b = absurd a

pub kept_remove : (k : Kind) (d : Decision) (r : Removal) (os : List Out) (m : Mark) (w : OutgoingLeg)
    (l : IncomingLeg) (h : ℕ
    → Bool)
    → AsksToRemove k m w l → r ≡ NoRemoval → Kept d r os (Some (noted m w l)) h
    → Kept d (By k Proposed) os (Some (noted m w RemovalSent)) h
kept_remove k d (By j s) os m w l h g n p = absurd (cc n)
kept_remove k d NoRemoval os m w RemovalSent h g n p = absurd g
kept_remove k d NoRemoval os m w RemovalRefused h g n p = absurd g
kept_remove k d NoRemoval os m w Settled h g n p = absurd g
kept_remove k d NoRemoval os (Answer j) w Open h g n p =
    removing k d os (Answer j) w h
    (each_none (HasEnded k) os (none_by_mark d j os (second_of (λ x. x) (p.marks)) (second_of (λ x. x)
    (p.forwards))))
    (waits_answer d j (By k Proposed) (second_of (λ x. x) (p.marks))) g p
kept_remove k d NoRemoval os Forward Refused Open h g n p =
    removing k d os Forward Refused h
    (each_map (Names Refused) (HasEnded k) (λ o x. absurd x) os (second_of (λ x. x) (p.knows)))
    (waits_forward d (By k Proposed) (second_of (λ x. x) (p.marks))) g p
kept_remove k d NoRemoval os Forward (Resolved c i j) Open h g n p =
    removing k d os Forward (Resolved c i j) h
    (subst (λ x. Each (HasEnded x) os) g (ended_over c i j os (p.one) (p.over)))
    (waits_forward d (By k Proposed) (second_of (λ x. x) (p.marks))) g p
kept_remove k d NoRemoval os Forward Absent Open h g n p = absurd g
kept_remove k d NoRemoval os Forward (Offered c i) Open h g n p = absurd g
kept_remove k d NoRemoval os Hold w Open h g n p = absurd g

replying : (d : Decision) (r : Removal) (os : List Out) (m : Mark) (w : OutgoingLeg) (l n : IncomingLeg) (h : ℕ → Bool)
    → NotAgain m w n r → IsSettledOnly n r → Kept d r os (Some (noted m w l)) h → Kept d r os (Some (noted m w n)) h
replying d r os m w l n h a s k = record {
  one = k.one;
  early = early_note d r r os os (noted m w l) (Some (noted m w n)) (k.early);
  forwards = k.forwards;
  waits = k.waits;
  follows = k.follows;
  results = k.results;
  knows = k.knows;
  offered = k.offered;
  over = k.over;
  not_again = a;
  settled = s;
  marks = k.marks;
}

pub kept_give_up : (k : Kind) (d : Decision) (r : Removal) (os : List Out) (m : Mark) (w : OutgoingLeg)
    (l : IncomingLeg) (h : ℕ
    → Bool)
    → AsksToRemove k m w l → Kept d r os (Some (noted m w l)) h → Kept d r os (Some (noted m w RemovalRefused)) h
kept_give_up k d r os m w Open h g p = replying d r os m w Open RemovalRefused h
    (again_given k m w RemovalRefused r g) tt p
kept_give_up k d r os m w RemovalSent h g p = absurd g
kept_give_up k d r os m w RemovalRefused h g p = absurd g
kept_give_up k d r os m w Settled h g p = absurd g

pub kept_reopen : (d : Decision) (r : Removal) (os : List Out) (f : Note) (h : ℕ → Bool) → r ≡ NoRemoval
    → Kept d r os (Some f) h → Kept d r os (Some (noted f.mark f.outgoing Open)) h
kept_reopen d NoRemoval os f h n k =
    replying d NoRemoval os f.mark f.outgoing f.incoming Open h (again_none f.mark f.outgoing Open) tt k
kept_reopen d (By j s) os f h n k = absurd (cc n)

-- ---- courses of the outgoing adds

pub kept_course : (g : Out → Course) → ((k : Kind) (o : Out) → HasEnded k o → IsEnd k (g o)) → (d : Decision)
    (r : Removal) (os : List Out) (e : Option Note) (h : ℕ → Bool)
    → IsHeld r ⊎ Each (λ o. HasResult o.course) (lists.recourse g os) → Kept d r os e h
    → Kept d r (lists.recourse g os) e h
kept_course g f d r os None h n k = record {
  one = lists.one_course g os (k.one);
  early = lists.early_course g d r os None (k.early);
  forwards = or_else (lists.forwarded_course g d os) (k.forwards);
  waits = k.waits;
  follows = lists.follows_course g f r os (k.follows);
  results = n;
  knows = or_else (lists.known_course g None os) (k.knows);
  offered = tt;
  over = tt;
  not_again = tt;
  settled = tt;
  marks = k.marks;
}
kept_course g f d r os (Some e) h n k = record {
  one = lists.one_course g os (k.one);
  early = lists.early_course g d r os (Some e) (k.early);
  forwards = or_else (lists.forwarded_course g d os) (k.forwards);
  waits = k.waits;
  follows = lists.follows_course g f r os (k.follows);
  results = n;
  knows = or_else (lists.known_course g (Some e) os) (k.knows);
  offered = lists.offered_course g e.outgoing os h (k.offered);
  over = lists.over_course g f e.outgoing os (k.over);
  not_again = k.not_again;
  settled = k.settled;
  marks = k.marks;
}

ended_if : (k : Kind) (b : Bool) (s t : Course) → IsEnd k t → IsEnd k s → IsEnd k (if b then t else s)
ended_if k true s t a b = a
ended_if k false s t a b = b

result_if : (b : Bool) (s t : Course) → HasResult t → HasResult s → HasResult (if b then t else s)
result_if true s t a b = a
result_if false s t a b = b

ended_signed : (k : Kind) (s : Course) → IsEnd k s → IsEnd k (after_sign s)
ended_signed k Uncovered a = absurd a
ended_signed k Covered a = absurd a
ended_signed k (Ended j b) a = a

result_signed : (s : Course) → HasResult s → HasResult (after_sign s)
result_signed Uncovered a = tt
result_signed Covered a = tt
result_signed (Ended j b) a = a

pub kept_sign_outs : (c : ℕ) (d : Decision) (r : Removal) (os : List Out) (e : Option Note) (h : ℕ → Bool)
    → Kept d r os e h → Kept d r (lists.recourse (λ o. if o.channel == c then after_sign o.course else o.course)
    os) e h
kept_sign_outs c d r os e h k =
    kept_course (λ o. if o.channel == c then after_sign o.course else o.course)
    (λ j o a. ended_if j (o.channel == c) o.course (after_sign o.course) (ended_signed j o.course a) a) d r os e h
    (or_else (lists.each_course (λ o. if o.channel == c then after_sign o.course else o.course)
    (λ o. HasResult o.course) (λ o. HasResult o.course)
    (λ o a. result_if (o.channel == c) o.course (after_sign o.course) (result_signed o.course a) a) os)
    (k.results)) k

ended_ended : (k j : Kind) (s : Course) → IsEnd k s → IsEnd k (after_end j s)
ended_ended k j Uncovered a = absurd a
ended_ended k j Covered a = absurd a
ended_ended k j (Ended l b) a = a

result_ended : (j : Kind) (s : Course) → HasResult s → HasResult (after_end j s)
result_ended j Uncovered a = tt
result_ended j Covered a = refl
result_ended j (Ended l b) a = a

pub kept_end : (c i : ℕ) (n : Kind) (d : Decision) (r : Removal) (os : List Out) (e : Option Note) (h : ℕ → Bool)
    → Kept d r os e h → Kept d r (lists.recourse (λ o. if is_at c i o then after_end n o.course else o.course) os)
    e h
kept_end c i n d r os e h k =
    kept_course (λ o. if is_at c i o then after_end n o.course else o.course)
    (λ j o a. ended_if j (is_at c i o) o.course (after_end n o.course) (ended_ended j n o.course a) a) d r os e h
    (or_else (lists.each_course (λ o. if is_at c i o then after_end n o.course else o.course)
    (λ o. HasResult o.course) (λ o. HasResult o.course)
    (λ o a. result_if (is_at c i o) o.course (after_end n o.course) (result_ended n o.course a) a) os) (k.results)) k

ended_forgotten : (k : Kind) (s : Course) → IsEnd k s → IsEnd k (after_forget s)
ended_forgotten k Uncovered a = absurd a
ended_forgotten k Covered a = absurd a
ended_forgotten k (Ended l b) a = a

settled_held : (r : Removal) (f : Note) → f.incoming ≡ Settled → IsSettledOnly f.incoming r → IsHeld r
settled_held r f e a = subst (λ l. IsSettledOnly l r) e a

pub kept_forget : (c i : ℕ) (d : Decision) (r : Removal) (os : List Out) (f : Note) (h : ℕ → Bool)
    → f.incoming ≡ Settled
    → Kept d r os (Some f) h
    → Kept d r (lists.recourse (λ o. if is_at c i o then after_forget o.course else o.course) os) (Some f) h
kept_forget c i d r os f h s k =
    kept_course (λ o. if is_at c i o then after_forget o.course else o.course)
    (λ j o a. ended_if j (is_at c i o) o.course (after_forget o.course) (ended_forgotten j o.course a) a) d r os
    (Some f) h (inl (settled_held r f s (k.settled))) k

pub kept_close : (d : Decision) (r : Removal) (os : List Out) (f : Note) (h : ℕ → Bool) → f.incoming ≡ Settled
    → Kept d r os (Some f) h → Kept d r os None h
kept_close d r os f h s k = let_go d r os f h (inl (settled_held r f s (k.settled))) k

-- ---- the removal

stage_moved : (d : Decision) (j : Kind) (s t : Stage) (os : List Out) (e : Option Note) (h : ℕ → Bool)
    → (IsHeld (By j s) → IsHeld (By j t)) → ForNote (λ f. NotAgain f.mark f.outgoing f.incoming (By j t)) e
    → ForNote (λ f. IsSettledOnly f.incoming (By j t)) e → Kept d (By j s) os e h → Kept d (By j t) os e h
stage_moved d j s t os e h f a b k = record {
  one = k.one;
  early = early_removal d j s (By j t) os os e e (k.early);
  forwards = first_as f (k.forwards);
  waits = waits_by d j s (By j t) (k.waits);
  follows = k.follows;
  results = first_as f (k.results);
  knows = first_as f (k.knows);
  offered = k.offered;
  over = k.over;
  not_again = a;
  settled = b;
  marks = first_as f (k.marks);
}

again_of : (j : Kind) (s : Stage) (r : Removal) (e : Option Note)
    → ForNote (λ f. NotAgain f.mark f.outgoing f.incoming (By j s)) e
    → ForNote (λ f. NotAgain f.mark f.outgoing f.incoming r) e
again_of j s r None a = tt
again_of j s r (Some f) a = again_by f.mark f.outgoing f.incoming j s r a

settled_of : (r s : Removal) (e : Option Note) → (IsHeld r → IsHeld s) → ForNote (λ f. IsSettledOnly f.incoming r) e
    → ForNote (λ f. IsSettledOnly f.incoming s) e
settled_of r s None g a = tt
settled_of r s (Some f) g a = settled_later f.incoming r s g a

pub kept_sign_removal : (d : Decision) (r : Removal) (os : List Out) (e : Option Note) (h : ℕ → Bool) → Kept d r os e h
    → Kept d (removal_signed r) os e h
kept_sign_removal d NoRemoval os e h k = k
kept_sign_removal d (By j Proposed) os e h k =
    stage_moved d j Proposed Signed os e h absurd (again_of j Proposed (By j Signed) e (k.not_again))
    (settled_of (By j Proposed) (By j Signed) e absurd (k.settled)) k
kept_sign_removal d (By j Signed) os e h k = k
kept_sign_removal d (By j Held) os e h k = k

pub kept_hold : (d : Decision) (r : Removal) (os : List Out) (e : Option Note) (h : ℕ → Bool) → Kept d r os e h
    → Kept d (removal_held r) os e h
kept_hold d NoRemoval os e h k = k
kept_hold d (By j s) os e h k =
    stage_moved d j s Held os e h (λ x. tt) (again_of j s (By j Held) e (k.not_again))
    (settled_of (By j s) (By j Held) e (λ x. tt) (k.settled)) k

-- an unsigned one is lost
pub kept_drop_removal : (d : Decision) (r : Removal) (os : List Out) (e : Option Note) (h : ℕ → Bool) → Kept d r os e h
    → Kept d (kept_removal r) os e h
kept_drop_removal d NoRemoval os e h k = k
kept_drop_removal d (By j Proposed) os e h k = record {
  one = k.one;
  early = early_removal d j Proposed NoRemoval os os e e (k.early);
  forwards = k.forwards;
  waits = waits_none d;
  follows = tt;
  results = k.results;
  knows = k.knows;
  offered = k.offered;
  over = k.over;
  not_again = again_of j Proposed NoRemoval e (k.not_again);
  settled = settled_of (By j Proposed) NoRemoval e absurd (k.settled);
  marks = k.marks;
}
kept_drop_removal d (By j Signed) os e h k = k
kept_drop_removal d (By j Held) os e h k = k

-- the book hears that it is held
settling : (d : Decision) (r : Removal) (os : List Out) (m : Mark) (w : OutgoingLeg) (l : IncomingLeg) (h : ℕ
    → Bool) → IsHeld r
    → Kept d r os (Some (noted m w l)) h → Kept d r os (Some (noted m w Settled)) h
settling d r os m w l h a k = replying d r os m w l Settled h (again_settled m w r) a k

pub kept_settle : (d : Decision) (r : Removal) (os : List Out) (m : Mark) (w : OutgoingLeg)
    (l : IncomingLeg) (h : ℕ → Bool)
    → IsHeld r
    → Kept d r os (Some (noted m w l)) h → Kept d r os (settled_note m w) h
kept_settle d r os Hold w l h a k = settling d r os Hold w l h a k
kept_settle d r os Forward Absent l h a k = let_go d r os (noted Forward Absent l) h (inl a) k
kept_settle d r os Forward Refused l h a k = let_go d r os (noted Forward Refused l) h (inl a) k
kept_settle d r os Forward (Offered c i) l h a k = settling d r os Forward (Offered c i) l h a k
kept_settle d r os Forward (Resolved c i j) l h a k = settling d r os Forward (Resolved c i j) l h a k
kept_settle d r os (Answer n) Absent l h a k = let_go d r os (noted (Answer n) Absent l) h (inl a) k
kept_settle d r os (Answer n) Refused l h a k = let_go d r os (noted (Answer n) Refused l) h (inl a) k
kept_settle d r os (Answer n) (Offered c i) l h a k = settling d r os (Answer n) (Offered c i) l h a k
kept_settle d r os (Answer n) (Resolved c i j) l h a k = settling d r os (Answer n) (Resolved c i j) l h a k

pub kept_clear : (d : Decision) (r : Removal) (os : List Out) (e : Option Note) (h : ℕ → Bool) → IsHeld r
    → Kept d r os e h → Kept Past r os e h
kept_clear d r os e h a k = record {
  one = k.one;
  early = tt;
  forwards = inl a;
  waits = tt;
  follows = k.follows;
  results = k.results;
  knows = k.knows;
  offered = k.offered;
  over = k.over;
  not_again = k.not_again;
  settled = k.settled;
  marks = inl a;
}

-- ---- the book hears that an add has ended

telling : (c i : ℕ) (k : Kind) (d : Decision) (r : Removal) (os : List Out) (m : Mark) (w : OutgoingLeg)
    (l : IncomingLeg) (h : ℕ →
    Bool)
    → IsHeld r ⊎ Each (IsAt c i) os → Among (λ o. IsAt c i o × HasEnded k o) os
    → Kept d r os (Some (noted m w l)) h → Kept d r os (Some (noted m (Resolved c i k) l)) h
telling c i k d r os m w l h n a p = record {
  one = p.one;
  early = early_note d r r os os (noted m w l) (Some (noted m (Resolved c i k) l)) (p.early);
  forwards = p.forwards;
  waits = p.waits;
  follows = p.follows;
  results = p.results;
  knows = n;
  offered = tt;
  over = a;
  not_again = again_over m c i k l r;
  settled = p.settled;
  marks = p.marks;
}

moved_at : (c i b j : ℕ) → b ≡ c → j ≡ i → (o : Out) → IsAt b j o → IsAt c i o
moved_at c i b j x y o p = (p.0 ∙ x, p.1 ∙ y)

not_both_values : (h : ℕ → Bool) (b c : ℕ) → b ≡ c → h b ≡ true → h c ≡ false → ⊥
not_both_values h b c e t f = absurd (cc (sym t ∙ ap h e ∙ f))

still_there : (c b j : ℕ) (os : List Out) (h : ℕ → Bool) → b ≡ c → h c ≡ false → (h b ≡ true) ⊎ Among (IsAt b j) os
    → Among (IsAt b j) os
still_there c b j os h x n (inl t) = absurd (not_both_values h b c x t n)
still_there c b j os h x n (inr a) = a

pub kept_tell : (c i : ℕ) (k : Kind) (d : Decision) (r : Removal) (os : List Out) (m : Mark) (w : OutgoingLeg)
    (l : IncomingLeg)
    (h : ℕ → Bool) → OutgoingIsAt c i w → h c ≡ false → Each (λ o. IsAt c i o → HasEnded k o) os
    → Kept d r os (Some (noted m w l)) h → Kept d r os (Some (noted m (Resolved c i k) l)) h
kept_tell c i k d r os m Absent l h a n t p = absurd a
kept_tell c i k d r os m Refused l h a n t p = absurd a
kept_tell c i k d r os m (Offered b j) l h a n t p =
    telling c i k d r os m (Offered b j) l h
    (or_else (each_map (IsAt b j) (IsAt c i) (moved_at c i b j (a.0) (a.1)) os) (p.knows))
    (among_map (IsAt b j) (λ o. IsAt c i o × HasEnded k o) (λ o. IsAt c i o → HasEnded k o)
    (λ o q f. (moved_at c i b j (a.0) (a.1) o q, f (moved_at c i b j (a.0) (a.1) o q))) os
    (still_there c b j os h (a.0) n (p.offered)) t) p
kept_tell c i k d r os m (Resolved b j g) l h a n t p =
    telling c i k d r os m (Resolved b j g) l h
    (or_else (each_map (IsAt b j) (IsAt c i) (moved_at c i b j (a.0) (a.1)) os) (p.knows))
    (among_map (λ o. IsAt b j o × HasEnded g o) (λ o. IsAt c i o × HasEnded k o)
    (λ o. IsAt c i o → HasEnded k o)
    (λ o q f. (moved_at c i b j (a.0) (a.1) o (q.0), f (moved_at c i b j (a.0) (a.1) o (q.0)))) os (p.over) t) p

-- ---- unsigned adds are lost

losing : (f : ℕ → Bool) (d : Decision) (r : Removal) (os : List Out) (e : Option Note) (h g : ℕ → Bool)
    → ForNote (λ x. IsOffered x.outgoing (kept_outs f os) g) e → ForNote (λ x. IsOver x.outgoing (kept_outs f os)) e
    → Kept d r os e h → Kept d r (kept_outs f os) e g
losing f d r os e h g a b k = record {
  one = lists.one_kept f os (k.one);
  early = lists.early_kept f d r os e (k.early);
  forwards = or_else (lists.forwarded_kept f d os) (k.forwards);
  waits = k.waits;
  follows = lists.follows_kept f r os (k.follows);
  results = or_else (lists.each_kept f (λ o. HasResult o.course) os) (k.results);
  knows = or_else (lists.known_kept f e os) (k.knows);
  offered = a;
  over = b;
  not_again = k.not_again;
  settled = k.settled;
  marks = k.marks;
}

either : (b : Bool) → (b ≡ true) ⊎ (b ≡ false)
either true = inl refl
either false = inr refl

dropped_here : (c b j : ℕ) (os : List Out) (h : ℕ → Bool) → (b ≡ c → Among (IsAt b j) (kept_outs (is_of c) os))
    → Among (IsAt b j) os → ((b == c) ≡ true) ⊎ ((b == c) ≡ false)
    → (h b ≡ true) ⊎ Among (IsAt b j) (kept_outs (is_of c) os)
dropped_here c b j os h a n (inl t) = inr (a (eqb-true b c t))
dropped_here c b j os h a n (inr f) = inr (lists.elsewhere_kept (is_of c) b j os f n)

dropped_outgoing : (c : ℕ) (w : OutgoingLeg) (os : List Out) (h : ℕ → Bool) → OutgoingStays c w (kept_outs (is_of c) os)
    → IsOffered w os h
    → IsOffered w (kept_outs (is_of c) os) h
dropped_outgoing c Absent os h a k = tt
dropped_outgoing c Refused os h a k = tt
dropped_outgoing c (Offered b j) os h a (inl t) = inl t
dropped_outgoing c (Offered b j) os h a (inr n) = dropped_here c b j os h a n (either (b == c))
dropped_outgoing c (Resolved b j g) os h a k = tt

pub kept_drop : (c : ℕ) (d : Decision) (r : Removal) (os : List Out) (f : Note) (h : ℕ → Bool)
    → OutgoingStays c f.outgoing (kept_outs (is_of c) os) → Kept d r os (Some f) h
    → Kept d r (kept_outs (is_of c) os) (Some f) h
kept_drop c d r os f h a k =
    losing (is_of c) d r os (Some f) h h (dropped_outgoing c f.outgoing os h a (k.offered))
    (lists.over_kept (is_of c) f.outgoing os (k.over)) k

pub kept_drop_none : (c : ℕ) (d : Decision) (r : Removal) (os : List Out) (h : ℕ → Bool) → Kept d r os None h
    → Kept d r (kept_outs (is_of c) os) None h
kept_drop_none c d r os h k = losing (is_of c) d r os None h h tt tt k

putting_back : (c b j : ℕ) (d : Decision) (r : Removal) (os : List Out) (m : Mark) (l : IncomingLeg) (h : ℕ → Bool)
    → Each (λ o. IsAt b j o → ⊥) (kept_outs (is_of c) os) → Kept d r os (Some (noted m (Offered b j) l)) h
    → Kept d r (kept_outs (is_of c) os) (Some (noted m Absent l)) h
putting_back c b j d r os m l h n k = record {
  one = lists.one_kept (is_of c) os (k.one);
  early = early_note d r r os (kept_outs (is_of c) os) (noted m (Offered b j) l) (Some (noted m Absent l)) (k.early);
  forwards = or_else (lists.forwarded_kept (is_of c) d os) (k.forwards);
  waits = k.waits;
  follows = lists.follows_kept (is_of c) r os (k.follows);
  results = or_else (lists.each_kept (is_of c) (λ o. HasResult o.course) os) (k.results);
  knows = or_else (λ x. each_absurd (IsAt b j) (Names Absent) (kept_outs (is_of c) os)
      (lists.each_kept (is_of c) (IsAt b j) os x) n) (k.knows);
  offered = tt;
  over = tt;
  not_again = again_back m b j l r (k.not_again);
  settled = k.settled;
  marks = k.marks;
}

pub kept_put_back : (c i : ℕ) (d : Decision) (r : Removal) (os : List Out) (m : Mark) (w : OutgoingLeg)
    (l : IncomingLeg) (h : ℕ
    → Bool)
    → OutgoingIsAt c i w → Each (λ o. IsAt c i o → ⊥) (kept_outs (is_of c) os) → Kept d r os (Some (noted m w l)) h
    → Kept d r (kept_outs (is_of c) os) (Some (noted m Absent l)) h
kept_put_back c i d r os m Absent l h a n k = absurd a
kept_put_back c i d r os m Refused l h a n k = absurd a
kept_put_back c i d r os m (Offered b j) l h a n k =
    putting_back c b j d r os m l h
    (each_map (λ o. IsAt c i o → ⊥) (λ o. IsAt b j o → ⊥) (λ o f p. f (moved_at c i b j (a.0) (a.1) o p))
    (kept_outs (is_of c) os) n) k
kept_put_back c i d r os m (Resolved b j g) l h a n k =
    absurd (among_absurd (λ o. IsAt b j o × HasEnded g o) (kept_outs (is_of c) os)
    (lists.over_kept (is_of c) (Resolved b j g) os (k.over))
    (each_map (λ o. IsAt c i o → ⊥) (λ o. IsAt b j o × HasEnded g o → ⊥)
    (λ o f p. f (moved_at c i b j (a.0) (a.1) o (p.0))) (kept_outs (is_of c) os) n))

-- ---- a link halts

or_right : (a : Bool) {b : Bool} → b ≡ true → (a || b) ≡ true
or_right true e = refl
or_right false e = e

halted_here : (c b j : ℕ) (os : List Out) (h : ℕ → Bool) → Among (IsAt b j) os → ((b == c) ≡ true) ⊎ ((b == c) ≡ false)
    → (((b == c) || h b) ≡ true) ⊎ Among (IsAt b j) (kept_outs (is_of c) os)
halted_here c b j os h n (inl t) = inl (ap (λ x. x || h b) t)
halted_here c b j os h n (inr f) = inr (lists.elsewhere_kept (is_of c) b j os f n)

halted_outgoing : (c : ℕ) (w : OutgoingLeg) (os : List Out) (h : ℕ → Bool) → IsOffered w os h
    → IsOffered w (kept_outs (is_of c) os) (λ d. (d == c) || h d)
halted_outgoing c Absent os h k = tt
halted_outgoing c Refused os h k = tt
halted_outgoing c (Offered b j) os h (inl t) = inl (or_right (b == c) t)
halted_outgoing c (Offered b j) os h (inr n) = halted_here c b j os h n (either (b == c))
halted_outgoing c (Resolved b j g) os h k = tt

pub kept_halt : (c : ℕ) (d : Decision) (r : Removal) (os : List Out) (e : Option Note) (h : ℕ → Bool) → Kept d r os e h
    → Kept d r (kept_outs (is_of c) os) e (λ b. (b == c) || h b)
kept_halt c d r os None h k = losing (is_of c) d r os None h (λ b. (b == c) || h b) tt tt k
kept_halt c d r os (Some f) h k =
    losing (is_of c) d r os (Some f) h (λ b. (b == c) || h b) (halted_outgoing c f.outgoing os h (k.offered))
    (lists.over_kept (is_of c) f.outgoing os (k.over)) k

-- ---- a link comes back from its record, beside its book

reloaded_here : (c b j : ℕ) (os : List Out) (h : ℕ → Bool) → (b ≡ c → Among (IsAt b j) os)
    → (h b ≡ true) ⊎ Among (IsAt b j) os → ((b == c) ≡ true) ⊎ ((b == c) ≡ false)
    → ((not (b == c) && h b) ≡ true) ⊎ Among (IsAt b j) os
reloaded_here c b j os h a k (inl t) = inr (a (eqb-true b c t))
reloaded_here c b j os h a (inl k) (inr f) = inl (ap (λ x. not x && h b) f ∙ k)
reloaded_here c b j os h a (inr k) (inr f) = inr k

reloaded_outgoing : (c : ℕ) (w : OutgoingLeg) (os : List Out) (h : ℕ → Bool) → OutgoingStays c w os → IsOffered w os h
    → IsOffered w os (λ b. not (b == c) && h b)
reloaded_outgoing c Absent os h a k = tt
reloaded_outgoing c Refused os h a k = tt
reloaded_outgoing c (Offered b j) os h a k = reloaded_here c b j os h a k (either (b == c))
reloaded_outgoing c (Resolved b j g) os h a k = tt

waking : (d : Decision) (r : Removal) (os : List Out) (e : Option Note) (h g : ℕ → Bool)
    → ForNote (λ x. IsOffered x.outgoing os g) e → Kept d r os e h → Kept d r os e g
waking d r os e h g a k = record {
  one = k.one;
  early = k.early;
  forwards = k.forwards;
  waits = k.waits;
  follows = k.follows;
  results = k.results;
  knows = k.knows;
  offered = a;
  over = k.over;
  not_again = k.not_again;
  settled = k.settled;
  marks = k.marks;
}

pub kept_reload : (c : ℕ) (d : Decision) (r : Removal) (os : List Out) (f : Note) (h : ℕ → Bool)
    → OutgoingStays c f.outgoing os → Kept d r os (Some f) h → Kept d r os (Some f) (λ b. not (b == c) && h b)
kept_reload c d r os f h a k =
    waking d r os (Some f) h (λ b. not (b == c) && h b) (reloaded_outgoing c f.outgoing os h a (k.offered)) k

pub kept_reload_none : (c : ℕ) (d : Decision) (r : Removal) (os : List Out) (h : ℕ → Bool) → Kept d r os None h
    → Kept d r os None (λ b. not (b == c) && h b)
kept_reload_none c d r os h k = waking d r os None h (λ b. not (b == c) && h b) tt k
