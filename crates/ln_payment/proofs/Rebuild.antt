-- A rebuild keeps what is kept of a payment: what the records tell is enough.
use Rattle.std.proofs.Common.{◌≡◌, ◌⊎◌, inl, inr, ℕ, List, [], ◌∷◌, Bool, true, false, ◌&&◌, refl, ap, Option, Some}
use Rattle.std.proofs.Common.{None}
use Rattle.std.specs.Prelude.{not, cond}
use Rattle.ln_payment.specs.Parts.{Answer, By, Course, Covered, Decided, Decision, Each, Ended, Forward, Fulfils}
use Rattle.ln_payment.specs.Parts.{Held, Hold, IsHeld, Kind, Mark, NoRemoval, Note, Absent, Offered, Open, Out}
use Rattle.ln_payment.specs.Parts.{Resolved, Past, Proposed, Refused, Removal, RemovalSent, Settled, Signed, Uncovered}
use Rattle.ln_payment.specs.Parts.{Undecided}
use Rattle.ln_payment.specs.Rebuild.{everywhere, is_uncovered, kept_outs, kept_removal, note_read, nowhere}
use Rattle.ln_payment.specs.Rebuild.{outgoing_of}
use Rattle.ln_payment.specs.Promises.{Follows}
use Rattle.ln_payment.proofs.Invariant.{AtMostOne, ForNote, HasResult, IsEarly, IsForwarded, IsKnown, IsOffered}
use Rattle.ln_payment.proofs.Invariant.{IsOver, IsSettledOnly, Kept, MarkIs, NotAgain, Waits}
use Rattle.ln_payment.proofs.Clauses.{again_none, noted, or_else, second_of}
use Rattle.ln_payment.proofs.Lists as lists
use Rattle.ln_payment.proofs.Moves as moves

-- what the records alone tell
record Records (d : Decision) (r : Removal) (os : List Out) : Type 0 where
  one : AtMostOne os
  early : IsEarly d r os None
  forwards : IsHeld r ⊎ IsForwarded d os
  waits : Waits d r
  follows : Follows r os
  results : IsHeld r ⊎ Each (λ o. HasResult o.course) os
  covered : Each (λ o. is_uncovered o.course ≡ false) os

early_none : (d : Decision) (r : Removal) (os : List Out) (e : Option Note) → IsEarly d r os e → IsEarly d r os None
early_none Undecided r os e a = (a.0, a.1, refl)
early_none (Decided m) r os e a = tt
early_none Past r os e a = tt

covered_if : (b c : Bool) (o : Out) (os : List Out) → (is_uncovered o.course ≡ true → b ≡ true)
    → (b ≡ true) ⊎ (is_uncovered o.course ≡ false)
    → Each (λ o. is_uncovered o.course ≡ false) os
    → Each (λ o. is_uncovered o.course ≡ false) (cond (not (b)) (o ∷ os) os)
covered_if true c o os f x a = a
covered_if false c o os f (inl x) a = absurd (cc x)
covered_if false c o os f (inr x) a = (x, a)

either_way : (s : Course) → ((is_uncovered s && true) ≡ true) ⊎ (is_uncovered s ≡ false)
either_way Uncovered = inl refl
either_way Covered = inr refl
either_way (Ended k b) = inr refl

all_covered : (os : List Out) → Each (λ o. is_uncovered o.course ≡ false) (kept_outs everywhere os)
all_covered [] = tt
all_covered (o ∷ os) =
    covered_if (is_uncovered o.course && true) true o (kept_outs everywhere os) (λ e. ap (λ b. b && true) e)
    (either_way o.course) (all_covered os)

-- with a note
reads : (d : Decision) (r : Removal) (os : List Out) (e : Option Note) → IsEarly d r os e → IsHeld r ⊎ IsKnown e os
    → ForNote (λ f. IsOffered f.outgoing os nowhere) e → ForNote (λ f. IsOver f.outgoing os) e
    → ForNote (λ f. NotAgain f.mark f.outgoing f.incoming r) e → ForNote (λ f. IsSettledOnly f.incoming r) e
    → IsHeld r ⊎ ForNote (λ f. MarkIs d f.mark) e → Records d r os → Kept d r os e nowhere
reads d r os e y k f v n s m p = record {
  one = p.one;
  early = y;
  forwards = p.forwards;
  waits = p.waits;
  follows = p.follows;
  results = p.results;
  knows = k;
  offered = f;
  over = v;
  not_again = n;
  settled = s;
  marks = m;
}

abbrev made : ℕ → ℕ → Course → List Out
made c i s = record { channel = c; id = i; course = s } ∷ []

no_answer : (n : Kind) (r : Removal) (c i : ℕ) (s : Course) → (IsHeld r → ⊥)
    → Records (Decided (Answer n)) r (made c i s) → ⊥
no_answer n r c i s f p = second_of f (p.forwards)

no_hold : (r : Removal) (c i : ℕ) (s : Course) → (IsHeld r → ⊥) → Records (Decided Hold) r (made c i s) → ⊥
no_hold r c i s f p = second_of f (p.forwards)

-- nothing was offered
read_none : (t : Bool) (m : Mark) (r : Removal) → Records (Decided m) r []
    → Kept (Decided m) r [] (note_read (Decided m) Absent r) nowhere
read_none t m NoRemoval p =
    reads (Decided m) NoRemoval [] (Some (noted m Absent Open)) tt (inr tt) tt tt (again_none m Absent Open) tt
    (inr refl) p
read_none t Forward (By j Proposed) p = reads (Decided Forward) (By j Proposed) [] (Some (noted Forward Refused
    RemovalSent)) tt (inr tt) tt tt tt tt (inr refl) p
read_none t Forward (By j Signed) p = reads (Decided Forward) (By j Signed) [] (Some
    (noted Forward Refused RemovalSent)) tt
    (inr tt) tt tt tt tt (inr refl) p
read_none t Hold (By j s) p = absurd (cc (p.waits))
read_none t (Answer n) (By j Proposed) p = reads (Decided (Answer n)) (By j Proposed) [] (Some (noted (Answer n)
    Absent RemovalSent)) tt (inr tt) tt tt tt tt (inr refl) p
read_none t (Answer n) (By j Signed) p = reads (Decided (Answer n)) (By j Signed) [] (Some (noted (Answer n) Absent
    RemovalSent)) tt (inr tt) tt tt tt tt (inr refl) p
read_none t Forward (By j Held) p = reads (Decided Forward) (By j Held) [] None tt (inl tt) tt tt tt tt (inl tt) p
read_none t (Answer n) (By j Held) p = reads (Decided (Answer n)) (By j Held) [] None tt (inl tt) tt tt tt tt (inl tt) p

-- an add is there
read_open : (t : Bool) (c i : ℕ) (s : Course) → Records (Decided Forward) NoRemoval (made c i s)
    → Kept (Decided Forward) NoRemoval (made c i s)
    (note_read (Decided Forward) (outgoing_of t (made c i s)) NoRemoval) nowhere
read_open t c i Uncovered p = absurd (cc (p.covered.0))
read_open t c i Covered p =
    reads (Decided Forward) NoRemoval (made c i Covered) (Some (noted Forward (Offered c i) Open)) tt
    (inr ((refl, refl), tt)) (inr (inl (refl, refl))) tt refl tt (inr refl) p
read_open t c i (Ended k true) p =
    reads (Decided Forward) NoRemoval (made c i (Ended k true)) (Some (noted Forward (Resolved c i k) Open)) tt
    (inr ((refl, refl), tt)) tt (inl ((refl, refl), refl)) tt tt (inr refl) p
read_open t c i (Ended k false) p = absurd (cc ((second_of (λ x. x) (p.results)).0))

read_sent : (t : Bool) (j : Kind) (c i : ℕ) (s : Course) → Records (Decided Forward) (By j Signed) (made c i s)
    → Kept (Decided Forward) (By j Signed) (made c i s) (note_read (Decided Forward) (outgoing_of t (made c i s)) (By j
    Signed)) nowhere
read_sent t j c i Uncovered p = absurd (cc (p.covered.0))
read_sent t j c i Covered p = absurd (p.follows.0)
read_sent t j c i (Ended k true) p =
    reads (Decided Forward) (By j Signed) (made c i (Ended k true)) (Some (noted Forward
    (Resolved c i k) RemovalSent)) tt
    (inr ((refl, refl), tt)) tt (inl ((refl, refl), refl)) tt tt (inr refl) p
read_sent t j c i (Ended k false) p = absurd (cc ((second_of (λ x. x) (p.results)).0))

-- its removal is held
read_held : (t : Bool) (m : Mark) (j : Kind) (c i : ℕ) (s : Course) → Records (Decided m) (By j Held) (made c i s)
    → Kept (Decided m) (By j Held) (made c i s) (note_read (Decided m) (outgoing_of t (made c i s)) (By j Held)) nowhere
read_held t Hold j c i s p = absurd (cc (p.waits))
read_held t m j c i Uncovered p = absurd (cc (p.covered.0))
read_held t m j c i Covered p = absurd (p.follows.0)
read_held t Forward j c i (Ended k true) p =
    reads (Decided Forward) (By j Held) (made c i (Ended k true)) (Some (noted Forward
    (Resolved c i k) Settled)) tt (inl
    tt) tt
    (inl ((refl, refl), refl)) tt tt (inl tt) p
read_held t (Answer n) j c i (Ended k true) p =
    reads (Decided (Answer n)) (By j Held) (made c i (Ended k true)) (Some (noted (Answer n)
    (Resolved c i k) Settled)) tt
    (inl tt) tt (inl ((refl, refl), refl)) tt tt (inl tt) p
read_held true Forward j c i (Ended k false) p =
    reads (Decided Forward) (By j Held) (made c i (Ended k false)) (Some (noted Forward (Offered c i) Settled)) tt
    (inl tt)
    (inr (inl (refl, refl))) tt tt tt (inl tt) p
read_held true (Answer n) j c i (Ended k false) p =
    reads (Decided (Answer n)) (By j Held) (made c i (Ended k false)) (Some (noted (Answer n) (Offered c i) Settled)) tt
    (inl tt) (inr (inl (refl, refl))) tt tt tt (inl tt) p
read_held false Forward j c i (Ended k false) p =
    reads (Decided Forward) (By j Held) (made c i (Ended k false)) None tt (inl tt) tt tt tt tt (inl tt) p
read_held false (Answer n) j c i (Ended k false) p =
    reads (Decided (Answer n)) (By j Held) (made c i (Ended k false)) None tt (inl tt) tt tt tt tt (inl tt) p

-- the decision has left the record
read_past : (t : Bool) (j : Kind) (c i : ℕ) (s : Course) → Records Past (By j Held) (made c i s)
    → Kept Past (By j Held) (made c i s) (note_read Past (outgoing_of t (made c i s)) (By j Held)) nowhere
read_past t j c i Uncovered p = absurd (cc (p.covered.0))
read_past t j c i Covered p = absurd (p.follows.0)
read_past t j c i (Ended k true) p =
    reads Past (By j Held) (made c i (Ended k true)) (Some (noted (Answer Fulfils)
    (Resolved c i k) Settled)) tt (inl tt) tt
    (inl ((refl, refl), refl)) tt tt (inl tt) p
read_past true j c i (Ended k false) p =
    reads Past (By j Held) (made c i (Ended k false)) None tt (inl tt) tt tt tt tt (inl tt) p
read_past false j c i (Ended k false) p =
    reads Past (By j Held) (made c i (Ended k false)) None tt (inl tt) tt tt tt tt (inl tt) p

read_one : (t : Bool) (d : Decision) (r : Removal) (c i : ℕ) (s : Course) → ((j : Kind) → r ≡ By j Proposed → ⊥)
    → Records d r (made c i s) → Kept d r (made c i s) (note_read d (outgoing_of t (made c i s)) r) nowhere
read_one t Undecided r c i s n p = absurd (cc (p.early.1))
read_one t (Decided Forward) NoRemoval c i s n p = read_open t c i s p
read_one t (Decided Hold) NoRemoval c i s n p = absurd (no_hold NoRemoval c i s (λ x. x) p)
read_one t (Decided (Answer k)) NoRemoval c i s n p = absurd (no_answer k NoRemoval c i s (λ x. x) p)
read_one t Past NoRemoval c i s n p = absurd (second_of (λ x. x) (p.forwards))
read_one t (Decided m) (By j Proposed) c i s n p = absurd (n j refl)
read_one t Past (By j Proposed) c i s n p = absurd (n j refl)
read_one t (Decided Forward) (By j Signed) c i s n p = read_sent t j c i s p
read_one t (Decided Hold) (By j Signed) c i s n p = absurd (cc (p.waits))
read_one t (Decided (Answer k)) (By j Signed) c i s n p = absurd (no_answer k (By j Signed) c i s (λ x. x) p)
read_one t Past (By j Signed) c i s n p = absurd (second_of (λ x. x) (p.forwards))
read_one t (Decided m) (By j Held) c i s n p = read_held t m j c i s p
read_one t Past (By j Held) c i s n p = read_past t j c i s p

read_all : (t : Bool) (d : Decision) (r : Removal) (os : List Out) → ((j : Kind) → r ≡ By j Proposed → ⊥)
    → Records d r os → Kept d r os (note_read d (outgoing_of t os) r) nowhere
read_all t Undecided r [] n p = reads Undecided r [] None (p.early) (inr refl) tt tt tt tt (inr tt) p
read_all t (Decided m) r [] n p = read_none t m r p
read_all t Past r [] n p = reads Past r [] None tt (inr refl) tt tt tt tt (inr tt) p
read_all t d r (o ∷ []) n p = read_one t d r o.channel o.id o.course n p
read_all t d r (o ∷ o2 ∷ os) n p = absurd (p.one)

not_proposed : (r : Removal) (j : Kind) → kept_removal r ≡ By j Proposed → ⊥
not_proposed NoRemoval j e = absurd (cc e)
not_proposed (By k Proposed) j e = absurd (cc e)
not_proposed (By k Signed) j e = absurd (cc e)
not_proposed (By k Held) j e = absurd (cc e)

pub kept_restart : (t : Bool) (d : Decision) (r : Removal) (os : List Out) (e : Option Note) (h : ℕ → Bool)
    → Kept d r os e h
    → Kept d (kept_removal r) (kept_outs everywhere os)
    (note_read d (outgoing_of t (kept_outs everywhere os)) (kept_removal r)) nowhere
kept_restart t d r os e h k =
    let p = moves.kept_drop_removal d r os e h k in
    read_all t d (kept_removal r) (kept_outs everywhere os) (not_proposed r) (record {
      one = lists.one_kept everywhere os (p.one);
      early = early_none d (kept_removal r) (kept_outs everywhere os) e
          (lists.early_kept everywhere d (kept_removal r) os e (p.early));
      forwards = or_else (lists.forwarded_kept everywhere d os) (p.forwards);
      waits = p.waits;
      follows = lists.follows_kept everywhere (kept_removal r) os (p.follows);
      results = or_else (lists.each_kept everywhere (λ o. HasResult o.course) os) (p.results);
      covered = all_covered os;
    })
