-- What a node's links have of an HTLC that came in, over all channels: the parts of a payment without the book's note.
use Rattle.std.proofs.Common.{◌≡◌, inl, inr, ℕ, List, [], ◌∷◌, ◌++◌, take, refl, sym, ap, ◌∙◌, subst, Bool, true}
use Rattle.std.proofs.Common.{false}
use Rattle.std.proofs.Common.{cond, ◌==◌, ◌&&◌, Option, Some, None}
use Rattle.std.specs.List.{find}
use Rattle.std.proofs.Common.{arith}
use Rattle.std.proofs.lemmas.List.{take-append-le}
use Rattle.std.proofs.lemmas.Bool.{eqb-true, eq-eqb}
use Rattle.ln_log.specs.declared.update.Update.{Update}
use Rattle.ln_log.specs.declared.mark.Settlement.{Settlement}
use Rattle.ln_log.specs.declared.mark.Decision.{Decision as LogDecision}
use Rattle.ln_log.specs.declared.mark.Mark.{Mark as LogMark}
use Rattle.ln_log.specs.declared.mark.Mark.TheVariants as mark
use Rattle.ln_log.specs.declared.update.Add.{Add}
use Rattle.ln_log.specs.declared.update.Update.TheVariants as update
use Rattle.ln_log.specs.declared.outcome.Outcome.{Outcome}
use Rattle.ln_log.specs.declared.outcome.Outcome.TheVariants.{Live}
use Rattle.ln_log.specs.Updates.{add_with, is_some, outcome, next_id}
use Rattle.ln_log.proofs.Removing.{outcome-none}
use Rattle.ln_log.specs.Log.{Log}
use Rattle.ln_log.specs.Log as log
use Rattle.ln_log.specs.Mark.{is_held}
use Rattle.ln_payment.specs.Parts.{Kind, Fulfils, Fails, Mark, Forward, Hold, Answer, Decision, Undecided, Decided}
use Rattle.ln_payment.specs.Parts.{Past}
use Rattle.ln_payment.specs.Parts.{Removal, NoRemoval, By, Course, Uncovered, Out, Payment}
use Rattle.ln_payment.specs.Parts.{Proposed}
use Rattle.ln_payment.specs.Moves.{Move, AreMade, after, moved, going_on, with_course, after_sign, after_end, is_at}
use Rattle.ln_payment.specs.Moves as move
use Rattle.ln_payment_circuits.specs.Snapshot.{is_gone, IsSoundLog}
use Rattle.ln_payment_circuits.specs.Circuit.{Forwards}
use Rattle.ln_payment_circuits.proofs.Parts.{HasAdd, some_of, course_of, removal_of, removal_by, has_result}
use Rattle.ln_payment_circuits.proofs.Logs.{course_signed, removal_is_signed, removal_accepted, course_proposed}
use Rattle.ln_payment_circuits.proofs.Logs.{add_stays}
use Rattle.ln_payment_circuits.proofs.Logs.{add_was, course_new, add_new, removal_other, removal_new}
use Rattle.ln_payment_circuits.proofs.Removals.{course_learned, newly}
use Rattle.ln_payment_circuits.specs.Snapshot.{Incoming}
use Rattle.ln_payment_circuits.proofs.Lists.{either}

-- ---- one end: its updates, what became of own HTLCs that forward others, and what it has decided

pub record Side : Type 0 where
  pub log : Log
  pub results : List Settlement
  pub decisions : List LogDecision

abbrev pub mark_as : LogMark → Option Mark
mark_as mark.None = None
mark_as (mark.Forward channel amount expiry) = Some Forward
mark_as (mark.Fail reason) = Some (Answer Fails)
mark_as (mark.Malformed code) = Some (Answer Fails)
mark_as (mark.Fulfil preimage) = Some (Answer Fulfils)
mark_as (mark.Held event) = Some Hold

-- one that does something
pub has_mark : (m : LogMark) → (m ≡ mark.None → ⊥) → (n : Mark) × (mark_as m ≡ Some n)
has_mark mark.None h = absurd (h refl)
has_mark (mark.Forward channel amount expiry) h = (_, refl)
has_mark (mark.Fail reason) h = (_, refl)
has_mark (mark.Malformed code) h = (_, refl)
has_mark (mark.Fulfil preimage) h = (_, refl)
has_mark (mark.Held event) h = (_, refl)

abbrev pub is_hold : Mark → Bool
is_hold Forward = false
is_hold Hold = true
is_hold (Answer k) = false

pub held_as : (m : LogMark) (n : Mark) → mark_as m ≡ Some n → is_held m ≡ is_hold n
held_as mark.None n e = absurd (cc)
held_as (mark.Forward channel amount expiry) n e = let is : Forward ≡ n = cc in ap is_hold is
held_as (mark.Fail reason) n e = let is : Answer Fails ≡ n = cc in ap is_hold is
held_as (mark.Malformed code) n e = let is : Answer Fails ≡ n = cc in ap is_hold is
held_as (mark.Fulfil preimage) n e = let is : Answer Fulfils ≡ n = cc in ap is_hold is
held_as (mark.Held event) n e = let is : Hold ≡ n = cc in ap is_hold is

abbrev pub decided_as : Option Mark → Decision
decided_as None = Undecided
decided_as (Some m) = Decided m

abbrev pub decision_by : Option LogDecision → Bool → Decision
decision_by None true = Past
decision_by None false = Undecided
decision_by (Some d) gone = decided_as (mark_as d.mark)

-- where its removal is in the base the decision has left the record
abbrev pub decision_of : ℕ → Side → Decision
decision_of id x = decision_by (find (λ d. d.id == id) x.decisions) (is_gone id (take x.log.first.own x.log.own))

-- ---- a node's ends by their channels, and which have halted

pub record Links : Type 0 where
  pub sides : ℕ → Option Side
  pub halted : ℕ → Bool

abbrev pub decision_at : ℕ → Option Side → Decision
decision_at id None = Undecided
decision_at id (Some x) = decision_of id x

abbrev pub removal_at : ℕ → Option Side → Removal
removal_at id None = NoRemoval
removal_at id (Some x) = removal_of id x.log

abbrev pub course_at : ℕ → Option Side → Course
course_at i None = Uncovered
course_at i (Some x) = course_of i x.log x.results

abbrev pub HasAddAt : List ℕ × ℕ → ℕ → Option Side → Type 0
HasAddAt o i None = ⊥
HasAddAt o i (Some x) = HasAdd o i x.log

-- where an add says that this HTLC came from
module _ (origin : Incoming → List ℕ × ℕ) where
  abbrev pub HasOut : Incoming → ℕ → ℕ → Links → Type 0
  HasOut h c i s = HasAddAt (origin h) i (s.sides c)

  abbrev pub AreOuts : Incoming → Links → List Out → Type 0
  AreOuts h s [] = (c i : ℕ) → HasOut h c i s → ⊥
  AreOuts h s (q ∷ []) = HasOut h q.channel q.id s × (q.course ≡ course_at q.id (s.sides q.channel))
      × ((c i : ℕ) → HasOut h c i s → (c ≡ q.channel) × (i ≡ q.id))
  AreOuts h s (q ∷ r ∷ qs) = ⊥

  pub record IsOfLinks (h : Incoming) (s : Links) (p : Payment) : Type 0 where
    pub decision : p.decision ≡ decision_at h.id (s.sides h.channel)
    pub removal : p.removal ≡ removal_at h.id (s.sides h.channel)
    pub outs : AreOuts h s p.outs
    pub halted : (c : ℕ) → p.halted c ≡ s.halted c

  -- moves that lead there, and leave the note as it is
  pub record HasMoves (h : Incoming) (s : Links) (p : Payment) : Type 0 where
    pub moves : List Move
    pub made : AreMade moves p
    pub of_links : IsOfLinks h s (after moves p)
    pub note : (after moves p).note ≡ p.note

  -- ---- one end changes

  pub record Changed (c : ℕ) (x y : Side) (s t : Links) : Type 0 where
    pub before : s.sides c ≡ Some x
    pub behind : t.sides c ≡ Some y
    pub others : (d : ℕ) → (d == c) ≡ false → t.sides d ≡ s.sides d
    pub halted : (d : ℕ) → t.halted d ≡ s.halted d

  module _ (h : Incoming) (c : ℕ) (x y : Side) (s t : Links) (g : Changed c x y s t) where
    abbrev Here : ℕ → Side → Type 0
    Here i z = HasAdd (origin h) i z.log

    -- of a part that is the same at both ends
    pub at_same : {A : Type 0} (f : Option Side → A) → f (Some y) ≡ f (Some x) → (d : ℕ) → f (t.sides d) ≡ f (s.sides d)
    at_same f e d = elim (either (d == c)) [
      | inl is ↦ ap (λ k. f (t.sides k)) (eqb-true d c is) ∙ ap f g.behind ∙ e ∙ sym (ap f g.before)
          ∙ ap (λ k. f (s.sides k)) (sym (eqb-true d c is))
      | inr isnt ↦ ap f (g.others d isnt)
    ]

    -- of h's channel
    pub at_same_if : {A : Type 0} (f : Option Side → A) → ((h.channel == c) ≡ true → f (Some y) ≡ f (Some x))
        → f (t.sides h.channel) ≡ f (s.sides h.channel)
    at_same_if f e = elim (either (h.channel == c)) [
      | inl is ↦ ap (λ k. f (t.sides k)) (eqb-true h.channel c is) ∙ ap f g.behind ∙ e is ∙ sym (ap f g.before)
          ∙ ap (λ k. f (s.sides k)) (sym (eqb-true h.channel c is))
      | inr isnt ↦ ap f (g.others h.channel isnt)
    ]

    has_back : ((i : ℕ) → Here i y → Here i x) → (d i : ℕ) → HasOut h d i t → HasOut h d i s
    has_back incoming d i k = elim (either (d == c)) [
      | inl is ↦ subst (λ n. HasOut h n i s) (sym (eqb-true d c is)) (subst (HasAddAt (origin h) i) (sym g.before)
          (incoming i (subst (HasAddAt (origin h) i) g.behind (subst (λ n. HasOut h n i t) (eqb-true d c is) k))))
      | inr isnt ↦ subst (HasAddAt (origin h) i) (g.others d isnt) k
    ]

    has_on : ((i : ℕ) → Here i x → Here i y) → (d i : ℕ) → HasOut h d i s → HasOut h d i t
    has_on on d i k = elim (either (d == c)) [
      | inl is ↦ subst (λ n. HasOut h n i t) (sym (eqb-true d c is)) (subst (HasAddAt (origin h) i) (sym g.behind)
          (on i (subst (HasAddAt (origin h) i) g.before (subst (λ n. HasOut h n i s) (eqb-true d c is) k))))
      | inr isnt ↦ subst (HasAddAt (origin h) i) (sym (g.others d isnt)) k
    ]

    here : (d i : ℕ) → (d == c) ≡ true → HasOut h d i s → Here i x
    here d i is k = subst (HasAddAt (origin h) i) g.before (subst (λ n. HasOut h n i s) (eqb-true d c is) k)

    course_so : (f : Course → Course) → ((i : ℕ) → Here i x → course_of i y.log y.results ≡ f
        (course_of i x.log x.results))
        → (q : Out) → HasOut h q.channel q.id s → q.course ≡ course_at q.id (s.sides q.channel)
        → cond (q.channel == c) (f q.course) q.course ≡ course_at q.id (t.sides q.channel)
    course_so f e q k is = elim (either (q.channel == c)) [
      | inl same ↦ ap (λ b. cond b (f q.course) q.course) same ∙ ap f is
          ∙ ap (λ n. f (course_at q.id (s.sides n))) (eqb-true q.channel c same)
          ∙ ap (λ o. f (course_at q.id o)) g.before ∙ sym (e q.id (here q.channel q.id same k))
          ∙ sym (ap (course_at q.id) g.behind)
          ∙ sym (ap (λ n. course_at q.id (t.sides n)) (eqb-true q.channel c same))
      | inr other ↦ ap (λ b. cond b (f q.course) q.course) other ∙ is
          ∙ sym (ap (course_at q.id) (g.others q.channel other))
    ]

    -- each add that is there is there still, and all in this channel have gone on so
    pub outs_going : (f : Course → Course) → ((i : ℕ) → Here i y → Here i x) → ((i : ℕ) → Here i x → Here i y)
        → ((i : ℕ) → Here i x → course_of i y.log y.results ≡ f (course_of i x.log x.results))
        → (qs : List Out) → AreOuts h s qs → AreOuts h t (going_on (λ q. q.channel == c) f qs)
    outs_going f incoming on e [] k = λ d i a. k d i (has_back incoming d i a)
    outs_going f incoming on e (q ∷ []) k = (
      has_on on q.channel q.id k.0,
      course_so f e q k.0 k.1,
      λ d i a. k.2 d i (has_back incoming d i a),
    )
    outs_going f incoming on e (q ∷ r ∷ qs) k = k

    -- with their courses
    pub outs_same : ((i : ℕ) → Here i y → Here i x) → ((i : ℕ) → Here i x → Here i y)
        → ((i : ℕ) → Here i x → course_of i y.log y.results ≡ course_of i x.log x.results)
        → (qs : List Out) → AreOuts h s qs → AreOuts h t qs
    outs_same incoming on e [] k = λ d i a. k d i (has_back incoming d i a)
    outs_same incoming on e (q ∷ []) k = (
      has_on on q.channel q.id k.0,
      same_by (q.channel == c) q.course ∙ course_so (λ z. z) e q k.0 k.1,
      λ d i a. k.2 d i (has_back incoming d i a),
    )
      where
        same_by : (b : Bool) (z : Course) → z ≡ cond b z z
        same_by true z = refl
        same_by false z = refl
    outs_same incoming on e (q ∷ r ∷ qs) k = k

    -- nothing of h changes
    pub stays : decision_of h.id y ≡ decision_of h.id x → removal_of h.id y.log ≡ removal_of h.id x.log
        → ((i : ℕ) → Here i y → Here i x) → ((i : ℕ) → Here i x → Here i y)
        → ((i : ℕ) → Here i x → course_of i y.log y.results ≡ course_of i x.log x.results)
        → (p : Payment) → IsOfLinks h s p → IsOfLinks h t p
    stays d r incoming on e p k = record {
      decision = k.decision ∙ sym (at_same (decision_at h.id) d h.channel);
      removal = k.removal ∙ sym (at_same (removal_at h.id) r h.channel);
      outs = outs_same incoming on e p.outs k.outs;
      halted = λ n. k.halted n ∙ sym (g.halted n);
    }

    -- the base is the same
    base_stays : (m : Log) → y.log ≡ m → y.decisions ≡ x.decisions
        → take m.first.own m.own ≡ take x.log.first.own x.log.own → decision_of h.id y ≡ decision_of h.id x
    base_stays m l d same =
        ap (λ (n : Log). decision_by (find (λ e. e.id == h.id) y.decisions) (is_gone h.id (take n.first.own n.own))) l
        ∙ ap (λ ds. decision_by (find (λ e. e.id == h.id) ds) (is_gone h.id (take m.first.own m.own))) d
        ∙ ap (λ us. decision_by (find (λ e. e.id == h.id) x.decisions) (is_gone h.id us)) same

    nowhere_else : (h.channel == c) ≡ false → t.sides h.channel ≡ s.sides h.channel
    nowhere_else e = g.others h.channel e

    pub removal_here : (h.channel == c) ≡ true → (p : Payment) → IsOfLinks h s p → p.removal ≡ removal_of h.id x.log
    removal_here e p k =
        k.removal ∙ ap (λ n. removal_at h.id (s.sides n)) (eqb-true h.channel c e) ∙ ap (removal_at h.id) g.before

    removal_there : (h.channel == c) ≡ true → removal_at h.id (t.sides h.channel) ≡ removal_of h.id y.log
    removal_there e = ap (λ n. removal_at h.id (t.sides n)) (eqb-true h.channel c e) ∙ ap (removal_at h.id) g.behind

    -- ---- a signature of the end

    pub signs : y.log ≡ log.after_sign x.log → y.results ≡ x.results → y.decisions ≡ x.decisions → IsSoundLog x.log
        → (p : Payment) → IsOfLinks h s p → HasMoves h t p
    signs l r d sound p k = elim (either (h.channel == c)) [
      | inl is ↦ record {
        moves = move.SignOuts c ∷ move.SignRemoval ∷ [];
        made = (tt, (tt, tt));
        note = refl;
        of_links = record {
          decision = k.decision ∙ sym (at_same (decision_at h.id) decision h.channel);
          removal = ap move.removal_signed (removal_here is p k) ∙ sym removal ∙ sym (removal_there is);
          outs = outs;
          halted = λ n. k.halted n ∙ sym (g.halted n);
        };
      }
      | inr isnt ↦ record {
        moves = move.SignOuts c ∷ [];
        made = (tt, tt);
        note = refl;
        of_links = record {
          decision = k.decision ∙ sym (at_same (decision_at h.id) decision h.channel);
          removal = k.removal ∙ sym (ap (removal_at h.id) (nowhere_else isnt));
          outs = outs;
          halted = λ n. k.halted n ∙ sym (g.halted n);
        };
      }
    ]
      where
        signed : Log
        signed = log.after_sign x.log

        decision : decision_of h.id y ≡ decision_of h.id x
        decision = base_stays (log.after_sign x.log) l d refl

        removal : removal_of h.id y.log ≡ move.removal_signed (removal_of h.id x.log)
        removal = ap (removal_of h.id) l ∙ removal_is_signed x.log h.id sound.within

        there : (i : ℕ) → Here i x → is_some (add_with i x.log.own) ≡ true
        there i a = some_of (origin h) (add_with i x.log.own) a

        outs : AreOuts h t (going_on (λ q. q.channel == c) after_sign p.outs)
        outs = outs_going after_sign (λ i a. subst (λ (m : Log). HasAdd (origin h) i m) l a)
            (λ i a. subst (λ (m : Log). HasAdd (origin h) i m) (sym l) a)
            (λ i a. ap (λ (m : Log). course_of i m y.results) l ∙ ap (course_of i signed) r
            ∙ course_signed x.log x.results i sound (there i a))
            p.outs k.outs

    -- ---- a signature of the peer's is accepted

    pub accepts : y.log ≡ log.after_accept x.log → y.results ≡ x.results → y.decisions ≡ x.decisions → IsSoundLog x.log
        → (p : Payment) → IsOfLinks h s p → HasMoves h t p
    accepts l r d sound p k = elim (either (h.channel == c)) [
      | inl is ↦ elim (removal_accepted x.log h.id sound.within) [
        | inl same ↦ none (ap (removal_of h.id) l ∙ same)
        | inr held ↦ record {
          moves = move.HoldRemoval ∷ [];
          made = (tt, tt);
          note = refl;
          of_links = record {
            decision = k.decision ∙ sym (at_same (decision_at h.id) decision h.channel);
            removal = ap move.removal_held (removal_here is p k) ∙ sym (ap (removal_of h.id) l ∙ held)
                ∙ sym (removal_there is);
            outs = outs;
            halted = λ n. k.halted n ∙ sym (g.halted n);
          };
        }
      ]
      | inr isnt ↦ record {
        moves = [];
        made = tt;
        note = refl;
        of_links = record {
          decision = k.decision ∙ sym (at_same (decision_at h.id) decision h.channel);
          removal = k.removal ∙ sym (ap (removal_at h.id) (nowhere_else isnt));
          outs = outs;
          halted = λ n. k.halted n ∙ sym (g.halted n);
        };
      }
    ]
      where
        decision : decision_of h.id y ≡ decision_of h.id x
        decision = base_stays (log.after_accept x.log) l d refl

        incoming : (i : ℕ) → Here i y → Here i x
        incoming i a = subst (λ (m : Log). HasAdd (origin h) i m) l a

        on : (i : ℕ) → Here i x → Here i y
        on i a = subst (λ (m : Log). HasAdd (origin h) i m) (sym l) a

        course : (i : ℕ) → Here i x → course_of i y.log y.results ≡ course_of i x.log x.results
        course i a = ap (λ (m : Log). course_of i m y.results) l ∙ ap (course_of i (log.after_accept x.log)) r

        outs : AreOuts h t p.outs
        outs = outs_same incoming on course p.outs k.outs

        none : removal_of h.id y.log ≡ removal_of h.id x.log → HasMoves h t p
        none e = record {
          moves = [];
          made = tt;
          note = refl;
          of_links = stays decision e incoming on course p k;
        }

    -- ---- a revocation of the peer's is taken

    abbrev Learned : List Settlement → Type 0
    Learned ts = (i : ℕ) → Here i x → (is_gone i (newly x.log) ≡ true → has_result i ts ≡ true)
        × (is_gone i (newly x.log) ≡ false → has_result i ts ≡ false)

    pub learns : (ts : List Settlement) → y.log ≡ log.after_learn x.log → y.results ≡ x.results ++ ts
        → y.decisions ≡ x.decisions → IsSoundLog x.log → Learned ts → (p : Payment) → IsOfLinks h s p → HasMoves h t p
    learns ts l r d sound new p k = cases p.outs refl
      where
        decision : decision_of h.id y ≡ decision_of h.id x
        decision = base_stays (log.after_learn x.log) l d refl

        removal : removal_of h.id y.log ≡ removal_of h.id x.log
        removal = ap (removal_of h.id) l

        incoming : (i : ℕ) → Here i y → Here i x
        incoming i a = subst (λ (m : Log). HasAdd (origin h) i m) l a

        on : (i : ℕ) → Here i x → Here i y
        on i a = subst (λ (m : Log). HasAdd (origin h) i m) (sym l) a

        course : (i : ℕ) → course_of i y.log y.results ≡ course_of i (log.after_learn x.log) (x.results ++ ts)
        course i = ap (λ (m : Log). course_of i m y.results) l ∙ ap (course_of i (log.after_learn x.log)) r

        goes : (ms : List Move) → AreMade ms p → (after ms p).decision ≡ p.decision → (after ms p).removal ≡ p.removal
            → (after ms p).halted ≡ p.halted → (after ms p).note ≡ p.note → AreOuts h t (after ms p).outs
            → HasMoves h t p
        goes ms made de re ha same outs = record {
          moves = ms;
          made = made;
          note = same;
          of_links = record {
            decision = de ∙ k.decision ∙ sym (at_same (decision_at h.id) decision h.channel);
            removal = re ∙ k.removal ∙ sym (at_same (removal_at h.id) removal h.channel);
            outs = outs;
            halted = λ n. ap (λ f. f n) ha ∙ k.halted n ∙ sym (g.halted n);
          };
        }

        stay : AreOuts h t p.outs → HasMoves h t p
        stay outs = goes [] tt refl refl refl refl outs

        course_now : (q : Out) → (q.channel == c) ≡ true → q.course ≡ course_at q.id (s.sides q.channel)
            → q.course ≡ course_of q.id x.log x.results
        course_now q is e = e ∙ ap (λ n. course_at q.id (s.sides n)) (eqb-true q.channel c is)
            ∙ ap (course_at q.id) g.before

        course_then : (q : Out) → (q.channel == c) ≡ true
            → course_at q.id (t.sides q.channel) ≡ course_of q.id (log.after_learn x.log) (x.results ++ ts)
        course_then q is = ap (λ n. course_at q.id (t.sides n)) (eqb-true q.channel c is) ∙ ap (course_at q.id) g.behind
            ∙ course q.id

        with_end : (m : Kind) (q : Out) → (q.channel == c) ≡ true
            → going_on (is_at c q.id) (after_end m) (q ∷ []) ≡ with_course (after_end m q.course) q ∷ []
        with_end m q is =
            ap (λ b. with_course (cond (b && (q.id == q.id)) (after_end m q.course) q.course) q ∷ []) is
            ∙ ap (λ b. with_course (cond b (after_end m q.course) q.course) q ∷ []) (eq-eqb q.id q.id refl)

        cases : (qs : List Out) → p.outs ≡ qs → HasMoves h t p
        cases [] e = stay (subst (AreOuts h t) (sym e) (λ d i a. subst (AreOuts h s) e k.outs d i
            (has_back incoming d i a)))
        cases (q ∷ r ∷ qs) e = absurd (subst (AreOuts h s) e k.outs)
        cases (q ∷ []) e =
            let o = subst (AreOuts h s) e k.outs in
            let there = has_on on q.channel q.id o.0 in
            let only : (d i : ℕ) → HasOut h d i t → (d ≡ q.channel) × (i ≡ q.id) = λ d i a. o.2 d i
            (has_back incoming d i a) in
            elim (either (q.channel == c)) [
              | inr other ↦ stay (subst (AreOuts h t) (sym e) (
                there,
                o.1 ∙ sym (ap (course_at q.id) (g.others q.channel other)),
                only,
              ))
              | inl is ↦ let f = new q.id (here q.channel q.id is o.0) in
                  elim (course_learned x.log x.results ts q.id sound f.0 f.1) [
                    | inl same ↦ stay (subst (AreOuts h t) (sym e) (
                      there,
                      course_now q is o.1 ∙ sym same ∙ sym (course_then q is),
                      only,
                    ))
                    | inr m ↦ goes (move.End c q.id m.0 ∷ []) (tt, tt) refl refl refl refl
                        (subst (AreOuts h t) (sym (ap (going_on (is_at c q.id) (after_end m.0)) e ∙ with_end m.0 q is))
                        (there, ap (after_end m.0) (course_now q is o.1) ∙ sym m.1 ∙ sym (course_then q is), only))
                  ]
            ]

    -- ---- an own update is proposed

    module _ (u : Update) (l : y.log ≡ log.after_propose u x.log) (r : y.results ≡ x.results)
        (d : y.decisions ≡ x.decisions) (sound : IsSoundLog x.log) where
      proposed_decision : decision_of h.id y ≡ decision_of h.id x
      proposed_decision =
          let a = sound.own_first in
          let b = sound.within.own_current in
          let e = sound.within.own_acknowledged in
          let f = sound.within.own_signed in
          base_stays (log.after_propose u x.log) l d
          (take-append-le x.log.first.own x.log.own (u ∷ []) (omega (arith, a, b, e, f)))

      proposed_on : (i : ℕ) → Here i x → Here i y
      proposed_on i a = subst (λ (m : Log). HasAdd (origin h) i m) (sym l) (add_stays (origin h) i x.log u a)

      proposed_course : (i : ℕ) → course_of i y.log y.results ≡ course_of i x.log x.results
      proposed_course i =
          ap (λ (m : Log). course_of i m y.results) l ∙ ap (course_of i (log.after_propose u x.log)) r
          ∙ course_proposed x.log x.results i u sound.within

      -- which is none of h's
      pub proposes : ((i : ℕ) → Forwards (origin h) (add_with i (u ∷ [])) → ⊥)
          → ((h.channel == c) ≡ true → outcome h.id (x.log.own ++ u ∷ []) ≡ outcome h.id x.log.own) → (p : Payment)
          → IsOfLinks h s p → IsOfLinks h t p
      proposes none other p k = record {
        decision = k.decision ∙ sym (at_same (decision_at h.id) proposed_decision h.channel);
        removal = k.removal ∙ sym (at_same_if (removal_at h.id) (λ is. ap (removal_of h.id) l
            ∙ removal_other x.log h.id u sound.within (other is)));
        outs = outs_same (λ i a. elim (add_was (origin h) i x.log u (subst (λ (m : Log). HasAdd (origin h) i m) l a)) [
          | inl was ↦ was
          | inr new ↦ absurd (none i new)
        ]) proposed_on (λ i a. proposed_course i) p.outs k.outs;
        halted = λ n. k.halted n ∙ sym (g.halted n);
      }

      -- which removes h
      pub removes : (o : Outcome) (m : Kind) → (h.channel == c) ≡ true
          → ((i : ℕ) → Forwards (origin h) (add_with i (u ∷ [])) → ⊥)
          → outcome h.id x.log.own ≡ Live → outcome h.id (x.log.own ++ u ∷ []) ≡ o
          → removal_by o Proposed ≡ By m Proposed
          → (p : Payment) → IsOfLinks h s p → IsOfLinks h t (moved (move.Remove m) p)
      removes o m is none live now kind p k = record {
        decision = k.decision ∙ sym (at_same (decision_at h.id) proposed_decision h.channel);
        removal = sym (removal_there is ∙ ap (removal_of h.id) l ∙ removal_new x.log h.id u o sound.within live now
            ∙ kind);
        outs = outs_same (λ i a. elim (add_was (origin h) i x.log u (subst (λ (n : Log). HasAdd (origin h) i n) l a)) [
          | inl was ↦ was
          | inr new ↦ absurd (none i new)
        ]) proposed_on (λ i a. proposed_course i) p.outs k.outs;
        halted = λ n. k.halted n ∙ sym (g.halted n);
      }

    -- an add that forwards h, where nothing does
    pub offers : (a : Add) → y.log ≡ log.after_propose (update.Add a) x.log → y.results ≡ x.results
        → y.decisions ≡ x.decisions → IsSoundLog x.log → a.id ≡ next_id x.log.own → a.origin ≡ Some (origin h)
        → (p : Payment) → IsOfLinks h s p → p.outs ≡ [] → IsOfLinks h t (moved (move.Offer c a.id) p)
    offers a l r d sound id from p k none = record {
      decision = k.decision ∙ sym (at_same (decision_at h.id) (proposed_decision (update.Add a) l r d sound) h.channel);
      removal = k.removal ∙ sym (at_same (removal_at h.id) (ap (removal_of h.id) l
          ∙ removal_other x.log h.id (update.Add a) sound.within
          (outcome-none h.id x.log.own (update.Add a) refl)) h.channel);
      outs = subst (λ qs. AreOuts h t (record { channel = c; id = a.id; course = Uncovered } ∷ qs)) (sym none) (
        subst (HasAddAt (origin h) a.id) (sym g.behind) (subst (λ (m : Log). HasAdd (origin h) a.id m) (sym l)
            (subst (Forwards (origin h)) (sym (add_new x.log a sound id)) from)),
        sym (ap (course_at a.id) g.behind ∙ ap (λ (m : Log). course_of a.id m y.results) l
            ∙ course_new x.log y.results a sound id),
        only,
      );
      halted = λ n. k.halted n ∙ sym (g.halted n);
    }
      where
        no_outs : (n i : ℕ) → HasOut h n i s → ⊥
        no_outs n i b = subst (AreOuts h s) none k.outs n i b

        is_it : (i : ℕ) → (o : Bool) → (a.id == i) ≡ o → Forwards (origin h) (add_with i (update.Add a ∷ [])) → i ≡ a.id
        is_it i true e b = sym (eqb-true a.id i e)
        is_it i false e b = absurd (subst (λ z. Forwards (origin h) (cond z (Some a) None)) e b)

        only : (n i : ℕ) → HasOut h n i t → (n ≡ c) × (i ≡ a.id)
        only n i b = elim (either (n == c)) [
          | inl is ↦ (
            eqb-true n c is,
            elim (add_was (origin h) i x.log (update.Add a)
                (subst (λ (m : Log). HasAdd (origin h) i m) l
                (subst (HasAddAt (origin h) i) g.behind (subst (λ z. HasOut h z i t) (eqb-true n c is) b)))) [
                  | inl was ↦ absurd (no_outs c i (subst (HasAddAt (origin h) i) (sym g.before) was))
                  | inr new ↦ is_it i (a.id == i) refl new
                ],
          )
          | inr isnt ↦ absurd (no_outs n i (subst (HasAddAt (origin h) i) (g.others n isnt) b))
        ]
