-- What lost connections, ends that halt, and a restart of the node leave of an HTLC that came in.
use Rattle.std.proofs.Common.{◌≡◌, inl, inr, ℕ, List, [], ◌∷◌, take, refl, sym, ap, ◌∙◌, subst, arith}
use Rattle.std.proofs.Common.{Bool, true, false, cond, not, ◌==◌, ◌&&◌, ◌||◌, Option, Some, None}
use Rattle.std.specs.List.{find}
use Rattle.std.proofs.lemmas.List.{take-take}
use Rattle.std.proofs.Math.Bool.{and-false}
use Rattle.ln_log.specs.Updates.{add_with, is_some}
use Rattle.ln_log.specs.Log.{Log}
use Rattle.ln_log.specs.Log as log
use Rattle.ln_payment.specs.Parts.{Out, Payment}
use Rattle.ln_payment.specs.Rebuild.{kept_outs, kept_removal, is_uncovered, everywhere}
use Rattle.ln_payment.specs.Moves.{moved, is_of}
use Rattle.ln_payment.specs.Moves as move
use Rattle.ln_payment_circuits.specs.Snapshot.{is_gone, IsSoundLog, Incoming}
use Rattle.ln_payment_circuits.proofs.Logs.{add_covered, add_kept, add_is_covered, course_dropped, is_covered_so}
use Rattle.ln_payment_circuits.proofs.Logs.{removal_dropped}
use Rattle.ln_payment_circuits.proofs.Links.{Side, Links, decision_by, decision_at, removal_at, course_at, HasAddAt}
use Rattle.ln_payment_circuits.proofs.Links.{HasOut}
use Rattle.ln_payment_circuits.proofs.Links.{AreOuts, IsOfLinks}
use Rattle.ln_payment_circuits.proofs.Lists.{either}

abbrev pub dropped : Side → Side
dropped x = record x { log = log.after_drop x.log }

abbrev pub all_dropped : Option Side → Option Side
all_dropped None = None
all_dropped (Some x) = Some (dropped x)

abbrev pub IsSoundSide : Option Side → Type 0
IsSoundSide None = Unit {0}
IsSoundSide (Some x) = IsSoundLog x.log

-- some of the ends lose what isn't signed
pub record Drops (f : ℕ → Bool) (s t : Links) : Type 0 where
  pub lost : (d : ℕ) → f d ≡ true → t.sides d ≡ all_dropped (s.sides d)
  pub others : (d : ℕ) → f d ≡ false → t.sides d ≡ s.sides d
  pub sound : (d : ℕ) → IsSoundSide (s.sides d)

decision_dropped : (id : ℕ) (o : Option Side) → IsSoundSide o → decision_at id (all_dropped o) ≡ decision_at id o
decision_dropped id None s = refl
decision_dropped id (Some x) s =
    let a = s.own_first in
    let b = s.within.own_current in
    let e = s.within.own_acknowledged in
    ap (λ us. decision_by (find (λ e. e.id == id) x.decisions) (is_gone id us))
    (take-take x.log.first.own x.log.signed.own x.log.own (omega (arith, a, b, e)))

removal_lost : (id : ℕ) (o : Option Side) → IsSoundSide o → removal_at id (all_dropped o) ≡ kept_removal
    (removal_at id o)
removal_lost id None s = refl
removal_lost id (Some x) s = removal_dropped x.log id s.within

course_lost : (i : ℕ) (o : Option Side) → IsSoundSide o → course_at i (all_dropped o) ≡ course_at i o
course_lost i None s = refl
course_lost i (Some x) s = course_dropped x.log x.results i s.within

has_lost : (g : List ℕ × ℕ) (i : ℕ) (o : Option Side) → HasAddAt g i (all_dropped o) → HasAddAt g i o
has_lost g i None h = h
has_lost g i (Some x) h = add_covered g i x.log h

-- what is left is covered
left_covered : (g : List ℕ × ℕ) (i : ℕ) (o : Option Side) → HasAddAt g i (all_dropped o)
    → is_uncovered (course_at i o) ≡ false
left_covered g i None h = absurd h
left_covered g i (Some x) h = is_covered_so x.log x.results i ∙ ap not (add_is_covered g i x.log h)

-- and what is covered is left
covered_left : (g : List ℕ × ℕ) (i : ℕ) (o : Option Side) → HasAddAt g i o → is_uncovered (course_at i o) ≡ false
    → HasAddAt g i (all_dropped o)
covered_left g i None h e = h
covered_left g i (Some x) h e = add_kept g i x.log (turned (is_some (add_with i (take x.log.signed.own x.log.own)))
    (sym (is_covered_so x.log x.results i) ∙ e)) h
  where
    turned : (b : Bool) → not b ≡ false → b ≡ true
    turned true e = refl
    turned false e = absurd (cc)

module _ (origin : Incoming → List ℕ × ℕ) (h : Incoming) (f : ℕ → Bool) (s t : Links) (g : Drops f s t) where
  has_back : (d i : ℕ) → HasOut origin h d i t → HasOut origin h d i s
  has_back d i k = elim (either (f d)) [
    | inl is ↦ has_lost (origin h) i (s.sides d) (subst (HasAddAt (origin h) i) (g.lost d is) k)
    | inr isnt ↦ subst (HasAddAt (origin h) i) (g.others d isnt) k
  ]

  course_same : (d i : ℕ) → course_at i (t.sides d) ≡ course_at i (s.sides d)
  course_same d i = elim (either (f d)) [
    | inl is ↦ ap (course_at i) (g.lost d is) ∙ course_lost i (s.sides d) (g.sound d)
    | inr isnt ↦ ap (course_at i) (g.others d isnt)
  ]

  has_on : (d i : ℕ) → (is_uncovered (course_at i (s.sides d)) && f d) ≡ false → HasOut origin h d i s
      → HasOut origin h d i t
  has_on d i e k = elim (either (f d)) [
    | inl is ↦ subst (HasAddAt (origin h) i) (sym (g.lost d is)) (covered_left (origin h) i (s.sides d) k
        (first_false (is_uncovered (course_at i (s.sides d))) (f d) is e))
    | inr isnt ↦ subst (HasAddAt (origin h) i) (sym (g.others d isnt)) k
  ]
    where
      first_false : (a b : Bool) → b ≡ true → (a && b) ≡ false → a ≡ false
      first_false true b is e = absurd (let no : true ≡ false = sym is ∙ e in cc)
      first_false false b is e = refl

  is_left : (d i : ℕ) → HasOut origin h d i t → (is_uncovered (course_at i (s.sides d)) && f d) ≡ false
  is_left d i k = elim (either (f d)) [
    | inl is ↦ ap (λ b. b && f d) (left_covered (origin h) i (s.sides d)
        (subst (HasAddAt (origin h) i) (g.lost d is) k))
    | inr isnt ↦ ap (λ b. is_uncovered (course_at i (s.sides d)) && b) isnt
        ∙ and-false (is_uncovered (course_at i (s.sides d)))
  ]

  pub outs_kept : (qs : List Out) → AreOuts origin h s qs → AreOuts origin h t (kept_outs f qs)
  outs_kept [] k = λ d i a. k d i (has_back d i a)
  outs_kept (q ∷ r ∷ qs) k = absurd k
  outs_kept (q ∷ []) k = cases (is_uncovered q.course && f q.channel) refl
    where
      at_s : is_uncovered q.course ≡ is_uncovered (course_at q.id (s.sides q.channel))
      at_s = ap is_uncovered k.1

      cases : (b : Bool) → (is_uncovered q.course && f q.channel) ≡ b → AreOuts origin h t (cond (not b) (q ∷ []) [])
      cases true e = λ d i a.
          let is = k.2 d i (has_back d i a) in
          absurd (let left : (is_uncovered (course_at q.id (s.sides q.channel)) && f q.channel) ≡ false =
          ap (λ n. is_uncovered (course_at q.id (s.sides n)) && f n) (sym is.0)
          ∙ ap (λ n. is_uncovered (course_at n (s.sides d)) && f d) (sym is.1) ∙ is_left d i a in
          let no : true ≡ false = sym e ∙ ap (λ b. b && f q.channel) at_s ∙ left in cc)
      cases false e = (
        has_on q.channel q.id (sym (ap (λ b. b && f q.channel) at_s) ∙ e) k.0,
        k.1 ∙ sym (course_same q.channel q.id),
        λ d i a. k.2 d i (has_back d i a),
      )

  pub decision_kept : (p : Payment) → IsOfLinks origin h s p → p.decision ≡ decision_at h.id (t.sides h.channel)
  decision_kept p k = elim (either (f h.channel)) [
    | inl is ↦ k.decision ∙ sym (decision_dropped h.id (s.sides h.channel) (g.sound h.channel))
        ∙ sym (ap (decision_at h.id) (g.lost h.channel is))
    | inr isnt ↦ k.decision ∙ sym (ap (decision_at h.id) (g.others h.channel isnt))
  ]

  pub removal_left : f h.channel ≡ true → (p : Payment) → IsOfLinks origin h s p
      → kept_removal p.removal ≡ removal_at h.id (t.sides h.channel)
  removal_left is p k = ap kept_removal k.removal ∙ sym (removal_lost h.id (s.sides h.channel) (g.sound h.channel))
      ∙ sym (ap (removal_at h.id) (g.lost h.channel is))

  pub removal_same : f h.channel ≡ false → (p : Payment) → IsOfLinks origin h s p
      → p.removal ≡ removal_at h.id (t.sides h.channel)
  removal_same isnt p k = k.removal ∙ sym (ap (removal_at h.id) (g.others h.channel isnt))

-- ---- the three of them, but for the note

module _ (origin : Incoming → List ℕ × ℕ) (h : Incoming) (s t : Links) where
  module _ (c : ℕ) (g : Drops (is_of c) s t) where
    -- a link that works again, or still
    pub falls_here : ((d : ℕ) → t.halted d ≡ (not (d == c) && s.halted d)) → (h.channel == c) ≡ true → (p : Payment)
        → IsOfLinks origin h s p
        → IsOfLinks origin h t (moved move.DropRemoval (moved (move.Reload c) (moved (move.Drop c) p)))
    falls_here now is p k = record {
      decision = decision_kept origin h (is_of c) s t g p k;
      removal = removal_left origin h (is_of c) s t g is p k;
      outs = outs_kept origin h (is_of c) s t g p.outs k.outs;
      halted = λ d. ap (λ b. not (d == c) && b) (k.halted d) ∙ sym (now d);
    }

    pub falls_elsewhere : ((d : ℕ) → t.halted d ≡ (not (d == c) && s.halted d)) → (h.channel == c) ≡ false
        → (p : Payment) → IsOfLinks origin h s p → IsOfLinks origin h t (moved (move.Reload c) (moved (move.Drop c) p))
    falls_elsewhere now isnt p k = record {
      decision = decision_kept origin h (is_of c) s t g p k;
      removal = removal_same origin h (is_of c) s t g isnt p k;
      outs = outs_kept origin h (is_of c) s t g p.outs k.outs;
      halted = λ d. ap (λ b. not (d == c) && b) (k.halted d) ∙ sym (now d);
    }

    pub halts_here : ((d : ℕ) → t.halted d ≡ ((d == c) || s.halted d)) → (h.channel == c) ≡ true → (p : Payment)
        → IsOfLinks origin h s p → IsOfLinks origin h t (moved move.DropRemoval (moved (move.Halt c) p))
    halts_here now is p k = record {
      decision = decision_kept origin h (is_of c) s t g p k;
      removal = removal_left origin h (is_of c) s t g is p k;
      outs = outs_kept origin h (is_of c) s t g p.outs k.outs;
      halted = λ d. ap (λ b. (d == c) || b) (k.halted d) ∙ sym (now d);
    }

    pub halts_elsewhere : ((d : ℕ) → t.halted d ≡ ((d == c) || s.halted d)) → (h.channel == c) ≡ false → (p : Payment)
        → IsOfLinks origin h s p → IsOfLinks origin h t (moved (move.Halt c) p)
    halts_elsewhere now isnt p k = record {
      decision = decision_kept origin h (is_of c) s t g p k;
      removal = removal_same origin h (is_of c) s t g isnt p k;
      outs = outs_kept origin h (is_of c) s t g p.outs k.outs;
      halted = λ d. ap (λ b. (d == c) || b) (k.halted d) ∙ sym (now d);
    }

  pub restarts : Drops everywhere s t → ((d : ℕ) → t.halted d ≡ false) → (still : Bool) (p : Payment)
      → IsOfLinks origin h s p → IsOfLinks origin h t (moved (move.Restart still) p)
  restarts g none still p k = record {
    decision = decision_kept origin h everywhere s t g p k;
    removal = removal_left origin h everywhere s t g refl p k;
    outs = outs_kept origin h everywhere s t g p.outs k.outs;
    halted = λ d. sym (none d);
  }
