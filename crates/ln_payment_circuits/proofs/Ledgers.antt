-- What decisions, results that are forgotten, and a base that moves on make of what links have of an HTLC.
use Rattle.std.proofs.Common.{◌≡◌, inl, inr, ℕ, ◌≤◌, List, [], ◌∷◌, ◌++◌, take, filter, refl, sym, ap, ◌∙◌}
use Rattle.std.proofs.Common.{subst, Bool, true, false, cond, not, ◌==◌, ◌&&◌, Option, Some, None}
use Rattle.std.specs.List.{find}
use Rattle.std.proofs.lemmas.Bool.{eqb-true, eq-eqb}
use Rattle.std.proofs.lemmas.Map.Views.{any-filter_same}
use Rattle.ln_log.specs.declared.mark.Decision.{Decision as LogDecision}
use Rattle.ln_log.specs.declared.mark.Settlement.{Settlement}
use Rattle.ln_log.specs.declared.update.Update.{Update}
use Rattle.ln_log.specs.declared.outcome.Outcome.{Outcome}
use Rattle.ln_log.specs.declared.outcome.Outcome.TheVariants.{Live, Fulfilled, Failed}
use Rattle.ln_log.specs.Updates.{outcome, is_live, add_with, is_some}
use Rattle.ln_log.specs.Log.{Log, Counts, between}
use Rattle.ln_payment.specs.Parts.{Mark, IsHeld}
use Rattle.ln_payment.specs.Parts.{Out, Payment}
use Rattle.ln_payment.specs.Moves.{Move, AreMade, after, moved, going_on, with_course, after_forget, is_at}
use Rattle.ln_payment.specs.Moves as move
use Rattle.ln_payment_circuits.specs.Snapshot.{is_gone, Incoming}
use Rattle.ln_payment_circuits.proofs.Updates.{front_gone, front_tells}
use Rattle.ln_payment_circuits.proofs.Parts.{HasAdd, course_of, course_by, ended_by, has_result, removal_of, removal_by}
use Rattle.ln_payment_circuits.proofs.Parts.{stage_by}
use Rattle.ln_payment_circuits.proofs.Removals.{split_front}
use Rattle.ln_payment_circuits.proofs.Links.{Side, Links, mark_as, decided_as, decision_by, decision_of, decision_at}
use Rattle.ln_payment_circuits.proofs.Links.{removal_at, HasAddAt, HasOut, AreOuts, IsOfLinks, HasMoves, Changed, stays}
use Rattle.ln_payment_circuits.proofs.Links.{outs_same, at_same, removal_here, outs_going}
use Rattle.ln_log.proofs.Removing.{outcome-append}
use Rattle.ln_payment_circuits.proofs.Lists.{either}

-- ---- a decision

new_first : (id : ℕ) (ds : List LogDecision) (d : LogDecision) → find (λ e. e.id == id) ds ≡ None → (d.id == id) ≡ true
    → find (λ e. e.id == id) (ds ++ d ∷ []) ≡ Some d
new_first id [] d none is = ap (λ b. cond b (Some d) None) is
new_first id (e ∷ ds) d none is = cases (e.id == id) refl (λ rest. new_first id ds d rest is)
  where
    cases : (b : Bool) → (e.id == id) ≡ b
        → (find (λ e. e.id == id) ds ≡ None → find (λ e. e.id == id) (ds ++ d ∷ []) ≡ Some d)
        → find (λ e. e.id == id) (e ∷ ds ++ d ∷ []) ≡ Some d
    cases true same rest = absurd (let no : Some e ≡ None =
        sym (ap (λ b. cond b (Some e) (find (λ e. e.id == id) ds)) same) ∙ none in cc)
    cases false same rest = ap (λ b. cond b (Some e) (find (λ e. e.id == id) (ds ++ d ∷ []))) same
        ∙ rest (sym (ap (λ b. cond b (Some e) (find (λ e. e.id == id) ds)) same) ∙ none)

other_last : (id : ℕ) (ds : List LogDecision) (d : LogDecision) → (d.id == id) ≡ false
    → find (λ e. e.id == id) (ds ++ d ∷ []) ≡ find (λ e. e.id == id) ds
other_last id [] d isnt = ap (λ b. cond b (Some d) None) isnt
other_last id (e ∷ ds) d isnt = ap (cond (e.id == id) (Some e)) (other_last id ds d isnt)

module _ (origin : Incoming → List ℕ × ℕ) (h : Incoming) (c : ℕ) (x y : Side) (s t : Links)
    (g : Changed origin c x y s t) where
  same_add : y.log ≡ x.log → (i : ℕ) → HasAdd (origin h) i y.log → HasAdd (origin h) i x.log
  same_add l i a = subst (λ (m : Log). HasAdd (origin h) i m) l a

  same_on : y.log ≡ x.log → (i : ℕ) → HasAdd (origin h) i x.log → HasAdd (origin h) i y.log
  same_on l i a = subst (λ (m : Log). HasAdd (origin h) i m) (sym l) a

  same_course : y.log ≡ x.log → y.results ≡ x.results → (i : ℕ)
      → course_of i y.log y.results ≡ course_of i x.log x.results
  same_course l r i = ap (λ (m : Log). course_of i m y.results) l ∙ ap (course_of i x.log) r

  same_removal : y.log ≡ x.log → removal_of h.id y.log ≡ removal_of h.id x.log
  same_removal l = ap (removal_of h.id) l

  base_now : y.log ≡ x.log → decision_of h.id y ≡ decision_by (find (λ e. e.id == h.id) y.decisions)
      (is_gone h.id (take x.log.first.own x.log.own))
  base_now l = ap (λ (m : Log). decision_by (find (λ e. e.id == h.id) y.decisions)
      (is_gone h.id (take m.first.own m.own))) l

  -- about h, which had none
  pub decides : (d : LogDecision) (m : Mark) → y.log ≡ x.log → y.results ≡ x.results
      → y.decisions ≡ x.decisions ++ d ∷ []
      → (h.channel == c) ≡ true → d.id ≡ h.id → mark_as d.mark ≡ Some m → find (λ e. e.id == h.id) x.decisions ≡ None
      → (p : Payment) → IsOfLinks origin h s p → IsOfLinks origin h t (moved (move.Decide m) p)
  decides d m l r ds is id mark none p k = record {
    decision = sym (ap (λ n. decision_at h.id (t.sides n)) (eqb-true h.channel c is) ∙ ap (decision_at h.id) g.behind
        ∙ base_now l ∙ ap (λ es. decision_by (find (λ e. e.id == h.id) es)
        (is_gone h.id (take x.log.first.own x.log.own))) ds
        ∙ ap (λ o. decision_by o (is_gone h.id (take x.log.first.own x.log.own)))
        (new_first h.id x.decisions d none (eq-eqb d.id h.id id))
        ∙ ap decided_as mark);
    removal = k.removal ∙ sym (at_same origin h c x y s t g (removal_at h.id) (same_removal l) h.channel);
    outs = outs_same origin h c x y s t g (same_add l) (same_on l) (λ i a. same_course l r i) p.outs k.outs;
    halted = λ n. k.halted n ∙ sym (g.halted n);
  }

  -- about another one, or one of another channel
  pub decides_other : (d : LogDecision) → y.log ≡ x.log → y.results ≡ x.results → y.decisions ≡ x.decisions ++ d ∷ []
      → ((h.channel == c) ≡ true → (d.id == h.id) ≡ false) → (p : Payment) → IsOfLinks origin h s p
      → IsOfLinks origin h t p
  decides_other d l r ds other p k = record {
    decision = elim (either (h.channel == c)) [
      | inl is ↦ k.decision ∙ sym (at_same origin h c x y s t g (decision_at h.id) (base_now l
          ∙ ap (λ es. decision_by (find (λ e. e.id == h.id) es) (is_gone h.id (take x.log.first.own x.log.own))) ds
          ∙ ap (λ o. decision_by o (is_gone h.id (take x.log.first.own x.log.own)))
          (other_last h.id x.decisions d (other is))) h.channel)
      | inr isnt ↦ k.decision ∙ sym (ap (decision_at h.id) (g.others h.channel isnt))
    ];
    removal = k.removal ∙ sym (at_same origin h c x y s t g (removal_at h.id) (same_removal l) h.channel);
    outs = outs_same origin h c x y s t g (same_add l) (same_on l) (λ i a. same_course l r i) p.outs k.outs;
    halted = λ n. k.halted n ∙ sym (g.halted n);
  }

  -- what is held is resumed
  pub resumes : (d : LogDecision) (m : Mark) → y.log ≡ x.log → y.results ≡ x.results
      → (h.channel == c) ≡ true → mark_as d.mark ≡ Some m → find (λ e. e.id == h.id) y.decisions ≡ Some d
      → (p : Payment) → IsOfLinks origin h s p → IsOfLinks origin h t (moved (move.Resume m) p)
  resumes d m l r is mark now p k = record {
    decision = sym (ap (λ n. decision_at h.id (t.sides n)) (eqb-true h.channel c is) ∙ ap (decision_at h.id) g.behind
        ∙ base_now l ∙ ap (λ o. decision_by o (is_gone h.id (take x.log.first.own x.log.own))) now
        ∙ ap decided_as mark);
    removal = k.removal ∙ sym (at_same origin h c x y s t g (removal_at h.id) (same_removal l) h.channel);
    outs = outs_same origin h c x y s t g (same_add l) (same_on l) (λ i a. same_course l r i) p.outs k.outs;
    halted = λ n. k.halted n ∙ sym (g.halted n);
  }

  -- and another one is, or one of another channel
  pub resumes_other : y.log ≡ x.log → y.results ≡ x.results
      → ((h.channel == c) ≡ true → find (λ e. e.id == h.id) y.decisions ≡ find (λ e. e.id == h.id) x.decisions)
      → (p : Payment) → IsOfLinks origin h s p → IsOfLinks origin h t p
  resumes_other l r same p k = record {
    decision = elim (either (h.channel == c)) [
      | inl is ↦ k.decision ∙ sym (at_same origin h c x y s t g (decision_at h.id) (base_now l
          ∙ ap (λ o. decision_by o (is_gone h.id (take x.log.first.own x.log.own))) (same is)) h.channel)
      | inr isnt ↦ k.decision ∙ sym (ap (decision_at h.id) (g.others h.channel isnt))
    ];
    removal = k.removal ∙ sym (at_same origin h c x y s t g (removal_at h.id) (same_removal l) h.channel);
    outs = outs_same origin h c x y s t g (same_add l) (same_on l) (λ i a. same_course l r i) p.outs k.outs;
    halted = λ n. k.halted n ∙ sym (g.halted n);
  }

  -- nothing of lists, results and decisions
  pub nothing : y.log ≡ x.log → y.results ≡ x.results → y.decisions ≡ x.decisions → (p : Payment)
      → IsOfLinks origin h s p → IsOfLinks origin h t p
  nothing l r ds p k = stays origin h c x y s t g
      (base_now l ∙ ap (λ es. decision_by (find (λ e. e.id == h.id) es)
      (is_gone h.id (take x.log.first.own x.log.own))) ds)
      (same_removal l) (same_add l) (same_on l) (λ i a. same_course l r i) p k

  -- ---- a result is forgotten

  abbrev is_not_of : ℕ → Settlement → Bool
  is_not_of i z = not (z.id == i)

  others_stay : (i j : ℕ) → (j == i) ≡ false → has_result j (filter (is_not_of i) x.results) ≡ has_result j x.results
  others_stay i j isnt = any-filter_same (λ z. z.id == j) (is_not_of i) true
      (λ z e. ap not (ap (λ n. n == i) (eqb-true z.id j e) ∙ isnt)) x.results

  none_left : (i : ℕ) → has_result i (filter (is_not_of i) x.results) ≡ false
  none_left i = any-filter_same (λ z. z.id == i) (is_not_of i) false (λ z e. ap not e) x.results

  forgot_by : (b : Bool) (o : Outcome) (r : Bool) → course_by b (ended_by o false) ≡ after_forget
      (course_by b (ended_by o r))
  forgot_by true Live r = refl
  forgot_by true Fulfilled r = refl
  forgot_by true Failed r = refl
  forgot_by false o r = refl

  forgot : (i : ℕ) → course_of i x.log (filter (is_not_of i) x.results) ≡ after_forget (course_of i x.log x.results)
  forgot i = ap (λ r. course_by (is_some (add_with i (take x.log.signed.own x.log.own)))
      (ended_by (outcome i (take x.log.acknowledged.peer x.log.received)) r)) (none_left i)
      ∙ forgot_by (is_some (add_with i (take x.log.signed.own x.log.own)))
      (outcome i (take x.log.acknowledged.peer x.log.received)) (has_result i x.results)

  kept_course : (i j : ℕ) → (j == i) ≡ false
      → course_of j x.log (filter (is_not_of i) x.results) ≡ course_of j x.log x.results
  kept_course i j isnt = ap (λ r. course_by (is_some (add_with j (take x.log.signed.own x.log.own)))
      (ended_by (outcome j (take x.log.acknowledged.peer x.log.received)) r)) (others_stay i j isnt)

  module _ (i : ℕ) (l : y.log ≡ x.log) (r : y.results ≡ filter (is_not_of i) x.results) (ds : y.decisions ≡ x.decisions)
    where
      forgot_decision : decision_of h.id y ≡ decision_of h.id x
      forgot_decision = base_now l
          ∙ ap (λ es. decision_by (find (λ e. e.id == h.id) es) (is_gone h.id (take x.log.first.own x.log.own))) ds

      -- of an HTLC that h doesn't have
      pub forgets_other : (HasAdd (origin h) i x.log → ⊥) → (p : Payment) → IsOfLinks origin h s p
          → IsOfLinks origin h t p
      forgets_other none p k = stays origin h c x y s t g forgot_decision (same_removal l) (same_add l) (same_on l)
          (λ j a. elim (either (j == i)) [
            | inl is ↦ absurd (none (subst (λ n. HasAdd (origin h) n x.log) (eqb-true j i is) a))
            | inr isnt ↦ ap (λ (m : Log). course_of j m y.results) l ∙ ap (course_of j x.log) r ∙ kept_course i j isnt
          ]) p k

      -- of h's
      pub forgets : HasAdd (origin h) i x.log → (p : Payment) → IsOfLinks origin h s p
          → IsOfLinks origin h t (moved (move.Forget c i) p)
      forgets has p k = record {
        decision = k.decision ∙ sym (at_same origin h c x y s t g (decision_at h.id) forgot_decision h.channel);
        removal = k.removal ∙ sym (at_same origin h c x y s t g (removal_at h.id) (same_removal l) h.channel);
        outs = cases p.outs k.outs;
        halted = λ n. k.halted n ∙ sym (g.halted n);
      }
        where
          course : (j : ℕ) → HasAdd (origin h) j x.log → (j ≡ i)
              → course_of j y.log y.results ≡ after_forget (course_of j x.log x.results)
          course j a is = ap (λ n. course_of n y.log y.results) is ∙ ap (λ (m : Log). course_of i m y.results) l
              ∙ ap (course_of i x.log) r ∙ forgot i ∙ sym (ap (λ n. after_forget (course_of n x.log x.results)) is)

          there : HasOut origin h c i s
          there = subst (HasAddAt (origin h) i) (sym g.before) has

          -- all in this channel are at i
          alike : (qs : List Out) → AreOuts origin h s qs → (j : ℕ) → HasAdd (origin h) j x.log → j ≡ i
          alike [] o j a = absurd (o c i there)
          alike (q ∷ []) o j a = (o.2 c j (subst (HasAddAt (origin h) j) (sym g.before) a)).1 ∙ sym (o.2 c i there).1
          alike (q ∷ q2 ∷ qs) o j a = absurd o

          same_list : (qs : List Out) → AreOuts origin h s qs
              → going_on (λ q. q.channel == c) after_forget qs ≡ going_on (is_at c i) after_forget qs
          same_list [] o = refl
          same_list (q ∷ []) o =
              let id : q.id ≡ i = sym (o.2 c i there).1 in
              ap (λ b. with_course (cond b (after_forget q.course) q.course) q ∷ [])
              (sym (and_true (q.channel == c) (q.id == i) (eq-eqb q.id i id)))
            where
              and_true : (a b : Bool) → b ≡ true → (a && b) ≡ a
              and_true true b e = e
              and_true false b e = refl
          same_list (q ∷ q2 ∷ qs) o = absurd o

          cases : (qs : List Out) → AreOuts origin h s qs → AreOuts origin h t (going_on (is_at c i) after_forget qs)
          cases qs o = subst (AreOuts origin h t) (same_list qs o)
              (outs_going origin h c x y s t g after_forget (same_add l) (same_on l)
              (λ j a. course j a (alike qs o j a)) qs o)

  -- ---- the base moves on

  abbrev pub open_if : List Update → LogDecision → Bool
  open_if us d = is_live (outcome d.id us)

  none_filtered : (us : List Update) (ds : List LogDecision) → find (λ e. e.id == h.id) ds ≡ None
      → find (λ e. e.id == h.id) (filter (open_if us) ds) ≡ None
  none_filtered us [] e = refl
  none_filtered us (d ∷ ds) e = cases (d.id == h.id) (open_if us d) refl (none_filtered us ds)
    where
      cases : (b o : Bool) → (d.id == h.id) ≡ b
          → (find (λ e. e.id == h.id) ds ≡ None → find (λ e. e.id == h.id) (filter (open_if us) ds) ≡ None)
          → find (λ e. e.id == h.id) (cond o (d ∷ filter (open_if us) ds) (filter (open_if us) ds)) ≡ None
      cases true o is rest = absurd (let no : Some d ≡ None =
          sym (ap (λ b. cond b (Some d) (find (λ e. e.id == h.id) ds)) is) ∙ e in cc)
      cases false true is rest = ap (λ b. cond b (Some d) (find (λ e. e.id == h.id) (filter (open_if us) ds))) is
          ∙ rest (sym (ap (λ b. cond b (Some d) (find (λ e. e.id == h.id) ds)) is) ∙ e)
      cases false false is rest = rest (sym (ap (λ b. cond b (Some d) (find (λ e. e.id == h.id) ds)) is) ∙ e)

  live_filtered : (us : List Update) → outcome h.id us ≡ Live → (ds : List LogDecision)
      → find (λ e. e.id == h.id) (filter (open_if us) ds) ≡ find (λ e. e.id == h.id) ds
  live_filtered us live [] = refl
  live_filtered us live (d ∷ ds) = cases (d.id == h.id) (open_if us d) refl refl (live_filtered us live ds)
    where
      cases : (b o : Bool) → (d.id == h.id) ≡ b → open_if us d ≡ o
          → find (λ e. e.id == h.id) (filter (open_if us) ds) ≡ find (λ e. e.id == h.id) ds
          → find (λ e. e.id == h.id) (cond o (d ∷ filter (open_if us) ds) (filter (open_if us) ds))
          ≡ cond (d.id == h.id) (Some d) (find (λ e. e.id == h.id) ds)
      cases b true is passed rest = ap (cond (d.id == h.id) (Some d)) rest
      cases false false is passed rest = rest ∙ sym (ap (λ b. cond b (Some d) (find (λ e. e.id == h.id) ds)) is)
      cases true false is passed rest = absurd (let no : true ≡ false =
          sym (ap (λ n. is_live (outcome n us)) (eqb-true d.id h.id is) ∙ ap is_live live) ∙ passed in cc)

  gone_filtered : (us : List Update) → is_gone h.id us ≡ true → (ds : List LogDecision)
      → find (λ e. e.id == h.id) (filter (open_if us) ds) ≡ None
  gone_filtered us gone [] = refl
  gone_filtered us gone (d ∷ ds) = cases (d.id == h.id) (open_if us d) refl refl (gone_filtered us gone ds)
    where
      cases : (b o : Bool) → (d.id == h.id) ≡ b → open_if us d ≡ o
          → find (λ e. e.id == h.id) (filter (open_if us) ds) ≡ None
          → find (λ e. e.id == h.id) (cond o (d ∷ filter (open_if us) ds) (filter (open_if us) ds)) ≡ None
      cases true true is passed rest = absurd (let no : false ≡ true =
          sym (ap not (sym (ap (λ n. is_live (outcome n us)) (eqb-true d.id h.id is)) ∙ passed)) ∙ gone in cc)
      cases false true is passed rest = ap (λ b. cond b (Some d) (find (λ e. e.id == h.id) (filter (open_if us) ds)))
          is ∙ rest
      cases b false is passed rest = rest

  module _ (n : ℕ) (before : x.log.first.own ≤ n) (behind : n ≤ x.log.current.own) where
    abbrev entering : List Update
    entering = between x.log.first.own n x.log.own

    whole : take n x.log.own ≡ take x.log.first.own x.log.own ++ entering
    whole = split_front x.log.first.own n x.log.own before

    -- the decision goes where the removal enters the base
    pub bases : (w : Counts) → w.own ≡ n → y.log ≡ record x.log { first = w } → y.results ≡ x.results
        → y.decisions ≡ filter (open_if entering) x.decisions → (p : Payment) → IsOfLinks origin h s p
        → HasMoves origin h t p
    bases w own l r ds p k = elim (either (h.channel == c)) [
      | inr isnt ↦ same (k.decision ∙ sym (ap (decision_at h.id) (g.others h.channel isnt)))
      | inl is ↦ here is
    ]
      where
        removal : removal_of h.id y.log ≡ removal_of h.id x.log
        removal = ap (removal_of h.id) l

        add_back : (i : ℕ) → HasAdd (origin h) i y.log → HasAdd (origin h) i x.log
        add_back i a = subst (λ (m : Log). HasAdd (origin h) i m) l a

        add_on : (i : ℕ) → HasAdd (origin h) i x.log → HasAdd (origin h) i y.log
        add_on i a = subst (λ (m : Log). HasAdd (origin h) i m) (sym l) a

        course : (i : ℕ) → course_of i y.log y.results ≡ course_of i x.log x.results
        course i = ap (λ (m : Log). course_of i m y.results) l ∙ ap (course_of i x.log) r

        outs : AreOuts origin h t p.outs
        outs = outs_same origin h c x y s t g add_back add_on (λ i a. course i) p.outs k.outs

        removal_now : p.removal ≡ removal_at h.id (t.sides h.channel)
        removal_now = k.removal ∙ sym (at_same origin h c x y s t g (removal_at h.id) removal h.channel)

        same : p.decision ≡ decision_at h.id (t.sides h.channel) → HasMoves origin h t p
        same d = record {
          moves = [];
          made = tt;
          note = refl;
          of_links = record {
            decision = d;
            removal = removal_now;
            outs = outs;
            halted = λ m. k.halted m
                ∙ sym (g.halted m);
          };
        }

        here : (h.channel == c) ≡ true → HasMoves origin h t p
        here is = cases (find (λ e. e.id == h.id) x.decisions) (outcome h.id entering) refl refl
          where
            was : p.decision ≡ decision_of h.id x
            was = k.decision ∙ ap (λ m. decision_at h.id (s.sides m)) (eqb-true h.channel c is)
                ∙ ap (decision_at h.id) g.before

            removed : p.removal ≡ removal_of h.id x.log
            removed = removal_here origin h c x y s t g is p k

            now : decision_at h.id (t.sides h.channel)
                ≡ decision_by (find (λ e. e.id == h.id) (filter (open_if entering) x.decisions))
                (is_gone h.id (take n x.log.own))
            now = ap (λ m. decision_at h.id (t.sides m)) (eqb-true h.channel c is) ∙ ap (decision_at h.id) g.behind
                ∙ ap (λ (m : Log). decision_by (find (λ e. e.id == h.id) y.decisions)
                (is_gone h.id (take m.first.own m.own))) l
                ∙ ap (λ m. decision_by (find (λ e. e.id == h.id) y.decisions) (is_gone h.id (take m x.log.own))) own
                ∙ ap (λ es. decision_by (find (λ e. e.id == h.id) es) (is_gone h.id (take n x.log.own))) ds

            still_by : outcome h.id entering ≡ Live
                → is_gone h.id (take n x.log.own) ≡ is_gone h.id (take x.log.first.own x.log.own)
            still_by live = ap (is_gone h.id) whole
                ∙ ap (λ z. not (is_live z)) (outcome-append h.id (take x.log.first.own x.log.own) entering)
                ∙ ap (λ z. not (is_live (cond (is_live (outcome h.id (take x.log.first.own x.log.own))) z
                (outcome h.id (take x.log.first.own x.log.own))))) live
                ∙ either_live (outcome h.id (take x.log.first.own x.log.own))
              where
                either_live : (z : Outcome) → not (is_live (cond (is_live z) Live z)) ≡ not (is_live z)
                either_live Live = refl
                either_live Fulfilled = refl
                either_live Failed = refl

            gone_by : is_gone h.id entering ≡ true → is_gone h.id (take n x.log.own) ≡ true
            gone_by gone = ap (is_gone h.id) whole
                ∙ ap (λ z. not (is_live z)) (outcome-append h.id (take x.log.first.own x.log.own) entering)
                ∙ either_gone (outcome h.id (take x.log.first.own x.log.own)) (outcome h.id entering) gone
              where
                either_gone : (z w : Outcome) → not (is_live w) ≡ true → not (is_live (cond (is_live z) w z)) ≡ true
                either_gone Live w e = e
                either_gone Fulfilled w e = refl
                either_gone Failed w e = refl

            is_held : (o : Outcome) (b signed : Bool) → not (is_live o) ≡ true → b ≡ true
                → IsHeld (removal_by o (stage_by b signed))
            is_held Live b signed e f = absurd (cc)
            is_held Fulfilled true signed e f = tt
            is_held Fulfilled false signed e f = absurd (cc)
            is_held Failed true signed e f = tt
            is_held Failed false signed e f = absurd (cc)

            cleared : is_gone h.id entering ≡ true → HasMoves origin h t p
            cleared gone =
                let far = gone_by gone in
                let held : is_gone h.id (take x.log.current.own x.log.own) ≡ true =
                front_gone h.id n x.log.current.own x.log.own behind far in
                record {
                  moves = move.Clear ∷ [];
                  made = (
                    subst IsHeld (sym removed) (is_held (outcome h.id x.log.own)
                        (is_gone h.id (take x.log.current.own x.log.own))
                        (is_gone h.id (take x.log.signed.own x.log.own))
                        (ap (λ z. not (is_live z)) (front_tells h.id x.log.current.own x.log.own held) ∙ held) held),
                    tt,
                  );
                  note = refl;
                  of_links = record {
                    decision = sym (now
                        ∙ ap (λ z. decision_by z (is_gone h.id (take n x.log.own)))
                        (gone_filtered entering gone x.decisions)
                        ∙ ap (decision_by None) far);
                    removal = removal_now;
                    outs = outs;
                    halted = λ m. k.halted m ∙ sym (g.halted m);
                  };
                }

            cases : (o : Option LogDecision) (f : Outcome) → find (λ e. e.id == h.id) x.decisions ≡ o
                → outcome h.id entering ≡ f
                → HasMoves origin h t p
            cases o Live e live = same (was ∙ sym (now
                ∙ ap (λ z. decision_by z (is_gone h.id (take n x.log.own))) (live_filtered entering live x.decisions)
                ∙ ap (λ b. decision_by (find (λ e. e.id == h.id) x.decisions) b) (still_by live)))
            cases o Fulfilled e gone = cleared (ap (λ z. not (is_live z)) gone)
            cases o Failed e gone = cleared (ap (λ z. not (is_live z)) gone)
