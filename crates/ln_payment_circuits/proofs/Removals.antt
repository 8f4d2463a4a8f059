-- Each HTLC is removed once; what becomes of it as the peer's removals come to be held.
use Rattle.std.proofs.Common.{◌≡◌, ◌⊎◌, inl, inr, ℕ, ◌-◌, ◌≤◌, List, [], ◌∷◌, ◌++◌, take, drop, refl}
use Rattle.std.proofs.Common.{sym, ap, ◌∙◌, subst, arith, Bool, true, false, cond, not, ◌||◌, ◌==◌, Option, Some, None}
use Rattle.std.proofs.Common.{append_assoc, zero, suc}
use Rattle.std.proofs.lemmas.Bool.{eqb-true, eq-eqb}
use Rattle.std.proofs.lemmas.List.Folds.{list_any-append}
use Rattle.std.proofs.Math.Bool.{or-false, or-true}
use Rattle.ln_log.specs.declared.update.Removal.{Removal as Removing}
use Rattle.ln_log.specs.declared.update.Update.{Update}
use Rattle.ln_log.specs.declared.mark.Settlement.{Settlement}
use Rattle.ln_log.specs.declared.outcome.Outcome.{Outcome}
use Rattle.ln_log.specs.declared.outcome.Outcome.TheVariants.{Live, Fulfilled, Failed}
use Rattle.ln_log.specs.Updates.{removed, is_some, add_with, outcome, outcome_by, is_live}
use Rattle.ln_log.specs.Log.{Log, AreRemovals, RemovesLive, IsWithin, between}
use Rattle.ln_log.specs.Log as log
use Rattle.ln_log.proofs.Removing.{outcome-append, outcome-hit, removals-take, removals-drop, done, IsDone}
use Rattle.ln_payment.specs.Parts.{Kind, Fulfils, Fails, Covered, Ended}
use Rattle.ln_payment.specs.Moves.{after_end}
use Rattle.ln_payment_circuits.specs.Snapshot.{is_gone, IsSoundLog}
use Rattle.ln_payment_circuits.proofs.Updates.{part_tells}
use Rattle.ln_payment_circuits.proofs.Parts.{ended_by, course_by, has_result, course_of}
use Rattle.ln_payment_circuits.specs.Snapshot.{IsIn}

-- ---- once

gone_before : (id : ℕ) (before : List Update) (u : Update) → is_gone id before ≡ true
    → is_gone id (before ++ u ∷ []) ≡ true
gone_before id before u e = ap (λ o. not (is_live o)) (part_tells id before (u ∷ []) e) ∙ e

not_again : (id : ℕ) (adds before : List Update) (r : Option Removing) (rest : Outcome) → is_gone id before ≡ true
    → RemovesLive adds before r → outcome_by id r rest ≡ rest
not_again id adds before None rest e h = refl
not_again id adds before (Some r) rest e h = cases h (r.id == id) refl
  where
    cases : RemovesLive adds before (Some r) → (b : Bool) → (r.id == id) ≡ b → cond (r.id == id) r.outcome rest ≡ rest
    cases k true is =
        let same : r.id ≡ id = eqb-true r.id id is in
        absurd (let no : is_gone id before ≡ false = ap (λ i. is_gone i before) (sym same)
        ∙ ap (λ o. not (is_live o)) (k.1) in let twice : true ≡ false = sym e ∙ no in cc)
    cases k false is = ap (λ b. cond b r.outcome rest) is

-- what is removed isn't removed again
pub removed_once : (id : ℕ) (adds before us : List Update) → AreRemovals adds before us → is_gone id before ≡ true
    → outcome id us ≡ Live
removed_once id adds before [] h e = refl
removed_once id adds before (u ∷ us) h e =
    not_again id adds before (removed u) (outcome id us) e (h.0)
    ∙ removed_once id adds (before ++ u ∷ []) us (h.1) (gone_before id before u e)

-- ---- an update that stands among others tells what becomes of the HTLC that it removes

pub one_removed : (adds before : List Update) (u : Update) (r : Removing) → removed u ≡ Some r
    → RemovesLive adds before (removed u) → outcome r.id (before ++ u ∷ []) ≡ r.outcome
one_removed adds before u r e h =
    let live : RemovesLive adds before (Some r) = subst (RemovesLive adds before) e h in
    outcome-hit r.id before u r e (eq-eqb r.id r.id refl) (live.1)

pub gone_by : (u : Update) (r : Removing) → removed u ≡ Some r → not (is_live r.outcome) ≡ true
gone_by u r e = ap not (subst IsDone e (done u))

pub fate_told : (adds before us : List Update) (u : Update) (r : Removing) → AreRemovals adds before us → IsIn u us
    → removed u ≡ Some r → outcome r.id (before ++ us) ≡ r.outcome
fate_told adds before [] u r h k e = absurd k
fate_told adds before (v ∷ us) u r h (inl is) e =
    let here = one_removed adds before u r e (subst (λ w. RemovesLive adds before (removed w)) is (h.0)) in
    ap (λ w. outcome r.id (before ++ w ∷ us)) is
    ∙ ap (outcome r.id) (sym (append_assoc before (u ∷ []) us))
    ∙ part_tells r.id (before ++ u ∷ []) us (ap (λ o. not (is_live o)) here ∙ gone_by u r e)
    ∙ here
fate_told adds before (v ∷ us) u r h (inr k) e =
    ap (outcome r.id) (sym (append_assoc before (v ∷ []) us))
    ∙ fate_told adds (before ++ v ∷ []) us u r (h.1) k e

-- ---- as the peer's revocation is taken

abbrev no_updates : List Update
no_updates = []

-- the peer's updates that are newly held
abbrev pub newly : Log → List Update
newly l = between l.acknowledged.peer l.signed.peer l.received

pub split_front : (m n : ℕ) (us : List Update) → m ≤ n → take n us ≡ take m us ++ take (n - m) (drop m us)
split_front zero n us le = ap (λ k. take k us) (let e : n ≡ n - 0 = omega arith in e)
split_front (suc m) zero us le = absurd (omega (arith, le))
split_front (suc m) (suc n) [] le = sym (no_front (suc n - suc m))
  where
    no_front : (k : ℕ) → take k (drop (suc m) no_updates) ≡ no_updates
    no_front zero = refl
    no_front (suc k) = refl
split_front (suc m) (suc n) (u ∷ us) le =
    ap (λ vs. u ∷ vs) (split_front m n us (omega (arith, le))
    ∙ ap (λ k. take m us ++ take k (drop m us)) (let e : n - m ≡ suc n - suc m = omega arith in e))

learned_by : (b : Bool) (o p q : Outcome) (ss ts : Bool) → (not (is_live o) ≡ true → p ≡ o) → (o ≡ Live → p ≡ q)
    → (not (is_live o) ≡ true → ts ≡ false) → (not (is_live q) ≡ true → ts ≡ true)
    → (course_by b (ended_by p (ss || ts)) ≡ course_by b (ended_by o ss))
    ⊎ ((k : Kind) × (course_by b (ended_by p (ss || ts)) ≡ after_end k (course_by b (ended_by o ss)))
    × (course_by b (ended_by o ss) ≡ Covered))
learned_by false o p q ss ts h g i j = inl refl
learned_by true Fulfilled p q ss ts h g i j =
    inl (ap (λ x. ended_by x (ss || ts)) (h refl) ∙ ap (λ t. Ended Fulfils (ss || t)) (i refl)
    ∙ ap (Ended Fulfils) (or-false ss))
learned_by true Failed p q ss ts h g i j =
    inl (ap (λ x. ended_by x (ss || ts)) (h refl) ∙ ap (λ t. Ended Fails (ss || t)) (i refl)
    ∙ ap (Ended Fails) (or-false ss))
learned_by true Live p Live ss ts h g i j = inl (ap (λ x. ended_by x (ss || ts)) (g refl))
learned_by true Live p Fulfilled ss ts h g i j = inr (
  Fulfils,
  ap (λ x. ended_by x (ss || ts)) (g refl) ∙ ap (λ t. Ended Fulfils (ss || t)) (j refl)
      ∙ ap (Ended Fulfils) (or-true ss),
  refl,
)
learned_by true Live p Failed ss ts h g i j = inr (
  Fails,
  ap (λ x. ended_by x (ss || ts)) (g refl) ∙ ap (λ t. Ended Fails (ss || t)) (j refl) ∙ ap (Ended Fails) (or-true ss),
  refl,
)

-- new results are of the HTLCs that are newly held as removed
pub course_learned : (l : Log) (ss ts : List Settlement) (i : ℕ) → IsSoundLog l
    → (is_gone i (newly l) ≡ true → has_result i ts ≡ true) → (is_gone i (newly l) ≡ false → has_result i ts ≡ false)
    → (course_of i (log.after_learn l) (ss ++ ts) ≡ course_of i l ss)
    ⊎ ((k : Kind) × (course_of i (log.after_learn l) (ss ++ ts) ≡ after_end k (course_of i l ss))
    × (course_of i l ss ≡ Covered))
course_learned l ss ts i s gone stays =
    let a = l.acknowledged.peer in
    let b = l.signed.peer in
    let us = newly l in
    let whole : take b l.received ≡ take a l.received ++ us = split_front a b l.received s.within.peer_acknowledged in
    let later : AreRemovals (take l.current.own l.own) (take a l.received) us =
    removals-take (take l.current.own l.own) (take a l.received) (drop a l.received) (b - a)
    (removals-drop (take l.current.own l.own) [] l.received a s.peer_removals) in
    let once : is_gone i (take a l.received) ≡ true → outcome i us ≡ Live =
    λ e. removed_once i (take l.current.own l.own) (take a l.received) us later e in
    subst (λ r. (course_by (is_some (add_with i (take l.signed.own l.own)))
    (ended_by (outcome i (take b l.received)) r) ≡ course_of i l ss)
    ⊎ ((k : Kind) × (course_by (is_some (add_with i (take l.signed.own l.own)))
    (ended_by (outcome i (take b l.received)) r) ≡ after_end k (course_of i l ss)) × (course_of i l ss ≡ Covered)))
    (sym (list_any-append (λ x. x.id == i) ss ts))
    (learned_by (is_some (add_with i (take l.signed.own l.own))) (outcome i (take a l.received))
    (outcome i (take b l.received)) (outcome i us) (has_result i ss) (has_result i ts)
    (λ e. ap (outcome i) whole ∙ part_tells i (take a l.received) us e)
    (λ e. ap (outcome i) whole ∙ outcome-append i (take a l.received) us
    ∙ ap (λ o. cond (is_live o) (outcome i us) o) e)
    (λ e. stays (ap (λ o. not (is_live o)) (once e)))
    gone)
