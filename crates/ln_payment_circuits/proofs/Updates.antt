-- What becomes of one HTLC, by the beginnings of two lists of updates.
use Rattle.std.proofs.Common.{◌≡◌, ℕ, ◌≤◌, List, [], ◌∷◌, ◌++◌, take, drop, refl, sym}
use Rattle.std.proofs.Common.{ap, ◌∙◌, arith, true, false, cond, not, Option, Some, None}
use Rattle.std.proofs.lemmas.Bool.{eq-eqb}
use Rattle.std.proofs.lemmas.List.{take-append-drop, take-take}
use Rattle.ln_log.specs.declared.update.Add.{Add}
use Rattle.ln_log.specs.declared.update.Removal.{Removal}
use Rattle.ln_log.specs.declared.update.Update.{Update}
use Rattle.ln_log.specs.declared.update.Update.TheVariants as update
use Rattle.ln_log.specs.declared.outcome.Outcome.{Outcome}
use Rattle.ln_log.specs.declared.outcome.Outcome.TheVariants.{Live, Fulfilled, Failed}
use Rattle.ln_log.specs.Updates.{is_some, next_id, add_with, outcome, is_live}
use Rattle.ln_log.specs.Log.{AreNumbered}
use Rattle.ln_log.proofs.Removing.{outcome-append, add_with-append, add_with-more, or_else, above}
use Rattle.ln_payment_circuits.specs.Snapshot.{is_gone}

-- ---- removals

pub live_is : (o : Outcome) → is_live o ≡ true → o ≡ Live
live_is Live e = refl
live_is Fulfilled e = absurd (cc)
live_is Failed e = absurd (cc)

pub not_gone : (o : Outcome) → not (is_live o) ≡ false → o ≡ Live
not_gone Live e = refl
not_gone Fulfilled e = absurd (cc)
not_gone Failed e = absurd (cc)

-- what a first part has removed stays removed so
pub part_tells : (id : ℕ) (us vs : List Update) → is_gone id us ≡ true → outcome id (us ++ vs) ≡ outcome id us
part_tells id us vs e = outcome-append id us vs ∙ cases (outcome id us) e
  where
    cases : (o : Outcome) → not (is_live o) ≡ true → cond (is_live o) (outcome id vs) o ≡ o
    cases Live e = absurd (cc)
    cases Fulfilled e = refl
    cases Failed e = refl

pub front_tells : (id n : ℕ) (us : List Update) → is_gone id (take n us) ≡ true → outcome id us ≡ outcome id (take n us)
front_tells id n us e =
    ap (outcome id) (sym (take-append-drop n us)) ∙ part_tells id (take n us) (drop n us) e

-- what is live in all of them is live in a first part
pub front_live : (id n : ℕ) (us : List Update) → outcome id us ≡ Live → outcome id (take n us) ≡ Live
front_live id n us e = cases (outcome id (take n us)) refl
  where
    cases : (o : Outcome) → outcome id (take n us) ≡ o → outcome id (take n us) ≡ Live
    cases Live is = is
    cases Fulfilled is =
        absurd (let same = front_tells id n us (ap (λ x. not (is_live x)) is) in
        let no : Live ≡ Fulfilled = sym e ∙ same ∙ is in cc)
    cases Failed is =
        absurd (let same = front_tells id n us (ap (λ x. not (is_live x)) is) in
        let no : Live ≡ Failed = sym e ∙ same ∙ is in cc)

-- a longer first part removes no less
pub front_more : (id m n : ℕ) (us : List Update) → m ≤ n → is_gone id (take m us) ≡ true
    → outcome id (take n us) ≡ outcome id (take m us)
front_more id m n us le e =
    let same : take m (take n us) ≡ take m us = take-take m n us le in
    front_tells id m (take n us) (ap (is_gone id) same ∙ e) ∙ ap (outcome id) same

pub front_gone : (id m n : ℕ) (us : List Update) → m ≤ n → is_gone id (take m us) ≡ true → is_gone id (take n us) ≡ true
front_gone id m n us le e = ap (λ o. not (is_live o)) (front_more id m n us le e) ∙ e

-- an update that removes another HTLC, or none
pub RemovesNot : ℕ → Option Removal → Type 0
RemovesNot id None = Unit {0}
RemovesNot id (Some r) = r.id ≡ id → ⊥

-- ---- adds

-- what a first part offers
pub front_offers : (i n : ℕ) (us : List Update) → is_some (add_with i (take n us)) ≡ true
    → add_with i us ≡ add_with i (take n us)
front_offers i n us e =
    ap (add_with i) (sym (take-append-drop n us)) ∙ add_with-more i (take n us) (drop n us) e

pub some_is : {A : Type 0} (o : Option A) (x : A) → o ≡ Some x → is_some o ≡ true
some_is o x e = ap is_some e

-- one more
pub offers_more : (i : ℕ) (us : List Update) (u : Update) → (a : Add) → add_with i us ≡ Some a
    → add_with i (us ++ u ∷ []) ≡ Some a
offers_more i us u a e = add_with-more i us (u ∷ []) (some_is (add_with i us) a e) ∙ e

-- with the next id
pub offers_next : (us : List Update) (a : Add) → AreNumbered 0 us → a.id ≡ next_id us
    → add_with a.id (us ++ update.Add a ∷ []) ≡ Some a
offers_next us a ids is =
    add_with-append a.id us (update.Add a ∷ [])
    ∙ ap (λ o. or_else o (add_with a.id (update.Add a ∷ []))) (above 0 a.id us ids (omega (arith, is)))
    ∙ own_id
  where
    own_id : add_with a.id (update.Add a ∷ []) ≡ Some a
    own_id = ap (λ b. cond b (Some a) None) (eq-eqb a.id a.id refl)
