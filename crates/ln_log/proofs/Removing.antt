-- What one more update does to the outcomes of HTLCs, and to what they amount to.
use Rattle.std.proofs.Common.{◌≡◌, ℕ, ◌+◌, ◌≤◌, ◌<◌, List, [], ◌∷◌, ◌++◌, take, drop, zero, suc, refl, sym, ap, ◌∙◌}
use Rattle.std.proofs.Common.{subst, arith, Bool, true, false, cond, Option, Some, None, eqb, append_assoc, append-nil}
use Rattle.std.proofs.Common.{inl, inr}
use Rattle.std.proofs.lemmas.Bool.Decides.{eqb_tells}
use Rattle.std.proofs.lemmas.List.{take-take}
use Rattle.std.proofs.lemmas.List.Sums.{sum_by-cons, sum_by_push, sum_by-take-le}
use Rattle.ln_log.specs.declared.update.Add.{Add}
use Rattle.ln_log.specs.declared.update.Removal.{Removal}
use Rattle.ln_log.specs.declared.update.Update.{Update}
use Rattle.ln_log.specs.declared.update.Update.TheVariants as update
use Rattle.ln_log.specs.declared.outcome.Outcome.{Outcome}
use Rattle.ln_log.specs.declared.outcome.Outcome.TheVariants.{Live, Fulfilled, Failed}
use Rattle.ln_log.specs.Updates.{offered, removed, is_some, is_add, next_id, found_or, add_with, outcome_by, outcome}
use Rattle.ln_log.specs.Updates.{is_live}
use Rattle.ln_log.specs.Log.{number_after, HasId, AreNumbered, RemovesLive, AreRemovals}

-- ---- outcomes

abbrev pub IsDone : Option Removal → Type 0
IsDone None = Unit {0}
IsDone (Some r) = is_live r.outcome ≡ false

-- what removes an HTLC doesn't leave it live
pub done : (u : Update) → IsDone (removed u)
done (update.Add a) = tt
done (update.Fulfil f) = refl
done (update.Fail f) = refl
done (update.Malformed m) = refl
done (update.Fee f) = tt

by_append : (t : Bool) (o a b : Outcome) → is_live o ≡ false
    → cond t o (cond (is_live a) b a) ≡ cond (is_live (cond t o a)) b (cond t o a)
by_append true o a b d = ap (λ l. cond l b o) (sym d)
by_append false o a b d = refl

one_append : (id : ℕ) (r : Option Removal) (a b : Outcome) → IsDone r
    → outcome_by id r (cond (is_live a) b a) ≡ cond (is_live (outcome_by id r a)) b (outcome_by id r a)
one_append id None a b d = refl
one_append id (Some r) a b d = by_append (eqb r.id id) r.outcome a b d

pub outcome-append : (id : ℕ) (p q : List Update)
    → outcome id (p ++ q) ≡ cond (is_live (outcome id p)) (outcome id q) (outcome id p)
outcome-append id [] q = refl
outcome-append id (u ∷ us) q = ap (outcome_by id (removed u)) (outcome-append id us q)
    ∙ one_append id (removed u) (outcome id us) (outcome id q) (done u)

stays : (o : Outcome) → o ≡ cond (is_live o) Live o
stays Live = refl
stays Fulfilled = refl
stays Failed = refl

-- an update that removes nothing leaves each outcome
pub outcome-none : (id : ℕ) (p : List Update) (u : Update) → removed u ≡ None → outcome id (p ++ u ∷ []) ≡ outcome id p
outcome-none id p u e = outcome-append id p (u ∷ [])
    ∙ ap (λ r. cond (is_live (outcome id p)) (outcome_by id r Live) (outcome id p)) e ∙ sym (stays (outcome id p))

-- and one that removes another HTLC leaves it too
pub outcome-other : (id : ℕ) (p : List Update) (u : Update) (r : Removal) → removed u ≡ Some r → eqb r.id id ≡ false
    → outcome id (p ++ u ∷ []) ≡ outcome id p
outcome-other id p u r e d =
    outcome-append id p (u ∷ []) ∙ ap (λ x. cond (is_live (outcome id p)) (outcome_by id x Live) (outcome id p)) e
    ∙ ap (λ b. cond (is_live (outcome id p)) (cond b r.outcome Live) (outcome id p)) d ∙ sym (stays (outcome id p))

-- the first that removes it tells
pub outcome-hit : (id : ℕ) (p : List Update) (u : Update) (r : Removal) → removed u ≡ Some r → eqb r.id id ≡ true
    → outcome id p ≡ Live → outcome id (p ++ u ∷ []) ≡ r.outcome
outcome-hit id p u r e d live =
    outcome-append id p (u ∷ []) ∙ ap (λ o. cond (is_live o) (outcome id (u ∷ [])) o) live
    ∙ ap (λ x. outcome_by id x Live) e ∙ ap (λ b. cond b r.outcome Live) d

-- ---- ids

abbrev pub or_else : Option Add → Option Add → Option Add
or_else None y = y
or_else (Some x) y = Some x

found_cond : (t : Bool) (a : Add) (x y : Option Add) → cond t (Some a) (or_else x y) ≡ or_else (cond t (Some a) x) y
found_cond true a x y = refl
found_cond false a x y = refl

found_append : (id : ℕ) (o x y : Option Add) → found_or id o (or_else x y) ≡ or_else (found_or id o x) y
found_append id None x y = refl
found_append id (Some a) x y = found_cond (eqb a.id id) a x y

pub add_with-append : (id : ℕ) (p q : List Update) → add_with id (p ++ q) ≡ or_else (add_with id p) (add_with id q)
add_with-append id [] q = refl
add_with-append id (u ∷ us) q = ap (found_or id (offered u)) (add_with-append id us q)
    ∙ found_append id (offered u) (add_with id us) (add_with id q)

kept_found : (x y : Option Add) → is_some x ≡ true → or_else x y ≡ x
kept_found None y e = absurd (cc)
kept_found (Some x) y e = refl

pub add_with-more : (id : ℕ) (p q : List Update) → is_some (add_with id p) ≡ true → add_with id (p ++ q) ≡ add_with id p
add_with-more id p q e = add_with-append id p q ∙ kept_found (add_with id p) (add_with id q) e

counts_one : (o : Option Add) → cond (is_some o) 1 0 ≡ number_after 0 o
counts_one None = refl
counts_one (Some a) = refl

-- how many HTLCs a list offers
pub next-cons : (u : Update) (us : List Update) → next_id (u ∷ us) ≡ number_after 0 (offered u) + next_id us
next-cons u us = sum_by-cons (λ v. cond (is_add v) 1 0) u us ∙ ap (λ n. n + next_id us) (counts_one (offered u))

pub number_is : (n : ℕ) (o : Option Add) → number_after n o ≡ n + number_after 0 o
number_is n None = omega arith
number_is n (Some a) = omega arith

pub next-push : (us : List Update) (u : Update) → next_id (us ++ u ∷ []) ≡ number_after (next_id us) (offered u)
next-push us u = sum_by_push (λ v. cond (is_add v) 1 0) us u ∙ ap (λ n. next_id us + n) (counts_one (offered u))
    ∙ sym (number_is (next_id us) (offered u))

eqb_less : (a b : ℕ) → a < b → eqb a b ≡ false
eqb_less a b h = elim (eqb_tells a b) [ inl g ↦ absurd (omega (arith, h, g.1)) | inr g ↦ g.0 ]

eqb_more : (a b : ℕ) → b < a → eqb a b ≡ false
eqb_more a b h = elim (eqb_tells a b) [ inl g ↦ absurd (omega (arith, h, g.1)) | inr g ↦ g.0 ]

later : (n id : ℕ) (o : Option Add) → id < n → id < number_after n o
later n id None lt = lt
later n id (Some a) lt = omega (arith, lt)

below_one : (n id : ℕ) (o rest : Option Add) → HasId n o → id < n → rest ≡ None → found_or id o rest ≡ None
below_one n id None rest h lt e = e
below_one n id (Some a) rest h lt e = ap (λ b. cond b (Some a) rest) (eqb_more a.id id (omega (arith, h, lt))) ∙ e

-- no HTLC has an id below the first
pub below : (n id : ℕ) (us : List Update) → AreNumbered n us → id < n → add_with id us ≡ None
below n id [] h lt = refl
below n id (u ∷ us) h lt = below_one n id (offered u) (add_with id us) h.0 lt
    (below (number_after n (offered u)) id us h.1 (later n id (offered u) lt))

above_one : (n id : ℕ) (o : Option Add) (k : ℕ) (rest : Option Add) → HasId n o → n + (number_after 0 o + k) ≤ id
    → rest ≡ None → found_or id o rest ≡ None
above_one n id None k rest h le e = e
above_one n id (Some a) k rest h le e = ap (λ b. cond b (Some a) rest) (eqb_less a.id id (omega (arith, h, le))) ∙ e

-- nor one that is due or further
pub above : (n id : ℕ) (us : List Update) → AreNumbered n us → n + next_id us ≤ id → add_with id us ≡ None
above n id [] h le = refl
above n id (u ∷ us) h le =
    above_one n id (offered u) (next_id us) (add_with id us) h.0 (subst (λ k. n + k ≤ id) (next-cons u us) le)
    (above (number_after n (offered u)) id us h.1 (omega (arith, le, next-cons u us, number_is n (offered u))))

pub numbered-push : (n : ℕ) (us : List Update) (u : Update) → AreNumbered n us → HasId (n + next_id us) (offered u)
    → AreNumbered n (us ++ u ∷ [])
numbered-push n [] u h last = (subst (λ k. HasId k (offered u)) (omega arith) last, tt)
numbered-push n (v ∷ us) u h last = (
  h.0,
  numbered-push (number_after n (offered v)) us u h.1
      (subst (λ k. HasId k (offered u)) (omega (arith, next-cons v us, number_is n (offered v))) last),
)

pub numbered-take : (n k : ℕ) (us : List Update) → AreNumbered n us → AreNumbered n (take k us)
numbered-take n zero us h = tt
numbered-take n (suc k) [] h = tt
numbered-take n (suc k) (u ∷ us) h = (h.0, numbered-take (number_after n (offered u)) k us h.1)

pub numbered-drop : (n k : ℕ) (us : List Update) → AreNumbered n us → AreNumbered (n + next_id (take k us)) (drop k us)
numbered-drop n zero us h = subst (λ m. AreNumbered m us) (omega arith) h
numbered-drop n (suc k) [] h = tt
numbered-drop n (suc k) (u ∷ us) h =
    subst (λ m. AreNumbered m (drop k us)) (omega (arith, next-cons u (take k us), number_is n (offered u)))
    (numbered-drop (number_after n (offered u)) k us h.1)

pub next-take : (m n : ℕ) (us : List Update) → m ≤ n → next_id (take m us) ≤ next_id (take n us)
next-take m n us le = omega (
  arith,
  ap next_id (take-take m n us le),
  sum_by-take-le (λ v. cond (is_add v) 1 0) (take n us) m,
)

pub next-front : (n : ℕ) (us : List Update) → next_id (take n us) ≤ next_id us
next-front n us = sum_by-take-le (λ v. cond (is_add v) 1 0) us n

-- ---- removals

pub removals-push : (adds before us : List Update) (u : Update) → AreRemovals adds before us
    → RemovesLive adds (before ++ us) (removed u) → AreRemovals adds before (us ++ u ∷ [])
removals-push adds before [] u h last = (subst (λ p. RemovesLive adds p (removed u)) (append-nil before) last, tt)
removals-push adds before (v ∷ us) u h last = (
  h.0,
  removals-push adds (before ++ v ∷ []) us u h.1
      (subst (λ p. RemovesLive adds p (removed u)) (sym (append_assoc before (v ∷ []) us)) last),
)

pub removals-take : (adds before us : List Update) (k : ℕ) → AreRemovals adds before us
    → AreRemovals adds before (take k us)
removals-take adds before us zero h = tt
removals-take adds before [] (suc k) h = tt
removals-take adds before (u ∷ us) (suc k) h = (h.0, removals-take adds (before ++ u ∷ []) us k h.1)

pub removals-drop : (adds before us : List Update) (k : ℕ) → AreRemovals adds before us
    → AreRemovals adds (before ++ take k us) (drop k us)
removals-drop adds before us zero h = subst (λ p. AreRemovals adds p us) (sym (append-nil before)) h
removals-drop adds before [] (suc k) h = tt
removals-drop adds before (u ∷ us) (suc k) h =
    subst (λ p. AreRemovals adds p (drop k us)) (append_assoc before (u ∷ []) (take k us))
    (removals-drop adds (before ++ u ∷ []) us k h.1)

removes_more : (adds more before : List Update) (r : Option Removal) → RemovesLive adds before r
    → RemovesLive (adds ++ more) before r
removes_more adds more before None h = tt
removes_more adds more before (Some r) h = (ap is_some (add_with-more r.id adds more h.0) ∙ h.0, h.1)

pub removals-more : (adds more before us : List Update) → AreRemovals adds before us
    → AreRemovals (adds ++ more) before us
removals-more adds more before [] h = tt
removals-more adds more before (u ∷ us) h = (
  removes_more adds more before (removed u) h.0,
  removals-more adds more (before ++ u ∷ []) us h.1,
)

untouched_one : (id : ℕ) (adds before : List Update) (r : Option Removal) (rest : Outcome) → RemovesLive adds before r
    → add_with id adds ≡ None → rest ≡ Live → outcome_by id r rest ≡ Live
untouched_one id adds before None rest h none e = e
untouched_one id adds before (Some r) rest h none e =
    elim (eqb_tells r.id id) [
      | inl g ↦ absurd (let found : is_some (add_with id adds)
          ≡ true = subst (λ i. is_some (add_with i adds) ≡ true) g.1 h.0 in let is : false ≡ true =
          ap is_some (sym none) ∙ found in cc)
      | inr g ↦ ap (λ b. cond b r.outcome rest) g.0 ∙ e
    ]

-- what was never offered isn't removed
pub untouched : (id : ℕ) (adds before us : List Update) → AreRemovals adds before us
    → add_with id adds ≡ None → outcome id us ≡ Live
untouched id adds before [] h none = refl
untouched id adds before (u ∷ us) h none = untouched_one id adds before (removed u) (outcome id us) h.0 none
    (untouched id adds (before ++ u ∷ []) us h.1 none)
