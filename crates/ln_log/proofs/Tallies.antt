-- What HTLCs weigh together by their outcomes, and how one more update changes it.
use Rattle.std.proofs.Common.{◌≡◌, ℕ, ◌+◌, List, [], ◌∷◌, ◌++◌, length, refl, sym, ap, ◌∙◌, arith, Bool, true, false}
use Rattle.std.proofs.Common.{cond, Option, Some, None, eqb, inl, inr}
use Rattle.std.proofs.lemmas.Bool.{eq-eqb}
use Rattle.std.proofs.lemmas.Bool.Decides.{eqb_tells}
use Rattle.std.proofs.lemmas.List.Sums.{sum_by-cons}
use Rattle.std.specs.List.{cons_option}
use Rattle.ln_log.specs.declared.update.Add.{Add}
use Rattle.ln_log.specs.declared.update.Removal.{Removal}
use Rattle.ln_log.specs.declared.update.Update.{Update}
use Rattle.ln_log.specs.declared.outcome.Outcome.{Outcome}
use Rattle.ln_log.specs.declared.outcome.Outcome.TheVariants.{Live, Fulfilled, Failed}
use Rattle.ln_log.specs.Updates.{offered, removed, found_or, add_with, outcome, is_live, share_of, share, total}
use Rattle.ln_log.specs.View.{live_of, live_adds}
use Rattle.ln_log.specs.Log.{number_after, HasId, AreNumbered}
use Rattle.ln_log.proofs.Removing.{outcome-none, outcome-other, outcome-hit, below}

abbrev pub amount : Add → ℕ
amount a = a.amount

abbrev pub one : Add → ℕ
one a = 1

abbrev pub weight : (Add → ℕ) → (Outcome → Bool) → List Update → Option Add → ℕ
weight w test removals None = 0
weight w test removals (Some a) = cond (test (outcome a.id removals)) (w a) 0

-- what the adds whose outcome passes the test weigh together
abbrev pub tally : (Add → ℕ) → (Outcome → Bool) → List Update → List Update → ℕ
tally w test [] removals = 0
tally w test (u ∷ us) removals = weight w test removals (offered u) + tally w test us removals

share_is : (test : Outcome → Bool) (r : List Update) (o : Option Add) → share_of test r o ≡ weight amount test r o
share_is test r None = refl
share_is test r (Some a) = refl

-- a total is a tally of amounts
pub total_is : (test : Outcome → Bool) (us r : List Update) → total test us r ≡ tally amount test us r
total_is test [] r = refl
total_is test (u ∷ us) r = sum_by-cons (share test r) u us ∙ ap (λ n. n + total test us r) (share_is test r (offered u))
    ∙ ap (λ n. weight amount test r (offered u) + n) (total_is test us r)

count_live : (o : Outcome) (a : Add) (rest : List Add)
    → length (cons_option (cond (is_live o) (Some a) None) rest) ≡ cond (is_live o) 1 0 + length rest
count_live Live a rest = omega arith
count_live Fulfilled a rest = omega arith
count_live Failed a rest = omega arith

count_one : (o : Option Add) (r : List Update) (rest : List Add)
    → length (cons_option (live_of o r) rest) ≡ weight one is_live r o + length rest
count_one None r rest = omega arith
count_one (Some a) r rest = count_live (outcome a.id r) a rest

-- how many HTLCs are live is a tally of ones
pub live_is : (us r : List Update) → length (live_adds us r) ≡ tally one is_live us r
live_is [] r = refl
live_is (u ∷ us) r = count_one (offered u) r (live_adds us r)
    ∙ ap (λ n. weight one is_live r (offered u) + n) (live_is us r)

-- ---- with a further update of the side that offers

pub tally-append : (w : Add → ℕ) (test : Outcome → Bool) (p q r : List Update)
    → tally w test (p ++ q) r ≡ tally w test p r + tally w test q r
tally-append w test [] q r = omega arith
tally-append w test (u ∷ us) q r = omega (arith, tally-append w test us q r)

pub tally-push : (w : Add → ℕ) (test : Outcome → Bool) (us : List Update) (u : Update) (r : List Update)
    → tally w test (us ++ u ∷ []) r ≡ tally w test us r + weight w test r (offered u)
tally-push w test us u r = omega (arith, tally-append w test us (u ∷ []) r)

-- ---- with a further update of the other side

weight_same : (w : Add → ℕ) (test : Outcome → Bool) (r s : List Update) (o : Option Add)
    → ((a : Add) → o ≡ Some a → outcome a.id s ≡ outcome a.id r) → weight w test s o ≡ weight w test r o
weight_same w test r s None h = refl
weight_same w test r s (Some a) h = ap (λ x. cond (test x) (w a) 0) (h a refl)

-- one that removes nothing changes nothing
pub tally-none : (w : Add → ℕ) (test : Outcome → Bool) (us r : List Update) (u : Update) → removed u ≡ None
    → tally w test us (r ++ u ∷ []) ≡ tally w test us r
tally-none w test [] r u e = refl
tally-none w test (v ∷ us) r u e =
    omega (
      arith,
      weight_same w test r (r ++ u ∷ []) (offered v) (λ a h. outcome-none a.id r u e),
      tally-none w test us r u e,
    )

differs : (i : ℕ) (o : Option Add) (rest : Option Add) → found_or i o rest ≡ None → (a : Add)
    → o ≡ Some a → eqb i a.id ≡ false
differs i None rest e a h = absurd (cc)
differs i (Some b) rest e a h =
    elim (eqb_tells b.id i) [
      | inl g ↦ absurd (let is : Some b ≡ None = sym (ap (λ t. cond t (Some b) rest) g.0) ∙ e in cc)
      | inr g ↦ (elim (eqb_tells i a.id) [
        | inl k ↦ absurd (let same : b ≡ a = cc in
            let is : b.id ≡ i = ap (λ (x : Add). x.id) same ∙ sym k.1 in g.1 is)
        | inr k ↦ k.0
      ])
    ]

rest_none : (i : ℕ) (o : Option Add) (rest : Option Add) → found_or i o rest ≡ None → rest ≡ None
rest_none i None rest e = e
rest_none i (Some b) rest e =
    elim (eqb_tells b.id i) [
      | inl g ↦ absurd (let is : Some b ≡ None = sym (ap (λ t. cond t (Some b) rest) g.0) ∙ e in cc)
      | inr g ↦ sym (ap (λ t. cond t (Some b) rest) g.0) ∙ e
    ]

-- nor does one that removes an HTLC that isn't there
pub tally-miss : (w : Add → ℕ) (test : Outcome → Bool) (us r : List Update) (u : Update) (x : Removal)
    → removed u ≡ Some x → add_with x.id us ≡ None → tally w test us (r ++ u ∷ []) ≡ tally w test us r
tally-miss w test [] r u x e none = refl
tally-miss w test (v ∷ us) r u x e none =
    omega (
      arith,
      weight_same w test r (r ++ u ∷ []) (offered v)
          (λ a h. outcome-other a.id r u x e (differs x.id (offered v) (add_with x.id us) none a h)),
      tally-miss w test us r u x e (rest_none x.id (offered v) (add_with x.id us) none),
    )

weight_hit : (w : Add → ℕ) (test : Outcome → Bool) (r : List Update) (u : Update) (x : Removal) (a : Add)
    → removed u ≡ Some x → eqb x.id a.id ≡ true → outcome a.id r ≡ Live
    → weight w test (r ++ u ∷ []) (Some a) + cond (test Live) (w a) 0 ≡ weight w test r (Some a)
    + cond (test x.outcome) (w a) 0
weight_hit w test r u x a e hit live =
    omega (
      arith,
      ap (λ o. cond (test o) (w a) 0) (outcome-hit a.id r u x e hit live),
      ap (λ o. cond (test o) (w a) 0) live,
    )

not_this : (b c : Add) (i : ℕ) → Some b ≡ Some c → (b.id ≡ i → ⊥) → eqb i c.id ≡ false
not_this b c i h differ = elim (eqb_tells i c.id) [
  | inl k ↦
      absurd (let same : b ≡ c = cc in differ (ap (λ (x : Add). x.id) same ∙ sym k.1))
  | inr k ↦ k.0
]

hit_one : (w : Add → ℕ) (test : Outcome → Bool) (n : ℕ) (o : Option Add) (us r : List Update) (u : Update) (x : Removal)
    (a : Add) → HasId n o → AreNumbered (number_after n o) us → removed u ≡ Some x
    → found_or x.id o (add_with x.id us) ≡ Some a → outcome x.id r ≡ Live
    → (((b : Add) → o ≡ Some b → outcome b.id (r ++ u ∷ []) ≡ outcome b.id r)
    → weight w test (r ++ u ∷ []) o ≡ weight w test r o)
    → (add_with x.id us ≡ Some a → outcome x.id r ≡ Live
    → tally w test us (r ++ u ∷ []) + cond (test Live) (w a) 0 ≡ tally w test us r + cond (test x.outcome) (w a) 0)
    → (weight w test (r ++ u ∷ []) o + tally w test us (r ++ u ∷ [])) + cond (test Live) (w a) 0
    ≡ (weight w test r o + tally w test us r) + cond (test x.outcome) (w a) 0
hit_one w test n None us r u x a id ids e found live same rest = omega (arith, rest found live)
hit_one w test n (Some b) us r u x a id ids e found live same rest =
    elim (eqb_tells b.id x.id) [
      | inl g ↦ (
          let is : Some b ≡ Some a = sym (ap (λ t. cond t (Some b) (add_with x.id us)) g.0) ∙ found in
          let same_add : b ≡ a = cc in
          let hit : eqb x.id b.id ≡ true = eq-eqb x.id b.id (sym g.1) in
          let live_b : outcome b.id r ≡ Live = ap (λ i. outcome i r) g.1 ∙ live in
          let moved : weight w test (r ++ u ∷ []) (Some b) + cond (test Live) (w b) 0 ≡ weight w test r (Some b)
          + cond (test x.outcome) (w b) 0 = weight_hit w test r u x b e hit live_b in
          let w_is : w b ≡ w a = ap w same_add in
          let l_is : cond (test Live) (w b) 0 ≡ cond (test Live) (w a) 0 = ap (λ k. cond (test Live) k 0) w_is in
          let o_is : cond (test x.outcome) (w b) 0 ≡ cond (test x.outcome) (w a) 0 =
          ap (λ k. cond (test x.outcome) k 0) w_is in
          let gone : add_with x.id us ≡ None = below (n + 1) x.id us ids (omega (arith, id, g.1)) in
          omega (arith, moved, l_is, o_is, tally-miss w test us r u x e gone))
      | inr g ↦ (
          let there : add_with x.id us ≡ Some a = sym (ap (λ t. cond t (Some b) (add_with x.id us)) g.0) ∙ found in
          let other : weight w test (r ++ u ∷ []) (Some b) ≡ weight w test r (Some b) =
          same (λ c h. outcome-other c.id r u x e (not_this b c x.id h g.1)) in
          omega (arith, other, rest there live))
    ]

-- one that removes a live HTLC moves its weight
pub tally-hit : (w : Add → ℕ) (test : Outcome → Bool) (n : ℕ) (us r : List Update) (u : Update) (x : Removal) (a : Add)
    → AreNumbered n us → removed u ≡ Some x → add_with x.id us ≡ Some a → outcome x.id r ≡ Live
    → tally w test us (r ++ u ∷ []) + cond (test Live) (w a) 0 ≡ tally w test us r + cond (test x.outcome) (w a) 0
tally-hit w test n [] r u x a ids e found live = absurd (cc)
tally-hit w test n (v ∷ us) r u x a ids e found live =
    hit_one w test n (offered v) us r u x a ids.0 ids.1 e found live (weight_same w test r (r ++ u ∷ []) (offered v))
    (tally-hit w test (number_after n (offered v)) us r u x a ids.1 e)
