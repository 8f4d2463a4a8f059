-- Numbers that rise.
use Rattle.std.proofs.Common.{◌≡◌, ℕ, suc, ◌≤◌, ◌<◌, List, [], ◌∷◌, ◌++◌, filter, map, refl, sym, ap, ◌∙◌, arith}
use Rattle.std.proofs.Common.{Bool, true, false, cond, ◌==◌, Option, Some, None}
use Rattle.std.specs.List.{cons_option, find}
use Rattle.std.proofs.lemmas.Bool.{eqb-true}

-- strictly, from the first bound on and below the second
abbrev pub IsRising : ℕ → List ℕ → ℕ → Type 0
IsRising lo [] hi = lo ≤ hi
IsRising lo (x ∷ xs) hi = (lo ≤ x) × IsRising (suc x) xs hi

pub rising_le : (lo : ℕ) (xs : List ℕ) (hi : ℕ) → IsRising lo xs hi → lo ≤ hi
rising_le lo [] hi h = h
rising_le lo (x ∷ xs) hi h = let a = h.0 in let b = rising_le (suc x) xs hi h.1 in omega (arith, a, b)

pub rising_more : (lo : ℕ) (xs : List ℕ) (hi to : ℕ) → hi ≤ to → IsRising lo xs hi → IsRising lo xs to
rising_more lo [] hi to le h = omega (arith, le, h)
rising_more lo (x ∷ xs) hi to le h = (h.0, rising_more (suc x) xs hi to le h.1)

pub rising_from : (from lo : ℕ) (xs : List ℕ) (hi : ℕ) → from ≤ lo → IsRising lo xs hi → IsRising from xs hi
rising_from from lo [] hi le h = omega (arith, le, h)
rising_from from lo (x ∷ xs) hi le h = let a = h.0 in (omega (arith, le, a), h.1)

pub rising-append : (lo : ℕ) (xs : List ℕ) (mid : ℕ) (ys : List ℕ) (hi : ℕ) → IsRising lo xs mid → IsRising mid ys hi
    → IsRising lo (xs ++ ys) hi
rising-append lo [] mid ys hi h k = rising_from lo mid ys hi h k
rising-append lo (x ∷ xs) mid ys hi h k = (h.0, rising-append (suc x) xs mid ys hi h.1 k)

-- with fewer of them
pub rising-option : (lo : ℕ) (o : Option ℕ) (xs : List ℕ) (hi : ℕ) → IsRising lo (cons_option o xs) hi
    → IsRising lo xs hi
rising-option lo None xs hi h = h
rising-option lo (Some x) xs hi h = let a = h.0 in rising_from lo (suc x) xs hi (omega (arith, a)) h.1

-- the ids of some records
module _ {A : Type 0} (id : A → ℕ) where
  -- where a filter leaves some out
  pub rising-filter : (f : A → Bool) (lo : ℕ) (xs : List A) (ys : List ℕ) (hi : ℕ) → IsRising lo (map id xs ++ ys) hi
      → IsRising lo (map id (filter f xs) ++ ys) hi
  rising-filter f lo [] ys hi h = h
  rising-filter f lo (x ∷ xs) ys hi h = cases (f x) (rising-filter f (suc (id x)) xs ys hi h.1)
    where
      cases : (b : Bool) → IsRising (suc (id x)) (map id (filter f xs) ++ ys) hi
          → IsRising lo (map id (cond b (x ∷ filter f xs) (filter f xs)) ++ ys) hi
      cases true k = (h.0, k)
      cases false k = let a = h.0 in rising_from lo (suc (id x)) (map id (filter f xs) ++ ys) hi (omega (arith, a)) k

  -- what is after them has none of their ids
  pub not_found : (lo : ℕ) (xs : List A) (i : ℕ) (ys : List ℕ) (hi : ℕ) → IsRising lo (map id xs ++ i ∷ ys) hi
      → find (λ x. id x == i) xs ≡ None
  not_found lo [] i ys hi h = refl
  not_found lo (x ∷ xs) i ys hi h = cases (id x == i) refl (not_found (suc (id x)) xs i ys hi h.1)
    where
      above : (n : ℕ) (zs : List A) → IsRising n (map id zs ++ i ∷ ys) hi → n ≤ i
      above n [] k = k.0
      above n (z ∷ zs) k = let a = k.0 in let b = above (suc (id z)) zs k.1 in omega (arith, a, b)

      cases : (b : Bool) → (id x == i) ≡ b → find (λ z. id z == i) xs ≡ None
          → cond (id x == i) (Some x) (find (λ z. id z == i) xs) ≡ None
      cases true e rest = absurd (let same = eqb-true (id x) i e in let far = above (suc (id x)) xs h.1 in
          omega (arith, same, far))
      cases false e rest = ap (λ b. cond b (Some x) (find (λ z. id z == i) xs)) e ∙ rest

  -- each stands once
  pub one_of_id : (lo : ℕ) (xs : List A) (ys : List ℕ) (hi : ℕ) (i : ℕ) → IsRising lo (map id xs ++ ys) hi
      → (x : A) → find (λ z. id z == i) xs ≡ Some x → filter (λ z. id z == i) xs ≡ x ∷ []
  one_of_id lo [] ys hi i h x e = absurd (cc)
  one_of_id lo (z ∷ zs) ys hi i h x e = cases (id z == i) refl (λ k. one_of_id (suc (id z)) zs ys hi i h.1 x k)
    where
      none : (n : ℕ) (us : List A) → IsRising n (map id us ++ ys) hi → i < n → filter (λ u. id u == i) us ≡ []
      none n [] k lt = refl
      none n (u ∷ us) k lt = other (id u == i) refl (none (suc (id u)) us k.1 (let a = k.0 in omega (arith, a, lt)))
        where
          other : (b : Bool) → (id u == i) ≡ b → filter (λ w. id w == i) us ≡ []
              → cond (id u == i) (u ∷ filter (λ w. id w == i) us) (filter (λ w. id w == i) us) ≡ []
          other true f rest = absurd (let same = eqb-true (id u) i f in let a = k.0 in omega (arith, same, a, lt))
          other false f rest = ap (λ b. cond b (u ∷ filter (λ w. id w == i) us) (filter (λ w. id w == i) us)) f ∙ rest

      cases : (b : Bool) → (id z == i) ≡ b → (find (λ w. id w == i) zs ≡ Some x → filter (λ w. id w == i) zs ≡ x ∷ [])
          → cond (id z == i) (z ∷ filter (λ w. id w == i) zs) (filter (λ w. id w == i) zs) ≡ x ∷ []
      cases true f rest =
          let is : Some z ≡ Some x = sym (ap (λ b. cond b (Some z) (find (λ w. id w == i) zs)) f) ∙ e in
          let same : z ≡ x = cc in
          ap (λ b. cond b (z ∷ filter (λ w. id w == i) zs) (filter (λ w. id w == i) zs)) f
          ∙ ap (λ us. z ∷ us) (none (suc (id z)) zs h.1 (let a = eqb-true (id z) i f in omega (arith, a)))
          ∙ ap (λ w. w ∷ []) same
      cases false f rest =
          ap (λ b. cond b (z ∷ filter (λ w. id w == i) zs) (filter (λ w. id w == i) zs)) f
          ∙ rest (sym (ap (λ b. cond b (Some z) (find (λ w. id w == i) zs)) f) ∙ e)
