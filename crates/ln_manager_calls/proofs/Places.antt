-- What stands at a place of a list, and beside it.
use Rattle.std.proofs.Common.{◌≡◌, ◌⊎◌, inl, inr, ℕ, List, [], ◌∷◌, ◌++◌, map, slice_get, slice_set, zero, suc}
use Rattle.std.proofs.Common.{refl, ap, Some, arith}
use Rattle.ln_payment_circuits.specs.Snapshot.{All, IsIn}

module _ {A : Type 0} where
  pub record StandsAt (xs : List A) (c : ℕ) (x : A) : Type 1 where
    pub before : List A
    pub after : List A
    pub was : xs ≡ before ++ x ∷ after
    pub is : (y : A) → slice_set xs c y ≡ before ++ y ∷ after
    pub others : (Q : A → Type 0) → ((k : ℕ) (z : A) → slice_get xs k ≡ Some z → (k ≡ c → ⊥) → Q z)
        → All Q (before ++ after)

  pub all_by : (Q : A → Type 0) (xs : List A) → ((k : ℕ) (z : A) → slice_get xs k ≡ Some z → Q z) → All Q xs
  all_by Q [] h = tt
  all_by Q (x ∷ xs) h = (h zero x refl, all_by Q xs (λ k. h (suc k)))

  pub stands_at : (xs : List A) (c : ℕ) (x : A) → slice_get xs c ≡ Some x → StandsAt xs c x
  stands_at [] c x is = absurd (cc)
  stands_at (y ∷ xs) zero x is =
      let same : y ≡ x = cc in
      record {
        before = [];
        after = xs;
        was = ap (λ z. z ∷ xs) same;
        is = λ z. refl;
        others = λ Q h. all_by Q xs (λ k z at. h (suc k) z at (λ no. omega (arith, no)));
      }
  stands_at (y ∷ xs) (suc c) x is =
      let r = stands_at xs c x is in
      record {
        before = y ∷ r.before;
        after = r.after;
        was = ap (λ zs. y ∷ zs) r.was;
        is = λ z. ap (λ zs. y ∷ zs) (r.is z);
        others = λ Q h. (
          h zero y refl (λ no. omega (arith, no)),
          r.others Q (λ k z at apart. h (suc k) z at (λ e. apart (omega (arith, e)))),
        );
      }

  -- and what stands there then
  pub got_set : (xs : List A) (c : ℕ) (x y : A) → slice_get xs c ≡ Some x → slice_get (slice_set xs c y) c ≡ Some y
  got_set [] c x y is = absurd (cc)
  got_set (z ∷ xs) zero x y is = refl
  got_set (z ∷ xs) (suc c) x y is = got_set xs c x y is

  pub got_other : (xs : List A) (c k : ℕ) (y z : A) → slice_get (slice_set xs c y) k ≡ Some z
      → (k ≡ c → ⊥) → slice_get xs k ≡ Some z
  got_other [] c k y z is apart = absurd (cc)
  got_other (x ∷ xs) zero zero y z is apart = absurd (apart refl)
  got_other (x ∷ xs) zero (suc k) y z is apart = is
  got_other (x ∷ xs) (suc c) zero y z is apart = is
  got_other (x ∷ xs) (suc c) (suc k) y z is apart = got_other xs c k y z is (λ e. apart (ap (λ i. suc i) e))

  pub set_other : (xs : List A) (c k : ℕ) (y : A) → (k ≡ c → ⊥) → slice_get (slice_set xs c y) k ≡ slice_get xs k
  set_other [] c k y apart = refl
  set_other (x ∷ xs) zero zero y apart = absurd (apart refl)
  set_other (x ∷ xs) zero (suc k) y apart = refl
  set_other (x ∷ xs) (suc c) zero y apart = refl
  set_other (x ∷ xs) (suc c) (suc k) y apart = set_other xs c k y (λ e. apart (ap (λ i. suc i) e))

  pub set_same : (xs : List A) (c : ℕ) (x : A) → slice_get xs c ≡ Some x → slice_set xs c x ≡ xs
  set_same [] c x is = refl
  set_same (y ∷ xs) zero x is = ap (λ z. z ∷ xs) (cc)
  set_same (y ∷ xs) (suc c) x is = ap (λ zs. y ∷ zs) (set_same xs c x is)

  pub is_among : (xs : List A) (c : ℕ) (x : A) → slice_get xs c ≡ Some x → IsIn x xs
  is_among [] c x is = absurd (cc)
  is_among (y ∷ xs) zero x is = inl (cc)
  is_among (y ∷ xs) (suc c) x is = inr (is_among xs c x is)

  pub place_of : (xs : List A) (x : A) → IsIn x xs → (c : ℕ) × (slice_get xs c ≡ Some x)
  place_of [] x h = absurd h
  place_of (y ∷ xs) x (inl e) = (zero, ap Some e)
  place_of (y ∷ xs) x (inr h) = let r = place_of xs x h in (suc r.0, r.1)

module _ {A B : Type 0} (f : A → B) where
  pub mapped_at : (xs : List A) (c : ℕ) (y : B) → slice_get (map f xs) c ≡ Some y
      → (x : A) × (slice_get xs c ≡ Some x) × (f x ≡ y)
  mapped_at [] c y is = absurd (cc)
  mapped_at (x ∷ xs) zero y is = (x, refl, cc)
  mapped_at (x ∷ xs) (suc c) y is = mapped_at xs c y is

  pub mapped_got : (xs : List A) (c : ℕ) (x : A) → slice_get xs c ≡ Some x → slice_get (map f xs) c ≡ Some (f x)
  mapped_got [] c x is = absurd (cc)
  mapped_got (y ∷ xs) zero x is = ap Some (ap f (cc))
  mapped_got (y ∷ xs) (suc c) x is = mapped_got xs c x is

  pub mapped_set : (xs : List A) (c : ℕ) (x : A) → map f (slice_set xs c x) ≡ slice_set (map f xs) c (f x)
  mapped_set [] c x = refl
  mapped_set (y ∷ xs) zero x = refl
  mapped_set (y ∷ xs) (suc c) x = ap (λ zs. f y ∷ zs) (mapped_set xs c x)

  pub mapped_more : (xs ys : List A) → map f (xs ++ ys) ≡ map f xs ++ map f ys
  mapped_more [] ys = refl
  mapped_more (x ∷ xs) ys = ap (λ zs. f x ∷ zs) (mapped_more xs ys)

pub got_more : {A : Type 0} (xs : List A) (y : A) (k : ℕ) (z : A) → slice_get (xs ++ y ∷ []) k ≡ Some z
    → (slice_get xs k ≡ Some z) ⊎ (y ≡ z)
got_more [] y zero z is = inr (cc)
got_more [] y (suc k) z is = absurd (cc)
got_more (x ∷ xs) y zero z is = inl is
got_more (x ∷ xs) y (suc k) z is = got_more xs y k z is

pub got_still : {A : Type 0} (xs : List A) (y : A) (k : ℕ) (z : A) → slice_get xs k ≡ Some z
    → slice_get (xs ++ y ∷ []) k ≡ Some z
got_still [] y k z is = absurd (cc)
got_still (x ∷ xs) y zero z is = is
got_still (x ∷ xs) y (suc k) z is = got_still xs y k z is
