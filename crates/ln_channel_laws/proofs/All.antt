-- Of every one of a list.
use Rattle.std.proofs.Common.{ℕ, zero, suc, List, [], ◌∷◌, ◌++◌, take, drop, filter, Bool, true, false, cond}

abbrev pub All : {A : Type 0} → (A → Type 0) → List A → Type 0
All P [] = Unit {0}
All P (x ∷ xs) = P x × All P xs

pub all-append : {A : Type 0} (P : A → Type 0) (xs ys : List A) → All P xs → All P ys → All P (xs ++ ys)
all-append P [] ys h k = k
all-append P (x ∷ xs) ys h k = (h.0, all-append P xs ys h.1 k)

pub all-take : {A : Type 0} (P : A → Type 0) (n : ℕ) (xs : List A) → All P xs → All P (take n xs)
all-take P zero xs h = tt
all-take P (suc n) [] h = tt
all-take P (suc n) (x ∷ xs) h = (h.0, all-take P n xs h.1)

pub all-drop : {A : Type 0} (P : A → Type 0) (n : ℕ) (xs : List A) → All P xs → All P (drop n xs)
all-drop P zero xs h = h
all-drop P (suc n) [] h = tt
all-drop P (suc n) (x ∷ xs) h = all-drop P n xs h.1

pub all-filter : {A : Type 0} (P : A → Type 0) (f : A → Bool) (xs : List A) → All P xs → All P (filter f xs)
all-filter P f [] h = tt
all-filter P f (x ∷ xs) h = kept (f x) (all-filter P f xs h.1)
  where
    kept : (b : Bool) → All P (filter f xs) → All P (cond b (x ∷ filter f xs) (filter f xs))
    kept true k = (h.0, k)
    kept false k = k

pub all-when : {A : Type 0} (P : A → Type 0) (b : Bool) (xs ys : List A) → All P xs → All P ys → All P (cond b xs ys)
all-when P true xs ys h k = h
all-when P false xs ys h k = k
