-- A list whose elements are changed one after the other.
use Rattle.std.proofs.Common.{◌≡◌, ℕ, ◌+◌, ◌<◌, List, [], ◌∷◌, ◌++◌, zero, suc, length, take, drop, get_or, set}
use Rattle.std.proofs.Common.{refl, sym, ap, ◌∙◌, arith, add-one}
use Rattle.std.specs.Prelude.{map}

-- the first ones are changed
abbrev pub changed_to : {A : Type 0} → (A → A) → ℕ → List A → List A
changed_to f i xs = map f (take i xs) ++ drop i xs

one_more : {A : Type 0} (f : A → A) (xs : List A) (i : ℕ) (d : A) → i < length xs
    → changed_to f (suc i) xs ≡ set (changed_to f i xs) i (f (get_or (changed_to f i xs) i d))
one_more f [] i d lt = absurd (omega (arith, lt))
one_more f (x ∷ xs) zero d lt = refl
one_more f (x ∷ xs) (suc i) d lt = ap (λ ys. f x ∷ ys) (one_more f xs i d (omega (arith, lt)))

-- one more of them
pub changed_next : {A : Type 0} (f : A → A) (xs ys : List A) (i : ℕ) (d y : A) → i < length xs
    → changed_to f i xs ≡ ys → y ≡ f (get_or ys i d) → changed_to f (i + 1) xs ≡ set ys i y
changed_next f xs ys i d y lt e is =
    ap (λ k. changed_to f k xs) (add-one i) ∙ one_more f xs i d lt
    ∙ ap (λ zs. set zs i (f (get_or zs i d))) e ∙ ap (set ys i) (sym is)
