-- The places of those of a list that pass a test, in order; the first is 0.
use Rattle.std.specs.Prelude.{ℕ, suc, List, [], ◌∷◌, map, Bool, true, false, if◌then◌else◌, nat_lt, nat_eq}
use Rattle.ln_book_tables.specs.Replay.{without_first}

-- each is one further, as one more stands in front
abbrev pub later : List ℕ → List ℕ
later ps = map (λ n. suc n) ps

abbrev pub places_of : {A : Type 0} → (A → Bool) → List A → List ℕ
places_of p [] = []
places_of p (x ∷ xs) = if p x then 0 ∷ later (places_of p xs) else later (places_of p xs)

-- a place joins others, in order
abbrev pub with_place : ℕ → List ℕ → List ℕ
with_place n [] = n ∷ []
with_place n (p ∷ ps) = if nat_lt n p then n ∷ p ∷ ps else p ∷ with_place n ps

-- the places after a change of the one at place n, by whether it passed before and whether it passes now
abbrev pub places_behind : ℕ → Bool → Bool → List ℕ → List ℕ
places_behind n false false ps = ps
places_behind n true true ps = ps
places_behind n false true ps = with_place n ps
places_behind n true false ps = without_first (nat_eq n) ps
