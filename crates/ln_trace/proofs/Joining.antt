-- Lines that are written one after the other.
use Rattle.std.proofs.Common.{◌≡◌, ℕ, List, [], ◌∷◌, ◌++◌, Option, Some, None, codes, refl, sym, ap}
use Rattle.std.specs.Iterator.{AlwaysYields}
use Rattle.ln_trace.specs.Steps.{joined}

module _ {S A : Type 0} (steps : S → Option A → S → Type 0) (v : A → List ℕ) where
  -- after a line the others are left
  pub after_line : (before : List ℕ) (left : List (List ℕ)) (s t : S) (x : A)
      → AlwaysYields steps v s left → steps s (Some x) t
      → (rest : List (List ℕ)) × (joined before left ≡ before ++ (v x ++ joined (codes ", ") rest))
      × AlwaysYields steps v t rest
  after_line before [] s t x yields step = absurd (yields x t step)
  after_line before (line ∷ rest) s t x yields step =
      let now = yields.1 x t step in (rest, ap (λ w. before ++ (w ++ joined (codes ", ") rest)) (sym now.0), now.1)

  -- after the last line nothing is left
  pub at_end : (before : List ℕ) (left : List (List ℕ)) (s t : S)
      → AlwaysYields steps v s left → steps s None t → joined before left ≡ []
  at_end before [] s t yields step = refl
  at_end before (line ∷ rest) s t yields step = absurd (yields.0 t step)
