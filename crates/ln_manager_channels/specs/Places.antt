-- What stands at a place of a list, and what a call makes of it.
use Rattle.std.specs.Prelude.{◌≡◌, ℕ, List, Option, Some, None, Result, Err, slice_get, slice_set}
use Rattle.ln_refusals.specs.declared.refusal.Refusal.{Refusal}
use Rattle.ln_refusals.specs.declared.refusal.Refusal.TheVariants as refusal

-- where something stands there, it becomes this
abbrev pub changed_by : {X : Type 0} → ℕ → (X → X) → Option X → List X → List X
changed_by c f None xs = xs
changed_by c f (Some x) xs = slice_set xs c (f x)

abbrev pub changed_at : {X : Type 0} → ℕ → (X → X) → List X → List X
changed_at c f xs = changed_by c f (slice_get xs c) xs

-- ---- a call of what stands there

-- where nothing does, 40 is answered, and nothing changes; else it becomes what the call makes of it
abbrev pub AnswersBy : {X V : Type 0} → ℕ → (X → X → Result V Refusal → Type 0) → Option X → Result V Refusal → List X
    → List X → Type 0
AnswersBy c Calls None answer xs ys = (answer ≡ Err refusal.NotReady) × (ys ≡ xs)
AnswersBy c Calls (Some x) answer xs ys = (y : _) × (ys ≡ slice_set xs c y) × Calls x y answer

unfoldable pub AnswersAt : {X V : Type 0} → ℕ → (X → X → Result V Refusal → Type 0) → Result V Refusal → List X → List X
    → Type 0
AnswersAt c Calls answer xs ys = AnswersBy c Calls (slice_get xs c) answer xs ys

-- which also changes what it is given beside
abbrev pub AnswersBesideBy : {X S V : Type 0} → ℕ → (X → X → S → S → Result V Refusal → Type 0) → Option X
    → Result V Refusal → List X → List X → S → S → Type 0
AnswersBesideBy c Calls None answer xs ys s t = (answer ≡ Err refusal.NotReady) × (ys ≡ xs) × (t ≡ s)
AnswersBesideBy c Calls (Some x) answer xs ys s t = (y : _) × (ys ≡ slice_set xs c y) × Calls x y s t answer

abbrev pub AnswersBeside : {X S V : Type 0} → ℕ → (X → X → S → S → Result V Refusal → Type 0) → Result V Refusal
    → List X → List X → S → S → Type 0
AnswersBeside c Calls answer xs ys s t = AnswersBesideBy c Calls (slice_get xs c) answer xs ys s t
