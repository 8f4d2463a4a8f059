-- The HTLCs of a book in slots, in order of deciding: one that is left out leaves an empty slot.
use Rattle.std.specs.Prelude.{List, [], ◌∷◌, Bool, false, Option, Some, None}
use Rattle.std.specs.List.{cons_option}

abbrev pub in_slots : {A : Type 0} → List (Option A) → List A
in_slots [] = []
in_slots (s ∷ ss) = cons_option s (in_slots ss)

-- a slot holds one that passes
abbrev pub passes : {A : Type 0} → (A → Bool) → Option A → Bool
passes p None = false
passes p (Some x) = p x
