-- Feature bits (BOLT 1, "The init Message").
use Rattle.std.specs.Prelude.{◌≡◌, ℕ, ◌/◌, ◌%◌, List, slice_index, reverse, Bool, IsTrue, ◌==◌, ◌⊎◌}
use Rattle.std.specs.Int.{bit_at}
use Rattle.std.specs.List.{list_any}
use Rattle.ln_msgs.specs.declared.messages.setup.Init.{Init}

-- bit k of a map is set: the map's last byte has bits 0 to 7, the lowest of which is bit 0
abbrev pub HasFeature : List ℕ → ℕ → Type 0
HasFeature features k = bit_at (slice_index (reverse features) (k / 8)) (k % 8) ≡ 1

-- bit k is set in either map
abbrev pub AsksFor : Init → ℕ → Type 0
AsksFor init k = HasFeature init.global_features k ⊎ HasFeature init.features k

abbrev pub is_listed : List ℕ → ℕ → Bool
is_listed known k = list_any (λ x. x == k) known

-- each even bit that is set is in the list
abbrev pub IsAllKnown : Init → List ℕ → Type 0
IsAllKnown init known = (k : ℕ) → AsksFor init k → k % 2 ≡ 0 → IsTrue (is_listed known k)

-- an even bit is set that isn't in the list
abbrev pub HasUnknown : Init → List ℕ → Type 0
HasUnknown init known = (k : ℕ) × AsksFor init k × (k % 2 ≡ 0) × ¬ IsTrue (is_listed known k)
