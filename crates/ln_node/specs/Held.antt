-- What a node's channels hold, by the channels' numbers.
use Rattle.std.specs.Prelude.{ℕ, ◌+◌, List, [], ◌∷◌, ◌++◌, Option, Some, None, option_map, Bool, false}
use Rattle.std.specs.Prelude.{if◌then◌else◌, nat_eq}
use Rattle.std.specs.Cmp.Lexicographic.{pointwise}
use Rattle.ln_book_tables.specs.declared.held.HeldHtlc.{HeldHtlc}

-- whether a channel is known by this id
abbrev pub is_known_by : Option (List ℕ) → List ℕ → Bool
is_known_by None id = false
is_known_by (Some known) id = pointwise nat_eq known id

-- the first place where this id stands among those of channels
abbrev pub place_of : List (Option (List ℕ)) → List ℕ → Option ℕ
place_of [] id = None
place_of (known ∷ ids) id = if is_known_by known id then Some 0 else option_map (λ n. n + 1) (place_of ids id)

abbrev pub with_number : Option ℕ → HeldHtlc → List (ℕ × HeldHtlc)
with_number None h = []
with_number (Some n) h = (n, h) ∷ []

-- those of them whose channel is there, each with its number
abbrev pub numbered : List (Option (List ℕ)) → List HeldHtlc → List (ℕ × HeldHtlc)
numbered ids [] = []
numbered ids (h ∷ hs) = with_number (place_of ids h.channel) h ++ numbered ids hs
