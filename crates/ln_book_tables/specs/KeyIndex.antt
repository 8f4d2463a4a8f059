-- An index of a list by the keys of what stands in it.
use Rattle.std.specs.Prelude.{◌≡◌, ℕ, Bool, true, false, ◌&&◌, Option, Some, None, IsTrue, nat_eq, if◌then◌else◌}
use Rattle.std.specs.Map.{lookup}
use Rattle.ln_book_tables.specs.declared.htlc.Key.{Key}
use Rattle.ln_book_tables.specs.declared.key_index.KeyIndex.{KeyIndex}
use Rattle.ln_book_tables.specs.declared.key_index.Told.{Told}
use Rattle.ln_book_tables.specs.declared.key_index.Told.TheVariants as told
use Rattle.ln_book_tables.specs.Replay.{same}

-- the same channel and id
abbrev pub is_key : Key → Key → Bool
is_key a b = same a.channel b.channel && nat_eq a.id b.id

abbrev pub is_named : Key → Option Key → Bool
is_named k None = false
is_named k (Some j) = is_key j k

abbrev pub is_place : ℕ → Option ℕ → Bool
is_place i None = false
is_place i (Some j) = nat_eq i j

abbrev pub place_of : Key → KeyIndex → Option ℕ
place_of k x = lookup (is_key k) x.places.entries

-- where it is exact: a key stands at a place exactly where the index says so; `at` says what stands at each place
abbrev pub IsIndexOf : (ℕ → Option Key) → KeyIndex → Type 0
IsIndexOf at x = IsTrue x.exact → (k : Key) (i : ℕ) → is_named k (at i) ≡ is_place i (place_of k x)

abbrev pub put_at : ℕ → Option Key → (ℕ → Option Key) → ℕ → Option Key
put_at i key at j = if nat_eq j i then key else at j

-- a key goes
abbrev pub Leaves : Key → KeyIndex → KeyIndex → Type 0
Leaves key old new = (new.exact ≡ old.exact)
    × ((k : Key) → place_of k new ≡ (if is_key key k then None else place_of k old))

-- a key comes to a place; it stood nowhere, where the index is exact after that
abbrev pub Enters : ℕ → Key → KeyIndex → KeyIndex → Type 0
Enters place key old new = IsTrue new.exact → IsTrue old.exact
    × ((k : Key) → is_key key k ≡ true → place_of k old ≡ None)
    × ((k : Key) → place_of k new ≡ (if is_key key k then Some place else place_of k old))

abbrev pub told_at : Option ℕ → Told
told_at None = told.Nowhere
told_at (Some i) = told.At i

abbrev pub told_in : Key → KeyIndex → Told
told_in k x = if x.exact then told_at (place_of k x) else told.Unknown
