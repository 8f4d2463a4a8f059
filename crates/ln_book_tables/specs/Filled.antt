-- What holds of the slots of a book for life: at least half of them hold something, and as long as no two HTLCs have
-- one key, the index by key is exact. So a book takes memory by the HTLCs that it has, and finds each without a walk.
use Rattle.std.specs.Prelude.{◌≡◌, ℕ, ◌+◌, ◌*◌, ◌≤◌, List, length, true, Option, Some, None, IsTrue}
use Rattle.indexmap.specs.IndexMap.{index_map_len, spare}
use Rattle.ln_book_tables.specs.declared.htlc.Key.{Key}
use Rattle.ln_book_tables.specs.declared.htlc.Htlc.{Htlc}
use Rattle.ln_book_tables.specs.declared.key_index.KeyIndex.{KeyIndex}
use Rattle.ln_book_tables.specs.declared.indices.Indices.{Indices}
use Rattle.ln_book_tables.specs.KeyIndex.{is_named}
use Rattle.ln_book_tables.specs.Indices.{names_at, IsIndexed}
use Rattle.ln_book_tables.specs.Slots.{in_slots}

-- how many keys these are
abbrev pub one_or_none : Option Key → ℕ
one_or_none None = 0
one_or_none (Some k) = 1

-- how many keys an index has, and has room for in all
abbrev pub count_in : KeyIndex → ℕ
count_in x = index_map_len x.places

abbrev pub spare_in : KeyIndex → ℕ
spare_in x = spare x.places

abbrev pub room_in : KeyIndex → ℕ
room_in x = count_in x + spare_in x

-- no key stands at two places
abbrev pub StandApart : (ℕ → Option Key) → Type 0
StandApart at = (k : Key) (i j : ℕ) → is_named k (at i) ≡ true → is_named k (at j) ≡ true → i ≡ j

-- how many slots hold something
abbrev pub held_in : List (Option Htlc) → ℕ
held_in ss = length (in_slots ss)

-- an exact index by key has no more keys than there are HTLCs, and any has room for theirs
pub record IsCounted (ss : List (Option Htlc)) (x : KeyIndex) : Type 0 where
  pub count : IsTrue x.exact → count_in x ≤ held_in ss
  pub room : held_in ss ≤ room_in x

abbrev pub IsExact : List (Option Htlc) → KeyIndex → Type 0
IsExact ss x = StandApart (names_at ss (λ n. n.key)) → IsTrue x.exact

abbrev pub IsHalfFull : List (Option Htlc) → Type 0
IsHalfFull ss = length ss ≤ 2 * held_in ss

pub record IsKept (ss : List (Option Htlc)) (x : Indices) : Type 0 where
  pub indexed : IsIndexed ss x
  pub counted : IsCounted ss x.by_key
  pub exact : IsExact ss x.by_key
  pub half : IsHalfFull ss
