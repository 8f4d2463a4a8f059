-- The numbers of channels, by their ids.
use Rattle.std.specs.Prelude.{ℕ, List, Option}
use Rattle.std.specs.BTreeMap.{is_at, insert_entry}
use Rattle.std.specs.Cmp.Lexicographic.{slice_cmp}
use Rattle.std.specs.Map.{lookup}
use Rattle.std.specs.Ordering.{nat_cmp}

-- in the order of the first bytes of their ids that differ
abbrev pub NumbersById : Type 0
NumbersById = List (List ℕ × ℕ)

abbrev pub number_at : List ℕ → NumbersById → Option ℕ
number_at id by_id = lookup (is_at (slice_cmp nat_cmp id)) by_id

-- the later one takes the earlier one's place
abbrev pub numbered : List ℕ → ℕ → NumbersById → NumbersById
numbered id n by_id = insert_entry (slice_cmp nat_cmp) by_id id n
