-- Whether two strings of bytes are the same.
use Rattle.std.specs.Prelude.{ℕ, List, Bool, nat_eq}
use Rattle.std.specs.Cmp.Lexicographic.{pointwise}

abbrev pub are_same : List ℕ → List ℕ → Bool
are_same xs ys = pointwise nat_eq xs ys
