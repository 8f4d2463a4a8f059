-- Strings of bytes that are the same.
use Rattle.std.proofs.Common.{◌≡◌, ℕ, List, true, subst}
use Rattle.std.proofs.lemmas.Cmp.{nat_list_eq_equiv}
use Rattle.ln_bytes.specs.Same.{are_same}

pub same_as_itself : (xs : List ℕ) → are_same xs xs ≡ true
same_as_itself xs = nat_list_eq_equiv.refl xs

pub same_if_equal : (xs ys : List ℕ) → xs ≡ ys → are_same xs ys ≡ true
same_if_equal xs ys e = let P : List ℕ → Type 0 = λ w. are_same xs w ≡ true in subst P e (same_as_itself xs)
