-- Lists put together from pieces.
use Rattle.std.proofs.Common.{◌≡◌, ℕ, ◌+◌, ◌<◌, List, [], ◌∷◌, ◌++◌, length, get_or, take, refl, sym, ap, ◌∙◌, arith}
use Rattle.std.proofs.Common.{append_assoc, append-nil, length-append, drop, length-drop}
use Rattle.std.specs.List.{flat_map}
use Rattle.std.proofs.lemmas.List.{take_more, take_all, take-append-le, length-take}
use Rattle.std.proofs.lemmas.List.Concat.{flat_map-append}
use Rattle.std.proofs.lemmas.Slice.{take-put_mid}
use borrow.Rule.Slice.PartMut.{put_mid, same_len_mid}

-- one more
pub flat_map_more : {X : Type 0} (f : X → List ℕ) (xs : List X) (i : ℕ) (d : X) → i < length xs
    → flat_map f (take (i + 1) xs) ≡ flat_map f (take i xs) ++ f (get_or xs i d)
flat_map_more f xs i d below = ap (flat_map f) (take_more xs i d below)
    ∙ flat_map-append f (take i xs) (get_or xs i d ∷ [])
    ∙ ap (λ l. flat_map f (take i xs) ++ l) (append-nil (f (get_or xs i d)))

-- four pieces, and five
pub four : (m a b c d : List ℕ) → (((m ++ a) ++ b) ++ c) ++ d ≡ m ++ (((a ++ b) ++ c) ++ d)
four m a b c d = simp append_assoc refl

pub five : (m a b c d e : List ℕ) → ((((m ++ a) ++ b) ++ c) ++ d) ++ e ≡ m ++ (a ++ (((b ++ c) ++ d) ++ e))
five m a b c d e = simp append_assoc refl

-- the second half written over what stood there
pub second_half : (n : ℕ) (a z y : List ℕ) → length a ≡ n → length z ≡ n → length y ≡ n
    → put_mid n n (a ++ z) y ≡ a ++ y
second_half n a z y la lz ly =
    let whole : length (put_mid n n (a ++ z) y) ≡ n + n =
    same_len_mid n n (a ++ z) y (omega (
      arith,
      length-take n (drop n (a ++ z)),
      length-drop n (a ++ z),
      length-append a z,
    )) ∙ omega (arith, length-append a z) in
    let front : take n (a ++ z) ≡ a = take-append-le n a z (omega arith) ∙ take_all n a (omega arith) in
    sym (take_all (n + n) (put_mid n n (a ++ z) y) (omega (arith, whole)))
    ∙ take-put_mid n n (a ++ z) y (n + n) (omega arith) (omega (arith, length-append a z)) ∙ ap (λ l. l ++ y) front
