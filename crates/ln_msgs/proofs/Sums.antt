-- Lists written one after the other.
use Rattle.std.proofs.Common.{◌≡◌, ℕ, suc, ◌+◌, ◌*◌, ◌<◌, ◌≤◌, List, [], ◌∷◌, ◌++◌, length, get_or, take, drop, refl}
use Rattle.std.proofs.Common.{sym, ap, subst, ◌∙◌, arith, append_assoc, append-nil}
use Rattle.std.specs.List.{flat_map, concat, AllByRecursion}
use Rattle.std.proofs.Math.Seq.{drop-cons}
use Rattle.std.proofs.lemmas.List.{take_more, take-append-drop, length-append}
use Rattle.std.proofs.lemmas.List.Concat.{flat_map-append}

-- the first ones and the next are no longer than all
pub flat_fits : {X : Type 0} (f : X → List ℕ) (xs : List X) (i : ℕ) (d : X) → i < length xs
    → length (flat_map f (take i xs)) + length (f (get_or xs i d)) ≤ length (flat_map f xs)
flat_fits f xs i d below =
    let next = get_or xs i d in
    let rest = drop (suc i) xs in
    let whole : xs ≡ take i xs ++ (next ∷ rest) = sym (take-append-drop i xs)
    ∙ ap (λ l. take i xs ++ l) (drop-cons xs i d below) in
    let parts : flat_map f xs ≡ flat_map f (take i xs) ++ flat_map f (next ∷ rest) = ap (flat_map f) whole
    ∙ flat_map-append f (take i xs) (next ∷ rest) in
    omega (
      arith,
      ap length parts,
      length-append (flat_map f (take i xs)) (flat_map f (next ∷ rest)),
      length-append (f next) (flat_map f rest),
    )

concat-append : (xs ys : List (List ℕ)) → concat (xs ++ ys) ≡ concat xs ++ concat ys
concat-append [] ys = refl
concat-append (x ∷ xs) ys = ap (λ l. x ++ l) (concat-append xs ys) ∙ sym (append_assoc x (concat xs) (concat ys))

-- one more
pub concat_more : (xs : List (List ℕ)) (i : ℕ) (d : List ℕ) → i < length xs
    → concat (take (i + 1) xs) ≡ concat (take i xs) ++ get_or xs i d
concat_more xs i d below = ap concat (take_more xs i d below) ∙ concat-append (take i xs) (get_or xs i d ∷ [])
    ∙ ap (λ l. concat (take i xs) ++ l) (append-nil (get_or xs i d))

-- items of one length
pub length-concat : (n : ℕ) (xs : List (List ℕ)) → ((i : ℕ) → i < length xs → length (get_or xs i []) ≡ n)
    → length (concat xs) ≡ n * length xs
length-concat n [] each = omega arith
length-concat n (x ∷ xs) each =
    let first : length x ≡ n = each 0 (omega arith) in
    let others = length-concat n xs (λ i below. each (suc i) (omega arith)) in
    let both = length-append x (concat xs) in
    let product : n * suc (length xs) ≡ n * length xs + n = omega arith in
    omega (arith, first, others, both, product)

all-push : {X : Type 0} (P : X → Type 0) (xs : List X) (x : X) → AllByRecursion P xs → P x
    → AllByRecursion P (xs ++ x ∷ [])
all-push P [] x all p = (p, tt)
all-push P (y ∷ ys) x all p = (all.0, all-push P ys x all.1 p)

-- one more
pub all-more : {X : Type 0} (P : X → Type 0) (xs : List X) (i : ℕ) (d : X) → i < length xs
    → AllByRecursion P (take i xs) → P (get_or xs i d) → AllByRecursion P (take (i + 1) xs)
all-more P xs i d below all p = subst (AllByRecursion P) (sym (take_more xs i d below))
    (all-push P (take i xs) (get_or xs i d) all p)

-- what holds at each place holds of all
pub all-by_index : (n : ℕ) (xs : List (List ℕ)) → ((i : ℕ) → i < length xs → length (get_or xs i []) ≡ n)
    → AllByRecursion (λ s. length s ≡ n) xs
all-by_index n [] each = tt
all-by_index n (x ∷ xs) each = (each 0 (omega arith), all-by_index n xs (λ i below. each (suc i) (omega arith)))
