-- What slots hold, in order.
use Rattle.std.proofs.Common.{◌≡◌, ℕ, ◌<◌, List, [], ◌∷◌, ◌++◌, zero, suc, length, get_or, set, refl, sym, ap, ◌∙◌}
use Rattle.std.proofs.Common.{arith, Bool, true, false, cond, Option, None, Some, inl, inr, is_some}
use Rattle.std.specs.Prelude.{filter, map, not, ◌||◌}
use Rattle.std.specs.Option.{option_map}
use Rattle.std.specs.List.{position, position_or_len, cons_option, find, list_any}
use Rattle.std.proofs.lemmas.Bool.Decides.{leb_tells}
use Rattle.std.proofs.lemmas.List.{get_or_past, get_or_default, get_or-map, length-map}
use Rattle.std.proofs.lemmas.List.Folds.{list_any_at}
use Rattle.std.proofs.lemmas.List.Quantifiers.{position-Some}
use Rattle.std.proofs.lemmas.List.Sums.{position_or_len_is}
use Rattle.ln_book_tables.specs.Replay.{changed_first, left_out}
use Rattle.ln_book_tables.specs.Slots.{in_slots, passes}
use Rattle.ln_book_tables.specs.Places.{places_of}
use Rattle.ln_book_tables.proofs.Firsts.{Fails, all_fail, changed_none, none_left_out, not_found, found_at}
use Rattle.ln_book_tables.proofs.Firsts.{no_any}
use Rattle.ln_book_tables.proofs.Passing.{as_many_as_pass, passes_at}

-- ---- what is changed or left out

changed_by_cond : {A : Type 0} (b : Bool) (x y : A) (ss ts : List (Option A)) (zs : List A) → in_slots ts ≡ zs
    → in_slots (cond b (Some y ∷ ss) (Some x ∷ ts)) ≡ cond b (y ∷ in_slots ss) (x ∷ zs)
changed_by_cond true x y ss ts zs e = refl
changed_by_cond false x y ss ts zs e = ap (λ ys. x ∷ ys) e

pub in_changed : {A : Type 0} (p : A → Bool) (f : A → A) (ss : List (Option A))
    → in_slots (changed_first (passes p) (option_map f) ss) ≡ changed_first p f (in_slots ss)
in_changed p f [] = refl
in_changed p f (None ∷ ss) = in_changed p f ss
in_changed p f (Some x ∷ ss) = changed_by_cond (p x) x (f x) ss _ _ (in_changed p f ss)

left_by_cond : {A : Type 0} (b : Bool) (x : A) (ss : List (Option A)) (zs : List A) → in_slots ss ≡ zs
    → in_slots (cond b (Some x ∷ ss) ss) ≡ cond b (x ∷ zs) zs
left_by_cond true x ss zs e = ap (λ ys. x ∷ ys) e
left_by_cond false x ss zs e = e

pub in_left : {A : Type 0} (p : A → Bool) (ss : List (Option A))
    → in_slots (left_out (passes p) ss) ≡ left_out p (in_slots ss)
in_left p [] = refl
in_left p (None ∷ ss) = in_left p ss
in_left p (Some x ∷ ss) = left_by_cond (not (p x)) x (left_out (passes p) ss) (left_out p (in_slots ss)) (in_left p ss)

pub in_squeezed : {A : Type 0} (ss : List (Option A)) → in_slots (filter is_some ss) ≡ in_slots ss
in_squeezed [] = refl
in_squeezed (None ∷ ss) = in_squeezed ss
in_squeezed (Some x ∷ ss) = ap (λ ys. x ∷ ys) (in_squeezed ss)

pub in_mapped : {A : Type 0} (f : A → A) (ss : List (Option A)) → in_slots (map (option_map f) ss) ≡ map f (in_slots ss)
in_mapped f [] = refl
in_mapped f (None ∷ ss) = in_mapped f ss
in_mapped f (Some x ∷ ss) = ap (λ ys. f x ∷ ys) (in_mapped f ss)

pub in_pushed : {A : Type 0} (ss : List (Option A)) (x : A) → in_slots (ss ++ Some x ∷ []) ≡ in_slots ss ++ x ∷ []
in_pushed [] x = refl
in_pushed (None ∷ ss) x = in_pushed ss x
in_pushed (Some y ∷ ss) x = ap (λ ys. y ∷ ys) (in_pushed ss x)

-- ---- where none is meant

pub none_changed : {A : Type 0} (p : A → Bool) (f : A → A) (ss : List (Option A)) → position (passes p) ss ≡ None
    → in_slots ss ≡ changed_first p f (in_slots ss)
none_changed p f ss e = ap in_slots (changed_none (passes p) (option_map f) ss e) ∙ in_changed p f ss

pub none_left : {A : Type 0} (p : A → Bool) (ss : List (Option A)) → position (passes p) ss ≡ None
    → in_slots ss ≡ left_out p (in_slots ss)
none_left p ss e = ap in_slots (none_left_out (passes p) ss e) ∙ in_left p ss

-- ---- where at most the one at this place is meant

abbrev pub IsAlone : {A : Type 0} → (A → Bool) → List (Option A) → ℕ → Type 0
IsAlone p ss i = (j : ℕ) → passes p (get_or ss j None) ≡ true → j ≡ i

abbrev pub NonePasses : {A : Type 0} → (A → Bool) → List (Option A) → Type 0
NonePasses p ss = (j : ℕ) → passes p (get_or ss j None) ≡ false

pub is_within : {A : Type 0} (p : A → Bool) (ss : List (Option A)) (i : ℕ) → passes p (get_or ss i None) ≡ true
    → i < length ss
is_within p ss i is = elim (leb_tells (length ss) i) [
  | inl g ↦ absurd (let no : true ≡ false = sym is ∙ ap (passes p) (get_or_past ss i None g.1) in cc)
  | inr g ↦ g.1
]

pub not_true : (b : Bool) → (b ≡ true → ⊥) → b ≡ false
not_true true never = absurd (never refl)
not_true false never = refl

others_fail : {A : Type 0} (p : A → Bool) (ss : List (Option A)) (i j : ℕ) → IsAlone p ss i → (j ≡ i → ⊥)
    → passes p (get_or ss j None) ≡ false
others_fail p ss i j alone other = not_true (passes p (get_or ss j None)) (λ is. other (alone j is))

as_fails : {A : Type 0} (p : A → Bool) (ss : List (Option A)) → NonePasses p ss → Fails (passes p) ss
as_fails p ss none k d lt = ap (passes p) (get_or_default ss k d None lt) ∙ none k

pub nowhere : {A : Type 0} (p : A → Bool) (ss : List (Option A)) → NonePasses p ss → position (passes p) ss ≡ None
nowhere p ss none =
    let n = position_or_len_is (passes p) ss (length ss) None (omega arith) (λ k lt. none k)
    (λ lt. absurd (omega (arith, lt))) in
    elim (leb_tells (suc (position_or_len (passes p) ss)) (length ss)) [
      | inl g ↦ absurd (omega (arith, g.1, n))
      | inr g ↦ ap (λ b. cond b (Some (position_or_len (passes p) ss)) None) g.0
    ]

pub found : {A : Type 0} (p : A → Bool) (ss : List (Option A)) (i : ℕ) → IsAlone p ss i
    → passes p (get_or ss i None) ≡ true → Some i ≡ position (passes p) ss
found p ss i alone is =
    let lt = is_within p ss i is in
    let n = position_or_len_is (passes p) ss i None (omega (arith, lt))
    (λ k l. others_fail p ss i k alone (λ e. omega (arith, l, e))) (λ l. is) in
    elim (leb_tells (suc (position_or_len (passes p) ss)) (length ss)) [
      | inl g ↦ sym (ap (λ b. cond b (Some (position_or_len (passes p) ss)) None) g.0 ∙ ap (λ m. Some m) n)
      | inr g ↦ absurd (omega (arith, g.1, n, lt))
    ]

pub none_passes : {A : Type 0} (p : A → Bool) (ss : List (Option A)) (i : ℕ) → IsAlone p ss i
    → passes p (get_or ss i None) ≡ false → NonePasses p ss
none_passes p ss i alone out j =
    not_true (passes p (get_or ss j None))
    (λ is. let no : true ≡ false = sym is ∙ ap (λ k. passes p (get_or ss k None)) (alone j is) ∙ out in absurd (cc))

kept_first : {A : Type 0} (p : A → Bool) (s : Option A) (xs ys : List A) → passes p s ≡ false → xs ≡ left_out p ys
    → cons_option s xs ≡ left_out p (cons_option s ys)
kept_first p None xs ys out e = e
kept_first p (Some x) xs ys out e =
    ap (λ zs. x ∷ zs) e ∙ sym (ap (λ b. cond (not b) (x ∷ left_out p ys) (left_out p ys)) out)

gone_first : {A : Type 0} (p : A → Bool) (s : Option A) (xs ys : List A) → passes p s ≡ true → xs ≡ left_out p ys
    → xs ≡ left_out p (cons_option s ys)
gone_first p None xs ys is e = e
gone_first p (Some x) xs ys is e =
    e ∙ sym (ap (λ b. cond (not b) (x ∷ left_out p ys) (left_out p ys)) is)

-- it is taken out of its slot
pub in_cleared : {A : Type 0} (p : A → Bool) (ss : List (Option A)) (i : ℕ) → IsAlone p ss i
    → passes p (get_or ss i None) ≡ true → in_slots (set ss i None) ≡ left_out p (in_slots ss)
in_cleared p [] i alone is = absurd (let no : false ≡ true = is in cc)
in_cleared p (s ∷ ss) zero alone is =
    gone_first p s (in_slots ss) (in_slots ss) is
    (none_left p ss (nowhere p ss (λ j. others_fail p (s ∷ ss) 0 (suc j) alone (λ e. omega (arith, e)))))
in_cleared p (s ∷ ss) (suc i) alone is =
    kept_first p s (in_slots (set ss i None)) (in_slots ss)
    (others_fail p (s ∷ ss) (suc i) 0 alone (λ e. omega (arith, e)))
    (in_cleared p ss i (λ j there. let e = alone (suc j) there in omega (arith, e)) is)

-- ---- the first that is meant

-- what a slot that was found holds
abbrev pub held_by_slot : {A : Type 0} → Option (Option A) → Option A
held_by_slot None = None
held_by_slot (Some s) = s

found_by : {A : Type 0} (b : Bool) (x : A) (o : Option A) (s : Option (Option A)) → o ≡ held_by_slot s
    → cond b (Some x) o ≡ held_by_slot (cond b (Some (Some x)) s)
found_by true x o s e = refl
found_by false x o s e = e

in_found : {A : Type 0} (p : A → Bool) (ss : List (Option A))
    → find p (in_slots ss) ≡ held_by_slot (find (passes p) ss)
in_found p [] = refl
in_found p (None ∷ ss) = in_found p ss
in_found p (Some x ∷ ss) = found_by (p x) x (find p (in_slots ss)) (find (passes p) ss) (in_found p ss)

pub none_found : {A : Type 0} (p : A → Bool) (ss : List (Option A)) → position (passes p) ss ≡ None
    → find p (in_slots ss) ≡ None
none_found p ss e = in_found p ss ∙ ap held_by_slot (not_found (passes p) ss e)

pub found_there : {A : Type 0} (p : A → Bool) (ss : List (Option A)) (i : ℕ) (d : Option A)
    → position (passes p) ss ≡ Some i → find p (in_slots ss) ≡ get_or ss i d
found_there p ss i d e = in_found p ss ∙ ap held_by_slot (found_at (passes p) ss i d e)

any_in : {A : Type 0} (p : A → Bool) (ss : List (Option A)) → list_any p (in_slots ss) ≡ list_any (passes p) ss
any_in p [] = refl
any_in p (None ∷ ss) = any_in p ss
any_in p (Some x ∷ ss) = ap (λ b. p x || b) (any_in p ss)

any_found : {A : Type 0} (p : A → Bool) (xs : List A) (o : Option ℕ) → position p xs ≡ o → list_any p xs ≡ is_some o
any_found p xs None e = no_any p xs (all_fail p xs e)
any_found p [] (Some i) e = absurd (let there : None ≡ Some i = e in cc)
any_found p (x ∷ xs) (Some i) e =
    let at = position-Some p (x ∷ xs) i x e in list_any_at p (x ∷ xs) i x at.0 at.1

-- whether one is meant
pub any_there : {A : Type 0} (p : A → Bool) (ss : List (Option A)) (o : Option ℕ) → position (passes p) ss ≡ o
    → list_any p (in_slots ss) ≡ is_some o
any_there p ss o e = any_in p ss ∙ any_found (passes p) ss o e

-- ---- those that pass

filtered_by : {A : Type 0} (b : Bool) (x : A) (ss : List (Option A)) (xs : List A) → ss ≡ map (λ y. Some y) xs
    → cond b (Some x ∷ ss) ss ≡ map (λ y. Some y) (cond b (x ∷ xs) xs)
filtered_by true x ss xs e = ap (λ ts. Some x ∷ ts) e
filtered_by false x ss xs e = e

pub in_filtered : {A : Type 0} (p : A → Bool) (ss : List (Option A))
    → filter (passes p) ss ≡ map (λ y. Some y) (filter p (in_slots ss))
in_filtered p [] = refl
in_filtered p (None ∷ ss) = in_filtered p ss
in_filtered p (Some x ∷ ss) = filtered_by (p x) x (filter (passes p) ss) (filter p (in_slots ss)) (in_filtered p ss)

-- the places of slots that hold one that passes are as many as those
pub as_many_in : {A : Type 0} (p : A → Bool) (ss : List (Option A))
    → length (places_of (passes p) ss) ≡ length (filter p (in_slots ss))
as_many_in p ss =
    as_many_as_pass (passes p) ss ∙ ap length (in_filtered p ss) ∙ length-map (filter p (in_slots ss)) (λ y. Some y)

-- and they hold those in order
pub passing_in : {A : Type 0} (p : A → Bool) (ss : List (Option A)) (k e : ℕ) (d : Option A) (x : A)
    → k < length (filter p (in_slots ss))
    → get_or ss (get_or (places_of (passes p) ss) k e) d ≡ Some (get_or (filter p (in_slots ss)) k x)
passing_in p ss k e d x lt =
    passes_at (passes p) ss k e d (omega (arith, lt, as_many_in p ss))
    ∙ ap (λ ts. get_or ts k d) (in_filtered p ss)
    ∙ get_or-map (λ y. Some y) (filter p (in_slots ss)) k x d lt

some_by : {A : Type 0} (xs : List A) (k : ℕ) (s : Option A) → k < length xs → ((x : A) → s ≡ Some (get_or xs k x))
    → (x : A) × (s ≡ Some x)
some_by [] k s lt f = absurd (omega (arith, lt))
some_by (x ∷ xs) k s lt f = (get_or (x ∷ xs) k x, f x)

-- none of those slots is empty
pub not_empty : {A : Type 0} (p : A → Bool) (ss : List (Option A)) (k e : ℕ) (d : Option A)
    → k < length (filter p (in_slots ss)) → get_or ss (get_or (places_of (passes p) ss) k e) d ≡ None → ⊥
not_empty p ss k e d lt empty =
    let one = some_by (filter p (in_slots ss)) k (get_or ss (get_or (places_of (passes p) ss) k e) d) lt
    (λ x. passing_in p ss k e d x lt) in
    let never : None ≡ Some one.0 = sym empty ∙ one.1 in cc
