-- The places of those of a list that pass a test.
use Rattle.std.proofs.Common.{◌≡◌, ℕ, ◌+◌, ◌<◌, ◌≤◌, List, [], ◌∷◌, ◌++◌, zero, suc, length, get_or, set, take}
use Rattle.std.proofs.Common.{refl, sym, ap, ◌∙◌, arith, Bool, true, false, cond}
use Rattle.std.specs.Prelude.{filter, nat_lt, nat_eq, not, IsTrue}
use Rattle.std.proofs.Math.Dec.{leb-suc-suc, leb-suc-zero, leb-zero, eqb-suc-suc, eqb-suc-zero}
use Rattle.std.proofs.lemmas.List.{length-map, get_or-map, length-take-le, take_more}
use Rattle.ln_book_tables.specs.Places.{later, places_of, with_place, places_behind}
use Rattle.ln_book_tables.specs.Replay.{without_first}

-- ---- one of them is changed

first_placed : (ps : List ℕ) → with_place 0 (later ps) ≡ 0 ∷ later ps
first_placed [] = refl
first_placed (p ∷ ps) =
    ap (λ b. cond b (0 ∷ suc p ∷ later ps) (suc p ∷ with_place 0 (later ps))) (leb-suc-suc 0 p ∙ leb-zero p)

later_cond : (b : Bool) (xs ys zs : List ℕ) → zs ≡ later ys → cond b (later xs) zs ≡ later (cond b xs ys)
later_cond true xs ys zs e = refl
later_cond false xs ys zs e = e

placed_later : (n : ℕ) (ps : List ℕ) → with_place (suc n) (later ps) ≡ later (with_place n ps)
placed_later n [] = refl
placed_later n (p ∷ ps) =
    ap (λ b. cond b (suc n ∷ suc p ∷ later ps) (suc p ∷ with_place (suc n) (later ps))) (leb-suc-suc (suc n) p)
    ∙ later_cond (nat_lt n p) (n ∷ p ∷ ps) (p ∷ with_place n ps) (suc p ∷ with_place (suc n) (later ps))
    (ap (λ qs. suc p ∷ qs) (placed_later n ps))

gone_later : (n : ℕ) (ps : List ℕ) → without_first (nat_eq (suc n)) (later ps) ≡ later (without_first (nat_eq n) ps)
gone_later n [] = refl
gone_later n (p ∷ ps) =
    ap (λ b. cond b (later ps) (suc p ∷ without_first (nat_eq (suc n)) (later ps))) (eqb-suc-suc n p)
    ∙ later_cond (nat_eq n p) ps (p ∷ without_first (nat_eq n) ps)
    (suc p ∷ without_first (nat_eq (suc n)) (later ps)) (ap (λ qs. suc p ∷ qs) (gone_later n ps))

at_first : (was is : Bool) (ps : List ℕ) → places_behind 0 was is (cond was (0 ∷ later ps) (later ps))
    ≡ cond is (0 ∷ later ps) (later ps)
at_first false false ps = refl
at_first false true ps = first_placed ps
at_first true false ps = refl
at_first true true ps = refl

at_later : (was is b : Bool) (n : ℕ) (ps : List ℕ) → places_behind (suc n) was is (cond b (0 ∷ later ps) (later ps))
    ≡ cond b (0 ∷ later (places_behind n was is ps)) (later (places_behind n was is ps))
at_later false false true n ps = refl
at_later false false false n ps = refl
at_later false true true n ps =
    ap (λ b. cond b (suc n ∷ 0 ∷ later ps) (0 ∷ with_place (suc n) (later ps))) (leb-suc-zero (suc n))
    ∙ ap (λ qs. 0 ∷ qs) (placed_later n ps)
at_later false true false n ps = placed_later n ps
at_later true false true n ps =
    ap (λ b. cond b (later ps) (0 ∷ without_first (nat_eq (suc n)) (later ps))) (eqb-suc-zero n)
    ∙ ap (λ qs. 0 ∷ qs) (gone_later n ps)
at_later true false false n ps = gone_later n ps
at_later true true true n ps = refl
at_later true true false n ps = refl

-- the one at this place is changed
pub behind_change : {A : Type 0} (p : A → Bool) (xs : List A) (i : ℕ) (d y : A) → i < length xs
    → places_behind i (p (get_or xs i d)) (p y) (places_of p xs) ≡ places_of p (set xs i y)
behind_change p [] i d y lt = absurd (omega (arith, lt))
behind_change p (x ∷ xs) zero d y lt = at_first (p x) (p y) (places_of p xs)
behind_change p (x ∷ xs) (suc i) d y lt =
    at_later (p (get_or xs i d)) (p y) (p x) i (places_of p xs)
    ∙ ap (λ ps. cond (p x) (0 ∷ later ps) (later ps)) (behind_change p xs i d y (omega (arith, lt)))

-- ---- how many they are

one_longer : (b : Bool) (ps : List ℕ) → length (cond b (0 ∷ later ps) (later ps)) ≤ suc (length ps)
one_longer true ps = omega (arith, length-map ps (λ n. suc n))
one_longer false ps = omega (arith, length-map ps (λ n. suc n))

pub at_most : {A : Type 0} (p : A → Bool) (xs : List A) → length (places_of p xs) ≤ length xs
at_most p [] = omega arith
at_most p (x ∷ xs) = omega (arith, one_longer (p x) (places_of p xs), at_most p xs)

-- where one doesn't pass they are fewer
pub fewer : {A : Type 0} (p : A → Bool) (xs : List A) (i : ℕ) (d : A) → i < length xs
    → p (get_or xs i d) ≡ false → length (places_of p xs) < length xs
fewer p [] i d lt out = absurd (omega (arith, lt))
fewer p (x ∷ xs) zero d lt out =
    let same = ap (λ b. length (cond b (0 ∷ later (places_of p xs)) (later (places_of p xs)))) out in
    omega (arith, same, length-map (places_of p xs) (λ n. suc n), at_most p xs)
fewer p (x ∷ xs) (suc i) d lt out =
    omega (arith, one_longer (p x) (places_of p xs), fewer p xs i d (omega (arith, lt)) out)

-- ---- which they are

as_many : {A : Type 0} (b : Bool) (x : A) (ys : List A) (ps : List ℕ) → length ps ≡ length ys
    → length (cond b (0 ∷ later ps) (later ps)) ≡ length (cond b (x ∷ ys) ys)
as_many true x ys ps e = ap (λ n. suc n) (length-map ps (λ n. suc n) ∙ e)
as_many false x ys ps e = length-map ps (λ n. suc n) ∙ e

pub as_many_as_pass : {A : Type 0} (p : A → Bool) (xs : List A) → length (places_of p xs) ≡ length (filter p xs)
as_many_as_pass p [] = refl
as_many_as_pass p (x ∷ xs) = as_many (p x) x (filter p xs) (places_of p xs) (as_many_as_pass p xs)

later_at : (ps : List ℕ) (k e : ℕ) → k < length (later ps) → get_or (later ps) k e ≡ suc (get_or ps k e)
later_at ps k e lt = get_or-map (λ n. suc n) ps k e e (omega (arith, lt, length-map ps (λ n. suc n)))

within_by : (b : Bool) (ps : List ℕ) (n k e : ℕ) → ((j : ℕ) → j < length ps → get_or ps j e < n)
    → k < length (cond b (0 ∷ later ps) (later ps)) → get_or (cond b (0 ∷ later ps) (later ps)) k e < suc n
within_by true ps n zero e f lt = omega arith
within_by true ps n (suc k) e f lt =
    let lt' : k < length (later ps) = omega (arith, lt) in
    omega (arith, later_at ps k e lt', f k (omega (arith, lt', length-map ps (λ n. suc n))))
within_by false ps n k e f lt =
    omega (arith, later_at ps k e lt, f k (omega (arith, lt, length-map ps (λ n. suc n))))

-- each is a place of the list
pub within : {A : Type 0} (p : A → Bool) (xs : List A) (k e : ℕ) → k < length (places_of p xs)
    → get_or (places_of p xs) k e < length xs
within p [] k e lt = absurd (omega (arith, lt))
within p (x ∷ xs) k e lt = within_by (p x) (places_of p xs) (length xs) k e (λ j. within p xs j e) lt

passes_by : {A : Type 0} (b : Bool) (x : A) (xs ys : List A) (ps : List ℕ) (k e : ℕ) (d : A)
    → ((j : ℕ) → j < length ps → get_or xs (get_or ps j e) d ≡ get_or ys j d)
    → k < length (cond b (0 ∷ later ps) (later ps))
    → get_or (x ∷ xs) (get_or (cond b (0 ∷ later ps) (later ps)) k e) d ≡ get_or (cond b (x ∷ ys) ys) k d
passes_by true x xs ys ps zero e d f lt = refl
passes_by true x xs ys ps (suc k) e d f lt =
    let lt' : k < length (later ps) = omega (arith, lt) in
    ap (λ q. get_or (x ∷ xs) q d) (later_at ps k e lt') ∙ f k (omega (arith, lt', length-map ps (λ n. suc n)))
passes_by false x xs ys ps k e d f lt =
    ap (λ q. get_or (x ∷ xs) q d) (later_at ps k e lt) ∙ f k (omega (arith, lt, length-map ps (λ n. suc n)))

-- at each stands one that passes, in order
pub passes_at : {A : Type 0} (p : A → Bool) (xs : List A) (k e : ℕ) (d : A) → k < length (places_of p xs)
    → get_or xs (get_or (places_of p xs) k e) d ≡ get_or (filter p xs) k d
passes_at p [] k e d lt = absurd (omega (arith, lt))
passes_at p (x ∷ xs) k e d lt =
    passes_by (p x) x xs (filter p xs) (places_of p xs) k e d (λ j. passes_at p xs j e d) lt

-- ---- one more joins

later_joined : (ps : List ℕ) (n : ℕ) → later (ps ++ n ∷ []) ≡ later ps ++ suc n ∷ []
later_joined [] n = refl
later_joined (p ∷ ps) n = ap (λ qs. suc p ∷ qs) (later_joined ps n)

joined_by : (b c : Bool) (ps : List ℕ) (n : ℕ)
    → cond b (0 ∷ later (cond c (ps ++ n ∷ []) ps)) (later (cond c (ps ++ n ∷ []) ps))
    ≡ cond c (cond b (0 ∷ later ps) (later ps) ++ suc n ∷ []) (cond b (0 ∷ later ps) (later ps))
joined_by true true ps n = ap (λ qs. 0 ∷ qs) (later_joined ps n)
joined_by false true ps n = later_joined ps n
joined_by true false ps n = refl
joined_by false false ps n = refl

pub behind_joined : {A : Type 0} (p : A → Bool) (xs : List A) (x : A)
    → places_of p (xs ++ x ∷ []) ≡ cond (p x) (places_of p xs ++ length xs ∷ []) (places_of p xs)
behind_joined p [] x = refl
behind_joined p (y ∷ ys) x =
    ap (λ ps. cond (p y) (0 ∷ later ps) (later ps)) (behind_joined p ys x)
    ∙ joined_by (p y) (p x) (places_of p ys) (length ys)

-- one that doesn't pass
pub behind_undue : {A : Type 0} (p : A → Bool) (xs ys : List A) (x : A) (ps : List ℕ) → ps ≡ places_of p xs
    → ys ≡ xs ++ x ∷ [] → p x ≡ false → ps ≡ places_of p ys
behind_undue p xs ys x ps is e out =
    is ∙ sym (ap (λ b. cond b (places_of p xs ++ length xs ∷ []) (places_of p xs)) out)
    ∙ sym (behind_joined p xs x) ∙ ap (places_of p) (sym e)

-- the next one of a list that is gone through
pub behind_next : {A : Type 0} (p : A → Bool) (xs : List A) (i : ℕ) (x : A) (b : Bool) (ps qs : List ℕ)
    → i < length xs → x ≡ get_or xs i x → ps ≡ places_of p (take i xs) → b ≡ p x
    → qs ≡ cond b (ps ++ i ∷ []) ps → qs ≡ places_of p (take (i + 1) xs)
behind_next p xs i x b ps qs lt there is passes e =
    e ∙ ap (λ t. cond t (ps ++ i ∷ []) ps) passes
    ∙ ap (λ rs. cond (p x) (rs ++ i ∷ []) rs) is
    ∙ ap (λ n. cond (p x) (places_of p (take i xs) ++ n ∷ []) (places_of p (take i xs)))
    (sym (length-take-le i xs (omega (arith, lt))))
    ∙ sym (behind_joined p (take i xs) x)
    ∙ ap (λ y. places_of p (take i xs ++ y ∷ [])) there
    ∙ ap (places_of p) (sym (take_more xs i x lt))

pub is_false : (b : Bool) → IsTrue (not b) → b ≡ false
is_false false t = refl
is_false true t = absurd (let is : false ≡ true = t in cc)
