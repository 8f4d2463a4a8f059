-- The hooks of a script get their places one after the other.
use Rattle.std.proofs.Common.{◌≡◌, ℕ, suc, ◌+◌, ◌<◌, ◌≤◌, List, [], ◌∷◌, ◌++◌, Bool, true, false, cond, length}
use Rattle.std.proofs.Common.{get_or, set, take, drop, refl, sym, ap, ◌∙◌, arith, append_assoc, append-nil, add-one}
use Rattle.std.specs.List.{count_by}
use Rattle.std.proofs.Math.Seq.{drop-cons}
use Rattle.std.proofs.lemmas.List.{drop_all, take_all, take_more_set, drop-set-lt}
use Rattle.std.proofs.lemmas.List.Sums.{sum_by-append}
use Rattle.ln_script.specs.Step.{ToyStep, with_place, is_hook, next_place, numbered}

-- ---- how many steps register one

abbrev pub count : List ToyStep → ℕ
count ss = count_by is_hook ss

pub count-cons : (s : ToyStep) (ss : List ToyStep) → count (s ∷ ss) ≡ count (s ∷ []) + count ss
count-cons s ss = sum_by-append (λ x. cond (is_hook x) 1 0) (s ∷ []) ss

pub count-append : (ss ts : List ToyStep) → count (ss ++ ts) ≡ count ss + count ts
count-append ss ts = sum_by-append (λ x. cond (is_hook x) 1 0) ss ts

next_is : (b : Bool) (n : ℕ) → next_place b n ≡ n + (0 + cond b 1 0)
next_is true n = refl
next_is false n = omega arith

count_from : (n : ℕ) (s : ToyStep) (ss : List ToyStep) → next_place (is_hook s) n + count ss ≡ n + count (s ∷ ss)
count_from n s ss =
    let one : count (s ∷ []) ≡ 0 + cond (is_hook s) 1 0 = refl in
    omega (arith, one, next_is (is_hook s) n, count-cons s ss)

-- those after others go on from their places
numbered_both : (n : ℕ) (ss ts : List ToyStep) → numbered n (ss ++ ts) ≡ numbered n ss ++ numbered (n + count ss) ts
numbered_both n [] ts = ap (λ m. numbered m ts) (let same : n ≡ n + 0 = omega arith in same)
numbered_both n (s ∷ ss) ts =
    ap (λ (l : List ToyStep). with_place n s ∷ l) (numbered_both (next_place (is_hook s) n) ss ts
    ∙ ap (λ m. numbered (next_place (is_hook s) n) ss ++ numbered m ts) (count_from n s ss))

pub numbered_all : (ss ts : List ToyStep) → numbered 0 (ss ++ ts) ≡ numbered 0 ss ++ numbered (count ss) ts
numbered_all ss ts =
    numbered_both 0 ss ts
    ∙ ap (λ n. numbered 0 ss ++ numbered n ts) (let same : 0 + count ss ≡ count ss = omega arith in
    same)

-- ---- a list in which they get them

-- the first i have their places, and the rest get theirs from this one on
abbrev pub HavePlaces : ℕ → List ToyStep → List ToyStep → ℕ → ℕ → Type 0
HavePlaces first all now i place = numbered first all ≡ take i now ++ numbered place (drop i now)

-- as many have theirs
abbrev pub HaveCounted : ℕ → List ToyStep → List ToyStep → ℕ → ℕ → Type 0
HaveCounted first all now i place = first + count all ≡ place + count (drop i now)

front : (xs : List ToyStep) (i place : ℕ) (x y : ToyStep) → i < length xs
    → take i xs ++ y ∷ numbered place (drop (suc i) xs)
    ≡ take (i + 1) (set xs i y) ++ numbered place (drop (i + 1) (set xs i y))
front xs i place x y within =
    let rest : drop (suc i) xs ≡ drop (i + 1) (set xs i y) =
    sym (rw add-one (drop-set-lt (suc i) xs i y (omega arith))) in
    sym (append_assoc (take i xs) (y ∷ []) (numbered place (drop (suc i) xs)))
    ∙ ap (λ (ss : List ToyStep). ss ++ numbered place (drop (suc i) xs)) (sym (take_more_set xs i y within))
    ∙ ap (λ (ss : List ToyStep). take (i + 1) (set xs i y) ++ numbered place ss) rest

pub one_more : (first : ℕ) (all now new : List ToyStep) (i place next : ℕ) (d y : ToyStep) → i < length now
    → HavePlaces first all now i place → new ≡ set now i y → y ≡ with_place place (get_or now i d)
    → next ≡ next_place (is_hook (get_or now i d)) place → HavePlaces first all new (i + 1) next
one_more first all now new i place next d y within so is here then =
    so ∙ ap (λ (ss : List ToyStep). take i now ++ numbered place ss) (drop-cons now i d within)
    ∙ ap (λ (s : ToyStep). take i now ++ s ∷ numbered (next_place (is_hook (get_or now i d)) place) (drop (suc i) now))
    (sym here)
    ∙ ap (λ n. take i now ++ y ∷ numbered n (drop (suc i) now)) (sym then)
    ∙ front now i next (get_or now i d) y within
    ∙ ap (λ (ss : List ToyStep). take (i + 1) ss ++ numbered next (drop (i + 1) ss)) (sym is)

pub counts_more : (first : ℕ) (all now new : List ToyStep) (i place next : ℕ) (d y : ToyStep) → i < length now
    → HaveCounted first all now i place → new ≡ set now i y → next ≡ next_place (is_hook (get_or now i d)) place
    → HaveCounted first all new (i + 1) next
counts_more first all now new i place next d y within so is then =
    let rest : drop (suc i) now ≡ drop (i + 1) new =
    sym (rw add-one (drop-set-lt (suc i) now i y (omega arith)))
    ∙ ap (λ (ss : List ToyStep). drop (i + 1) ss) (sym is) in
    so ∙ ap (λ (ss : List ToyStep). place + count ss) (drop-cons now i d within)
    ∙ sym (count_from place (get_or now i d) (drop (suc i) now)) ∙ ap (λ n. n + count (drop (suc i) now)) (sym then)
    ∙ ap (λ (ss : List ToyStep). next + count ss) rest

pub all_have : (first : ℕ) (all now : List ToyStep) (i place : ℕ) → HavePlaces first all now i place → length now ≤ i
    → now ≡ numbered first all
all_have first all now i place so end =
    sym (so ∙ ap (λ (ss : List ToyStep). take i now ++ numbered place ss) (drop_all i now end)
    ∙ append-nil (take i now) ∙ take_all i now end)

pub all_counted : (first : ℕ) (all now : List ToyStep) (i place : ℕ) → HaveCounted first all now i place
    → length now ≤ i → place ≡ first + count all
all_counted first all now i place so end =
    let none : count (drop i now) ≡ 0 = ap count (drop_all i now end) in omega (arith, so, none)
