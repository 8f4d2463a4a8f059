-- Reading a script line by line: what was read, and then what the rest asks for.
use Rattle.std.proofs.Common.{◌≡◌, ℕ, ◌+◌, ◌<◌, ◌≤◌, List, [], ◌∷◌, ◌++◌, length, get_or, drop, Option}
use Rattle.std.proofs.Common.{Some, None, Result, Ok, Err, refl, sym, ap, ◌∙◌, arith, append_assoc}
use Rattle.std.proofs.Common.{append-nil, add-one}
use Rattle.std.specs.Borrow.{Bor}
use Rattle.std.proofs.Math.Seq.{drop-cons}
use Rattle.std.proofs.lemmas.List.{drop_all, get_or-map, length-map}
use Rattle.ln_script.specs.Step.{texts, ToyStep, joined}
use Rattle.ln_script.specs.Script.{line_at, behind, line_then, steps_from}

behind_nothing : (r : Result (List ToyStep) ℕ) → behind [] r ≡ r
behind_nothing (Ok ts) = refl
behind_nothing (Err n) = refl

behind_both : (ss ts : List ToyStep) (r : Result (List ToyStep) ℕ) → behind ss (behind ts r) ≡ behind (ss ++ ts) r
behind_both ss ts (Ok us) = ap (λ (vs : List ToyStep). let it : Result (List ToyStep) ℕ = Ok vs in
    it) (sym (append_assoc ss ts us))
behind_both ss ts (Err n) = refl

pub one_line : (n : ℕ) (l : List ℕ) (ls : List (List ℕ))
    → steps_from n (l ∷ ls) ≡ line_then n (line_at l) (steps_from (n + 1) ls)
unfolding steps_from
one_line n l ls = refl

pub no_line : (n : ℕ) → steps_from n [] ≡ Ok []
unfolding steps_from
no_line n = refl

-- the line of this place and those after it
cut_at : (xs : List (List ℕ)) (i : ℕ) → i < length xs → drop i xs ≡ get_or xs i [] ∷ drop (i + 1) xs
cut_at xs i within = rw (add-one, drop-cons xs i [])

front : (n : ℕ) (xs : List (List ℕ)) (i : ℕ) → i < length xs
    → steps_from n (drop i xs) ≡ line_then n (line_at (get_or xs i [])) (steps_from (n + 1) (drop (i + 1) xs))
front n xs i within = ap (λ (ls : List (List ℕ)). steps_from n ls) (cut_at xs i within)
    ∙ one_line n (get_or xs i []) (drop (i + 1) xs)

pub first_lines : (ss : List ToyStep) (xs ls : List (List ℕ)) → ss ≡ [] → xs ≡ ls
    → steps_from 1 ls ≡ behind ss (steps_from 1 xs)
first_lines ss xs ls none same = ap (λ (it : List (List ℕ)). steps_from 1 it) (sym same)
    ∙ sym (behind_nothing (steps_from 1 xs)) ∙ ap (λ (it : List ToyStep). behind it (steps_from 1 xs)) (sym none)

some_is : (ss ts : List ToyStep) → (let it : Option (List ToyStep) = Some ss in it) ≡ Some ts → ts ≡ ss
some_is ss ts e = cc

-- r is what the script asks for: these steps, and what the lines from this place on do
abbrev Reads : Result (List ToyStep) ℕ → List ToyStep → List (List ℕ) → ℕ → Type 0
Reads r ss xs i = r ≡ behind ss (steps_from (i + 1) (drop i xs))

-- the same with the line of this place told
told : (r : Result (List ToyStep) ℕ) (ss : List ToyStep) (xs : List (List ℕ)) (i : ℕ) (l : List ℕ)
    → (o : Option (List ToyStep)) → Reads r ss xs i → i < length xs → l ≡ get_or xs i [] → line_at l ≡ o
    → r ≡ behind ss (line_then (i + 1) o (steps_from (i + 1 + 1) (drop (i + 1) xs)))
told r ss xs i l o reads within is e =
    reads ∙ ap (behind ss) (front (i + 1) xs i within
    ∙ ap (λ (x : Option (List ToyStep)). line_then (i + 1) x (steps_from (i + 1 + 1) (drop (i + 1) xs)))
    (ap line_at (sym is) ∙ e))

-- after a line, whose steps joined the others where it is good
pub after_line : (r : Result (List ToyStep) ℕ) (ss ts : List ToyStep) (xs : List (List ℕ)) (i : ℕ) (l : List ℕ)
    → (o : Option (List ToyStep)) → Reads r ss xs i → i < length xs → l ≡ get_or xs i [] → line_at l ≡ o
    → Some ts ≡ joined ss o → Reads r ts xs (i + 1)
after_line r ss ts xs i l None reads within is e good = absurd cc
after_line r ss ts xs i l (Some us) reads within is e good =
    told r ss xs i l (Some us) reads within is e
    ∙ behind_both ss us (steps_from (i + 1 + 1) (drop (i + 1) xs))
    ∙ ap (λ (vs : List ToyStep). behind vs (steps_from (i + 1 + 1) (drop (i + 1) xs))) (some_is ts (ss ++ us) good)

pub at_bad : (r : Result (List ToyStep) ℕ) (ss : List ToyStep) (xs : List (List ℕ)) (i : ℕ) (l : List ℕ)
    → (o : Option (List ToyStep)) → Reads r ss xs i → i < length xs → l ≡ get_or xs i [] → line_at l ≡ o
    → None ≡ joined ss o → r ≡ Err (i + 1)
at_bad r ss xs i l None reads within is e bad = told r ss xs i l None reads within is e
at_bad r ss xs i l (Some us) reads within is e bad = absurd cc

pub at_end : (r : Result (List ToyStep) ℕ) (ss : List ToyStep) (xs : List (List ℕ)) (i : ℕ) → Reads r ss xs i
    → length xs ≤ i → r ≡ Ok ss
at_end r ss xs i reads all =
    reads ∙ ap (λ (ls : List (List ℕ)). behind ss (steps_from (i + 1) ls)) (drop_all i xs all)
    ∙ ap (behind ss) (no_line (i + 1)) ∙ ap (λ (vs : List ToyStep). let it : Result (List ToyStep) ℕ = Ok vs in
    it) (append-nil ss)

-- what is left to be read, where no line is bad
behind_so : (ss steps : List ToyStep) (r : Result (List ToyStep) ℕ) → behind ss r ≡ Ok steps
    → (rest : List ToyStep) × (steps ≡ ss ++ rest)
behind_so ss steps (Ok ts) is = (ts, cc)
behind_so ss steps (Err n) is = absurd cc

pub left_to_read : (r : Result (List ToyStep) ℕ) (ss : List ToyStep) (xs : List (List ℕ)) (i : ℕ) → Reads r ss xs i
    → (steps : List ToyStep) → r ≡ Ok steps → (rest : List ToyStep) × (steps ≡ ss ++ rest)
left_to_read r ss xs i reads steps is = behind_so ss steps (steps_from (i + 1) (drop i xs)) (sym reads ∙ is)

-- ---- the texts of pieces

pub as_many : (items : List (Bor (List ℕ))) (i : ℕ) → i < length items → i < length (texts items)
as_many items i within = omega (arith, length-map items (λ (b : Bor (List ℕ)). b.now))

pub no_more : (items : List (Bor (List ℕ))) (i : ℕ) → length items ≤ i → length (texts items) ≤ i
no_more items i all = omega (arith, length-map items (λ (b : Bor (List ℕ)). b.now))

pub text_at : (items : List (Bor (List ℕ))) (i : ℕ) (d : Bor (List ℕ)) → i < length items
    → (get_or items i d).now ≡ get_or (texts items) i []
text_at items i d within = sym (get_or-map (λ (b : Bor (List ℕ)). b.now) items i d [] within)
