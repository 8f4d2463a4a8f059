-- A script is refused by its first bad line.
use Rattle.std.proofs.Common.{◌≡◌, ℕ, suc, ◌+◌, List, [], ◌∷◌, ◌++◌, length, Option, Some, None, Result, Ok, Err, true}
use Rattle.std.proofs.Common.{is_some, refl, sym, ap, ◌∙◌, arith}
use Rattle.ln_script.specs.Step.{ToyStep}
use Rattle.ln_script.specs.Script.{lines, line_at, behind, line_then, steps_from, with_places, script_at, AreGood}
use Rattle.ln_script.specs.Script.{IsFirstBad}
use Rattle.ln_script.proofs.Script.{one_line, no_line}

-- the same, where the first of the lines has the number k
record IsBadFrom (k n : ℕ) (ls : List (List ℕ)) : Type 0 where
  pub before : List (List ℕ)
  pub bad : List ℕ
  pub rest : List (List ℕ)
  pub lines_are : ls ≡ before ++ bad ∷ rest
  pub number : n ≡ k + length before
  pub good : AreGood before
  pub is_bad : line_at bad ≡ None

refused_behind : (ss : List ToyStep) (r : Result (List ToyStep) ℕ) (n : ℕ) → behind ss r ≡ Err n → r ≡ Err n
refused_behind ss (Ok ts) n e = absurd cc
refused_behind ss (Err m) n e = e

same_number : (m n : ℕ) → (let it : Result (List ToyStep) ℕ = Err m in it) ≡ Err n → n ≡ m
same_number m n e = cc

one_more : (k n : ℕ) (l : List ℕ) (ls : List (List ℕ)) → is_some (line_at l) ≡ true → IsBadFrom (k + 1) n ls
    → IsBadFrom k n (l ∷ ls)
one_more k n l ls good b = record {
  before = l ∷ b.before;
  bad = b.bad;
  rest = b.rest;
  lines_are = ap (λ (it : List (List ℕ)). l ∷ it) b.lines_are;
  number = omega (arith, b.number);
  good = (good, b.good);
  is_bad = b.is_bad;
}

by_line : (k n : ℕ) (l : List ℕ) (ls : List (List ℕ)) (o : Option (List ToyStep)) → line_at l ≡ o
    → (steps_from (k + 1) ls ≡ Err n → IsBadFrom (k + 1) n ls)
    → line_then k o (steps_from (k + 1) ls) ≡ Err n → IsBadFrom k n (l ∷ ls)
by_line k n l ls None is further e = record {
  before = [];
  bad = l;
  rest = ls;
  lines_are = refl;
  number = omega (arith, same_number k n e);
  good = tt;
  is_bad = is;
}
by_line k n l ls (Some ss) is further e =
    one_more k n l ls (ap (λ (o : Option (List ToyStep)). is_some o) is)
    (further (refused_behind ss (steps_from (k + 1) ls) n e))

bad_from : (k n : ℕ) (ls : List (List ℕ)) → steps_from k ls ≡ Err n → IsBadFrom k n ls
bad_from k n [] e = let it = sym (no_line k) ∙ e in absurd cc
bad_from k n (l ∷ ls) e =
    by_line k n l ls (line_at l) refl (λ f. bad_from (k + 1) n ls f) (sym (one_line k l ls) ∙ e)

good_line : (k : ℕ) (o : Option (List ToyStep)) (r : Result (List ToyStep) ℕ) (m : ℕ) → is_some o ≡ true → r ≡ Err m
    → line_then k o r ≡ Err m
good_line k None r m good e = absurd cc
good_line k (Some ss) r m good e = ap (behind ss) e

refused_at : (k : ℕ) (before : List (List ℕ)) (bad : List ℕ) (rest : List (List ℕ)) → AreGood before
    → line_at bad ≡ None → steps_from k (before ++ bad ∷ rest) ≡ Err (k + length before)
refused_at k [] bad rest good is =
    one_line k bad rest ∙ ap (λ (o : Option (List ToyStep)). line_then k o (steps_from (k + 1) rest)) is
    ∙ ap (λ (m : ℕ). let it : Result (List ToyStep) ℕ = Err m in it) (let same : k ≡ k + 0 = omega arith in same)
refused_at k (l ∷ ls) bad rest good is =
    one_line k l (ls ++ bad ∷ rest)
    ∙ good_line k (line_at l) (steps_from (k + 1) (ls ++ bad ∷ rest)) (k + 1 + length ls) good.0
    (refused_at (k + 1) ls bad rest good.1 is)
    ∙ ap (λ (m : ℕ). let it : Result (List ToyStep) ℕ = Err m in it)
    (let same : k + 1 + length ls ≡ k + suc (length ls) = omega arith in same)

-- places are no matter of it
unplaced : (r : Result (List ToyStep) ℕ) (n : ℕ) → with_places r ≡ Err n → r ≡ Err n
unplaced (Ok ss) n e = absurd cc
unplaced (Err m) n e = e

pub first_bad : (text : List ℕ) (n : ℕ) → script_at text ≡ Err n → IsFirstBad (lines text) n
first_bad text n e =
    let b = bad_from 1 n (lines text) (unplaced (steps_from 1 (lines text)) n e) in
    record {
      before = b.before;
      bad = b.bad;
      behind = b.rest;
      lines_are = b.lines_are;
      number = omega (arith, b.number);
      good = b.good;
      is_bad = b.is_bad;
    }

pub only_first : (text : List ℕ) (n : ℕ) → IsFirstBad (lines text) n → script_at text ≡ Err n
only_first text n b =
    ap (λ (ls : List (List ℕ)). with_places (steps_from 1 ls)) b.lines_are
    ∙ ap with_places (refused_at 1 b.before b.bad b.behind b.good b.is_bad)
    ∙ ap (λ (m : ℕ). let it : Result (List ToyStep) ℕ = Err m in it)
    (let same : 1 + length b.before ≡ n = omega (arith, b.number) in same)
