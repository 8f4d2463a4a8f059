-- A script: what its lines ask for, in order.
use Rattle.std.specs.Prelude.{◌≡◌, ℕ, ◌+◌, List, [], ◌∷◌, ◌++◌, Bool, true, ◌==◌, Option, Some, None, Result, Ok}
use Rattle.std.specs.Prelude.{Err, if◌then◌else◌, length, is_some, codes}
use Rattle.std.specs.List.{slice_split, flat_map}
use Rattle.std.specs.Str.{bytes_eq}
use Rattle.ln_script.specs.declared.hook.HookLine.{HookLine}
use Rattle.ln_script.specs.declared.hook.Hooked.{Hooked}
use Rattle.ln_script.specs.Hook.{hooked_at}
use Rattle.ln_script.specs.Step.{ToyStep, steps_at, numbered}

-- what stands between line feeds
abbrev pub lines : List ℕ → List (List ℕ)
lines text = slice_split (λ b. b == 10) text

-- what stands between spaces
abbrev pub words : List ℕ → List (List ℕ)
words line = slice_split (λ b. b == 32) line

-- empty, or a comment: 35 is the code of #
abbrev pub is_skipped : List ℕ → Bool
is_skipped [] = true
is_skipped (b ∷ bs) = b == 35

-- the steps that a line asks for, none where it is skipped; None for a line that is bad
abbrev pub line_at : List ℕ → Option (List ToyStep)
line_at l = if is_skipped l then Some [] else steps_at (words l)

-- steps in front of what is read further on
abbrev pub behind : List ToyStep → Result (List ToyStep) ℕ → Result (List ToyStep) ℕ
behind ss (Ok ts) = Ok (ss ++ ts)
behind ss (Err n) = Err n

-- what lines ask for, of which the first has this number; or the number of the first that is bad
abbrev pub line_then : ℕ → Option (List ToyStep) → Result (List ToyStep) ℕ → Result (List ToyStep) ℕ
line_then n None rest = Err n
line_then n (Some ss) rest = behind ss rest

unfoldable pub steps_from : ℕ → List (List ℕ) → Result (List ToyStep) ℕ
steps_from n [] = Ok []
steps_from n (l ∷ ls) = line_then n (line_at l) (steps_from (n + 1) ls)

-- the hooks get their places
abbrev pub with_places : Result (List ToyStep) ℕ → Result (List ToyStep) ℕ
with_places (Ok ss) = Ok (numbered 0 ss)
with_places (Err n) = Err n

abbrev pub script_at : List ℕ → Result (List ToyStep) ℕ
script_at text = with_places (steps_from 1 (lines text))

-- ---- its hooks, in the order of their lines

abbrev pub hooks_by : Option Hooked → List HookLine
hooks_by None = []
hooks_by (Some h) = h.hook ∷ []

abbrev pub word_hooks : List ℕ → List (List ℕ) → List HookLine
word_hooks w ws = if bytes_eq w (codes "hook") then hooks_by (hooked_at ws) else []

-- of a line's words
abbrev pub hooks_at : List (List ℕ) → List HookLine
hooks_at [] = []
hooks_at (w ∷ ws) = word_hooks w ws

unfoldable pub line_hooks : List ℕ → List HookLine
line_hooks l = if is_skipped l then [] else hooks_at (words l)

abbrev pub script_hooks : List ℕ → List HookLine
script_hooks text = flat_map line_hooks (lines text)

-- ---- the first bad line

-- each of these lines asks for a step, or is skipped
abbrev pub AreGood : List (List ℕ) → Type 0
AreGood [] = Unit {0}
AreGood (l ∷ ls) = (is_some (line_at l) ≡ true) × AreGood ls

-- the line of this number, counted from 1, is bad, and none before it is
pub record IsFirstBad (ls : List (List ℕ)) (n : ℕ) : Type 0 where
  pub before : List (List ℕ)
  pub bad : List ℕ
  pub behind : List (List ℕ)
  pub lines_are : ls ≡ before ++ bad ∷ behind
  pub number : n ≡ length before + 1
  pub good : AreGood before
  pub is_bad : line_at bad ≡ None
