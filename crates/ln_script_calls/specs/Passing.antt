-- Which reports a command may print.
use Rattle.std.specs.Prelude.{◌≡◌, ◌⊎◌, ℕ, List, [], ◌++◌, codes, Option, Some}
use Rattle.ln_script.specs.declared.program.choice.Choice.{Choice}
use Rattle.ln_script.specs.Done.{Does, DoesPartly}

-- all that a command prints with this on its input; of a script one of the reports that `ReportsScript` allows
abbrev pub IsPrinted : Choice → (input report : List ℕ) → Type 0
IsPrinted choice input report = (after : Option (List ℕ)) × Does (Some input) after (Some []) (Some report) choice

-- a beginning of that, where the command is refused, and then the line of the refusal
pub record IsCutShort (choice : Choice) (input report : List ℕ) : Type 0 where
  pub after : Option (List ℕ)
  pub begun : List ℕ
  pub line : List ℕ
  pub stops : DoesPartly (Some input) after (Some []) (Some begun) choice
  pub report_is : report ≡ begun ++ codes "[exit " ++ line

-- one of both
abbrev pub IsReport : Choice → (input report : List ℕ) → Type 0
IsReport choice input report = IsPrinted choice input report ⊎ IsCutShort choice input report
