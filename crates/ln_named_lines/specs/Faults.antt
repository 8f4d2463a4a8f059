-- What may be wrong with a line of named values.
use Rattle.std.specs.Prelude.{ℕ, List, [], ◌∷◌, ◌++◌, codes, Bool, not, ◌&&◌, ◌||◌, is_some}
use Rattle.std.specs.Prelude.{Option, None, Some, if◌then◌else◌}
use Rattle.std.specs.Fmt.{decimal}
use Rattle.std.specs.List.{list_any}
use Rattle.std.specs.Str.{bytes_eq}
use Rattle.ln_named_lines.specs.Words.{texts, parts_at, gives, number_in}
use Rattle.ln_named_lines.specs.declared.fault.FaultKind.{FaultKind}
use Rattle.ln_named_lines.specs.declared.fault.FaultKind.TheVariants.{NoName, UnknownName, DoubledName, NoNumber}
use Rattle.ln_named_lines.specs.declared.fault.FaultKind.TheVariants.{MissingName}
use Rattle.ln_named_lines.specs.declared.fault.LineFault.{LineFault}
use Rattle.ln_named_lines.specs.declared.names.Names.{Names}

-- a fault with its word
abbrev pub told : LineFault → FaultKind × List ℕ
told f = (f.kind, f.word.now)

abbrev pub kind_text : FaultKind → List ℕ
kind_text NoName = codes "not NAME=VALUE"
kind_text UnknownName = codes "unknown name"
kind_text DoubledName = codes "doubled name"
kind_text NoNumber = codes "no number"
kind_text MissingName = codes "missing name"

unfoldable pub line_text : ℕ → List ℕ → List ℕ → List ℕ
line_text line kind word = codes "line " ++ (decimal line ++ (codes ": " ++ (kind ++ (codes ": " ++ word))))

abbrev pub fault_text : ℕ → FaultKind × List ℕ → List ℕ
fault_text line f = line_text line (kind_text f.0) f.1

abbrev pub is_name : List ℕ → List (List ℕ) → Bool
is_name name names = list_any (λ other. bytes_eq other name) names

-- a name whose value is a number
abbrev pub is_numeric : Names → List ℕ → Bool
is_numeric n name = is_name name (texts n.numbers.now) || is_name name (texts n.optional.now)

-- what is wrong with a word before these words
abbrev pub fault_of_parts : Names → List ℕ → List ℕ → List (List ℕ) → Option FaultKind
fault_of_parts n name value rest =
    if not (is_numeric n name) && not (is_name name (texts n.texts.now)) then Some UnknownName
    else (if list_any (gives name) rest then Some DoubledName
    else (if is_numeric n name && not (is_some (number_in value)) then Some NoNumber else None))

abbrev pub fault_by : Names → Option (List ℕ × List ℕ) → List (List ℕ) → Option FaultKind
fault_by n None rest = Some NoName
fault_by n (Some p) rest = fault_of_parts n p.0 p.1 rest

abbrev pub fault_of : Names → List ℕ → List (List ℕ) → Option FaultKind
fault_of n w rest = fault_by n (parts_at w) rest

-- the first word with which something is wrong
abbrev pub told_or : Option FaultKind → List ℕ → Option (FaultKind × List ℕ) → Option (FaultKind × List ℕ)
told_or None w other = other
told_or (Some kind) w other = Some (kind, w)

abbrev pub bad_word : Names → List (List ℕ) → Option (FaultKind × List ℕ)
bad_word n [] = None
bad_word n (w ∷ ws) = told_or (fault_of n w ws) w (bad_word n ws)

-- the first of these names that no word gives a value
abbrev pub missing_name : List (List ℕ) → List (List ℕ) → Option (FaultKind × List ℕ)
missing_name [] ws = None
missing_name (name ∷ names) ws =
    if list_any (gives name) ws then missing_name names ws else Some (MissingName, name)

abbrev pub first_of : Option (FaultKind × List ℕ) → Option (FaultKind × List ℕ) → Option (FaultKind × List ℕ)
first_of None other = other
first_of (Some f) other = Some f

-- the first fault: of a word, else the first missing name
abbrev pub first_fault : Names → List (List ℕ) → Option (FaultKind × List ℕ)
first_fault n ws =
    first_of (bad_word n ws) (first_of (missing_name (texts n.texts.now) ws) (missing_name (texts n.numbers.now) ws))
