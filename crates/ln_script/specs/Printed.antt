-- What is written where something is to be printed, and where there is a failure instead.
use Rattle.std.specs.Prelude.{◌≡◌, ℕ, List, Option, Result, Ok, Err}
use Rattle.std.specs.Io.KnownBytes.{Appends}
use Rattle.ln_msgs.specs.Pings.Written.{IsPartlyWritten}

-- there is a text, and all of it was written
abbrev pub Prints : {E : Type 0} → Option (List ℕ) → Option (List ℕ) → Result (List ℕ) E → Type 0
Prints old new (Ok text) = Appends old new text
Prints old new (Err e) = ⊥

-- a beginning of the text was written, where there is one, and else nothing
abbrev pub PrintsPartly : {E : Type 0} → Option (List ℕ) → Option (List ℕ) → Result (List ℕ) E → Type 0
PrintsPartly old new (Ok text) = IsPartlyWritten old new text
PrintsPartly old new (Err e) = new ≡ old
