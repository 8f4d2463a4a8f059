-- What is logged of a save: level, text and key-values.
use Rattle.std.specs.Prelude.{ℕ, List, [], ◌∷◌, ◌++◌, Option, Some, None, Result, Ok, Err, codes, decimal}
use Rattle.hex.specs.Hex.{encode_lower}
use Rattle.log.specs.Kv.{Pair}
use Rattle.log.specs.declared.level.Level.{Level}
use Rattle.log.specs.declared.level.Level.TheVariants as level
use Rattle.ln_refusals.specs.Refusal.{refusal_number}
use Rattle.ln_refusals.specs.declared.refusal.Refusal.{Refusal}

-- a pair that may be none
abbrev pub listed : Option Pair → List Pair
listed None = []
listed (Some pair) = pair ∷ []

-- the number by which something was refused, or has failed
abbrev pub error_text : ℕ → Pair
error_text number = (codes "error", decimal number)

-- how long a save took, in microseconds
abbrev pub micros_text : Option ℕ → Option Pair
micros_text None = None
micros_text (Some micros) = Some (codes "micros", decimal micros)

module _ {A : Type 0} where
  abbrev pub save_level : Result A Refusal → Level
  save_level (Ok _) = level.Debug
  save_level (Err refusal) = level.Warn

  abbrev pub save_words : Result A Refusal → List ℕ
  save_words (Ok _) = codes "saved"
  save_words (Err refusal) = codes "save refused"

  abbrev pub save_error : Result A Refusal → Option Pair
  save_error (Ok _) = None
  save_error (Err refusal) = Some (error_text (refusal_number refusal))

  -- how many bytes, how many microseconds where that is known, the refusal
  abbrev pub save_pairs : ℕ → Option ℕ → Result A Refusal → List Pair
  save_pairs bytes micros answer =
      (codes "bytes", decimal bytes) ∷ (listed (micros_text micros) ++ listed (save_error answer))

  -- the channel's id in hexadecimal before them
  abbrev pub store_pairs : List ℕ → ℕ → Option ℕ → Result A Refusal → List Pair
  store_pairs id bytes micros answer = (codes "channel_id", encode_lower id) ∷ save_pairs bytes micros answer
