-- Values of several kinds, and bytes that are one value from the first to the last.
use Rattle.std.specs.Prelude.{◌≡◌, ℕ, List, [], ◌∷◌, length, slice_index, ◌<◌, Bool, true, false, ◌==◌}
use Rattle.std.specs.Prelude.{Option, Some, None, Result, Ok, Err, if◌then◌else◌}
use Rattle.ln_bytes.specs.Answers as answers
use Rattle.ln_refusals.specs.declared.refusal.Refusal.{Refusal}
use Rattle.ln_refusals.specs.declared.refusal.Refusal.TheVariants as refusal
use Rattle.ln_store.specs.Format.{Format, code}

-- ---- one of several kinds

-- the byte that tells a value's kind, the bytes of its fields, and whether these fit their forms
pub record Told : Type 0 where
  pub tag : ℕ
  pub fields : List ℕ
  pub fits : Bool

-- a value of the kind of this number, whose fields have this form
abbrev pub told_by : {A : Type 0} → ℕ → Format A → A → Told
told_by tag f x = record { tag = tag; fields = f.bytes x; fits = f.fits x }

abbrev pub kinds_at : {A : Type 0} → (ℕ → List ℕ → Option (A × List ℕ)) → List ℕ → Option (A × List ℕ)
kinds_at at [] = None
kinds_at at (tag ∷ bytes) = at tag bytes

-- a byte that tells the kind, and then the fields of that kind
abbrev pub one_of : {A : Type 0} → (A → Told) → (ℕ → List ℕ → Option (A × List ℕ)) → Format A
one_of told at = record { bytes = λ x. (told x).tag ∷ (told x).fields; fits = λ x. (told x).fits; at = kinds_at at }

-- no bytes
abbrev pub empty : Format (Unit {0})
empty = record { bytes = λ x. []; fits = λ x. true; at = λ bytes. Some (tt, bytes) }

-- all bytes that there are
abbrev pub all_bytes : Format (List ℕ)
all_bytes = record { bytes = λ x. x; fits = λ x. true; at = λ bytes. Some (bytes, []) }

-- ---- bits

abbrev pub bit_number : Bool → ℕ
bit_number false = 0
bit_number true = 1

abbrev pub bit_of : ℕ → Option Bool
bit_of n = if n == 0 then Some false else (if n == 1 then Some true else None)

-- a byte: 0 for no, 1 for yes
unfoldable pub bit : Format Bool
bit = code 1 bit_number bit_of

-- ---- bytes that are one value

abbrev pub nothing_left : {A : Type 0} → Option (A × List ℕ) → Result A Refusal
nothing_left None = Err refusal.Damaged
nothing_left (Some x) = if length x.1 == 0 then Ok x.0 else Err refusal.Damaged

-- the value that the bytes are, or that they are damaged: they begin with none, or something is left
abbrev pub whole_in : {A : Type 0} → Format A → List ℕ → Result A Refusal
whole_in f bytes = nothing_left (f.at bytes)

-- the bytes of a value that fits its form; another is too long
abbrev pub written_in : {A : Type 0} → Format A → A → Result (List ℕ) Refusal
written_in f x = if f.fits x then Ok (f.bytes x) else Err refusal.TooLong

-- the bytes are those of a value that fits its form
pub record IsSpelledBy {A : Type 0} (f : Format A) (bytes : List ℕ) (x : A) : Type 0 where
  pub bytes_are : bytes ≡ f.bytes x
  pub fits : f.fits x ≡ true

-- what was answered, seen by view, is what is said, unless memory ran out
abbrev pub Gives : {X Y : Type 0} → (X → Y) → Result X Refusal → Result Y Refusal → Type 0
Gives view answer said = answers.Gives (λ e fault. e ≡ refusal.Memory) view said answer

-- what is written is read again, and what is read is spelled so
pub record HasOneForm {A : Type 0} (f : Format A) : Type 0 where
  pub reads_what_is_written : (x : A) → f.fits x ≡ true → whole_in f (f.bytes x) ≡ Ok x
  pub spells_what_is_read : (bytes : List ℕ) (x : A) → ((n : ℕ) → slice_index bytes n < 256) → whole_in f bytes ≡ Ok x
      → IsSpelledBy f bytes x
