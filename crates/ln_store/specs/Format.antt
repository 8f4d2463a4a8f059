-- How values are written into bytes and read from the front of bytes. Numbers are big-endian.
use Rattle.std.specs.Prelude.{◌≡◌, ◌⊎◌, ℕ, zero, suc, ◌^◌, List, [], ◌∷◌, ◌++◌, length, take, drop, Bool, true, false}
use Rattle.std.specs.Prelude.{◌==◌, ◌&&◌, nat_lt, Option, Some, None, Result, Ok, Err, if◌then◌else◌}
use Rattle.std.specs.List.{flat_map, list_all}
use Rattle.ln_bytes.specs.Endian.{big_bytes, big_number}
use Rattle.ln_refusals.specs.declared.refusal.Refusal.{Refusal}
use Rattle.ln_refusals.specs.declared.refusal.Refusal.TheVariants as refusal

-- the bytes of a value, whether it has such, and the value at the front of bytes with what follows it
pub record Format (A : Type 0) : Type 0 where
  pub bytes : A → List ℕ
  pub fits : A → Bool
  pub at : List ℕ → Option (A × List ℕ)

-- one step of reading, and then the next, where the first found a value
infixl 10 ◌>>=◌
abbrev pub ◌>>=◌ : {A B : Type 0} → Option A → (A → Option B) → Option B
(Some x) >>= f = f x
None >>= f = None

-- what was answered, seen by view, is what reading gives, unless memory ran out; where it gives nothing, the bytes
-- are damaged
abbrev pub Finds : {X Y : Type 0} → (X → Y) → Result X Refusal → Option Y → Type 0
Finds view (Ok x) read = read ≡ Some (view x)
Finds view (Err e) read = (e ≡ refusal.Memory) ⊎ ((e ≡ refusal.Damaged) × (read ≡ None))

-- ---- numbers and bytes

abbrev pub number_at : ℕ → List ℕ → Option (ℕ × List ℕ)
number_at size bytes = if nat_lt (length bytes) size then None else Some (big_number size bytes, drop size bytes)

abbrev pub bytes_at : ℕ → List ℕ → Option (List ℕ × List ℕ)
bytes_at size bytes = if nat_lt (length bytes) size then None else Some (take size bytes, drop size bytes)

-- a number of so many bytes
abbrev pub number : ℕ → Format ℕ
number size = record { bytes = big_bytes size; fits = λ n. nat_lt n (256 ^ size); at = number_at size }

-- so many bytes
abbrev pub fixed : ℕ → Format (List ℕ)
fixed size = record { bytes = λ b. b; fits = λ b. length b == size; at = bytes_at size }

abbrev pub sized_at : ℕ → List ℕ → Option (List ℕ × List ℕ)
sized_at size bytes = do
  len ← number_at size bytes
  bytes_at len.0 len.1

-- bytes after their length, which is a number of so many bytes
abbrev pub sized : ℕ → Format (List ℕ)
sized size = record {
  bytes = λ b. big_bytes size (length b) ++ b;
  fits = λ b. nat_lt (length b) (256 ^ size);
  at = sized_at size;
}

-- ---- one after the other

abbrev pub both_at : {A B : Type 0} → Format A → Format B → List ℕ → Option ((A × B) × List ℕ)
both_at f g bytes = do
  x ← f.at bytes
  y ← g.at x.1
  Some ((x.0, y.0), y.1)

infixr 20 ◌&◌
abbrev pub ◌&◌ : {A B : Type 0} → Format A → Format B → Format (A × B)
f & g = record {
  bytes = λ p. f.bytes p.0 ++ g.bytes p.1;
  fits = λ p. f.fits p.0 && g.fits p.1;
  at = both_at f g;
}

-- so many values one after the other
unfoldable pub items_at : {A : Type 0} → Format A → ℕ → List ℕ → Option (List A × List ℕ)
items_at f zero bytes = Some ([], bytes)
items_at f (suc count) bytes = do
  first ← f.at bytes
  others ← items_at f count first.1
  Some (first.0 ∷ others.0, others.1)

abbrev pub list_at : {A : Type 0} → Format A → List ℕ → Option (List A × List ℕ)
list_at f bytes = do
  count ← number_at 8 bytes
  items_at f count.0 count.1

-- values after their count, which is a number of eight bytes
abbrev pub list : {A : Type 0} → Format A → Format (List A)
list f = record {
  bytes = λ xs. big_bytes 8 (length xs) ++ flat_map f.bytes xs;
  fits = λ xs. nat_lt (length xs) (256 ^ 8) && list_all f.fits xs;
  at = list_at f;
}

-- ---- one of several

abbrev pub optional_bytes : {A : Type 0} → Format A → Option A → List ℕ
optional_bytes f None = 0 ∷ []
optional_bytes f (Some x) = 1 ∷ f.bytes x

abbrev pub optional_fits : {A : Type 0} → Format A → Option A → Bool
optional_fits f None = true
optional_fits f (Some x) = f.fits x

abbrev pub optional_at : {A : Type 0} → Format A → List ℕ → Option (Option A × List ℕ)
optional_at f [] = None
optional_at f (tag ∷ bytes) =
    if tag == 0 then Some (None, bytes) else (if tag == 1 then (f.at bytes >>= λ x. Some (Some x.0, x.1)) else None)

-- a zero byte for none; a one and then the value
abbrev pub optional : {A : Type 0} → Format A → Format (Option A)
optional f = record { bytes = optional_bytes f; fits = optional_fits f; at = optional_at f }

abbrev pub tagged_at : {A : Type 0} → (ℕ → Format A) → List ℕ → Option (A × List ℕ)
tagged_at forms [] = None
tagged_at forms (tag ∷ bytes) = (forms tag).at bytes

-- a byte that tells the form of the value, and then the value in that form
abbrev pub tagged : {A : Type 0} → (A → ℕ) → (ℕ → Format A) → Format A
tagged tag forms = record {
  bytes = λ x. tag x ∷ (forms (tag x)).bytes x;
  fits = λ x. (forms (tag x)).fits x;
  at = tagged_at forms;
}

-- no value has this form
abbrev pub nothing : {A : Type 0} → Format A
nothing = record { bytes = λ x. []; fits = λ x. false; at = λ bytes. None }

-- ---- values made of other values

abbrev pub made_at : {A B : Type 0} → (B → A) → Format B → List ℕ → Option (A × List ℕ)
made_at make f bytes = do
  x ← f.at bytes
  Some (make x.0, x.1)

-- each value is made of a value of the other form, and tells it
abbrev pub made : {A B : Type 0} → (B → A) → (A → B) → Format B → Format A
made make parts f = record { bytes = λ x. f.bytes (parts x); fits = λ x. f.fits (parts x); at = made_at make f }

abbrev pub bytes_of_some : {B : Type 0} → Format B → Option B → List ℕ
bytes_of_some f None = []
bytes_of_some f (Some y) = f.bytes y

abbrev pub fits_some : {B : Type 0} → Format B → Option B → Bool
fits_some f None = false
fits_some f (Some y) = f.fits y

-- a value that is one of this kind, which is made of a value of the other form
abbrev pub kind : {A B : Type 0} → (B → A) → (A → Option B) → Format B → Format A
kind make parts f = record {
  bytes = λ x. bytes_of_some f (parts x);
  fits = λ x. fits_some f (parts x);
  at = made_at make f;
}

abbrev pub found : {A : Type 0} → Option A → List ℕ → Option (A × List ℕ)
found None rest = None
found (Some x) rest = Some (x, rest)

abbrev pub code_at : {A : Type 0} → (ℕ → Option A) → ℕ → List ℕ → Option (A × List ℕ)
code_at meaning size bytes = do
  n ← number_at size bytes
  found (meaning n.0) n.1

abbrev pub is_some : {A : Type 0} → Option A → Bool
is_some None = false
is_some (Some x) = true

-- a value that is told by a number of so many bytes
abbrev pub code : {A : Type 0} → ℕ → (A → ℕ) → (ℕ → Option A) → Format A
code size number_of meaning = record {
  bytes = λ x. big_bytes size (number_of x);
  fits = λ x. nat_lt (number_of x) (256 ^ size) && is_some (meaning (number_of x));
  at = code_at meaning size;
}

abbrev pub only_at : {A : Type 0} → (A → Bool) → Format A → List ℕ → Option (A × List ℕ)
only_at test f bytes = do
  x ← f.at bytes
  if test x.0 then Some x else None

-- the values that pass the test
abbrev pub only : {A : Type 0} → (A → Bool) → Format A → Format A
only test f = record { bytes = f.bytes; fits = λ x. f.fits x && test x; at = only_at test f }
