-- The fields of a message (BOLT 1, "Fundamental Types"): what kinds there are, the bytes of a value, and
-- how a value is read from the front of bytes.
use Rattle.std.specs.List.{AllByRecursion, concat}
use Rattle.std.specs.Prelude.{◌≡◌, ℕ, zero, suc, ◌^◌, ◌<◌, List, [], ◌∷◌, ◌++◌, length, take, drop, Result, Ok, Err}
use Rattle.std.specs.Prelude.{nat_lt, if◌then◌else◌}
use Rattle.ln_bytes.specs.Endian.{big_bytes, big_number}
use Rattle.ln_bytes.specs.Reading.{◌>>=◌}
use Rattle.ln_bytes.specs.declared.fault.Fault.{Fault}
use Rattle.ln_bytes.specs.declared.fault.Fault.TheVariants.{Truncated}

-- A number of so many bytes, the highest first; so many bytes; a byte string after its length in two
-- bytes; or a list of items of so many bytes each after its count in two bytes.
pub data Kind : Type 0 where
  Number : (size : ℕ) → Kind
  Fixed : (size : ℕ) → Kind
  Sized : Kind
  Listed : (size : ℕ) → Kind

-- a number, bytes, or a list of items
pub data Value : Type 0 where
  Num : (n : ℕ) → Value
  Str : (bytes : List ℕ) → Value
  Many : (items : List (List ℕ)) → Value

-- ---- what a value's bytes are

-- the value is one of this kind
abbrev pub IsOf : Kind → Value → Type 0
IsOf (Number size) (Num n) = n < 256 ^ size
IsOf (Fixed size) (Str bytes) = length bytes ≡ size
IsOf Sized (Str bytes) = length bytes < 65536
IsOf (Listed size) (Many items) = (length items < 65536) × AllByRecursion (λ item. length item ≡ size) items
IsOf (Number size) (Str bytes) = ⊥
IsOf (Number size) (Many items) = ⊥
IsOf (Fixed size) (Num n) = ⊥
IsOf (Fixed size) (Many items) = ⊥
IsOf Sized (Num n) = ⊥
IsOf Sized (Many items) = ⊥
IsOf (Listed size) (Num n) = ⊥
IsOf (Listed size) (Str bytes) = ⊥

abbrev pub value_bytes : Kind → Value → List ℕ
value_bytes (Number size) (Num n) = big_bytes size n
value_bytes (Fixed size) (Str bytes) = bytes
value_bytes Sized (Str bytes) = big_bytes 2 (length bytes) ++ bytes
value_bytes (Listed size) (Many items) = big_bytes 2 (length items) ++ concat items
value_bytes (Number size) (Str bytes) = []
value_bytes (Number size) (Many items) = []
value_bytes (Fixed size) (Num n) = []
value_bytes (Fixed size) (Many items) = []
value_bytes Sized (Num n) = []
value_bytes Sized (Many items) = []
value_bytes (Listed size) (Num n) = []
value_bytes (Listed size) (Str bytes) = []

-- as many values as kinds, each of its kind
abbrev pub AreOf : List Kind → List Value → Type 0
AreOf [] [] = Unit {0}
AreOf (k ∷ ks) (v ∷ vs) = IsOf k v × AreOf ks vs
AreOf [] (v ∷ vs) = ⊥
AreOf (k ∷ ks) [] = ⊥

-- the values one after the other
abbrev pub fields_bytes : List Kind → List Value → List ℕ
fields_bytes [] vs = []
fields_bytes (k ∷ ks) [] = []
fields_bytes (k ∷ ks) (v ∷ vs) = value_bytes k v ++ fields_bytes ks vs

-- ---- how a value is read, and what follows it

-- so many bytes
abbrev pub bytes_at : ℕ → List ℕ → Result (List ℕ × List ℕ) Fault
bytes_at size bytes = if nat_lt (length bytes) size then Err Truncated else Ok (take size bytes, drop size bytes)

abbrev pub number_at : ℕ → List ℕ → Result (ℕ × List ℕ) Fault
number_at size bytes = if nat_lt (length bytes) size then Err Truncated else Ok (big_number size bytes, drop size bytes)

unfoldable pub string_at : List ℕ → Result (List ℕ × List ℕ) Fault
string_at bytes = do
  len ← number_at 2 bytes
  bytes_at len.0 len.1

-- so many items
unfoldable pub items_at : ℕ → ℕ → List ℕ → Result (List (List ℕ) × List ℕ) Fault
items_at size zero bytes = Ok ([], bytes)
items_at size (suc count) bytes = do
  first ← bytes_at size bytes
  others ← items_at size count first.1
  Ok (first.0 ∷ others.0, others.1)

unfoldable pub list_at : ℕ → List ℕ → Result (List (List ℕ) × List ℕ) Fault
list_at size bytes = do
  count ← number_at 2 bytes
  items_at size count.0 count.1

abbrev pub field_at : Kind → List ℕ → Result (Value × List ℕ) Fault
field_at (Number size) bytes = do
  n ← number_at size bytes
  Ok (Num n.0, n.1)
field_at (Fixed size) bytes = do
  s ← bytes_at size bytes
  Ok (Str s.0, s.1)
field_at Sized bytes = do
  s ← string_at bytes
  Ok (Str s.0, s.1)
field_at (Listed size) bytes = do
  l ← list_at size bytes
  Ok (Many l.0, l.1)

abbrev pub fields_at : List Kind → List ℕ → Result (List Value × List ℕ) Fault
fields_at [] bytes = Ok ([], bytes)
fields_at (k ∷ ks) bytes = do
  first ← field_at k bytes
  others ← fields_at ks first.1
  Ok (first.0 ∷ others.0, others.1)
