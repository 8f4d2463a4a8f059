-- TLV streams (BOLT 1, "Type-Length-Value Format"): records one after the other, up to the end.
use Rattle.std.specs.Prelude.{◌≡◌, ◌≢◌, ℕ, zero, suc, ◌%◌, ◌^◌, ◌<◌, List, [], ◌∷◌, ◌++◌, length, take, drop, Option}
use Rattle.std.specs.Prelude.{Some, None, Result, Ok, Err, Bool, true, not, ◌||◌, ◌==◌, nat_lt, IsTrue, if◌then◌else◌}
use Rattle.std.specs.List.{flat_map, list_all, list_any, AllByRecursion}
use Rattle.ln_bytes.specs.declared.fault.Fault.{Fault}
use Rattle.ln_bytes.specs.declared.fault.Fault.TheVariants.{Truncated, TlvOrder, TlvUnknownEven, TlvLength}
use Rattle.ln_bytes.specs.declared.record.Record.{Record}
use Rattle.ln_bytes.specs.Bigsize.{bigsize, bigsize_at}
use Rattle.ln_bytes.specs.Reading.{◌>>=◌}

-- the record of a type and a value
abbrev pub as_record : ℕ → List ℕ → Record
as_record typ value = record { typ = typ; value = value }

-- a record: its type, the length of its value, and the value
abbrev pub record_bytes : Record → List ℕ
record_bytes r = bigsize r.typ ++ bigsize (length r.value) ++ r.value

-- the type and the length fit into a BigSize
pub record Fits (r : Record) : Type 0 where
  pub typ : r.typ < 2 ^ 64
  pub len : length r.value < 2 ^ 64

abbrev pub AreFit : List Record → Type 0
AreFit rs = AllByRecursion Fits rs

-- the records one after the other
abbrev pub stream_bytes : List Record → List ℕ
stream_bytes rs = flat_map record_bytes rs

abbrev pub found_or : ℕ → Record → Option (List ℕ) → Option (List ℕ)
found_or typ r rest = if r.typ == typ then Some r.value else rest

-- the value of the record of this type
abbrev pub value_of : ℕ → List Record → Option (List ℕ)
value_of typ [] = None
value_of typ (r ∷ rs) = found_or typ r (value_of typ rs)

-- a type may follow the one before it, where there is one
abbrev pub may_follow : Option ℕ → ℕ → Bool
may_follow None t = true
may_follow (Some before) t = nat_lt before t

-- an odd type may be passed over by who doesn't know it; an even one has to be known
abbrev pub is_allowed : List ℕ → ℕ → Bool
is_allowed known_even t = (t % 2 == 1) || list_any (λ k. k == t) known_even

-- the types rise strictly, from the one before on
abbrev pub RiseFrom : Option ℕ → List Record → Type 0
RiseFrom before [] = Unit {0}
RiseFrom before (r ∷ rs) = IsTrue (may_follow before r.typ) × RiseFrom (Some r.typ) rs

abbrev pub AreRising : List Record → Type 0
AreRising rs = RiseFrom None rs

-- each even type is known
abbrev pub AreKnown : List ℕ → List Record → Type 0
AreKnown known_even rs = AllByRecursion (λ r. IsTrue (is_allowed known_even r.typ)) rs

-- a record of this type has a value of this length
abbrev pub has_length : ℕ × ℕ → Record → Bool
has_length asked r = not (r.typ == asked.0) || (length r.value == asked.1)

-- each record has the length that its type asks for
abbrev pub have_lengths : List (ℕ × ℕ) → List Record → Bool
have_lengths lengths rs = list_all (λ asked. list_all (has_length asked) rs) lengths

-- ---- what a stream spells

-- the types rise strictly, and each even one is known
abbrev pub AreValid : List ℕ → Option ℕ → List Record → Type 0
AreValid known_even before [] = Unit {0}
AreValid known_even before (r ∷ rs) =
    IsTrue (may_follow before r.typ) × IsTrue (is_allowed known_even r.typ) × AreValid known_even (Some r.typ) rs

-- the bytes are these records and nothing else
pub record Spells (known_even : List ℕ) (rs : List Record) (bytes : List ℕ) : Type 0 where
  pub valid : AreValid known_even None rs
  pub fit : AreFit rs
  pub bytes_are : bytes ≡ stream_bytes rs

-- ---- the first fault

-- the length and the value after a type, and what follows
unfoldable pub value_at : List ℕ → ℕ → List ℕ → Result (Record × List ℕ) Fault
value_at known_even typ bytes = do
  len ← bigsize_at bytes
  if nat_lt (length (drop len.1 bytes)) len.0 then Err TlvLength
      else (if is_allowed known_even typ then Ok (
        record { typ = typ; value = take len.0 (drop len.1 bytes) },
        drop len.0 (drop len.1 bytes),
      )
      else Err TlvUnknownEven)

-- The record at the front of the bytes, after one of the type before, and what follows it; or its
-- first fault.
unfoldable pub record_at : List ℕ → Option ℕ → List ℕ → Result (Record × List ℕ) Fault
record_at known_even before bytes = do
  typ ← bigsize_at bytes
  if not (may_follow before typ.0) then Err TlvOrder else value_at known_even typ.0 (drop typ.1 bytes)

-- the type of the last record, where there is one
abbrev pub last_type : Option ℕ → List Record → Option ℕ
last_type before [] = before
last_type before (r ∷ rs) = last_type (Some r.typ) rs

-- after some records stands one that has this fault, its first
pub record HasFault (known_even : List ℕ) (bytes : List ℕ) (f : Fault) : Type 0 where
  pub good : List Record
  pub bad : List ℕ
  pub valid : AreValid known_even None good
  pub fit : AreFit good
  pub bytes_are : bytes ≡ stream_bytes good ++ bad
  pub some_left : bad ≢ []
  pub fault : record_at known_even (last_type None good) bad ≡ Err f

-- ---- reading, from left to right

-- the records from here on; each takes some bytes, so as many turns as there are bytes are enough
unfoldable pub records_at : ℕ → List ℕ → Option ℕ → List ℕ → Result (List Record) Fault
records_at turns known_even before [] = Ok []
records_at zero known_even before (b ∷ bytes) = Err Truncated
records_at (suc turns) known_even before (b ∷ bytes) = do
  first ← record_at known_even before (b ∷ bytes)
  others ← records_at turns known_even (Some first.0.typ) first.1
  Ok (first.0 ∷ others)

-- the records of a stream, or its first fault
unfoldable pub stream_at : List ℕ → List ℕ → Result (List Record) Fault
stream_at known_even bytes = records_at (length bytes) known_even None bytes

-- whether the records of a stream have the lengths that their types ask for, or the stream's first fault
abbrev pub lengths_at : List ℕ → List (ℕ × ℕ) → List ℕ → Result Bool Fault
lengths_at known_even lengths bytes = do
  records ← stream_at known_even bytes
  Ok (have_lengths lengths records)
