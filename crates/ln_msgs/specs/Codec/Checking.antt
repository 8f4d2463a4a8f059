-- What is told of bytes of which nothing is kept: what follows, or the first fault.
use Rattle.std.specs.Prelude.{ℕ, List, length, drop, Result, Ok, Err, nat_lt, if◌then◌else◌}
use Rattle.ln_bytes.specs.Reading.{◌>>=◌}
use Rattle.ln_bytes.specs.Tlv.{stream_at, have_lengths}
use Rattle.ln_bytes.specs.declared.fault.Fault.{Fault}
use Rattle.ln_bytes.specs.declared.fault.Fault.TheVariants.{Truncated, FieldLength}
use Rattle.ln_msgs.specs.Codec.Field.{Kind, field_at, fields_at}

-- what follows so many bytes
abbrev pub behind : ℕ → List ℕ → Result (List ℕ) Fault
behind size bytes = if nat_lt (length bytes) size then Err Truncated else Ok (drop size bytes)

-- what follows a field
abbrev pub behind_field : Kind → List ℕ → Result (List ℕ) Fault
behind_field kind bytes = do
  field ← field_at kind bytes
  Ok field.1

-- what follows fields
abbrev pub behind_fields : List Kind → List ℕ → Result (List ℕ) Fault
behind_fields kinds bytes = do
  fields ← fields_at kinds bytes
  Ok fields.1

-- no more than that something is read without a fault
abbrev pub checked : {A : Type 0} → Result A Fault → Result (Unit {0}) Fault
checked reading = do
  found ← reading
  Ok tt

-- the same of records, up to the end
abbrev pub checked_records_at : List ℕ → List (ℕ × ℕ) → List ℕ → Result (Unit {0}) Fault
checked_records_at known_even lengths bytes = do
  records ← stream_at known_even bytes
  if have_lengths lengths records then Ok tt else Err FieldLength
