-- Messages (BOLT 1, "Lightning Message Format"): a type in two bytes, the fields that the type has, and a
-- TLV stream up to the end.
use Rattle.std.specs.Prelude.{◌≡◌, ◌<◌, ◌≤◌, ℕ, ◌%◌, IsTrue, List, [], ◌++◌, length, Option, Some, None, Result}
use Rattle.std.specs.Prelude.{Ok, Err, Bool, ◌==◌, ◌||◌, ◌&&◌, nat_lt, nat_le, if◌then◌else◌}
use Rattle.ln_bytes.specs.Endian.{big_bytes}
use Rattle.ln_bytes.specs.Reading.{◌>>=◌}
use Rattle.ln_bytes.specs.Tlv.{stream_at, stream_bytes, AreValid, AreFit, have_lengths}
use Rattle.ln_bytes.specs.declared.fault.Fault.{Fault}
use Rattle.ln_bytes.specs.declared.fault.Fault.TheVariants.{TooLong, UnknownEvenType, FieldLength}
use Rattle.ln_bytes.specs.declared.record.Record.{Record}
use Rattle.ln_msgs.specs.Codec.Field.{Value, AreOf, fields_at, fields_bytes, number_at}
use Rattle.ln_msgs.specs.Messages.Table.{Form, kinds_of, form_of}

-- an odd type that isn't known may be passed over; so are the types 256 to 265, which tell of other
-- channels
abbrev pub may_be_ignored : ℕ → Bool
may_be_ignored typ = (typ % 2 == 1) || (nat_le 256 typ && nat_le typ 265)

-- ---- what a message's bytes are

-- a message of a known type
pub record Wire : Type 0 where
  pub typ : ℕ
  pub values : List Value
  pub records : List Record

abbrev pub formed_bytes : Option Form → Wire → List ℕ
formed_bytes None w = []
formed_bytes (Some form) w = big_bytes 2 w.typ ++ fields_bytes (kinds_of form) w.values ++ stream_bytes w.records

abbrev pub wire_bytes : Wire → List ℕ
wire_bytes w = formed_bytes (form_of w.typ) w

-- the fields are those of the form, and the records may stand after them
pub record IsFormed (form : Form) (w : Wire) : Type 0 where
  pub typ : w.typ < 65536
  pub values : AreOf (kinds_of form) w.values
  pub valid : AreValid form.known_even None w.records
  pub fit : AreFit w.records
  pub lengths : IsTrue (have_lengths form.lengths w.records)

-- ---- how a message is read

-- a message as it is heard: of a known type, or ignored
pub data Heard : Type 0 where
  Known : (w : Wire) → Heard
  Ignored : (typ : ℕ) → Heard

-- The bytes are a spelling of this. A message of a known type has one spelling; an ignored one is spelled by
-- all messages of its type.
abbrev pub IsSpelledBy : Heard → List ℕ → Type 0
IsSpelledBy (Known w) bytes = (form : Form) × (form_of w.typ ≡ Some form) × IsFormed form w
    × (bytes ≡ formed_bytes (Some form) w)
IsSpelledBy (Ignored typ) bytes = (form_of typ ≡ None) × IsTrue (may_be_ignored typ) × (typ < 65536)
    × (payload : List ℕ) × (bytes ≡ big_bytes 2 typ ++ payload)

-- the most bytes that a message has
abbrev pub longest : ℕ
longest = 65535

-- the bytes say this: they are a spelling of it, and no more than a message may have
abbrev pub Says : Heard → List ℕ → Type 0
Says h bytes = (length bytes ≤ longest) × IsSpelledBy h bytes

unfoldable pub formed_at : Form → ℕ → List ℕ → Result Heard Fault
formed_at form typ bytes = do
  values ← fields_at (kinds_of form) bytes
  records ← stream_at form.known_even values.1
  if have_lengths form.lengths records then Ok (Known (record { typ = typ; values = values.0; records = records }))
      else Err FieldLength

abbrev pub payload_at : Option Form → ℕ → List ℕ → Result Heard Fault
payload_at (Some form) typ bytes = formed_at form typ bytes
payload_at None typ bytes = if may_be_ignored typ then Ok (Ignored typ) else Err UnknownEvenType

-- what the bytes of a message say, or their first fault
unfoldable pub message_at : List ℕ → Result Heard Fault
message_at bytes =
    if nat_lt longest (length bytes) then Err TooLong
    else (number_at 2 bytes >>= λ typ. payload_at (form_of typ.0) typ.0 typ.1)
