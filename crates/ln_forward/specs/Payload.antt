-- What the payload of a hop asks for (BOLT 4, "payload Format").
use Rattle.std.specs.Prelude.{◌≡◌, ℕ, ◌<◌, ◌^◌, List, [], ◌∷◌, ◌++◌, length, take, drop, Option, Some, None, option_map}
use Rattle.std.specs.Prelude.{IfSome, Result, Ok, Err, ◌==◌, nat_lt, if◌then◌else◌}
use Rattle.ln_bytes.specs.Reading.{◌>>=◌}
use Rattle.ln_bytes.specs.ShortId.{short_id_bytes}
use Rattle.ln_bytes.specs.Tlv.{Spells, stream_at, value_of, as_record, stream_bytes}
use Rattle.ln_bytes.specs.Truncated.{truncated, truncated_at}
use Rattle.ln_bytes.specs.declared.fault.Fault.{Fault}
use Rattle.ln_bytes.specs.declared.fault.Fault.TheVariants.{FieldLength}
use Rattle.ln_bytes.specs.declared.record.Record.{Record}
use Rattle.ln_bytes.specs.declared.short_id.ShortId.{ShortId}
use Rattle.ln_forward.specs.declared.payload.Payload.{Payload}
use Rattle.ln_forward.specs.declared.payload.Payment.{Payment}

-- a payload, with the short channel id as its eight bytes
pub record Hop : Type 0 where
  pub amount : Option ℕ
  pub expiry : Option ℕ
  pub next : Option (List ℕ)
  pub payment : Option Payment

abbrev pub id_bytes : ShortId → List ℕ
id_bytes id = short_id_bytes id.block id.tx id.output

abbrev pub hop_of : Payload → Hop
hop_of p = record { amount = p.amount; expiry = p.expiry; next = option_map id_bytes p.next; payment = p.payment }

-- amt_to_forward, outgoing_cltv_value, short_channel_id and payment_data
abbrev pub known : List ℕ
known = 2 ∷ 4 ∷ 6 ∷ 8 ∷ []

-- ---- what a payload's bytes are

abbrev pub payment_bytes : Payment → List ℕ
payment_bytes p = p.secret ++ truncated p.total

-- a value, where there is one, spells this number below 2 ^ bits
abbrev pub SpellsNumber : ℕ → Option ℕ → Option (List ℕ) → Type 0
SpellsNumber bits n value = (value ≡ option_map truncated n) × IfSome n (λ k. k < 2 ^ bits)

abbrev pub SpellsId : Option (List ℕ) → Option (List ℕ) → Type 0
SpellsId id value = (value ≡ id) × IfSome id (λ bytes. length bytes ≡ 8)

-- a secret of 32 bytes, and a number below 2 ^ 64
abbrev pub SpellsPayment : Option Payment → Option (List ℕ) → Type 0
SpellsPayment p value = (value ≡ option_map payment_bytes p)
    × IfSome p (λ p. (length p.secret ≡ 32) × (p.total < 2 ^ 64))

-- the known records have the values of the hop; of others there may be any
pub record HasHop (h : Hop) (rs : List Record) : Type 0 where
  pub amount : SpellsNumber 64 h.amount (value_of 2 rs)
  pub expiry : SpellsNumber 32 h.expiry (value_of 4 rs)
  pub next : SpellsId h.next (value_of 6 rs)
  pub payment : SpellsPayment h.payment (value_of 8 rs)

pub record SpellsHop (h : Hop) (bytes : List ℕ) : Type 0 where
  pub records : List Record
  pub spells : Spells known records bytes
  pub has : HasHop h records

-- ---- how a payload is written

-- the values fit their fields
pub record IsWideHop (h : Hop) : Type 0 where
  pub amount : IfSome h.amount (λ n. n < 2 ^ 64)
  pub expiry : IfSome h.expiry (λ n. n < 2 ^ 32)
  pub next : IfSome h.next (λ bytes. length bytes ≡ 8)
  pub payment : IfSome h.payment (λ p. (length p.secret ≡ 32) × (p.total < 2 ^ 64))

-- a record of this type, where there is a value
abbrev pub record_if : ℕ → Option (List ℕ) → List Record
record_if typ None = []
record_if typ (Some value) = as_record typ value ∷ []

-- one for each value that there is, and no others
abbrev pub hop_records : Hop → List Record
hop_records h =
    record_if 2 (option_map truncated h.amount) ++ (record_if 4 (option_map truncated h.expiry)
    ++ (record_if 6 h.next ++ record_if 8 (option_map payment_bytes h.payment)))

abbrev pub payload_bytes : Hop → List ℕ
payload_bytes h = stream_bytes (hop_records h)

-- ---- how a payload is read

-- a truncated number in a field that has room for so many bytes
abbrev pub number_in : ℕ → Option (List ℕ) → Result (Option ℕ) Fault
number_in room None = Ok None
number_in room (Some value) = truncated_at room value >>= λ n. Ok (Some n)

abbrev pub short_id_in : Option (List ℕ) → Result (Option (List ℕ)) Fault
short_id_in None = Ok None
short_id_in (Some value) = if length value == 8 then Ok (Some value) else Err FieldLength

-- a secret, and a truncated number after it
abbrev pub payment_in : Option (List ℕ) → Result (Option Payment) Fault
payment_in None = Ok None
payment_in (Some value) =
    if nat_lt (length value) 32 then Err FieldLength
    else (truncated_at 8 (drop 32 value) >>= λ total. Ok (Some (record { secret = take 32 value; total = total })))

-- the first fault of a known record, in their order
unfoldable pub hop_in : List Record → Result Hop Fault
hop_in rs = do
  amount ← number_in 8 (value_of 2 rs)
  expiry ← number_in 4 (value_of 4 rs)
  next ← short_id_in (value_of 6 rs)
  payment ← payment_in (value_of 8 rs)
  Ok (record { amount = amount; expiry = expiry; next = next; payment = payment })

-- what a payload asks for, or its first fault
abbrev pub payload_at : List ℕ → Result Hop Fault
payload_at bytes = stream_at known bytes >>= hop_in
