-- The fields of open_channel and accept_channel by the groups of fields that stand in both. This is no part of
-- the protocol: it lets a reader be proved a group at a time.
use Rattle.std.specs.Prelude.{ℕ, List, [], ◌∷◌, ◌++◌, Result, Ok, Err, if◌then◌else◌}
use Rattle.ln_bytes.specs.Reading.{◌>>=◌}
use Rattle.ln_bytes.specs.Tlv.{stream_at, have_lengths}
use Rattle.ln_bytes.specs.declared.fault.Fault.{Fault}
use Rattle.ln_bytes.specs.declared.fault.Fault.TheVariants.{FieldLength}
use Rattle.ln_msgs.specs.Codec.Field.{Kind, Number, Fixed, Value, Num, Str, field_at, fields_at}
use Rattle.ln_msgs.specs.Messages.Table.{Form}
use Rattle.ln_msgs.specs.Messages.Message.{Heard, Known}
use Rattle.ln_msgs.specs.declared.messages.opening.Funding.{Funding}
use Rattle.ln_msgs.specs.declared.messages.opening.Amounts.{Amounts}
use Rattle.ln_msgs.specs.declared.messages.opening.Points.{Points}

-- one field, or some that are read together
pub data Piece : Type 0 where
  One : (kind : Kind) → Piece
  Group : (kinds : List Kind) → Piece

abbrev pub kinds_in : List Piece → List Kind
kinds_in [] = []
kinds_in (One k ∷ ps) = k ∷ kinds_in ps
kinds_in (Group ks ∷ ps) = ks ++ kinds_in ps

unfoldable pub group_at : List Kind → List ℕ → Result (List Value × List ℕ) Fault
group_at ks bytes = fields_at ks bytes

abbrev pub pieces_at : List Piece → List ℕ → Result (List Value × List ℕ) Fault
pieces_at [] bytes = Ok ([], bytes)
pieces_at (One k ∷ ps) bytes = do
  first ← field_at k bytes
  others ← pieces_at ps first.1
  Ok (first.0 ∷ others.0, others.1)
pieces_at (Group ks ∷ ps) bytes = do
  first ← group_at ks bytes
  others ← pieces_at ps first.1
  Ok (first.0 ++ others.0, others.1)

-- a message read piece by piece
unfoldable pub pieced_at : List Piece → Form → ℕ → List ℕ → Result Heard Fault
pieced_at pieces form typ bytes = do
  values ← pieces_at pieces bytes
  records ← stream_at form.known_even values.1
  if have_lengths form.lengths records then Ok (Known (record { typ = typ; values = values.0; records = records }))
      else Err FieldLength

-- chain_hash, temporary_id, funding_satoshis, push_msat
abbrev pub funding_kinds : List Kind
funding_kinds = Fixed 32 ∷ Fixed 32 ∷ Number 8 ∷ Number 8 ∷ []

abbrev pub funding_values : Funding → List Value
funding_values f = Str f.chain_hash ∷ Str f.temporary_id ∷ Num f.funding_satoshis ∷ Num f.push_msat ∷ []

-- dust_limit_satoshis, max_htlc_value_in_flight_msat, channel_reserve_satoshis, htlc_minimum_msat
abbrev pub amount_kinds : List Kind
amount_kinds = Number 8 ∷ Number 8 ∷ Number 8 ∷ Number 8 ∷ []

abbrev pub amount_values : Amounts → List Value
amount_values a =
    Num a.dust_limit_satoshis ∷ Num a.max_htlc_value_in_flight_msat ∷ Num a.channel_reserve_satoshis ∷
    Num a.htlc_minimum_msat ∷ []

-- funding_pubkey, the four basepoints, first_per_commitment_point
abbrev pub point_kinds : List Kind
point_kinds = Fixed 33 ∷ Fixed 33 ∷ Fixed 33 ∷ Fixed 33 ∷ Fixed 33 ∷ Fixed 33 ∷ []

abbrev pub point_values : Points → List Value
point_values p =
    Str p.funding_pubkey ∷ Str p.revocation_basepoint ∷ Str p.payment_basepoint ∷ Str p.delayed_payment_basepoint ∷
    Str p.htlc_basepoint ∷ Str p.first_per_commitment_point ∷ []

abbrev pub open_pieces : List Piece
open_pieces =
    Group funding_kinds ∷ Group amount_kinds ∷ One (Number 4) ∷ One (Number 2) ∷ One (Number 2) ∷ Group point_kinds ∷
    One (Number 1) ∷ []

abbrev pub accept_pieces : List Piece
accept_pieces =
    One (Fixed 32) ∷ Group amount_kinds ∷ One (Number 4) ∷ One (Number 2) ∷ One (Number 2) ∷ Group point_kinds ∷ []
