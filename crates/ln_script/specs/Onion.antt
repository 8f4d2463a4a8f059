-- The onion of an HTLC that a script offers: what its hops forward, and what its last node is paid for (BOLT 4,
-- "payload Format").
use Rattle.std.specs.Prelude.{ℕ, List, [], ◌∷◌, ◌++◌, replicate, Option, Some, None}
use Rattle.ln_bytes.specs.ShortId.{short_id_bytes}
use Rattle.ln_bytes.specs.Tlv.{as_record, stream_bytes}
use Rattle.ln_bytes.specs.Truncated.{truncated}
use Rattle.ln_script.specs.declared.hop.Hop.{Hop}
use Rattle.ln_script.specs.Word.{◌>>=◌, decimal_at, number_at, short_id_at}

-- BxTxO AMT CLTV
unfoldable pub hop_at : List ℕ → List ℕ → List ℕ → Option Hop
hop_at id amt cltv = do
  channel ← short_id_at id
  amount ← decimal_at amt
  expiry ← number_at 4294967295 cltv
  Some (record { amount = amount; expiry = expiry; id = channel })

-- amt_to_forward, outgoing_cltv_value, short_channel_id
unfoldable pub hop_payload : Hop → List ℕ
hop_payload h = stream_bytes (
    as_record 2 (truncated h.amount)
    ∷ as_record 4 (truncated h.expiry)
    ∷ as_record 6 (short_id_bytes h.id.block h.id.tx h.id.output)
    ∷ []
    )

-- amt_to_forward, outgoing_cltv_value, payment_data: a secret of 32 bytes, and the total, which is the amount
unfoldable pub last_payload : ℕ → ℕ → ℕ → List ℕ
last_payload payment amount expiry = stream_bytes (
    as_record 2 (truncated amount)
    ∷ as_record 4 (truncated expiry)
    ∷ as_record 8 (replicate 32 payment ++ truncated amount)
    ∷ []
    )

-- payloads in front of those that are read further on
abbrev pub in_front : List (List ℕ) → Option (List (List ℕ)) → Option (List (List ℕ))
in_front ps None = None
in_front ps (Some qs) = Some (ps ++ qs)

-- A hop's three words each: the channel that it forwards by, what it forwards, and when that times out. Each gives the
-- next node a payload. The last node is paid what the hop before it forwards, or what is offered where there is none.
unfoldable pub payloads_at : ℕ → ℕ → ℕ → List (List ℕ) → Option (List (List ℕ))
payloads_at payment amount expiry [] = Some (last_payload payment amount expiry ∷ [])
payloads_at payment amount expiry (id ∷ amt ∷ cltv ∷ words) = do
  hop ← hop_at id amt cltv
  in_front (hop_payload hop ∷ []) (payloads_at payment hop.amount hop.expiry words)
payloads_at payment amount expiry _ = None

-- the hop in front
abbrev pub front_hop : List (List ℕ) → Option Hop
front_hop (id ∷ amt ∷ cltv ∷ words) = hop_at id amt cltv
front_hop _ = None
