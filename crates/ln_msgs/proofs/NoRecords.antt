-- A stream of no bytes has no records.
use Rattle.std.proofs.Common.{◌≡◌, ℕ, List, [], Ok, refl}
use Rattle.ln_bytes.specs.Tlv.{stream_at}
use Rattle.ln_bytes.proofs.Streams.{stream_again}

pub no_records : (known : List ℕ) → stream_at known [] ≡ Ok []
no_records known = stream_again known [] [] (record { valid = tt; fit = tt; bytes_are = refl })
