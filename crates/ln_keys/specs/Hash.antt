-- The hash by which an HTLC names its payment.
use Rattle.std.specs.Prelude.{ℕ, List}
use Rattle.sha2.specs.Sha256.{sha256}

-- BOLT 2, "Removing an HTLC": a preimage fulfils the HTLCs of this payment hash
abbrev pub payment_hash : List ℕ → List ℕ
payment_hash preimage = sha256 preimage
