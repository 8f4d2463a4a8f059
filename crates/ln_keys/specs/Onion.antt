-- The parts of an onion packet (BOLT 4, "Packet Structure"): a version in one byte, a key in 33, the payloads of
-- the hops in 1,300, an HMAC in 32.
use Rattle.std.specs.Prelude.{ℕ, List, take, drop, slice_index}

abbrev pub onion_version : List ℕ → ℕ
onion_version onion = slice_index onion 0

abbrev pub onion_key : List ℕ → List ℕ
onion_key onion = take 33 (drop 1 onion)

abbrev pub onion_payloads : List ℕ → List ℕ
onion_payloads onion = take 1300 (drop 34 onion)

abbrev pub onion_hmac : List ℕ → List ℕ
onion_hmac onion = take 32 (drop 1334 onion)
