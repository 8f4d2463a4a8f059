-- Channel ids (BOLT 2, "Definition of channel_id").
use Rattle.std.specs.Prelude.{ℕ, ◌/◌, ◌%◌, List, [], ◌∷◌, ◌++◌, take, slice_index, bit_xor}

-- the funding transaction's id, with the two bytes of the output's index xored into its last two
abbrev pub id_of_channel : List ℕ → ℕ → List ℕ
id_of_channel txid index = take 30 txid ++ bit_xor (slice_index txid 30) (index / 256)
    ∷ bit_xor (slice_index txid 31) (index % 256) ∷ []
