-- Short channel ids (BOLT 7, "Definition of short_channel_id"): the block, the transaction in it, and
-- the output of that.
use Rattle.std.specs.Prelude.{◌≡◌, ◌≢◌, ℕ, List, ◌∷◌, ◌++◌, length, slice_index}
use Rattle.std.specs.Fmt.{decimal}
use Rattle.byteorder.specs.Endian.{big_bytes}

-- three bytes of block, three of transaction, two of output
abbrev pub short_id_bytes : ℕ → ℕ → ℕ → List ℕ
short_id_bytes block tx output = big_bytes 3 block ++ big_bytes 3 tx ++ big_bytes 2 output

-- BLOCKxTXxOUTPUT, in decimal; 120 is the code of x
abbrev pub short_id_text : ℕ → ℕ → ℕ → List ℕ
short_id_text block tx output = decimal block ++ (120 ∷ (decimal tx ++ (120 ∷ decimal output)))

-- neither a plus (43) nor, but for 0 itself, a zero (48) stands in front
abbrev pub IsPlain : List ℕ → Type 0
IsPlain text = (slice_index text 0 ≢ 43) × (slice_index text 0 ≡ 48 → length text ≡ 1)
