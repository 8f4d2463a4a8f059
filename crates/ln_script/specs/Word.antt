-- The words of a script's line: numbers, nodes, channel ends, short channel ids, failure codes.
use Rattle.std.specs.Prelude.{ℕ, ◌+◌, ◌-◌, ◌*◌, ◌%◌, ◌^◌, ◌<◌, List, [], ◌∷◌, Bool, false, not, ◌&&◌, ◌==◌}
use Rattle.std.specs.Prelude.{nat_le, nat_lt, Option, Some, None, option_and_then, if◌then◌else◌}
use Rattle.std.proofs.Common.{mod-lt, lit≤}
use Rattle.std.proofs.Math.Nat.{one-le-pow}
use Rattle.std.specs.List.{before_first, after_first}
use Rattle.std.specs.Str.{all_ascii_digits}
use Rattle.std.specs.Str.Parse.{digits_value}
use Rattle.ln_bytes.specs.declared.short_id.ShortId.{ShortId}
use Rattle.ln_world_channels.specs.declared.step.Node.{Node}
use Rattle.ln_world_channels.specs.declared.step.End.{End}

infixl 10 ◌>>=◌
abbrev pub ◌>>=◌ : {A B : Type 0} → Option A → (A → Option B) → Option B
o >>= f = option_and_then f o

-- decimal digits, one at least; a zero stands in front of none
abbrev pub is_decimal : List ℕ → Bool
is_decimal [] = false
is_decimal (b ∷ []) = all_ascii_digits (b ∷ [])
is_decimal (b ∷ c ∷ bs) = not (b == 48) && all_ascii_digits (b ∷ c ∷ bs)

-- the number of such digits, in 64 bits
unfoldable pub decimal_at : List ℕ → Option ℕ
decimal_at w = if is_decimal w && nat_lt (digits_value 10 w) (2 ^ 64) then Some (digits_value 10 w) else None

-- the same, at most this
abbrev pub number_at : ℕ → List ℕ → Option ℕ
number_at greatest w = do
  n ← decimal_at w
  if nat_le n greatest then Some n else None

-- A to Z
abbrev pub is_letter : ℕ → Bool
is_letter b = nat_le 65 b && nat_le b 90

abbrev pub node_at : List ℕ → Option Node
node_at (b ∷ []) = if is_letter b then Some (record { letter = b }) else None
node_at _ = None

-- a node and a channel, 0 to 99
abbrev pub end_at : List ℕ → Option End
end_at [] = None
end_at (b ∷ digits) =
    if is_letter b
    then (do
      channel ← number_at 99 digits
      Some (record { node = record { letter = b }; channel = channel }))
    else None

-- a number cut to so many bits is below that power of two
pub cut_below : (bits n : ℕ) → n % 2 ^ bits < 2 ^ bits
cut_below bits n = mod-lt n (one-le-pow bits 2 (lit≤ tt))

-- a short channel id of these numbers, which fit their fields
unfoldable pub id_of : ℕ → ℕ → ℕ → ShortId
id_of block tx output = record {
  block = block % 2 ^ 24;
  tx = tx % 2 ^ 24;
  output = output;
  block_fits = cut_below 24 block;
  tx_fits = cut_below 24 tx;
}

-- what stands before the first x, and after it; 120 is the code of x
abbrev pub before_x : List ℕ → List ℕ
before_x w = before_first (λ b. b == 120) w

abbrev pub after_x : List ℕ → List ℕ
after_x w = after_first (λ b. b == 120) w

-- BLOCKxTXxOUTPUT (BOLT 7, "Definition of short_channel_id")
unfoldable pub short_id_at : List ℕ → Option ShortId
short_id_at w = do
  block ← number_at 16777215 (before_x w)
  tx ← number_at 16777215 (before_x (after_x w))
  output ← number_at 65535 (after_x (after_x w))
  Some (id_of block tx output)

-- a digit 0 to 9 or a to f
abbrev pub digit_at : ℕ → Option ℕ
digit_at b =
    if nat_le 48 b && nat_le b 57 then Some (b - 48)
    else (if nat_le 97 b && nat_le b 102 then Some (b - 87) else None)

-- four such digits
abbrev pub code_at : List ℕ → Option ℕ
code_at (a ∷ b ∷ c ∷ d ∷ []) = do
  p ← digit_at a
  q ← digit_at b
  r ← digit_at c
  s ← digit_at d
  Some (p * 4096 + q * 256 + r * 16 + s)
code_at _ = None
