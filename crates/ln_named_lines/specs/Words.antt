-- The words of a line, and the values that they give names.
use Rattle.std.specs.Prelude.{ℕ, ◌+◌, ◌-◌, ◌*◌, ◌^◌, List, [], ◌∷◌, map, length, Bool, false, ◌&&◌, ◌==◌}
use Rattle.std.specs.Prelude.{nat_le, nat_lt, Option, None, Some, option_and_then, if◌then◌else◌}
use Rattle.std.specs.Borrow.{Bor}
use Rattle.std.specs.List.{slice_split, before_first, after_first, position_or_len}
use Rattle.std.specs.Str.{bytes_eq}

-- the bytes of a text, and of each of some
abbrev pub text : Bor (List ℕ) → List ℕ
text w = w.now

abbrev pub texts : List (Bor (List ℕ)) → List (List ℕ)
texts ws = map text ws

-- what stands between spaces
abbrev pub words : List ℕ → List (List ℕ)
words line = slice_split (λ b. b == 32) line

abbrev pub part_texts : Bor (List ℕ) × Bor (List ℕ) → List ℕ × List ℕ
part_texts p = (p.0.now, p.1.now)

-- NAME=VALUE: what stands before the first =, whose code is 61, and after it
abbrev pub has_equals : List ℕ → Bool
has_equals w = nat_lt (position_or_len (λ b. b == 61) w) (length w)

abbrev pub parts_at : List ℕ → Option (List ℕ × List ℕ)
parts_at w =
    if has_equals w then Some (before_first (λ b. b == 61) w, after_first (λ b. b == 61) w) else None

-- whether parts are of this name
abbrev pub are_of : List ℕ → Option (List ℕ × List ℕ) → Bool
are_of name None = false
are_of name (Some p) = bytes_eq p.0 name

-- whether a word gives this name a value
abbrev pub gives : List ℕ → List ℕ → Bool
gives name w = are_of name (parts_at w)

-- the value that words give a name: that of the first that does
abbrev pub value_or : List ℕ → Option (List ℕ × List ℕ) → Option (List ℕ) → Option (List ℕ)
value_or name None other = other
value_or name (Some p) other = if bytes_eq p.0 name then Some p.1 else other

abbrev pub value_at : List ℕ → List (List ℕ) → Option (List ℕ)
value_at name [] = None
value_at name (w ∷ ws) = value_or name (parts_at w) (value_at name ws)

-- ---- numbers

abbrev pub is_digit : ℕ → Bool
is_digit b = nat_le 48 b && nat_le b 57

-- one more decimal digit, below 2^64
abbrev pub with_digit : ℕ → ℕ → Option ℕ
with_digit front b =
    if is_digit b && nat_lt (front * 10 + (b - 48)) (2 ^ 64) then Some (front * 10 + (b - 48)) else None

abbrev pub digits_after : ℕ → List ℕ → Option ℕ
digits_after front [] = Some front
digits_after front (b ∷ bs) = option_and_then (λ n. digits_after n bs) (with_digit front b)

-- one digit or more
abbrev pub number_in : List ℕ → Option ℕ
number_in [] = None
number_in (b ∷ bs) = digits_after 0 (b ∷ bs)

abbrev pub number_at : List ℕ → List (List ℕ) → Option ℕ
number_at name ws = option_and_then number_in (value_at name ws)
