-- Truncated numbers (BOLT 1, "Fundamental Types"): big-endian, with the leading zero bytes left out.
use Rattle.std.specs.Prelude.{ℕ, zero, suc, List, [], ◌∷◌, length, Result, Ok, Err, Bool, true, false, nat_lt}
use Rattle.std.specs.Prelude.{if◌then◌else◌}
use Rattle.byteorder.specs.Endian.{big_bytes, big_number}
use Rattle.ln_bytes.specs.declared.fault.Fault.{Fault}
use Rattle.ln_bytes.specs.declared.fault.Fault.TheVariants.{NotMinimal, FieldLength}

abbrev pub without_zeros : List ℕ → List ℕ
without_zeros [] = []
without_zeros (zero ∷ bytes) = without_zeros bytes
without_zeros (suc b ∷ bytes) = suc b ∷ bytes

-- the one spelling of a number below 2 ^ 64; zero is no bytes
abbrev pub truncated : ℕ → List ℕ
truncated n = without_zeros (big_bytes 8 n)

abbrev pub begins_with_zero : List ℕ → Bool
begins_with_zero [] = false
begins_with_zero (zero ∷ bytes) = true
begins_with_zero (suc b ∷ bytes) = false

-- the number in a field that has room for so many bytes, or the first fault
abbrev pub truncated_at : ℕ → List ℕ → Result ℕ Fault
truncated_at room bytes =
    if nat_lt room (length bytes) then Err FieldLength
    else (if begins_with_zero bytes then Err NotMinimal else Ok (big_number (length bytes) bytes))
