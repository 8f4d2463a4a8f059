-- BigSize numbers (BOLT 1, "Fundamental Types"): one, three, five or nine bytes, each number in its
-- shortest form.
use Rattle.std.specs.Prelude.{ℕ, ◌+◌, List, [], ◌∷◌, length, Result, Ok, Err, nat_lt, ◌==◌, if◌then◌else◌}
use Rattle.byteorder.specs.Endian.{big_bytes, big_number}
use Rattle.ln_bytes.specs.declared.fault.Fault.{Fault}
use Rattle.ln_bytes.specs.declared.fault.Fault.TheVariants.{Truncated, NotMinimal}

-- the one spelling of a number
abbrev pub bigsize : ℕ → List ℕ
bigsize n =
    if nat_lt n 253 then n ∷ []
    else (if nat_lt n 65536 then 253 ∷ big_bytes 2 n
    else (if nat_lt n 4294967296 then 254 ∷ big_bytes 4 n else 255 ∷ big_bytes 8 n))

-- a number of k bytes after the first byte, no less than least
abbrev pub long_at : ℕ → ℕ → List ℕ → Result (ℕ × ℕ) Fault
long_at k least rest =
    if nat_lt (length rest) k then Err Truncated
    else (if nat_lt (big_number k rest) least then Err NotMinimal else Ok (big_number k rest, k + 1))

-- the number at the front and how many bytes it takes, or the first fault
abbrev pub bigsize_at : List ℕ → Result (ℕ × ℕ) Fault
bigsize_at [] = Err Truncated
bigsize_at (b ∷ rest) =
    if nat_lt b 253 then Ok (b, 1)
    else (if b == 253 then long_at 2 253 rest
    else (if b == 254 then long_at 4 65536 rest else long_at 8 4294967296 rest))
