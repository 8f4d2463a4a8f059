-- Amounts of payments.
use Rattle.std.specs.Prelude.{ℕ, Option, Some, None, nat_le, if◌then◌else◌}

-- in millisatoshi: 21,000,000 bitcoins, which is what a channel can be funded with at most
abbrev pub greatest_amount : ℕ
greatest_amount = 2100000000000000000

-- an amount, where it is no greater
abbrev pub bounded : ℕ → Option ℕ
bounded n = if nat_le n greatest_amount then Some n else None
