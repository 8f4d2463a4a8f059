-- By which refusals a channel fails (BOLT 1, "The error and warning Messages").
use Rattle.std.specs.Prelude.{◌||◌, ◌&&◌, ◌==◌, ℕ, Bool, nat_le}
use Rattle.ln_refusals.specs.declared.refusal.Refusal.{Refusal}
use Rattle.ln_refusals.specs.Refusal.{refusal_number}

-- 21 to 35, by what the peer sent, and 37, where it sent an error
abbrev pub is_failure : ℕ → Bool
is_failure n = (nat_le 21 n && nat_le n 35) || n == 37

abbrev pub fails : Refusal → Bool
fails r = is_failure (refusal_number r)
