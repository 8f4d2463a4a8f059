-- What two sides agreed on as they opened a channel (BOLT 2, "Channel Establishment v1").
use Rattle.std.specs.Prelude.{ℕ, ◌*◌, ◌-◌, ◌≤◌, nat_le, Bool, ◌&&◌}
use Rattle.ln_keys.specs.declared.role.Role.{Role}
use Rattle.ln_keys.specs.declared.role.Role.TheVariants.{Funder, Fundee}
use Rattle.ln_log.specs.declared.opening.Limits.{Limits}
use Rattle.ln_log.specs.declared.opening.Opening.{Opening}

-- the most that a channel is funded with, in satoshi: all 21 million bitcoin
abbrev pub most_satoshis : ℕ
most_satoshis = 2100000000000000

-- the most HTLCs that a side may let the other one offer at once
abbrev pub most_htlcs : ℕ
most_htlcs = 483

-- the limits that the HTLCs of a side have to meet are those that the other side sent
abbrev pub limits_of : Opening → Role → Limits
limits_of o Funder = o.fundee
limits_of o Fundee = o.funder

-- what a side has before any update, in millisatoshi: the funder all but what it pushes, the fundee that
abbrev pub first_balance : Opening → Role → ℕ
first_balance o Funder = 1000 * o.satoshis - o.push
first_balance o Fundee = o.push

-- a channel with these funds can be, and neither side begins with less than nothing
pub record HasFunds (o : Opening) : Type 0 where
  pub some_funds : 1 ≤ o.satoshis
  pub funds : o.satoshis ≤ most_satoshis
  pub push : o.push ≤ 1000 * o.satoshis

-- a channel may open so
pub record IsFit (o : Opening) : Type 0 where
  pub some_funds : 1 ≤ o.satoshis
  pub funds : o.satoshis ≤ most_satoshis
  pub push : o.push ≤ 1000 * o.satoshis
  pub funder_accepts : o.funder.accepted ≤ most_htlcs
  pub fundee_accepts : o.fundee.accepted ≤ most_htlcs

-- the same, as a test
abbrev pub is_fit : Opening → Bool
is_fit o = nat_le 1 o.satoshis && nat_le o.satoshis most_satoshis && nat_le o.push (1000 * o.satoshis)
    && nat_le o.funder.accepted most_htlcs && nat_le o.fundee.accepted most_htlcs
