-- What nodes open channels with (BOLT 2, "Channel Establishment v1").
use Rattle.std.specs.Prelude.{ℕ, ◌<◌, ◌^◌, List, [], ◌∷◌, ◌++◌, replicate, Bool, ◌&&◌, nat_le, nat_lt}
use Rattle.ln_msgs.specs.Messages.Channel.{id_of_channel}
use Rattle.ln_close.specs.Closing.{AreOrdered}
use Rattle.ln_log.specs.declared.opening.Opening.{Opening}
use Rattle.ln_log.specs.Opening.{IsFit, is_fit}
use Rattle.ln_channel.specs.declared.config.Config.{Config}
use Rattle.ln_channel.specs.declared.config.OpenSpec.{OpenSpec}
use Rattle.ln_channel.specs.declared.config.Points.{Points}
use Rattle.ln_world_channels.specs.declared.settings.Settings.{Settings}
use Rattle.ln_world_channels.specs.declared.step.Node.{Node}

-- a node that nothing was set for
abbrev pub defaults : Settings
defaults = record {
  fees = record { first = 300; least = 200; greatest = 400 };
  limits = record { minimum = 1; accepted = 30; in_flight = 1000000000000; reserve = 0 };
}

-- the points of every node: links carry them, and don't look at them
abbrev pub points : Points
points = record {
  funding_pubkey = replicate 33 2;
  revocation_basepoint = replicate 33 2;
  payment_basepoint = replicate 33 2;
  delayed_payment_basepoint = replicate 33 2;
  htlc_basepoint = replicate 33 2;
}

abbrev pub config_with : Settings → List ℕ → Config
config_with s script = record {
  limits = s.limits;
  chain_hash = replicate 32 0;
  dust_limit = 546;
  to_self_delay = 144;
  minimum_depth = 3;
  points = points;
  first = s.fees.first;
  least = s.fees.least;
  greatest = s.fees.greatest;
  script = script;
}

-- the script of a node is its letter
abbrev pub config_of : Node → Settings → Config
config_of n s = config_with s (n.letter ∷ [])

-- the funding transaction of the channel with this number
abbrev pub txid_of : ℕ → List ℕ
txid_of channel = replicate 31 0 ++ channel ∷ []

unfoldable pub channel_id_of : ℕ → List ℕ
channel_id_of channel = id_of_channel (txid_of channel) 0

-- a funder opens the channel with this number by it
abbrev pub spec_of : ℕ → Config → ℕ → ℕ → OpenSpec
spec_of channel c satoshis push = record {
  config = c;
  funding = satoshis;
  push = push;
  feerate = 253;
  flags = 0;
  temporary_id = replicate 32 255;
  txid = txid_of channel;
  output = 0;
  records = [];
}

abbrev pub opening_by : ℕ → ℕ → Settings → Settings → Opening
opening_by satoshis push funder fundee = record {
  satoshis = satoshis;
  push = push;
  feerate = 253;
  funder = funder.limits;
  fundee = fundee.limits;
}

abbrev pub are_ordered : Settings → Bool
are_ordered s = nat_le s.fees.least s.fees.first && nat_le s.fees.first s.fees.greatest

-- messages have room for it: eight bytes for each fee and each amount
abbrev pub can_be_told : Settings → Bool
can_be_told s =
    nat_lt s.fees.first (2 ^ 64) && nat_lt s.fees.greatest (2 ^ 64) && nat_lt s.limits.minimum (2 ^ 64)
    && nat_lt s.limits.in_flight (2 ^ 64) && nat_lt s.limits.reserve (2 ^ 64)

pub record CanBeTold (s : Settings) : Type 0 where
  pub first : s.fees.first < 2 ^ 64
  pub greatest : s.fees.greatest < 2 ^ 64
  pub minimum : s.limits.minimum < 2 ^ 64
  pub in_flight : s.limits.in_flight < 2 ^ 64
  pub reserve : s.limits.reserve < 2 ^ 64

-- of a node, in code: its numbers have 64 bits, so each can be told
abbrev pub may_ask : Settings → Bool
may_ask s = are_ordered s && can_be_told s

-- what both bring fits: the funds, what is pushed of them, how many HTLCs either takes, the fees in their order, and
-- each number in a message
abbrev pub may_bring : ℕ → ℕ → Settings → Settings → Bool
may_bring satoshis push funder fundee =
    is_fit (opening_by satoshis push funder fundee) && (may_ask funder && may_ask fundee)

pub record CanBring (satoshis push : ℕ) (funder fundee : Settings) : Type 0 where
  pub opening : IsFit (opening_by satoshis push funder fundee)
  pub funder_fees : AreOrdered funder.fees
  pub fundee_fees : AreOrdered fundee.fees
  pub funder_told : CanBeTold funder
  pub fundee_told : CanBeTold fundee
