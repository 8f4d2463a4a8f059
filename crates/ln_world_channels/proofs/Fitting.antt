-- What nodes bring is what links may be opened with.
use Rattle.std.proofs.Common.{◌≤◌, ℕ, [], refl, arith}
use Rattle.ln_msgs.specs.Codec.Writing.{MayFollow}
use Rattle.ln_msgs.specs.Messages.Table.{open_form}
use Rattle.ln_channel.specs.Config.{IsFitConfig, IsFitSpec}
use Rattle.ln_world_channels.specs.declared.settings.Settings.{Settings}
use Rattle.ln_world_channels.specs.declared.step.Node.{Node}
use Rattle.ln_world_channels.specs.Settings.{config_of, spec_of, CanBring}

no_records : MayFollow open_form []
no_records = record { valid = tt; lengths = refl }

pub one_letter : 1 ≤ 65499
one_letter = omega arith

no_bytes : 0 ≤ 65214
no_bytes = omega arith

pub funders : (channel satoshis push : ℕ) (n : Node) (s t : Settings) → CanBring satoshis push s t
    → IsFitSpec (spec_of channel (config_of n s) satoshis push)
funders channel satoshis push n s t b = record {
  config = record { accepted = b.opening.funder_accepts; fees = b.funder_fees; script = one_letter };
  opening = record {
    some_funds = b.opening.some_funds;
    funds = b.opening.funds;
    push = b.opening.push;
    funder_accepts = b.opening.funder_accepts;
    fundee_accepts = b.opening.funder_accepts;
  };
  records = no_records;
  length = no_bytes;
}

pub fundees : (satoshis push : ℕ) (n : Node) (s t : Settings) → CanBring satoshis push s t
    → IsFitConfig (config_of n t)
fundees satoshis push n s t b = record {
  accepted = b.opening.fundee_accepts;
  fees = b.fundee_fees;
  script = one_letter;
}
