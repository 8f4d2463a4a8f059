-- What an end is opened with, and which values may be used (BOLT 2, "Channel Establishment v1").
use Rattle.std.specs.Prelude.{ℕ, ◌≤◌, List, length}
use Rattle.ln_bytes.specs.Tlv.{stream_bytes}
use Rattle.ln_msgs.specs.Messages.Table.{open_form}
use Rattle.ln_msgs.specs.Codec.Writing.{MayFollow}
use Rattle.ln_log.specs.declared.opening.Limits.{Limits}
use Rattle.ln_log.specs.declared.opening.Opening.{Opening}
use Rattle.ln_log.specs.Opening.{IsFit, most_htlcs}
use Rattle.ln_close.specs.declared.closing.Fees.{Fees}
use Rattle.ln_close.specs.Closing.{AreOrdered}
use Rattle.ln_channel.specs.declared.config.Config.{Config}
use Rattle.ln_channel.specs.declared.config.OpenSpec.{OpenSpec}

abbrev pub fees_of : Config → Fees
fees_of c = record { first = c.first; least = c.least; greatest = c.greatest }

-- What a funder offers, with a fundee that asks for this.
abbrev pub offered : OpenSpec → Limits → Opening
offered s fundee = record {
  satoshis = s.funding;
  push = s.push;
  feerate = s.feerate;
  funder = s.config.limits;
  fundee = fundee;
}

-- The longest script that a shutdown can carry: a message has 65,535 bytes at most, and a shutdown 36 beside it.
abbrev pub longest_script : ℕ
longest_script = 65499

-- The longest records that an open_channel can carry: it has 321 bytes beside them.
abbrev pub longest_records : ℕ
longest_records = 65214

-- No peer refuses it, and a shutdown can carry its script.
pub record IsFitConfig (c : Config) : Type 0 where
  pub accepted : c.limits.accepted ≤ most_htlcs
  pub fees : AreOrdered (fees_of c)
  pub script : length c.script ≤ longest_script

-- No peer refuses it, and the open_channel that it gives can be written.
pub record IsFitSpec (s : OpenSpec) : Type 0 where
  pub config : IsFitConfig s.config
  pub opening : IsFit (offered s s.config.limits)
  pub records : MayFollow open_form s.records
  pub length : length (stream_bytes s.records) ≤ longest_records

-- Another transaction's output funds the channel.
abbrev pub with_funding : List ℕ → ℕ → OpenSpec → OpenSpec
with_funding txid output s = record s { txid = txid; output = output }
