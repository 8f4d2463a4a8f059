-- What a link is begun with and what it is handed, as wide as in code: numbers of 16, 32 and 64 bits, points of 33
-- bytes, secrets of 32, signatures of 64.
use Rattle.std.specs.Prelude.{◌≡◌, ℕ, ◌<◌, ◌≤◌, ◌^◌, List, length}
use Rattle.std.specs.List.{AllByRecursion}
use Rattle.ln_bytes.specs.Tlv.{AreFit}
use Rattle.ln_msgs.specs.declared.messages.message.Message.{Message}
use Rattle.ln_msgs.specs.declared.messages.opening.OpenChannel.{OpenChannel}
use Rattle.ln_msgs.specs.Codec.Field.{AreOf}
use Rattle.ln_msgs.specs.Messages.Table.{kinds_of, open_form, accept_form}
use Rattle.ln_msgs.specs.Messages.Typed.{wire, open_wire, accept_wire}
use Rattle.ln_keys.specs.declared.view.View.{View}
use Rattle.ln_keys.specs.Signer.{Signer}
use Rattle.ln_channel.specs.declared.config.Config.{Config}
use Rattle.ln_channel.specs.declared.config.OpenSpec.{OpenSpec}
use Rattle.ln_channel.specs.Config.{IsFitConfig, IsFitSpec}
use Rattle.ln_channel.specs.Opening.{open_message, accept_message}
use Rattle.ln_link.specs.Loading.{IsSaid}

-- a message that can be sent, and read again: it has at most 65,535 bytes, and these say it
abbrev pub IsMessage : Message → Type 0
IsMessage m = IsSaid (wire m)

-- ---- keys

-- what they answer about each number that a commitment may have, and one signature for each HTLC (BOLT 2,
-- "Committing Updates So Far: commitment_signed")
pub record AreKeys (k : Signer) : Type 0 where
  pub points : (n : ℕ) → n ≤ 2 ^ 48 → length (k.point_of n) ≡ 33
  pub secrets : (n : ℕ) → n ≤ 2 ^ 48 → length (k.secret_of n) ≡ 32
  pub signatures : (n : ℕ) (point : List ℕ) (v : View) → n ≤ 2 ^ 48 → length point ≡ 33
      → length (k.signature n point v) ≡ 64
  pub htlcs : (n : ℕ) (point : List ℕ) (v : View) → length (k.htlc_signatures n point v) ≡ length v.htlcs
  pub of_htlcs : (n : ℕ) (point : List ℕ) (v : View) → n ≤ 2 ^ 48 → length point ≡ 33
      → AllByRecursion (λ s. length s ≡ 64) (k.htlc_signatures n point v)
  pub closings : (fee : ℕ) → fee < 2 ^ 64 → length (k.close_signature fee) ≡ 64

-- ---- what a link is begun with (BOLT 2, "Channel Establishment v1")

-- a config that fits; the fields of the accept_channel that it gives are as wide as the form has them
pub record IsConfig (k : Signer) (c : Config) : Type 0 where
  pub fits : IsFitConfig c
  pub greatest : c.greatest < 2 ^ 64
  pub accept_channel : (m : OpenChannel) → length m.temporary_id ≡ 32
      → AreOf (kinds_of accept_form) (accept_wire (accept_message k c m)).values

-- a spec that fits; the fields and the records of the open_channel that it gives are as wide as the form has them
pub record IsSpec (k : Signer) (s : OpenSpec) : Type 0 where
  pub fits : IsFitSpec s
  pub greatest : s.config.greatest < 2 ^ 64
  pub open_channel : AreOf (kinds_of open_form) (open_wire (open_message k s)).values
  pub records : AreFit s.records
  pub txid : length s.txid ≡ 32
  pub output : s.output < 2 ^ 16
