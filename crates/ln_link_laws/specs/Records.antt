-- Of which readable records a log can be restored: what that asks of a record beyond its being readable (BOLT 2,
-- "Message Retransmission").
use Rattle.std.specs.Prelude.{◌≡◌, ◌≤◌, ◌*◌, []}
use Rattle.ln_keys.specs.declared.role.Role.TheVariants.{Funder, Fundee}
use Rattle.ln_log.specs.declared.opening.Opening.{Opening}
use Rattle.ln_log.specs.Opening.{first_balance}
use Rattle.ln_log.specs.Log.{AreWithin}
use Rattle.ln_log.specs.Explained.{MayBeLedTo}
use Rattle.ln_log.specs.RecordForm.{RecordForm}
use Rattle.ln_channel.specs.Opening.{opening_of}
use Rattle.ln_store.specs.declared.record.Sides.{Sides}
use Rattle.ln_store.specs.declared.record.Base.{Base}
use Rattle.ln_store.specs.declared.record.Items.{Items}
use Rattle.ln_link.specs.Loading.{terms_of, told_in, TellsLog}

-- what the channel of a record was opened with
abbrev pub opening_in : Items → Opening
opening_in i = opening_of (terms_of i.agreement)

-- what a record tells of updates
abbrev pub told_by : Items → RecordForm
told_by i = told_in (opening_in i) i.header.role i.updates

-- a log can be restored of what it tells
abbrev pub HasLog : Items → Type 0
HasLog i = TellsLog (opening_in i) i.header.role i.updates

-- no HTLC after the base is of more than all funds
abbrev pub AreWithinFunds : RecordForm → Type 0
AreWithinFunds t = AreWithin (1000 * t.opening.satoshis) t.own × AreWithin (1000 * t.opening.satoshis) t.received

-- no more was pushed than all funds, updates may lead to the base, and no HTLC after it is of more than all funds
pub record IsExplained (t : RecordForm) : Type 0 where
  pub push : t.opening.push ≤ 1000 * t.opening.satoshis
  pub base : MayBeLedTo t.opening t.role t.first t.balances t.own_live_htlcs t.peer_live_htlcs
  pub amounts : AreWithinFunds t

-- ---- with no update in the base

abbrev pub both_zero : Sides
both_zero = record { funder = 0; fundee = 0 }

-- the base of the opening: its balances and its feerate, and no HTLC
abbrev pub first_base : Opening → Base
first_base o = record {
  updates = both_zero;
  next_ids = both_zero;
  balances = record { funder = first_balance o Funder; fundee = first_balance o Fundee };
  feerate = o.feerate;
  live = [];
}

-- the base is that of the opening, and no HTLC after it is of more than all funds
pub record IsFromOpening (i : Items) : Type 0 where
  pub base : i.updates.base ≡ first_base (opening_in i)
  pub amounts : AreWithinFunds (told_by i)
