-- Where a link stands with its channel.
use Rattle.std.specs.Prelude.{Option, Some, None, length, if◌then◌else◌, ℕ}
use Rattle.ln_refusals.specs.declared.refusal.Refusal.{Refusal}
use Rattle.ln_keys.specs.declared.role.Role.{Role}
use Rattle.ln_keys.specs.declared.role.Role.TheVariants.{Funder, Fundee}
use Rattle.ln_keys.specs.declared.view.View.{View}
use Rattle.ln_log.specs.declared.log.Pair.TheVariants as pair
use Rattle.ln_log.specs.declared.log.Side.TheVariants as side
use Rattle.ln_dance.specs.Dance.{view_at}
use Rattle.ln_channel.specs.declared.summary.ChannelStatus.{ChannelStatus}
use Rattle.ln_channel.specs.declared.summary.ChannelStatus.TheVariants as status
use Rattle.ln_channel.specs.declared.summary.Summary.{Summary}
use Rattle.ln_channel.specs.declared.machine.Stage.{Stage}
use Rattle.ln_channel.specs.declared.machine.Stage.TheVariants as stage
use Rattle.ln_channel.specs.End.{End, is_ready}
use Rattle.ln_channel.specs.State.{State}

-- what a commitment gives to a side
abbrev pub balance_of : Role → View → ℕ
balance_of Funder v = v.funder
balance_of Fundee v = v.fundee

abbrev pub other_balance : Role → View → ℕ
other_balance Funder v = v.fundee
other_balance Fundee v = v.funder

abbrev pub closed_or : Option ℕ → ChannelStatus → ChannelStatus
closed_or None l = l
closed_or (Some fee) l = status.Closed fee

abbrev pub failed_or : Option Refusal → ChannelStatus → ChannelStatus
failed_or None l = l
failed_or (Some r) l = status.Failed r

-- the last that fits: open, ready, its own shutdown sent, closed
abbrev pub status_of : End → ChannelStatus
status_of e =
    closed_or e.closing.closed
    (if e.closing.shut then status.Shut else (if is_ready e then status.Ready else status.Open))

abbrev pub summary_of : ChannelStatus → View → End → Summary
summary_of l v e = record {
  signed = e.dance.log.signed.own;
  own_held = e.dance.log.current.own;
  peer_held = e.dance.log.acknowledged.peer;
  own = balance_of e.closing.role v;
  peer = other_balance e.closing.role v;
  live = length v.htlcs;
  status = l;
}

-- where the opening isn't signed by both
abbrev pub unsigned : ChannelStatus → Summary
unsigned l = record { signed = 0; own_held = 0; peer_held = 0; own = 0; peer = 0; live = 0; status = l }

abbrev pub stands_at : Option Refusal → Stage → Summary
stands_at failure (stage.Funded e) =
    summary_of (failed_or failure (status_of e)) (view_at (pair.Current side.Own) e.dance) e
stands_at failure s = unsigned (failed_or failure status.Open)

-- where a link stands: what its last signature covers, what it holds, and what its own commitment is worth
abbrev pub summary : {K : Type 0} → State K → Summary
summary l = stands_at l.failure l.stage
