-- What is told of a link that is looked at.
use Rattle.std.specs.Prelude.{ℕ, List, [], ◌∷◌, length, ◌==◌, Option, Some, None, option_map, Result, Ok, Err}
use Rattle.std.specs.Prelude.{if◌then◌else◌}
use Rattle.std.specs.List.{flat_map}
use Rattle.ln_refusals.specs.Refusal.{refusal_number}
use Rattle.ln_refusals.specs.declared.lost_data.LostData.{LostData}
use Rattle.ln_refusals.specs.declared.lost_data.LostData.TheVariants as lost_data
use Rattle.ln_refusals.specs.declared.refusal.Refusal.{Refusal}
use Rattle.ln_refusals.specs.declared.refusal.Refusal.TheVariants as refusal
use Rattle.ln_keys.specs.declared.view.View.{View}
use Rattle.ln_log.specs.declared.log.Pair.{Pair}
use Rattle.ln_log.specs.declared.log.Pair.TheVariants as pair
use Rattle.ln_log.specs.declared.log.Side.TheVariants as side
use Rattle.ln_log.specs.declared.update.Update.{Update}
use Rattle.ln_log.specs.Log.{Log, between}
use Rattle.ln_log.specs.Updates.{next_id, removed}
use Rattle.ln_dance.specs.Dance.{view_at}
use Rattle.ln_channel.specs.declared.summary.ChannelStatus.{ChannelStatus}
use Rattle.ln_channel.specs.declared.summary.ChannelStatus.TheVariants as channel
use Rattle.ln_channel.specs.declared.summary.Summary.{Summary}
use Rattle.ln_channel.specs.Asking.{agreed_end}
use Rattle.ln_channel.specs.End.{End}
use Rattle.ln_channel.specs.State.{State, numbers_of}
use Rattle.ln_channel.specs.Summary.{summary}
use Rattle.ln_wire.specs.declared.summary.LinkStatus.{LinkStatus}
use Rattle.ln_wire.specs.declared.summary.LinkStatus.TheVariants as link
use Rattle.ln_wire.specs.declared.summary.LinkSummary.{LinkSummary}
use Rattle.ln_wire.specs.Forms.{written_in}
use Rattle.ln_wire.specs.Questions.{view_form}

-- ---- where it stands

-- a failure by its number
abbrev pub status_of : ChannelStatus → LinkStatus
status_of channel.Open = link.Open
status_of channel.Ready = link.Ready
status_of channel.Shut = link.Shut
status_of (channel.Closed fee) = link.Closed fee
status_of (channel.Failed r) = link.Failed (refusal_number r)

-- whose data is lost, where the channel failed by that
abbrev pub lost_data_of : ChannelStatus → LostData
lost_data_of (channel.Failed (refusal.ReestablishNumber lost)) = lost
lost_data_of s = lost_data.Unproved

-- the HTLC that an update removes
abbrev pub removed_id : Update → Option ℕ
removed_id u = option_map (λ r. r.id) (removed u)

abbrev pub listed : Option ℕ → List ℕ
listed None = []
listed (Some id) = id ∷ []

-- those that these remove
abbrev pub removed_ids : List Update → List ℕ
removed_ids us = flat_map (λ u. listed (removed_id u)) us

-- the own updates that are had one by one
abbrev pub kept_own : Log → List Update
kept_own l = between l.first.own (length l.own) l.own

abbrev pub channel_of : Option End → Option (List ℕ)
channel_of None = None
channel_of (Some e) = Some e.dance.channel

-- of the own HTLCs
abbrev pub next_id_of : Option End → ℕ
next_id_of None = 0
next_id_of (Some e) = next_id e.dance.log.own

-- the peer's HTLCs whose removal by this end is kept
abbrev pub removed_of : Option End → List ℕ
removed_of None = []
removed_of (Some e) = removed_ids (kept_own e.dance.log)

abbrev pub summary_with : {K : Type 0} → Summary → Option End → State K → LinkSummary
summary_with s e l = record {
  connection = l.connection;
  halted = l.halted;
  channel = channel_of e;
  status = status_of s.status;
  lost_data = lost_data_of s.status;
  numbers = numbers_of l.stage;
  own_msat = s.own;
  peer_msat = s.peer;
  live_htlcs = s.live;
  next_own_htlc_id = next_id_of e;
  removed_htlc_ids = removed_of e;
}

abbrev pub link_summary : {K : Type 0} → State K → LinkSummary
link_summary l = summary_with (summary l) (agreed_end l.stage) l

-- ---- what a commitment is worth

-- 0 the own one, 1 the peer's, 2 the one that would be signed, 3 the one that the peer's next signature covers
abbrev pub pair_of : ℕ → Option Pair
pair_of n =
    if n == 0 then Some (pair.Current side.Own)
    else (if n == 1 then Some (pair.Current side.Peer)
    else (if n == 2 then Some pair.ToSign
    else (if n == 3 then Some pair.ToAccept else None)))

-- 40 where no funding is named
abbrev pub worth_of : Pair → Option End → Result View Refusal
worth_of p None = Err refusal.NotReady
worth_of p (Some e) = Ok (view_at p e.dance)

-- 40 for another number
abbrev pub viewed : Option Pair → Option End → Result View Refusal
viewed None e = Err refusal.NotReady
viewed (Some p) e = worth_of p e

abbrev pub view_bytes : Result View Refusal → Result (List ℕ) Refusal
view_bytes (Ok v) = written_in view_form v
view_bytes (Err e) = Err e
