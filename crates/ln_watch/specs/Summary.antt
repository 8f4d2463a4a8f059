-- What a node tells of a channel (BOLT 2).
use Rattle.std.specs.Prelude.{◌≡◌, ℕ, ◌-◌, ◌*◌, ◌^◌, List, [], ◌++◌, length, Bool, true, false, ◌||◌, nat_lt}
use Rattle.std.specs.Prelude.{Option, Some, None, if◌then◌else◌, ⊤}
use Rattle.std.specs.Coded.{Unit-prop}
use Rattle.ln_refusals.specs.declared.refusal.Refusal.{Refusal}
use Rattle.ln_keys.specs.declared.role.Role.{Role}
use Rattle.ln_keys.specs.declared.role.Role.TheVariants.{Funder, Fundee}
use Rattle.ln_keys.specs.declared.view.Htlc.{Htlc}
use Rattle.ln_keys.specs.Role.{other_role}
use Rattle.ln_log.specs.declared.log.Pair.TheVariants as pair
use Rattle.ln_log.specs.declared.log.Side.TheVariants as side
use Rattle.ln_log.specs.declared.update.Update.{Update}
use Rattle.ln_log.specs.Log.{Log, Counts, none, between, counts_of}
use Rattle.ln_dance.specs.Dance.{view_at}
use Rattle.ln_channel.specs.declared.machine.ConnectionState.{ConnectionState}
use Rattle.ln_channel.specs.declared.opening.Terms.{Terms}
use Rattle.ln_channel.specs.End.{End, is_ready}
use Rattle.ln_channel.specs.Record.{saved_end}
use Rattle.ln_channel.specs.State.{State, no_numbers}
use Rattle.ln_channel.specs.Summary.{balance_of}
use Rattle.ln_watch.specs.declared.htlc.LiveHtlc.{LiveHtlc}
use Rattle.ln_watch.specs.declared.summary.ChannelState.{ChannelState}
use Rattle.ln_watch.specs.declared.summary.ChannelState.TheVariants as state
use Rattle.ln_watch.specs.declared.summary.ChannelSummary.{ChannelSummary}
use Rattle.ln_watch.specs.Htlc.{live_htlcs}

-- ---- how far it is: the first that fits of halted, failed, closed, shutting, ready, unconfirmed

abbrev pub closed_or : Option ℕ → ChannelState → ChannelState
closed_or None s = s
closed_or (Some fee) s = state.Closed fee

abbrev pub failed_or : Option Refusal → ChannelState → ChannelState
failed_or None s = s
failed_or (Some r) s = state.Failed r

-- of an end whose opening both have signed
abbrev pub state_of_end : End → ChannelState
state_of_end e =
    closed_or e.closing.closed
    (if e.closing.shut || e.closing.peer_shut then state.Shutting
    else (if is_ready e then state.Ready else state.Unconfirmed))

abbrev pub state_by : Bool → Option Refusal → ChannelState → ChannelState
state_by halted failure s = if halted then state.Halted else failed_or failure s

-- ---- what each side keeps back: what the other side asked for as the channel was opened

-- in millisatoshi, up to 2^64 - 1
abbrev pub in_msat : ℕ → ℕ
in_msat satoshis = if nat_lt (satoshis * 1000) (2 ^ 64) then satoshis * 1000 else 2 ^ 64 - 1

abbrev pub reserve_of : Role → Terms → ℕ
reserve_of Funder t = in_msat t.accept_channel.channel_reserve_satoshis
reserve_of Fundee t = in_msat t.open_channel.channel_reserve_satoshis

-- ---- updates

-- what a signature made now would cover beside what the last one covers
abbrev pub unsigned : Log → Counts
unsigned l = record {
  own = (counts_of pair.ToSign l).own - (counts_of pair.Signed l).own;
  peer = (counts_of pair.ToSign l).peer - (counts_of pair.Signed l).peer;
}

-- the updates of a side that this side doesn't hold as irrevocably committed
abbrev pub own_unheld : Log → List Update
own_unheld l = between l.current.own (length l.own) l.own

abbrev pub peer_unheld : Log → List Update
peer_unheld l = between l.acknowledged.peer (length l.received) l.received

-- this side's HTLCs among some, then the peer's among others
abbrev pub htlcs_of : Role → Log → List Htlc → List Htlc → List LiveHtlc
htlcs_of role l own peer =
    live_htlcs role true (own_unheld l) (peer_unheld l) own
    ++ live_htlcs (other_role role) false (peer_unheld l) (own_unheld l) peer

-- ---- all of it

-- of a channel that is being opened
abbrev pub opening_summary : ConnectionState → ChannelState → ChannelSummary
opening_summary connection s = record {
  state = s;
  connection = connection;
  channel = None;
  short_id = None;
  own_balance = 0;
  peer_balance = 0;
  own_reserve = 0;
  peer_reserve = 0;
  numbers = no_numbers;
  unsigned = none;
  htlcs = [];
}

-- balances are those of the own commitment; HTLCs are this side's that a signature made now would cover, and the
-- peer's of the own commitment
abbrev pub end_summary : ConnectionState → ChannelState → End → ChannelSummary
end_summary connection s e = record {
  state = s;
  connection = connection;
  channel = Some e.dance.channel;
  short_id = e.readiness.short_id;
  own_balance = balance_of e.closing.role (view_at (pair.Current side.Own) e.dance);
  peer_balance = balance_of (other_role e.closing.role) (view_at (pair.Current side.Own) e.dance);
  own_reserve = reserve_of e.closing.role e.terms;
  peer_reserve = reserve_of (other_role e.closing.role) e.terms;
  numbers = e.dance.numbers;
  unsigned = unsigned e.dance.log;
  htlcs = htlcs_of e.closing.role e.dance.log (view_at pair.ToSign e.dance).htlcs
      (view_at (pair.Current side.Own) e.dance).htlcs;
}

abbrev pub summary_by : ConnectionState → Bool → Option Refusal → Option End → ChannelSummary
summary_by connection halted failure None = opening_summary connection (state_by halted failure state.Opening)
summary_by connection halted failure (Some e) =
    end_summary connection (state_by halted failure (state_of_end e)) e

abbrev pub summary_of : {K : Type 0} → State K → ChannelSummary
summary_of l = summary_by l.connection l.halted l.failure (saved_end l.stage)

-- ---- what is kept of it

-- it is that of some link
abbrev pub IsSummary : ChannelSummary → Type 0
IsSummary s = ∥ ((l : State (Unit {0})) × (s ≡ summary_of l)) ∥₁

-- nothing, or such a one
abbrev pub IsKept : Option ChannelSummary → Type 0
IsKept None = ⊤
IsKept (Some s) = IsSummary s

pub IsKept-prop : (told : Option ChannelSummary) → IsProp (IsKept told)
IsKept-prop None = Unit-prop
IsKept-prop (Some s) = hlevel
