-- The record of an end of a channel: what of it outlives a lost connection, in the form in which it is stored. Its
-- updates are those that signatures cover (BOLT 2, "Message Retransmission").
use Rattle.std.specs.Prelude.{◌≡◌, ◌<◌, ◌⊎◌, ℕ, List, ◌++◌, length, map, drop, Option, option_map, false}
use Rattle.ln_bytes.specs.declared.short_id.ShortId.{ShortId}
use Rattle.ln_bytes.specs.ShortId.{short_id_bytes}
use Rattle.ln_msgs.specs.Messages.Message.{Wire, wire_bytes, longest}
use Rattle.ln_msgs.specs.Messages.Typed.{open_wire, accept_wire}
use Rattle.ln_msgs.specs.Codec.Writing.{CanBeWritten}
use Rattle.ln_refusals.specs.declared.refusal.Refusal.{Refusal}
use Rattle.ln_keys.specs.declared.role.Role.{Role}
use Rattle.ln_keys.specs.declared.role.Role.TheVariants.{Funder, Fundee}
use Rattle.ln_log.specs.declared.log.Counts.{Counts}
use Rattle.ln_log.specs.declared.opening.Opening.{Opening}
use Rattle.ln_log.specs.declared.update.Add.{Add}
use Rattle.ln_log.specs.declared.update.Update.{Update}
use Rattle.ln_log.specs.Log.{Log, after_drop}
use Rattle.ln_log.specs.RecordForm.{RecordForm, record_form_of, IsRestorable}
use Rattle.ln_dance.specs.Dance.{Dancer}
use Rattle.ln_close.specs.declared.closing.Closing.{Closing}
use Rattle.ln_channel.specs.Opening.{opening_of}
use Rattle.ln_channel.specs.Ledger.{Ledger}
use Rattle.ln_channel.specs.End.{End}
use Rattle.ln_store.specs.declared.record.Flags.{Flags}
use Rattle.ln_store.specs.declared.record.Agreement.{Agreement}
use Rattle.ln_store.specs.declared.record.LiveHtlc.{LiveHtlc}
use Rattle.ln_store.specs.declared.record.Sides.{Sides}
use Rattle.ln_store.specs.declared.record.Base.{Base}
use Rattle.ln_store.specs.declared.record.Window.{Window}
use Rattle.ln_store.specs.declared.record.Covered.{Covered}
use Rattle.ln_store.specs.declared.record.Pairs.{Pairs}
use Rattle.ln_store.specs.declared.record.Events.{Events}
use Rattle.ln_store.specs.declared.record.Forwards.{Forwards}
use Rattle.ln_store.specs.declared.record.ClosingFees.{ClosingFees}
use Rattle.ln_store.specs.declared.record.Header.{Header}
use Rattle.ln_store.specs.declared.record.Commitments.{Commitments}
use Rattle.ln_store.specs.declared.record.Updates.{Updates}
use Rattle.ln_store.specs.declared.record.Progress.{Progress}
use Rattle.ln_store.specs.declared.record.Items.{Items}
use Rattle.ln_store.specs.Readable.{is_readable}

-- ---- which channel and end it is, and how far it is

abbrev pub flags_of : End → Flags
flags_of e = record {
  ready_sent = e.readiness.ready_sent;
  ready_received = e.readiness.ready_received;
  shut_sent = e.closing.shut;
  shut_received = e.closing.peer_shut;
  later = e.dance.later;
}

unfoldable pub header_of : Option Refusal → End → Header
header_of failure e =
    record { channel = e.dance.channel; role = e.closing.role; flags = flags_of e; failure = failure }

-- ---- what both sides agreed on

-- the bytes of a message after its type
unfoldable pub payload_of : Wire → List ℕ
payload_of w = drop 2 (wire_bytes w)

abbrev pub chain_place_of : ShortId → List ℕ
chain_place_of id = short_id_bytes id.block id.tx id.output

unfoldable pub agreement_of : End → Agreement
agreement_of e = record {
  open_payload = payload_of (open_wire e.terms.open_channel);
  accept_payload = payload_of (accept_wire e.terms.accept_channel);
  place = option_map chain_place_of e.readiness.short_id;
  fees = e.closing.fees;
  script = e.terms.script;
  peer_script = e.terms.peer_script;
}

-- ---- the updates

-- this side's number and the peer's, by roles
abbrev pub by_roles : Role → ℕ → ℕ → Sides
by_roles Funder own peer = record { funder = own; fundee = peer }
by_roles Fundee own peer = record { funder = peer; fundee = own }

abbrev pub live_of : Role → Add → LiveHtlc
live_of side a = record { offerer = side; add = a }

-- live HTLCs of this side and of the peer: the funder's, then the fundee's
abbrev pub live_htlcs_of : Role → List Add → List Add → List LiveHtlc
live_htlcs_of Funder own peer = map (live_of Funder) own ++ map (live_of Fundee) peer
live_htlcs_of Fundee own peer = map (live_of Funder) peer ++ map (live_of Fundee) own

-- what the first updates are worth, those that aren't had one by one, and their live HTLCs
abbrev pub base_of : RecordForm → Base
base_of t = record {
  updates = by_roles t.role t.first.own t.first.peer;
  next_ids = by_roles t.role t.balances.next_own t.balances.next_peer;
  balances = by_roles t.role t.balances.own t.balances.peer;
  feerate = t.balances.feerate;
  live = live_htlcs_of t.role t.own_live_htlcs t.peer_live_htlcs;
}

-- those after them, one by one
abbrev pub window_of : Role → List Update → List Update → Window
window_of Funder own received = record { funder = own; fundee = received }
window_of Fundee own received = record { funder = received; fundee = own }

abbrev pub covered_of : Counts → Covered
covered_of c = record { own = c.own; peer = c.peer }

abbrev pub pairs_of : RecordForm → Pairs
pairs_of t = record {
  signed = covered_of t.signed;
  acknowledged = covered_of t.acknowledged;
  current = covered_of t.current;
}

-- in the form in which they are stored, what is told of the updates
unfoldable pub updates_by : RecordForm → Updates
updates_by t = record { base = base_of t; window = window_of t.role t.own t.received; pairs = pairs_of t }

-- of a log of which a base is left out
abbrev pub updates_of : Opening → Role → Log → Updates
updates_of o x l = updates_by (record_form_of l.first (record l { opening = o; role = x }))

-- ---- what became of them

abbrev pub events_of : Ledger → Events
events_of l = record { decided = l.decided; undecided = l.undecided }

abbrev pub forwards_of : Ledger → Forwards
forwards_of l = record { decisions = l.decisions; results = l.results }

abbrev pub fees_of : Closing → ClosingFees
fees_of c = record { own = c.own_fee; peer = c.peer_fee; closed = c.closed }

unfoldable pub progress_of : End → Progress
progress_of e =
    record { events = events_of e.ledger; forwards = forwards_of e.ledger; fees = fees_of e.closing }

-- ---- all of it

abbrev pub commitments_of : Dancer → Commitments
commitments_of d = record { numbers = d.numbers; peer = d.peer }

unfoldable pub items_of : Option Refusal → End → Items
items_of failure e = record {
  header = header_of failure e;
  agreement = agreement_of e;
  commitments = commitments_of e.dance;
  updates = updates_of (opening_of e.terms) e.closing.role (after_drop e.dance.log);
  progress = progress_of e;
}

-- ---- which ends have no record

-- a message whose records may not stand after its fields, or that is longer than a message may be
abbrev pub IsUnwritable : Wire → Type 0
IsUnwritable w = ¬ CanBeWritten w ⊎ (longest < length (wire_bytes w))

-- a message of the opening can't be written
unfoldable pub HasNoAgreement : End → Type 0
HasNoAgreement e = IsUnwritable (open_wire e.terms.open_channel) ⊎ IsUnwritable (accept_wire e.terms.accept_channel)

-- its items aren't readable, though a log can be restored from what they tell of its updates
abbrev pub IsUnreadable : Option Refusal → End → Type 0
IsUnreadable failure e =
    IsRestorable (record_form_of e.dance.log.first (after_drop e.dance.log))
    × (is_readable (items_of failure e) ≡ false)

-- an end without a record: a message of its opening can't be written, or its items aren't readable
unfoldable pub NoRecord : Option Refusal → End → Type 0
NoRecord failure e = HasNoAgreement e ⊎ IsUnreadable failure e
