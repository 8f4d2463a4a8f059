-- What a record tells of an end of a channel: the end as a lost connection leaves it (BOLT 2, "Message
-- Retransmission"), and by what its channel has failed.
use Rattle.std.specs.Prelude.{◌≡◌, ◌⊎◌, ◌<◌, ◌^◌, ◌%◌, ◌+◌, ℕ, List, [], ◌∷◌, drop, slice_get, nat_le, Option}
use Rattle.std.specs.Prelude.{Some, None, option_map, is_some, IfSome, true, Result, Ok, Err, if◌then◌else◌}
use Rattle.std.specs.List.{insert}
use Rattle.std.proofs.Common.{mod-lt, lit≤}
use Rattle.std.proofs.Math.Nat.{one-le-pow}
use Rattle.ln_bytes.specs.Endian.{big_number}
use Rattle.ln_bytes.specs.declared.fault.Fault.{Fault}
use Rattle.ln_bytes.specs.declared.short_id.ShortId.{ShortId}
use Rattle.ln_msgs.specs.Codec.Field.{Value, Num, Str, Many}
use Rattle.ln_msgs.specs.Messages.Message.{Wire, Heard, Known, Ignored, Says, message_at, wire_bytes}
use Rattle.ln_msgs.specs.Messages.Typed.{open_wire, accept_wire}
use Rattle.ln_msgs.specs.declared.messages.opening.OpenChannel.{OpenChannel}
use Rattle.ln_msgs.specs.declared.messages.opening.AcceptChannel.{AcceptChannel}
use Rattle.ln_refusals.specs.declared.refusal.Refusal.{Refusal}
use Rattle.ln_refusals.specs.declared.refusal.Refusal.TheVariants as refusal
use Rattle.ln_keys.specs.declared.role.Role.{Role}
use Rattle.ln_log.specs.declared.log.Counts.{Counts}
use Rattle.ln_log.specs.declared.loading.Coverage.{Coverage}
use Rattle.ln_log.specs.declared.opening.Opening.{Opening}
use Rattle.ln_keys.specs.Role.{other_role}
use Rattle.ln_log.specs.declared.update.Add.{Add}
use Rattle.ln_log.specs.Log.{Log, after_drop}
use Rattle.ln_log.specs.RecordForm.{RecordForm, record_form_of, written, IsRestorable}
use Rattle.ln_log.specs.Window.{Balances}
use Rattle.ln_dance.specs.Dance.{Dancer, with_log}
use Rattle.ln_dance.specs.Past.{IsReadOf}
use Rattle.ln_close.specs.declared.closing.Closing.{Closing}
use Rattle.ln_close.specs.Closing.{AreOrdered}
use Rattle.ln_channel.specs.declared.channel.Readiness.{Readiness}
use Rattle.ln_channel.specs.declared.opening.Terms.{Terms}
use Rattle.ln_channel.specs.Opening.{opening_of}
use Rattle.ln_channel.specs.Ledger.{Ledger}
use Rattle.ln_channel.specs.End.{End, IsSound, with_dance, end_dropped}
use Rattle.ln_channel.specs.Parts.{end_with}
use Rattle.ln_channel.specs.Record.{came_back, saved_end}
use Rattle.ln_channel.specs.State.{State, StandsFor}
use Rattle.ln_store.specs.declared.record.Header.{Header}
use Rattle.ln_store.specs.declared.record.Flags.{Flags}
use Rattle.ln_store.specs.declared.record.Agreement.{Agreement}
use Rattle.ln_store.specs.declared.record.LiveHtlc.{LiveHtlc}
use Rattle.ln_store.specs.declared.record.Sides.{Sides}
use Rattle.ln_store.specs.declared.record.Base.{Base}
use Rattle.ln_store.specs.declared.record.Covered.{Covered}
use Rattle.ln_store.specs.declared.record.Pairs.{Pairs}
use Rattle.ln_store.specs.declared.record.Progress.{Progress}
use Rattle.ln_store.specs.declared.record.ClosingFees.{ClosingFees}
use Rattle.ln_store.specs.declared.record.Commitments.{Commitments}
use Rattle.ln_store.specs.declared.record.Updates.{Updates}
use Rattle.ln_store.specs.declared.record.Items.{Items}
use Rattle.ln_store.specs.Readable.{is_readable}
use Rattle.ln_store.specs.Removals.{are_one_side}
use Rattle.ln_store.specs.Sides.{count_of, window_of}
use Rattle.ln_link.specs.Record.{items_of}

-- ---- what both sides agreed on

abbrev pub as_number : Option Value → ℕ
as_number (Some (Num n)) = n
as_number (Some (Str bytes)) = 0
as_number (Some (Many items)) = 0
as_number None = 0

abbrev pub as_bytes : Option Value → List ℕ
as_bytes (Some (Num n)) = []
as_bytes (Some (Str bytes)) = bytes
as_bytes (Some (Many items)) = []
as_bytes None = []

-- the field of this place, counted from 0
abbrev pub number_in : Wire → ℕ → ℕ
number_in w place = as_number (slice_get w.values place)

abbrev pub bytes_in : Wire → ℕ → List ℕ
bytes_in w place = as_bytes (slice_get w.values place)

abbrev pub open_of : Wire → OpenChannel
open_of w = record {
  chain_hash = bytes_in w 0;
  temporary_id = bytes_in w 1;
  funding_satoshis = number_in w 2;
  push_msat = number_in w 3;
  dust_limit_satoshis = number_in w 4;
  max_htlc_value_in_flight_msat = number_in w 5;
  channel_reserve_satoshis = number_in w 6;
  htlc_minimum_msat = number_in w 7;
  feerate_per_kw = number_in w 8;
  to_self_delay = number_in w 9;
  max_accepted_htlcs = number_in w 10;
  funding_pubkey = bytes_in w 11;
  revocation_basepoint = bytes_in w 12;
  payment_basepoint = bytes_in w 13;
  delayed_payment_basepoint = bytes_in w 14;
  htlc_basepoint = bytes_in w 15;
  first_per_commitment_point = bytes_in w 16;
  channel_flags = number_in w 17;
  records = w.records;
}

abbrev pub accept_of : Wire → AcceptChannel
accept_of w = record {
  temporary_id = bytes_in w 0;
  dust_limit_satoshis = number_in w 1;
  max_htlc_value_in_flight_msat = number_in w 2;
  channel_reserve_satoshis = number_in w 3;
  htlc_minimum_msat = number_in w 4;
  minimum_depth = number_in w 5;
  to_self_delay = number_in w 6;
  max_accepted_htlcs = number_in w 7;
  funding_pubkey = bytes_in w 8;
  revocation_basepoint = bytes_in w 9;
  payment_basepoint = bytes_in w 10;
  delayed_payment_basepoint = bytes_in w 11;
  htlc_basepoint = bytes_in w 12;
  first_per_commitment_point = bytes_in w 13;
  records = w.records;
}

-- a message without fields, where bytes say none that is known
abbrev pub said : Result Heard Fault → Wire
said (Ok (Known w)) = w
said (Ok (Ignored typ)) = record { typ = typ; values = []; records = [] }
said (Err f) = record { typ = 0; values = []; records = [] }

-- the open_channel of this payload
unfoldable pub open_in : List ℕ → OpenChannel
open_in payload = open_of (said (message_at (0 ∷ 32 ∷ payload)))

-- the accept_channel of this payload
unfoldable pub accept_in : List ℕ → AcceptChannel
accept_in payload = accept_of (said (message_at (0 ∷ 33 ∷ payload)))

abbrev pub terms_of : Agreement → Terms
terms_of a = record {
  open_channel = open_in a.open_payload;
  accept_channel = accept_in a.accept_payload;
  script = a.script;
  peer_script = a.peer_script;
}

-- ---- how far it is

pub cut_below : (n : ℕ) → n % 2 ^ 24 < 2 ^ 24
cut_below n = mod-lt n (one-le-pow 24 2 (lit≤ tt))

-- the short channel id of these eight bytes (BOLT 7, "Definition of short_channel_id")
unfoldable pub short_id_of : List ℕ → ShortId
short_id_of bytes = record {
  block = big_number 3 bytes % 2 ^ 24;
  tx = big_number 3 (drop 3 bytes) % 2 ^ 24;
  output = big_number 2 (drop 6 bytes);
  block_fits = cut_below (big_number 3 bytes);
  tx_fits = cut_below (big_number 3 (drop 3 bytes));
}

abbrev pub readiness_of : Flags → Option (List ℕ) → Readiness
readiness_of f place = record {
  short_id = option_map short_id_of place;
  ready_sent = f.ready_sent;
  ready_received = f.ready_received;
}

abbrev pub closing_of : Header → Agreement → ClosingFees → Closing
closing_of h a f = record {
  role = h.role;
  fees = a.fees;
  shut = h.flags.shut_sent;
  peer_shut = h.flags.shut_received;
  own_fee = f.own;
  peer_fee = f.peer;
  closed = f.closed;
}

-- ---- the updates

-- this side's, and the peer's
abbrev pub counts_by : Role → Sides → Counts
counts_by x s = record { own = count_of x s; peer = count_of (other_role x) s }

abbrev pub balances_in : Role → Base → Balances
balances_in x b = record {
  next_own = count_of x b.next_ids;
  next_peer = count_of (other_role x) b.next_ids;
  own = count_of x b.balances;
  peer = count_of (other_role x) b.balances;
  feerate = b.feerate;
}

-- of HTLCs by their ids, how many stand before one of this id
abbrev pub place_in : ℕ → List Add → ℕ
place_in id [] = 0
place_in id (a ∷ adds) = if nat_le a.id id then place_in id adds + 1 else place_in id adds

-- the live HTLCs of a side, after these and by their ids: a record may have them in any order
abbrev pub live_htlcs_from : Role → List Add → List LiveHtlc → List Add
live_htlcs_from side adds [] = adds
live_htlcs_from side adds (h ∷ hs) = live_htlcs_from side
    (if are_one_side side h.offerer then insert adds (place_in h.add.id adds) h.add else adds) hs

abbrev pub live_htlcs_in : Role → List LiveHtlc → List Add
live_htlcs_in side live = live_htlcs_from side [] live

abbrev pub counts_in : Covered → Counts
counts_in c = record { own = c.own; peer = c.peer }

abbrev pub coverage_in : Pairs → Coverage
coverage_in p = record {
  signed = counts_in p.signed;
  acknowledged = counts_in p.acknowledged;
  current = counts_in p.current;
}

abbrev pub told_in : Opening → Role → Updates → RecordForm
told_in o x u = record {
  opening = o;
  role = x;
  first = counts_by x u.base.updates;
  balances = balances_in x u.base;
  own_live_htlcs = live_htlcs_in x u.base.live;
  peer_live_htlcs = live_htlcs_in (other_role x) u.base.live;
  own = window_of x u.window;
  received = window_of (other_role x) u.window;
  signed = counts_in u.pairs.signed;
  acknowledged = counts_in u.pairs.acknowledged;
  current = counts_in u.pairs.current;
}

-- of the lists that they may tell of those that are written down
abbrev pub log_of : Opening → Role → Updates → Log
log_of o x u = record (written (told_in o x u)) { first = counts_by x u.base.updates }

abbrev pub dance_of : Header → Commitments → Log → Dancer
dance_of h c l = record {
  channel = h.channel;
  log = l;
  numbers = c.numbers;
  peer = c.peer;
  later = h.flags.later;
}

-- ---- what became of them

abbrev pub ledger_of : Progress → Ledger
ledger_of p = record {
  decided = p.events.decided;
  undecided = p.events.undecided;
  decisions = p.forwards.decisions;
  results = p.forwards.results;
}

-- ---- all of it

abbrev pub log_in : Items → Log
log_in i = log_of (opening_of (terms_of i.agreement)) i.header.role i.updates

unfoldable pub end_of : Items → End
end_of i =
    end_with (dance_of i.header i.commitments (log_in i)) (closing_of i.header i.agreement i.progress.fees)
    (terms_of i.agreement) (readiness_of i.header.flags i.agreement.place) (ledger_of i.progress)

-- ---- which items can be loaded

-- a log can be restored from the base and the updates of the window
abbrev pub TellsLog : Opening → Role → Updates → Type 0
TellsLog o x u = IsRestorable (told_in o x u)

-- The updates tell a log, the closing fees are in order, and the peer's script is there where the peer has shut down.
pub record IsLoadable (i : Items) : Type 0 where
  pub updates : TellsLog (opening_of (terms_of i.agreement)) i.header.role i.updates
  pub fees : AreOrdered i.agreement.fees
  pub scripts : is_some i.agreement.peer_script ≡ i.header.flags.shut_received

-- ---- what is answered to the bytes of a record

-- the first fault: that of the bytes, or that their items can't be loaded
abbrev pub IsFault : Refusal → Result Items Refusal → Type 0
IsFault e (Ok i) = (e ≡ refusal.Damaged) × ¬ IsLoadable i
IsFault e (Err r) = e ≡ r

-- by what the channel has failed, and its end, as the items tell them, where they can be loaded; else the first fault,
-- but for want of memory
abbrev pub TellsEnd : Result Items Refusal → Result (Option Refusal × End) Refusal → Type 0
TellsEnd read (Ok k) = (i : Items) × (read ≡ Ok i) × IsLoadable i × (k ≡ (i.header.failure, end_of i))
TellsEnd read (Err e) = (e ≡ refusal.Memory) ⊎ IsFault e read

-- the link that the items tell, where they can be loaded; else the first fault, but for want of memory
abbrev pub Loads : {K : Type 0} → K → Result Items Refusal → Result (State K) Refusal → Type 0
Loads keys read (Ok l) = (i : Items) × (read ≡ Ok i) × IsLoadable i
    × StandsFor l (came_back keys i.header.failure (end_of i))
Loads keys read (Err e) = (e ≡ refusal.Memory) ⊎ IsFault e read

-- it comes back in its place, with the keys that it has; refused, it is as it was
abbrev pub Reloads : {K : Type 0} → State K → Result Items Refusal → Result (Unit {0}) Refusal → State K → Type 0
Reloads l read (Ok u) l' = Loads l.keys read (Ok l')
Reloads l read (Err e) l' = Loads l.keys read (Err e) × (l' ≡ l)

-- ---- what is saved

-- the bytes of a message say it
unfoldable pub IsSaid : Wire → Type 0
IsSaid w = Says (Known w) (wire_bytes w)

-- An end that has a record: its parts fit together, the messages of its opening can be written, and a log can be
-- restored from what is told of its updates that signatures cover.
pub record HasRecord (failure : Option Refusal) (e : End) : Type 0 where
  pub sound : IsSound e
  pub open_channel : IsSaid (open_wire e.terms.open_channel)
  pub accept_channel : IsSaid (accept_wire e.terms.accept_channel)
  pub output : IfSome e.readiness.short_id (λ id. id.output < 2 ^ 16)
  pub log : IsRestorable (record_form_of e.dance.log.first (after_drop e.dance.log))
  pub items : is_readable (items_of failure e) ≡ true

-- The end that is read of another one's record: the same, but for the updates that the other hasn't one by one any
-- more. Of these it has ones of which a record tells the same.
pub record IsReadAgain (e other : End) : Type 0 where
  pub log : IsReadOf e.dance.log other.dance.log
  pub same_end : e ≡ with_dance (with_log e.dance.log other.dance) other

-- a link that was loaded of another one's record
abbrev pub IsLoadedOf : {K : Type 0} → State K → Option Refusal → Option End → Type 0
IsLoadedOf l failure (Some e) = HasRecord failure e × (l ≡ came_back l.keys failure (end_of (items_of failure e)))
IsLoadedOf l failure None = ⊥

abbrev pub ComesBackOf : {K : Type 0} → State K → State K → Type 0
ComesBackOf l other = IsLoadedOf l other.failure (saved_end other.stage)

-- what a lost connection leaves of the end comes back, with the failure of its channel
abbrev pub CameBack : {K : Type 0} → K → Option Refusal → Option End → State K → Type 0
CameBack keys failure (Some e) l = l ≡ came_back keys failure (end_dropped e)
CameBack keys failure None l = ⊥

abbrev pub IsCameBack : {K : Type 0} → K → State K → State K → Type 0
IsCameBack keys other l = CameBack keys other.failure (saved_end other.stage) l
