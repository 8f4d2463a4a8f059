-- What a book begins with after a restart: the HTLCs that came in, as the records of the node's channels have them.
use Rattle.std.specs.Prelude.{ℕ, List, [], ◌∷◌, ◌++◌, length, replicate, Bool, true, false, not, ◌&&◌, ◌||◌}
use Rattle.std.specs.Prelude.{Option, Some, None, if◌then◌else◌}
use Rattle.std.specs.List.{cons_option, find, list_any}
use Rattle.ln_log.specs.declared.log.Side.TheVariants as side
use Rattle.ln_log.specs.declared.mark.Decision.{Decision}
use Rattle.ln_log.specs.declared.mark.Mark.{Mark}
use Rattle.ln_log.specs.declared.mark.Mark.TheVariants as mark
use Rattle.ln_log.specs.declared.mark.Settlement.{Settlement}
use Rattle.ln_log.specs.declared.update.Add.{Add}
use Rattle.ln_log.specs.declared.update.Update.{Update}
use Rattle.ln_log.specs.declared.update.Update.TheVariants as update
use Rattle.ln_log.specs.Updates.{offered, add_with, outcome, is_live}
use Rattle.ln_log.specs.Log.{Log, between}
use Rattle.ln_log.specs.Window.{first_live_htlcs}
use Rattle.ln_hooks.specs.declared.event.How.{How}
use Rattle.ln_hooks.specs.declared.event.How.TheVariants as how
use Rattle.ln_channel.specs.End.{End}
use Rattle.ln_book_tables.specs.declared.htlc.Key.{Key}
use Rattle.ln_book_tables.specs.declared.htlc.Offer.{Offer}
use Rattle.ln_book_tables.specs.declared.htlc.OutgoingLeg.{OutgoingLeg}
use Rattle.ln_book_tables.specs.declared.htlc.OutgoingLeg.TheVariants as outgoing
use Rattle.ln_book_tables.specs.declared.htlc.IncomingLeg.{IncomingLeg}
use Rattle.ln_book_tables.specs.declared.htlc.IncomingLeg.TheVariants as incoming
use Rattle.ln_book_tables.specs.declared.htlc.Htlc.{Htlc}
use Rattle.ln_book.specs.declared.recovery.leg.Leg.{Leg}
use Rattle.ln_book_tables.specs.Replay.{Table, same_key, is_htlc, put_outgoing, is_open, has_nothing_offered, is_over}
use Rattle.ln_book.specs.Kept.{own_updates, has_own_removal}

-- what a book takes from one channel
pub record ChannelSnapshot : Type 0 where
  pub offered : List Leg  -- its own adds that forward others
  pub results : List Leg  -- what became of such adds
  pub decided : List Htlc  -- the peer's HTLCs that it has decided; where they go isn't said

-- an event has no such number: an HTLC that is read was decided, and no event that comes tells of it
abbrev pub no_event : ℕ
no_event = 18446744073709551615

-- ---- the reading of a channel

abbrev pub key_at : List ℕ → ℕ → Key
key_at c id = record { channel = c; id = id }

abbrev pub key_of : List ℕ × ℕ → Key
key_of o = record { channel = o.0; id = o.1 }

abbrev pub leg_from : List ℕ → ℕ → Option (List ℕ × ℕ) → Option Leg
leg_from c id None = None
leg_from c id (Some o) = Some (record { origin = key_of o; outgoing = outgoing.Offered (key_at c id) })

abbrev pub leg_of : List ℕ → Option Add → Option Leg
leg_of c None = None
leg_of c (Some a) = leg_from c a.id a.origin

-- an add that forwards none is left out
abbrev pub legs_offered : List ℕ → List Update → List Leg
legs_offered c [] = []
legs_offered c (u ∷ us) = cons_option (leg_of c (offered u)) (legs_offered c us)

-- how an update removes an HTLC
abbrev pub how_of : Update → Option How
how_of (update.Add a) = None
how_of (update.Fulfil f) = Some (how.Fulfilled f.preimage)
how_of (update.Fail f) = Some (how.Failed f.reason)
how_of (update.Malformed m) = Some (how.Malformed m.sha256_of_onion m.failure_code)
how_of (update.Fee f) = None

abbrev pub leg_resolved : List ℕ → Settlement → Option How → Option Leg
leg_resolved c s None = None
leg_resolved c s (Some h) = Some (record { origin = key_of s.origin; outgoing = outgoing.Resolved (key_at c s.id) h })

abbrev pub legs_resolved : List ℕ → List Settlement → List Leg
legs_resolved c [] = []
legs_resolved c (s ∷ ss) = cons_option (leg_resolved c s (how_of s.removal)) (legs_resolved c ss)

-- the peer's updates that the end has: those that offered the HTLCs that are live in its base, and those after it
abbrev pub peer_window : Log → List Update
peer_window l = between l.first.peer (length l.received) l.received

abbrev pub peer_updates : Log → List Update
peer_updates l = first_live_htlcs side.Peer l ++ peer_window l

-- the own updates after the base that are held as irrevocably committed
abbrev pub held_updates : Log → List Update
held_updates l = between l.first.own l.current.own l.own

-- such an update removes the peer's HTLC of this id
abbrev pub holds_removal : ℕ → Log → Bool
holds_removal id l = not (is_live (outcome id (held_updates l)))

abbrev pub incoming_by : Bool → Bool → IncomingLeg
incoming_by true there = incoming.Settled
incoming_by false true = incoming.RemovalSent
incoming_by false false = incoming.Open

-- an own removal is held, only stands in the list, or there is none
abbrev pub incoming_in : ℕ → Log → IncomingLeg
incoming_in id l = incoming_by (holds_removal id l) (has_own_removal id l)

abbrev pub offer_by : Add → Offer
offer_by a = record { id = a.id; amount = a.amount; hash = a.hash; expiry = a.expiry; onion = a.onion }

abbrev pub htlc_by : List ℕ → Mark → IncomingLeg → Add → Htlc
htlc_by c m b a = record {
  key = key_at c a.id;
  event = no_event;
  offer = offer_by a;
  mark = m;
  decided = true;
  outgoing = outgoing.Absent;
  incoming = b;
}

abbrev pub decided_by : List ℕ → Mark → IncomingLeg → Option Add → Option Htlc
decided_by c m b None = None
decided_by c m b (Some a) = Some (htlc_by c m b a)

-- each decision with the peer's add of its id: it leaves the record with its HTLC, as the removal enters the base
abbrev pub decided_in : List ℕ → Log → List Decision → List Htlc
decided_in c l [] = []
decided_in c l (d ∷ ds) =
    cons_option (decided_by c d.mark (incoming_in d.id l) (add_with d.id (peer_updates l))) (decided_in c l ds)

abbrev pub channel_snapshot_of : End → ChannelSnapshot
channel_snapshot_of e = record {
  offered = legs_offered e.dance.channel (own_updates e.dance.log);
  results = legs_resolved e.dance.channel e.ledger.results;
  decided = decided_in e.dance.channel e.dance.log e.ledger.decisions;
}

-- ---- where an HTLC goes

abbrev pub is_for : Key → Leg → Bool
is_for k l = same_key k l.origin

abbrev pub or_leg : Option Leg → Option Leg → Option Leg
or_leg None y = y
or_leg (Some x) y = Some x

-- the first result over all channels
abbrev pub result_for : Key → List ChannelSnapshot → Option Leg
result_for k [] = None
result_for k (r ∷ rs) = or_leg (find (is_for k) r.results) (result_for k rs)

-- the first add
abbrev pub offer_for : Key → List ChannelSnapshot → Option Leg
offer_for k [] = None
offer_for k (r ∷ rs) = or_leg (find (is_for k) r.offered) (offer_for k rs)

abbrev pub outgoing_along : Option Leg → OutgoingLeg
outgoing_along None = outgoing.Absent
outgoing_along (Some l) = l.outgoing

-- by the result, else by the add
abbrev pub outgoing_for : Key → List ChannelSnapshot → OutgoingLeg
outgoing_for k rs = outgoing_along (or_leg (result_for k rs) (offer_for k rs))

-- it is to be forwarded, or may be, once it is resumed
abbrev pub may_go_out : Mark → Bool
may_go_out mark.None = false
may_go_out (mark.Forward c amount expiry) = true
may_go_out (mark.Fail reason) = false
may_go_out (mark.Malformed code) = false
may_go_out (mark.Fulfil preimage) = false
may_go_out (mark.Held event) = true

-- such a one that has a removal and goes nowhere was refused, or removed while it was held: it isn't offered any more
abbrev pub outgoing_read : Mark → IncomingLeg → OutgoingLeg → OutgoingLeg
outgoing_read m b w = if may_go_out m && (not (is_open b) && has_nothing_offered w) then outgoing.Refused else w

abbrev pub led : List ChannelSnapshot → Htlc → Htlc
led rs h = put_outgoing (outgoing_read h.mark h.incoming (outgoing_for h.key rs)) h

-- ---- what the book begins with

-- what is finished is left out
abbrev pub unfinished : List ChannelSnapshot → List Htlc → List Htlc
unfinished all [] = []
unfinished all (h ∷ hs) = if is_over (led all h) then unfinished all hs else led all h ∷ unfinished all hs

abbrev pub all_unfinished : List ChannelSnapshot → List ChannelSnapshot → List Htlc
all_unfinished all [] = []
all_unfinished all (r ∷ rs) = unfinished all r.decided ++ all_unfinished all rs

abbrev pub is_read : Key → List ChannelSnapshot → Bool
is_read k [] = false
is_read k (r ∷ rs) = list_any (is_htlc k) r.decided || is_read k rs

-- of a result whose decision is gone nothing is left but to forget it
abbrev pub htlc_left : Leg → Htlc
htlc_left l = record {
  key = l.origin;
  event = no_event;
  offer = record {
    id = l.origin.id;
    amount = 0;
    hash = replicate 32 0;
    expiry = 0;
    onion = replicate 1366 0;
  };
  mark = mark.Fulfil (replicate 32 0);
  decided = true;
  outgoing = l.outgoing;
  incoming = incoming.Settled;
}

abbrev pub left : List ChannelSnapshot → List Leg → List Htlc
left all [] = []
left all (l ∷ ls) = if is_read l.origin all then left all ls else htlc_left l ∷ left all ls

abbrev pub all_left : List ChannelSnapshot → List ChannelSnapshot → List Htlc
all_left all [] = []
all_left all (r ∷ rs) = left all r.results ++ all_left all rs

-- the HTLCs of all channels, one channel after the other, and after them the results that are left
abbrev pub rebuilt_htlcs : List ChannelSnapshot → List Htlc
rebuilt_htlcs rs = all_unfinished rs rs ++ all_left rs rs

-- settings stay; nothing is queued, and nothing is out
abbrev pub rebuilt : Table → List ChannelSnapshot → Table
rebuilt t rs = record t { queue = []; htlcs = rebuilt_htlcs rs; pending_commands = [] }
