-- What a book reads off ends that are as wide as in code is so too, and so is the book as it follows them.
use Rattle.std.proofs.Common.{◌≡◌, ◌+◌, ◌-◌, ℕ, zero, suc, List, [], ◌∷◌, length, map, take, drop}
use Rattle.std.proofs.Common.{sym, subst, arith, Bool, true, false, cond, ◌==◌, nat_lt, nat_le}
use Rattle.std.proofs.Common.{Option, Some, None, option_map}
use Rattle.std.proofs.lemmas.List.{length-replicate}
use Rattle.std.specs.List.{cons_option, find, slice_get}
use Rattle.ln_keys.specs.declared.role.Role.{Role}
use Rattle.ln_keys.specs.declared.role.Role.TheVariants.{Funder, Fundee}
use Rattle.ln_log.specs.declared.mark.Decision.{Decision}
use Rattle.ln_log.specs.declared.mark.EventRef.{EventRef}
use Rattle.ln_log.specs.declared.mark.EventRef.TheVariants as ref
use Rattle.ln_log.specs.declared.mark.Mark.{Mark}
use Rattle.ln_log.specs.declared.mark.Mark.TheVariants as mark
use Rattle.ln_log.specs.declared.mark.Settlement.{Settlement}
use Rattle.ln_log.specs.declared.update.Add.{Add}
use Rattle.ln_log.specs.declared.update.Update.{Update}
use Rattle.ln_log.specs.declared.update.Update.TheVariants as update
use Rattle.ln_log.specs.declared.log.Side.TheVariants as side
use Rattle.ln_log.specs.Updates.{offered, outcome, is_live, add_with, found_or}
use Rattle.ln_log.specs.View.{live_of, live_adds}
use Rattle.ln_log.specs.Log.{Log, between, update_at}
use Rattle.ln_log.specs.Window.{live_htlcs, first_live_htlcs}
use Rattle.ln_hooks.specs.declared.event.ChannelEvent.{ChannelEvent}
use Rattle.ln_hooks.specs.declared.event.ChannelEvent.TheVariants as event
use Rattle.ln_hooks.specs.declared.event.How.{How}
use Rattle.ln_forward.specs.declared.checks.Policy.{Policy}
use Rattle.ln_channel.specs.End.{End as ChannelEnd}
use Rattle.ln_channel.specs.Pending.{event_in, named_by}
use Rattle.ln_channel.specs.Record.{saved_end}
use Rattle.ln_channel.specs.State.{State}
use Rattle.ln_book_tables.specs.declared.htlc.Key.{Key}
use Rattle.ln_book_tables.specs.declared.htlc.OutgoingLeg.TheVariants as outgoing
use Rattle.ln_book_tables.specs.declared.htlc.IncomingLeg.{IncomingLeg}
use Rattle.ln_book_tables.specs.declared.htlc.Htlc.{Htlc}
use Rattle.ln_book_tables.specs.declared.entry.Entry.{Entry}
use Rattle.ln_book_tables.specs.declared.entry.Entry.TheVariants as entry
use Rattle.ln_history.specs.History.{with_entry}
use Rattle.ln_book_tables.specs.Replay.{Table, replay, table_of, is_over}
use Rattle.ln_channel_laws.specs.Widths.{IsOrigin, IsMark, IsAdd, IsUpdate}
use Rattle.ln_channel_laws.proofs.Offered.{All, all-append, all-take, all-drop, all-when, Where, Does, IsDecision}
use Rattle.ln_channel_laws.proofs.Offered.{IsSettlement}
use Rattle.ln_book.specs.declared.recovery.leg.Leg.{Leg}
use Rattle.ln_book.specs.Kept.{own_window, own_updates}
use Rattle.ln_book.specs.Rebuild.{ChannelSnapshot, leg_from, leg_of, legs_offered, how_of, leg_resolved}
use Rattle.ln_book.specs.Rebuild.{legs_resolved}
use Rattle.ln_book.specs.Rebuild.{peer_window, peer_updates, incoming_in, decided_by, decided_in}
use Rattle.ln_book.specs.Rebuild.{channel_snapshot_of, is_for}
use Rattle.ln_book.specs.Rebuild.{or_leg, result_for, offer_for, outgoing_along, outgoing_for, outgoing_read}
use Rattle.ln_book.specs.Rebuild.{led}
use Rattle.ln_book.specs.Rebuild.{unfinished, all_unfinished, is_read, htlc_left, left, all_left, rebuilt}
use Rattle.ln_book.specs.Settled.{with_settled}
use Rattle.ln_world_channels.specs.declared.step.Node.{Node}
use Rattle.ln_world_channels.specs.WorldChannel.{WorldChannel, place_of, side_of}
use Rattle.ln_world_channels.specs.World.{channel}
use Rattle.ln_world_dispatch.specs.World.{item, named_at, undecided}
use Rattle.ln_world.specs.declared.node.NodeBook.{NodeBook}
use Rattle.ln_world.specs.Node.{Book}
use Rattle.ln_world.specs.BookReports.{with_event, with_events, with_held, event_count}
use Rattle.ln_book.specs.declared.switch.uses.Use.{Use}
use Rattle.ln_book.specs.Uses.{use_of, with_route}
use Rattle.ln_book.specs.Snapshots.{snapshot_by}
use Rattle.ln_world.specs.Follow.{with_end, with_side, with_channel, followed_below}
use Rattle.ln_world.specs.Follow.{followed, side_snapshot, snapshot_in, snapshots_below, begun_anew}
use Rattle.ln_world.proofs.WideTables.{IsHow, IsOutgoingLeg, IsKey, IsHtlc, IsTable, IsEntry, either, where-either}
use Rattle.ln_world.proofs.WideTables.{all-find, outgoing_so, after_so, replayed}
use Rattle.ln_world.proofs.WideMarks.{IsEvent, event_so}

-- ---- ends

pub record IsEnd (e : ChannelEnd) : Type 0 where
  pub channel : length e.dance.channel ≡ 32
  pub own : All IsUpdate e.dance.log.own
  pub received : All IsUpdate e.dance.log.received
  pub decisions : All IsDecision e.ledger.decisions
  pub results : All IsSettlement e.ledger.results

module _ {A : Type 0} (P : A → Type 0) where
  cons_so : (o : Option A) (xs : List A) → Where P o → All P xs → All P (cons_option o xs)
  cons_so None xs h g = g
  cons_so (Some x) xs h g = (h, g)

  pub all-item : (n : ℕ) (xs : List A) → All P xs → Where P (item n xs)
  all-item n [] h = tt
  all-item zero (x ∷ xs) h = h.0
  all-item (suc n) (x ∷ xs) h = all-item n xs h.1

  got_so : (xs : List A) (n : ℕ) → All P xs → Where P (slice_get xs n)
  got_so [] n h = tt
  got_so (x ∷ xs) zero h = h.0
  got_so (x ∷ xs) (suc n) h = got_so xs n h.1

-- ---- what an end tells of its events

told_in : (own : Bool) (o : Option Update) → Where IsUpdate o → Where IsEvent (event_in own o)
told_in own None h = tt
told_in own (Some u) h = event_so own u h

update_so : (own : Bool) (first : ℕ) (us : List Update) (n : ℕ) → All IsUpdate us
    → Where IsEvent (event_in own (update_at first us n))
update_so own first us n h =
    told_in own (update_at first us n)
    (where-either IsUpdate (nat_lt n first) None (slice_get us n) tt (got_so IsUpdate us n h))

closed_so : (o : Option ℕ) → Where IsEvent (option_map event.Closed o)
closed_so None = tt
closed_so (Some fee) = tt

named_so : (r : EventRef) (e : ChannelEnd) → IsEnd e → Where IsEvent (named_by r e)
named_so (ref.Own n) e h = update_so true e.dance.log.first.own e.dance.log.own n h.own
named_so (ref.Peer n) e h = update_so false e.dance.log.first.peer e.dance.log.received n h.received
named_so ref.Close e h = closed_so e.closing.closed

named_at_so : (o : Option EventRef) (e : ChannelEnd) → IsEnd e → Where IsEvent (named_at o e)
named_at_so None e h = tt
named_at_so (Some r) e h = named_so r e h

pub undecided_so : (n : ℕ) (e : ChannelEnd) → IsEnd e → Where IsEvent (undecided n e)
undecided_so n e h =
    let o = named_at (item (n - e.ledger.decided) e.ledger.undecided) e in
    where-either IsEvent (nat_le e.ledger.decided n) o None
    (named_at_so (item (n - e.ledger.decided) e.ledger.undecided) e h) tt

-- ---- books

abbrev pub IsBook : Book → Type 0
IsBook b = IsTable (table_of b)

pub entered_so : (x : Entry) (b : Book) → IsEntry x → IsBook b → IsBook (with_entry x b)
entered_so x b is h =
    subst IsTable (sym (replayed b.start b.entries x)) (after_so (replay b.start b.entries) x is h)

settled_so : (own : Bool) (c : List ℕ) (id : ℕ) (h : How) (b : Book) → IsHow h → IsBook b
    → IsBook (with_settled c (event.Settled own id h) b)
settled_so true c id h b is g = entered_so (entry.Resolved (record { channel = c; id = id }) h) b is g
settled_so false c id h b is g = entered_so (entry.Removed (record { channel = c; id = id })) b tt g

with_event_so : (c : List ℕ) (o : Option ChannelEvent) (b : Book) → Where IsEvent o → IsBook b
    → IsBook (with_event c o b)
with_event_so c None b is h = h
with_event_so c (Some (event.Added own id amount hash expiry onion)) b is h = h
with_event_so c (Some (event.Settled own id how)) b is h = settled_so own c id how b is h
with_event_so c (Some (event.Closed fee)) b is h = h

with_events_so : (c : List ℕ) (n k : ℕ) (e : ChannelEnd) (b : Book) → IsEnd e → IsBook b
    → IsBook (with_events c n k e b)
with_events_so c n zero e b is h = h
with_events_so c n (suc k) e b is h =
    with_events_so c (n + 1) k e (with_event c (undecided n e) b) is
    (with_event_so c (undecided n e) b (undecided_so n e is) h)

pub held_so : (c : List ℕ) (before : ℕ) (o : Option ChannelEnd) (b : Book) → Where IsEnd o → IsBook b
    → IsBook (with_held c before o b)
held_so c before None b is h = h
held_so c before (Some e) b is h = with_events_so c before (event_count (Some e) - before) e b is h

-- ---- readings

pub record IsLeg (l : Leg) : Type 0 where
  pub origin : IsKey l.origin
  pub outgoing : IsOutgoingLeg l.outgoing

pub record IsSnapshot (r : ChannelSnapshot) : Type 0 where
  pub offered : All IsLeg r.offered
  pub results : All IsLeg r.results
  pub decided : All IsHtlc r.decided

leg_so : (c : List ℕ) (id : ℕ) (o : Option (List ℕ × ℕ)) → IsOrigin o → Where IsLeg (leg_from c id o)
leg_so c id None h = tt
leg_so c id (Some o) h = record { origin = record { channel = h.0; id = h.1 }; outgoing = tt }

leg_of_so : (c : List ℕ) (u : Update) → IsUpdate u → Where IsLeg (leg_of c (offered u))
leg_of_so c (update.Add a) h = leg_so c a.id a.origin h.origin
leg_of_so c (update.Fulfil f) h = tt
leg_of_so c (update.Fail f) h = tt
leg_of_so c (update.Malformed m) h = tt
leg_of_so c (update.Fee f) h = tt

legs_so : (c : List ℕ) (us : List Update) → All IsUpdate us → All IsLeg (legs_offered c us)
legs_so c [] h = tt
legs_so c (u ∷ us) h = cons_so IsLeg (leg_of c (offered u)) (legs_offered c us) (leg_of_so c u h.0) (legs_so c us h.1)

how_so : (u : Update) → IsUpdate u → Where IsHow (how_of u)
how_so (update.Add a) h = tt
how_so (update.Fulfil f) h = h.preimage
how_so (update.Fail f) h = tt
how_so (update.Malformed m) h = tt
how_so (update.Fee f) h = tt

over_so : (c : List ℕ) (s : Settlement) (o : Option How) → IsSettlement s → Where IsHow o
    → Where IsLeg (leg_resolved c s o)
over_so c s None is h = tt
over_so c s (Some x) is h = record { origin = record { channel = is.origin.0; id = is.origin.1 }; outgoing = h }

results_so : (c : List ℕ) (ss : List Settlement) → All IsSettlement ss → All IsLeg (legs_resolved c ss)
results_so c [] h = tt
results_so c (s ∷ ss) h =
    cons_so IsLeg (leg_resolved c s (how_of s.removal)) (legs_resolved c ss)
    (over_so c s (how_of s.removal) h.0 (how_so s.removal h.0.update)) (results_so c ss h.1)

found_so : (id : ℕ) (o rest : Option Add) → Where IsAdd o → Where IsAdd rest → Where IsAdd (found_or id o rest)
found_so id None rest h g = g
found_so id (Some a) rest h g = where-either IsAdd (a.id == id) (Some a) rest h g

offered_so : (u : Update) → IsUpdate u → Where IsAdd (offered u)
offered_so (update.Add a) h = h
offered_so (update.Fulfil f) h = tt
offered_so (update.Fail f) h = tt
offered_so (update.Malformed m) h = tt
offered_so (update.Fee f) h = tt

add_so : (id : ℕ) (us : List Update) → All IsUpdate us → Where IsAdd (add_with id us)
add_so id [] h = tt
add_so id (u ∷ us) h = found_so id (offered u) (add_with id us) (offered_so u h.0) (add_so id us h.1)

does_so : (m : Mark) → Does m → IsMark m
does_so mark.None h = tt
does_so (mark.Forward channel amount expiry) h = h
does_so (mark.Fail reason) h = h
does_so (mark.Malformed code) h = h
does_so (mark.Fulfil preimage) h = h
does_so (mark.Held event) h = tt

htlc_so : (c : List ℕ) (m : Mark) (b : IncomingLeg) (o : Option Add) → length c ≡ 32 → Does m → Where IsAdd o
    → Where IsHtlc (decided_by c m b o)
htlc_so c m b None channel does h = tt
htlc_so c m b (Some a) channel does h =
    record {
      key = record { channel = channel; id = h.id };
      offer = record { id = h.id; amount = h.amount; hash = h.hash; expiry = h.expiry };
      mark = does_so m does;
      outgoing = tt;
    }

decided_so : (c : List ℕ) (l : Log) (ds : List Decision) → length c ≡ 32 → All IsUpdate (peer_updates l)
    → All IsDecision ds → All IsHtlc (decided_in c l ds)
decided_so c l [] channel us h = tt
decided_so c l (d ∷ ds) channel us h =
    cons_so IsHtlc (decided_by c d.mark (incoming_in d.id l) (add_with d.id (peer_updates l))) (decided_in c l ds)
    (htlc_so c d.mark (incoming_in d.id l) (add_with d.id (peer_updates l)) channel h.0.mark
    (add_so d.id (peer_updates l) us)) (decided_so c l ds channel us h.1)

between_so : (from to : ℕ) (us : List Update) → All IsUpdate us → All IsUpdate (between from to us)
between_so from to us h = all-take IsUpdate (to - from) (drop from us) (all-drop IsUpdate from us h)

-- the HTLCs that are live in a base, as the updates that offered them
still_so : (b : Bool) (a : Add) (rest : List Add) → IsAdd a → All IsUpdate (map (λ x. update.Add x) rest)
    → All IsUpdate (map (λ x. update.Add x) (cons_option (cond b (Some a) None) rest))
still_so true a rest h g = (h, g)
still_so false a rest h g = g

live_so : (o : Option Add) (r : List Update) (rest : List Add) → Where IsAdd o
    → All IsUpdate (map (λ x. update.Add x) rest)
    → All IsUpdate (map (λ x. update.Add x) (cons_option (live_of o r) rest))
live_so None r rest h g = g
live_so (Some a) r rest h g = still_so (is_live (outcome a.id r)) a rest h g

live_htlcs_so : (us r : List Update) → All IsUpdate us → All IsUpdate (live_htlcs us r)
live_htlcs_so [] r h = tt
live_htlcs_so (u ∷ us) r h = live_so (offered u) r (live_adds us r) (offered_so u h.0) (live_htlcs_so us r h.1)

own_so : (e : ChannelEnd) → IsEnd e → All IsUpdate (own_updates e.dance.log)
own_so e h =
    let l = e.dance.log in
    all-append IsUpdate (first_live_htlcs side.Own l) (own_window l)
    (live_htlcs_so (take l.first.own l.own) (take l.first.peer l.received) (all-take IsUpdate l.first.own l.own h.own))
    (between_so l.first.own (length l.own) l.own h.own)

peer_so : (e : ChannelEnd) → IsEnd e → All IsUpdate (peer_updates e.dance.log)
peer_so e h =
    let l = e.dance.log in
    all-append IsUpdate (first_live_htlcs side.Peer l) (peer_window l)
    (live_htlcs_so (take l.first.peer l.received) (take l.first.own l.own)
    (all-take IsUpdate l.first.peer l.received h.received))
    (between_so l.first.peer (length l.received) l.received h.received)

pub snapshot_so : (e : ChannelEnd) → IsEnd e → IsSnapshot (channel_snapshot_of e)
snapshot_so e h = record {
  offered = legs_so e.dance.channel (own_updates e.dance.log) (own_so e h);
  results = results_so e.dance.channel e.ledger.results h.results;
  decided = decided_so e.dance.channel e.dance.log e.ledger.decisions h.channel (peer_so e h) h.decisions;
}

-- ---- where HTLCs go

or_leg_so : (x y : Option Leg) → Where IsLeg x → Where IsLeg y → Where IsLeg (or_leg x y)
or_leg_so None y h g = g
or_leg_so (Some x) y h g = h

result_so : (k : Key) (rs : List ChannelSnapshot) → All IsSnapshot rs → Where IsLeg (result_for k rs)
result_so k [] h = tt
result_so k (r ∷ rs) h =
    or_leg_so (find (is_for k) r.results) (result_for k rs) (all-find IsLeg (is_for k) r.results h.0.results)
    (result_so k rs h.1)

offer_for_so : (k : Key) (rs : List ChannelSnapshot) → All IsSnapshot rs → Where IsLeg (offer_for k rs)
offer_for_so k [] h = tt
offer_for_so k (r ∷ rs) h =
    or_leg_so (find (is_for k) r.offered) (offer_for k rs) (all-find IsLeg (is_for k) r.offered h.0.offered)
    (offer_for_so k rs h.1)

along_so : (o : Option Leg) → Where IsLeg o → IsOutgoingLeg (outgoing_along o)
along_so None h = tt
along_so (Some l) h = h.outgoing

led_so : (rs : List ChannelSnapshot) (h : Htlc) → All IsSnapshot rs → IsHtlc h → IsHtlc (led rs h)
led_so rs h g is =
    let w = outgoing_for h.key rs in
    let goes : IsOutgoingLeg w = along_so (or_leg (result_for h.key rs) (offer_for h.key rs))
    (or_leg_so (result_for h.key rs) (offer_for h.key rs) (result_so h.key rs g) (offer_for_so h.key rs g)) in
    outgoing_so (outgoing_read h.mark h.incoming w) (either IsOutgoingLeg _ outgoing.Refused w tt goes) h is

unfinished_so : (all : List ChannelSnapshot) (hs : List Htlc) → All IsSnapshot all → All IsHtlc hs
    → All IsHtlc (unfinished all hs)
unfinished_so all [] g h = tt
unfinished_so all (x ∷ xs) g h =
    let rest = unfinished_so all xs g h.1 in
    all-when IsHtlc (is_over (led all x)) (unfinished all xs) (led all x ∷ unfinished all xs) rest
    (led_so all x g h.0, rest)

all_unfinished_so : (all rs : List ChannelSnapshot) → All IsSnapshot all → All IsSnapshot rs
    → All IsHtlc (all_unfinished all rs)
all_unfinished_so all [] g h = tt
all_unfinished_so all (r ∷ rs) g h =
    all-append IsHtlc (unfinished all r.decided) (all_unfinished all rs) (unfinished_so all r.decided g h.0.decided)
    (all_unfinished_so all rs g h.1)

htlc_left_so : (l : Leg) → IsLeg l → IsHtlc (htlc_left l)
htlc_left_so l h =
    let zeros = length-replicate {A = ℕ} 32 0 in
    record {
      key = h.origin;
      offer = record { id = h.origin.id; amount = omega arith; hash = zeros; expiry = omega arith };
      mark = zeros;
      outgoing = h.outgoing;
    }

left_so : (all : List ChannelSnapshot) (ls : List Leg) → All IsLeg ls → All IsHtlc (left all ls)
left_so all [] h = tt
left_so all (l ∷ ls) h =
    let rest = left_so all ls h.1 in
    all-when IsHtlc (is_read l.origin all) (left all ls) (htlc_left l ∷ left all ls) rest (htlc_left_so l h.0, rest)

all_left_so : (all rs : List ChannelSnapshot) → All IsSnapshot rs → All IsHtlc (all_left all rs)
all_left_so all [] h = tt
all_left_so all (r ∷ rs) h =
    all-append IsHtlc (left all r.results) (all_left all rs) (left_so all r.results h.0.results)
    (all_left_so all rs h.1)

pub rebuilt_so : (t : Table) (rs : List ChannelSnapshot) → IsTable t → All IsSnapshot rs → IsTable (rebuilt t rs)
rebuilt_so t rs g h = record {
  routes = g.routes;
  expected = g.expected;
  queue = tt;
  htlcs = all-append IsHtlc (all_unfinished rs rs) (all_left rs rs) (all_unfinished_so rs rs h h) (all_left_so rs rs h);
}

-- ---- what an end brings to a book

route_so : (p : Policy) (u : Use) (o : Option (List ℕ)) (b : Book) → length u.channel ≡ 32 → IsBook b
    → IsBook (with_route p u o b)
route_so p u None b is h = h
route_so p u (Some id) b is h =
    entered_so (entry.Route id (record { channel = u.channel; policy = p; minimum = u.minimum })) b is h

snapshot_by_so : (o : Option ChannelEnd) → Where IsEnd o → All IsSnapshot (snapshot_by o)
snapshot_by_so None is = tt
snapshot_by_so (Some e) is = (snapshot_so e is, tt)

-- ---- the ends of a channel

module _ {K : Type 0} where
  abbrev pub IsState : State K → Type 0
  IsState l = Where IsEnd (saved_end l.stage)

  pub record AreEnds (c : WorldChannel K) : Type 0 where
    pub funder : IsState c.both.x.link
    pub fundee : IsState c.both.y.link

  pub at_side : (side : Role) (c : WorldChannel K) → AreEnds c → IsState (place_of side c.both).link
  at_side Funder c h = h.funder
  at_side Fundee c h = h.fundee

  pub channel_so : (n : ℕ) (cs : List (WorldChannel K)) → All AreEnds cs → Where AreEnds (channel n cs)
  channel_so n [] h = tt
  channel_so n (c ∷ cs) h = where-either AreEnds (c.number == n) (Some c) (channel n cs) h.0 (channel_so n cs h.1)

  -- ---- a book follows them

  end_so : (p : Policy) (l : State K) (o : Option ChannelEnd) (b : Book) → Where IsEnd o → IsBook b
      → IsBook (with_end p l o b)
  end_so p l None b is h = h
  end_so p l (Some e) b is h =
      let u = use_of l e in
      entered_so (entry.Use u.channel u.takes) (with_route p u u.short_id b) tt (route_so p u u.short_id b is.channel h)

  side_so : (p : Policy) (c : WorldChannel K) (o : Option Role) (b : Book) → AreEnds c → IsBook b
      → IsBook (with_side p c o b)
  side_so p c None b is h = h
  side_so p c (Some side) b is h =
      let l = (place_of side c.both).link in end_so p l (saved_end l.stage) b (at_side side c is) h

  with_channel_so : (n : Node) (p : Policy) (o : Option (WorldChannel K)) (b : Book) → Where AreEnds o → IsBook b
      → IsBook (with_channel n p o b)
  with_channel_so n p None b is h = h
  with_channel_so n p (Some c) b is h = side_so p c (side_of n c) b is h

  below_so : (m : ℕ) (n : Node) (p : Policy) (cs : List (WorldChannel K)) (b : Book) → All AreEnds cs → IsBook b
      → IsBook (followed_below m n p cs b)
  unfolding followed_below
  below_so zero n p cs b is h = h
  below_so (suc m) n p cs b is h =
      with_channel_so n p (channel m cs) (followed_below m n p cs b) (channel_so m cs is) (below_so m n p cs b is h)

  pub followed_so : (cs : List (WorldChannel K)) (x : NodeBook) → All AreEnds cs → IsBook x.book
      → IsBook (followed cs x).book
  followed_so cs x is h = below_so 256 x.node x.policy cs x.book is h

  -- ---- and begins anew with what they have

  side_snapshot_so : (c : WorldChannel K) (o : Option Role) (rs : List ChannelSnapshot) → AreEnds c → All IsSnapshot rs
      → All IsSnapshot (side_snapshot c o rs)
  side_snapshot_so c None rs is h = h
  side_snapshot_so c (Some side) rs is h =
      let o = saved_end (place_of side c.both).link.stage in
      all-append IsSnapshot rs (snapshot_by o) h (snapshot_by_so o (at_side side c is))

  snapshot_in_so : (n : Node) (o : Option (WorldChannel K)) (rs : List ChannelSnapshot) → Where AreEnds o
      → All IsSnapshot rs
      → All IsSnapshot (snapshot_in n o rs)
  snapshot_in_so n None rs is h = h
  snapshot_in_so n (Some c) rs is h = side_snapshot_so c (side_of n c) rs is h

  snapshots_so : (m : ℕ) (n : Node) (cs : List (WorldChannel K)) → All AreEnds cs
      → All IsSnapshot (snapshots_below m n cs)
  unfolding snapshots_below
  snapshots_so zero n cs is = tt
  snapshots_so (suc m) n cs is =
      snapshot_in_so n (channel m cs) (snapshots_below m n cs) (channel_so m cs is) (snapshots_so m n cs is)

  pub begun_so : (cs : List (WorldChannel K)) (x : NodeBook) → All AreEnds cs → IsBook x.book
      → IsBook (begun_anew cs x).book
  begun_so cs x is h =
      rebuilt_so (table_of x.book) (snapshots_below 256 x.node cs) h (snapshots_so 256 x.node cs is)
