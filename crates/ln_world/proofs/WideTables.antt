-- What a book has stays as wide as in code, whatever is entered, and so is each command that it gives.
use Rattle.std.proofs.Common.{◌≡◌, ◌<◌, ◌^◌, ℕ, List, [], ◌∷◌, ◌++◌, length, map, refl}
use Rattle.std.proofs.Common.{Bool, true, false, cond, not, nat_lt, Option, Some, None, Result, Ok, Err}
use Rattle.std.specs.List.{find, list_any}
use Rattle.std.specs.Map.{lookup}
use Rattle.sha2.proofs.Facts256.{length-sha256}
use Rattle.ln_keys.specs.Hash.{payment_hash}
use Rattle.ln_log.specs.declared.mark.Mark.{Mark}
use Rattle.ln_log.specs.declared.mark.Mark.TheVariants as mark
use Rattle.ln_hooks.specs.declared.event.How.{How}
use Rattle.ln_hooks.specs.declared.event.How.TheVariants as how
use Rattle.ln_channel.specs.declared.command.Command.{Command}
use Rattle.ln_channel.specs.declared.command.Command.TheVariants as command
use Rattle.ln_book_tables.specs.declared.htlc.Key.{Key}
use Rattle.ln_book_tables.specs.declared.htlc.Offer.{Offer}
use Rattle.ln_book_tables.specs.declared.htlc.OutgoingLeg.{OutgoingLeg}
use Rattle.ln_book_tables.specs.declared.htlc.OutgoingLeg.TheVariants as outgoing
use Rattle.ln_book_tables.specs.declared.htlc.IncomingLeg.{IncomingLeg}
use Rattle.ln_book_tables.specs.declared.htlc.IncomingLeg.TheVariants as incoming
use Rattle.ln_book_tables.specs.declared.htlc.Htlc.{Htlc}
use Rattle.ln_book_tables.specs.declared.entry.OutgoingChannel.{OutgoingChannel}
use Rattle.ln_book_tables.specs.declared.entry.Invoice.{Invoice}
use Rattle.ln_book_tables.specs.declared.entry.Queued.{Queued}
use Rattle.ln_book_tables.specs.declared.entry.Decided.{Decided}
use Rattle.ln_book_tables.specs.declared.entry.Out.{Out}
use Rattle.ln_book_tables.specs.declared.entry.Out.TheVariants as out
use Rattle.ln_book_tables.specs.declared.entry.PendingCommand.{PendingCommand}
use Rattle.ln_book_tables.specs.declared.entry.PendingCommand.TheVariants as pending_command
use Rattle.ln_book_tables.specs.declared.entry.KeptState.{KeptState}
use Rattle.ln_book_tables.specs.declared.entry.Entry.{Entry}
use Rattle.ln_book_tables.specs.declared.entry.Entry.TheVariants as entry
use Rattle.ln_book_tables.specs.Replay.{Table, no_table, same, with_route, with_invoice, after, replay}
use Rattle.ln_book_tables.specs.Replay.{pending_command_at}
use Rattle.ln_book_tables.specs.Replay.{changed_first, left_out, is_htlc, is_told, is_offered, is_queued, is_undecided}
use Rattle.ln_book_tables.specs.Replay.{is_finished, is_decided, joined, htlc_of, with_offer, queued_of, decide}
use Rattle.ln_book_tables.specs.Replay.{put_outgoing, put_incoming, with_outgoing, with_incoming, with_pending_command}
use Rattle.ln_book_tables.specs.Replay.{taken_by, refused_by, done}
use Rattle.ln_book_tables.specs.Replay.{queue_behind, answered_out, answered_at, is_unsure, is_later, is_outgoing_lost}
use Rattle.ln_book_tables.specs.Replay.{refused}
use Rattle.ln_book_tables.specs.Replay.{htlc_kept, kept_out, kept_at}
use Rattle.ln_book_tables.specs.Replay.{without_first, is_resumed, is_held_in, is_over, put_mark, resumed_by}
use Rattle.ln_book_tables.specs.Replay.{resumed_of}
use Rattle.ln_channel_laws.specs.Widths.{IsMark, IsCommand}
use Rattle.ln_channel_laws.proofs.Offered.{All, all-append, all-filter, all-when, Where}
use Rattle.ln_keys.specs.Services.{Services}
use Rattle.ln_book.specs.Commands.{due, next_of, add_with, removal_resolved, removal_by_outgoing, removal_by}
use Rattle.ln_book.specs.Commands.{forget_by, command_of, with_out, command_by, or_next, first_due, is_queued_in}
use Rattle.ln_book.specs.Commands.{first_of, first_at, first_command}

-- ---- what is wide

abbrev pub IsHow : How → Type 0
IsHow (how.Fulfilled preimage) = length preimage ≡ 32
IsHow (how.Failed reason) = Unit {0}
IsHow (how.Malformed sha code) = Unit {0}

abbrev pub IsOutgoingLeg : OutgoingLeg → Type 0
IsOutgoingLeg outgoing.Absent = Unit {0}
IsOutgoingLeg outgoing.Refused = Unit {0}
IsOutgoingLeg (outgoing.Offered k) = Unit {0}
IsOutgoingLeg (outgoing.Resolved k h) = IsHow h

pub record IsKey (k : Key) : Type 0 where
  pub channel : length k.channel ≡ 32
  pub id : k.id < 2 ^ 64

pub record IsOffer (o : Offer) : Type 0 where
  pub id : o.id < 2 ^ 64
  pub amount : o.amount < 2 ^ 64
  pub hash : length o.hash ≡ 32
  pub expiry : o.expiry < 2 ^ 32

-- what is kept of an HTLC
pub record IsKept (k : Key) (o : Offer) (m : Mark) (w : OutgoingLeg) : Type 0 where
  pub key : IsKey k
  pub offer : IsOffer o
  pub mark : IsMark m
  pub outgoing : IsOutgoingLeg w

abbrev pub IsHtlc : Htlc → Type 0
IsHtlc h = IsKept h.key h.offer h.mark h.outgoing

abbrev pub IsRoute : List ℕ × OutgoingChannel → Type 0
IsRoute p = length p.1.channel ≡ 32

abbrev pub IsExpected : List ℕ × Invoice → Type 0
IsExpected p = length p.1.preimage ≡ 32

abbrev pub IsQueued : Queued → Type 0
IsQueued q = IsMark q.mark

pub record AreWide (rs : List (List ℕ × OutgoingChannel)) (is : List (List ℕ × Invoice)) (qs : List Queued)
    (hs : List Htlc) : Type 0 where
  pub routes : All IsRoute rs
  pub expected : All IsExpected is
  pub queue : All IsQueued qs
  pub htlcs : All IsHtlc hs

abbrev pub IsTable : Table → Type 0
IsTable t = AreWide t.routes t.expected t.queue t.htlcs

-- what is entered
pub record IsDecided (d : Decided) : Type 0 where
  pub channel : length d.channel ≡ 32
  pub offer : Where IsOffer d.offer
  pub mark : IsMark d.mark

abbrev pub IsEntry : Entry → Type 0
IsEntry (entry.Route id l) = length l.channel ≡ 32
IsEntry (entry.Use c u) = Unit {0}
IsEntry (entry.Height h) = Unit {0}
IsEntry (entry.Expect i) = length i.preimage ≡ 32
IsEntry (entry.Decided d) = IsDecided d
IsEntry (entry.Resumed r) = IsMark r.mark
IsEntry (entry.Taken c o) = Unit {0}
IsEntry (entry.Answered c a) = Unit {0}
IsEntry (entry.Resolved k h) = IsHow h
IsEntry (entry.Removed k) = Unit {0}
IsEntry (entry.Dropped c told) = Unit {0}

-- ---- lists

module _ {A : Type 0} (P : A → Type 0) where
  pub either : (b : Bool) (x y : A) → P x → P y → P (cond b x y)
  either true x y h g = h
  either false x y h g = g

  pub all-map : (f : A → A) → ((x : A) → P x → P (f x)) → (xs : List A) → All P xs → All P (map f xs)
  all-map f keeps [] h = tt
  all-map f keeps (x ∷ xs) h = (keeps x h.0, all-map f keeps xs h.1)

  pub all-changed : (p : A → Bool) (f : A → A) → ((x : A) → P x → P (f x)) → (xs : List A) → All P xs
      → All P (changed_first p f xs)
  all-changed p f keeps [] h = tt
  all-changed p f keeps (x ∷ xs) h =
      all-when P (p x) (f x ∷ xs) (x ∷ changed_first p f xs) (keeps x h.0, h.1) (h.0, all-changed p f keeps xs h.1)

  pub all-left : (p : A → Bool) (xs : List A) → All P xs → All P (left_out p xs)
  all-left p xs h = all-filter P (λ x. not (p x)) xs h

  pub all-without : (p : A → Bool) (xs : List A) → All P xs → All P (without_first p xs)
  all-without p [] h = tt
  all-without p (x ∷ xs) h = all-when P (p x) xs (x ∷ without_first p xs) h.1 (h.0, all-without p xs h.1)

  pub where-either : (b : Bool) (x y : Option A) → Where P x → Where P y → Where P (cond b x y)
  where-either true x y h g = h
  where-either false x y h g = g

  pub all-find : (p : A → Bool) (xs : List A) → All P xs → Where P (find p xs)
  all-find p [] h = tt
  all-find p (x ∷ xs) h = where-either (p x) (Some x) (find p xs) h.0 (all-find p xs h.1)

module _ {V : Type 0} (P : V → Type 0) where
  pub all-lookup : {K : Type 0} (test : K → Bool) (es : List (K × V)) → All (λ (e : K × V). P e.1) es
      → Where P (lookup test es)
  all-lookup test [] h = tt
  all-lookup test (e ∷ es) h =
      where-either P (test e.0) (Some e.1) (lookup test es) h.0 (all-lookup test es h.1)

-- ---- settings

abbrev pub IsOutgoing : OutgoingChannel → Type 0
IsOutgoing l = length l.channel ≡ 32

abbrev pub IsInvoice : Invoice → Type 0
IsInvoice i = length i.preimage ≡ 32

route_so : (id : List ℕ) (l : OutgoingChannel) (es : List (List ℕ × OutgoingChannel)) → IsOutgoing l → All IsRoute es
    → All IsRoute (with_route id l (record no_table { routes = es })).routes
route_so id l [] n h = (n, tt)
route_so id l (e ∷ es) n h =
    all-when IsRoute (same id e.0) ((e.0, l) ∷ es) (e ∷ (with_route id l (record no_table { routes = es })).routes)
    (n, h.1) (h.0, route_so id l es n h.1)

invoice_so : (i : Invoice) (es : List (List ℕ × Invoice)) → IsInvoice i → All IsExpected es
    → All IsExpected (with_invoice i (record no_table { expected = es })).expected
invoice_so i [] n h = (n, tt)
invoice_so i (e ∷ es) n h =
    all-when IsExpected (same (payment_hash i.preimage) e.0) ((e.0, i) ∷ es)
    (e ∷ (with_invoice i (record no_table { expected = es })).expected) (n, h.1) (h.0, invoice_so i es n h.1)

-- ---- HTLCs

decide_so : (h : Htlc) → IsHtlc h → IsHtlc (decide h)
decide_so h g = g

back_so : (b : IncomingLeg) (h : Htlc) → IsHtlc h → IsHtlc (put_incoming b h)
back_so b h g = g

pub outgoing_so : (w : OutgoingLeg) → IsOutgoingLeg w → (h : Htlc) → IsHtlc h → IsHtlc (put_outgoing w h)
outgoing_so w is h g = record { key = g.key; offer = g.offer; mark = g.mark; outgoing = is }

mark_so : (m : Mark) → IsMark m → (h : Htlc) → IsHtlc h → IsHtlc (put_mark m h)
mark_so m is h g = record { key = g.key; offer = g.offer; mark = is; outgoing = g.outgoing }

joins_so : (h : Htlc) (hs : List Htlc) → IsHtlc h → All IsHtlc hs → All IsHtlc (joined h hs)
joins_so h hs g gs =
    let others = left_out (is_htlc h.key) hs in
    all-when IsHtlc (list_any (is_decided h.key) hs) hs (others ++ h ∷ []) gs
    (all-append IsHtlc others (h ∷ []) (all-left IsHtlc (is_htlc h.key) hs gs) (g, tt))

offered_so : (d : Decided) (o : Option Offer) (hs : List Htlc) → length d.channel ≡ 32 → IsMark d.mark
    → Where IsOffer o → All IsHtlc hs → All IsHtlc (with_offer d o hs)
offered_so d None hs channel mark offer gs = gs
offered_so d (Some o) hs channel mark offer gs =
    joins_so (htlc_of d o) hs (record {
      key = record { channel = channel; id = offer.id };
      offer = offer;
      mark = mark;
      outgoing = tt;
    }) gs

with_outgoing_so : (k : Key) (w : OutgoingLeg) (hs : List Htlc) → IsOutgoingLeg w → All IsHtlc hs
    → All IsHtlc (with_outgoing k w hs)
with_outgoing_so k w hs is h = all-changed IsHtlc (is_htlc k) (put_outgoing w) (outgoing_so w is) hs h

with_incoming_so : (k : Key) (b : IncomingLeg) (hs : List Htlc) → All IsHtlc hs → All IsHtlc (with_incoming k b hs)
with_incoming_so k b hs h = all-changed IsHtlc (is_htlc k) (put_incoming b) (back_so b) hs h

resumed_so : (c : List ℕ) (n : ℕ) (o : Option Queued) (hs : List Htlc) → Where IsQueued o → All IsHtlc hs
    → All IsHtlc (resumed_by c n o hs)
resumed_so c n None hs is h = h
resumed_so c n (Some q) hs is h =
    all-left IsHtlc is_over (changed_first (is_held_in c n) (put_mark q.mark) hs)
    (all-changed IsHtlc (is_held_in c n) (put_mark q.mark) (mark_so q.mark is) hs h)

taken_so : (c : List ℕ) (i : ℕ) (o : Out) (qs : List Queued) (hs : List Htlc) → All IsQueued qs → All IsHtlc hs
    → All IsHtlc (taken_by c i o qs hs)
taken_so c i (out.Deciding n) qs hs is h = all-changed IsHtlc (is_told c n) decide decide_so hs h
taken_so c i (out.Adding k) qs hs is h = with_outgoing_so k (outgoing.Offered (record { channel = c; id = i })) hs tt h
taken_so c i (out.Removing k) qs hs is h = with_incoming_so k incoming.RemovalSent hs h
taken_so c i (out.Forgetting k) qs hs is h = all-left IsHtlc (is_htlc k) hs h
taken_so c i (out.Resuming n) qs hs is h =
    resumed_so c n (find (is_resumed c n) qs) hs (all-find IsQueued (is_resumed c n) qs is) h

refused_so : (c : List ℕ) (r : ℕ) (o : Out) (hs : List Htlc) → All IsHtlc hs → All IsHtlc (refused_by c r o hs)
refused_so c r (out.Deciding n) hs h = all-left IsHtlc (is_undecided c n) hs h
refused_so c r (out.Adding k) hs h =
    all-when IsHtlc (nat_lt r 47) (with_outgoing k outgoing.Refused hs) (left_out (is_htlc k) hs)
    (with_outgoing_so k outgoing.Refused hs tt h) (all-left IsHtlc (is_htlc k) hs h)
refused_so c r (out.Removing k) hs h = with_incoming_so k incoming.RemovalRefused hs h
refused_so c r (out.Forgetting k) hs h = all-left IsHtlc (is_htlc k) hs h
refused_so c r (out.Resuming n) hs h = h

queue_so : (c : List ℕ) (o : Out) (qs : List Queued) → All IsQueued qs → All IsQueued (queue_behind c o qs)
queue_so c (out.Deciding n) qs h = all-left IsQueued (is_queued c n) qs h
queue_so c (out.Adding k) qs h = h
queue_so c (out.Removing k) qs h = h
queue_so c (out.Forgetting k) qs h = h
queue_so c (out.Resuming n) qs h = all-without IsQueued (is_resumed c n) qs h

-- ---- tables

with_htlcs_so : (t : Table) (hs : List Htlc) → IsTable t → All IsHtlc hs → AreWide t.routes t.expected t.queue hs
with_htlcs_so t hs g h = record { routes = g.routes; expected = g.expected; queue = g.queue; htlcs = h }

done_so : (c : List ℕ) (i : ℕ) (o : Out) (t : Table) → IsTable t → IsTable (done c i o t)
done_so c i o t g = record {
  routes = g.routes;
  expected = g.expected;
  queue = queue_so c o t.queue g.queue;
  htlcs = taken_so c i o t.queue t.htlcs g.queue g.htlcs;
}

refuses_so : (c : List ℕ) (r : ℕ) (o : Out) (t : Table) → IsTable t → IsTable (refused c r o t)
refuses_so c r o t g = record {
  routes = g.routes;
  expected = g.expected;
  queue = queue_so c o t.queue g.queue;
  htlcs = refused_so c r o t.htlcs g.htlcs;
}

answered_so : (c : List ℕ) (a : Result ℕ ℕ) (o : Out) (t : Table) → IsTable t → IsTable (answered_out c a o t)
answered_so c (Ok i) o t g = done_so c i o (with_pending_command c pending_command.Idle t) g
answered_so c (Err r) o t g =
    either IsTable (is_unsure r) (with_pending_command c (pending_command.Unknown o) t) _ g
    (either IsTable (is_later r) (with_pending_command c pending_command.Idle t) (refused c r o
    (with_pending_command c pending_command.Idle t)) g
    (refuses_so c r o (with_pending_command c pending_command.Idle t) g))

answers_so : (c : List ℕ) (a : Result ℕ ℕ) (d : PendingCommand) (t : Table) → IsTable t → IsTable (answered_at c a d t)
answers_so c a pending_command.Idle t g = g
answers_so c a (pending_command.InFlight o) t g = answered_so c a o t g
answers_so c a (pending_command.Unknown o) t g = g

kept_out_so : (c : List ℕ) (b : Bool) (o : Out) (t : Table) → IsTable t → IsTable (kept_out c b o t)
kept_out_so c true (out.Deciding n) t g = done_so c 0 (out.Deciding n) t g
kept_out_so c false (out.Deciding n) t g = g
kept_out_so c b (out.Adding k) t g = g
kept_out_so c b (out.Removing k) t g =
    with_htlcs_so t (with_incoming k incoming.RemovalSent t.htlcs) g
    (with_incoming_so k incoming.RemovalSent t.htlcs g.htlcs)
kept_out_so c b (out.Forgetting k) t g = g
kept_out_so c true (out.Resuming n) t g = done_so c 0 (out.Resuming n) t g
kept_out_so c false (out.Resuming n) t g = g

kept_so : (c : List ℕ) (b : Bool) (d : PendingCommand) (t : Table) → IsTable t → IsTable (kept_at c b d t)
kept_so c b pending_command.Idle t g = g
kept_so c b (pending_command.InFlight o) t g = kept_out_so c b o (with_pending_command c pending_command.Idle t) g
kept_so c b (pending_command.Unknown o) t g = kept_out_so c b o (with_pending_command c pending_command.Idle t) g

htlc_kept_so : (c : List ℕ) (told : KeptState) (h : Htlc) → IsHtlc h → IsHtlc (htlc_kept c told h)
htlc_kept_so c told h g = record {
  key = g.key;
  offer = g.offer;
  mark = g.mark;
  outgoing = either IsOutgoingLeg (is_outgoing_lost c told.next h.outgoing) outgoing.Absent h.outgoing tt g.outgoing;
}

dropped_so : (c : List ℕ) (told : KeptState) (t : Table) → IsTable t
    → AreWide t.routes t.expected t.queue (map (htlc_kept c told) t.htlcs)
dropped_so c told t g =
    with_htlcs_so t (map (htlc_kept c told) t.htlcs) g
    (all-map IsHtlc (htlc_kept c told) (htlc_kept_so c told) t.htlcs g.htlcs)

-- ---- the replay

pub after_so : (t : Table) (e : Entry) → IsEntry e → IsTable t → IsTable (after t e)
after_so t (entry.Route id l) is g = record {
  routes = route_so id l t.routes is g.routes;
  expected = g.expected;
  queue = g.queue;
  htlcs = g.htlcs;
}
after_so t (entry.Use c u) is g = g
after_so t (entry.Height h) is g = g
after_so t (entry.Expect i) is g = record {
  routes = g.routes;
  expected = invoice_so i t.expected is g.expected;
  queue = g.queue;
  htlcs = g.htlcs;
}
after_so t (entry.Decided d) is g = record {
  routes = g.routes;
  expected = g.expected;
  queue = all-append IsQueued (left_out (is_queued d.channel d.event) t.queue) (queued_of d ∷ [])
      (all-left IsQueued (is_queued d.channel d.event) t.queue g.queue) (is.mark, tt);
  htlcs = offered_so d d.offer t.htlcs is.channel is.mark is.offer g.htlcs;
}
after_so t (entry.Resumed r) is g = record {
  routes = g.routes;
  expected = g.expected;
  queue = all-append IsQueued t.queue (resumed_of r ∷ []) g.queue (is, tt);
  htlcs = g.htlcs;
}
after_so t (entry.Taken c o) is g = g
after_so t (entry.Answered c a) is g = answers_so c a (pending_command_at c t) t g
after_so t (entry.Resolved k h) is g =
    with_htlcs_so t (changed_first (is_offered k) (put_outgoing (outgoing.Resolved k h)) t.htlcs) g
    (all-changed IsHtlc (is_offered k) (put_outgoing (outgoing.Resolved k h)) (outgoing_so
    (outgoing.Resolved k h) is) t.htlcs g.htlcs)
after_so t (entry.Removed k) is g =
    with_htlcs_so t (left_out (is_finished k) (with_incoming k incoming.Settled t.htlcs)) g
    (all-left IsHtlc (is_finished k) (with_incoming k incoming.Settled t.htlcs)
    (with_incoming_so k incoming.Settled t.htlcs g.htlcs))
after_so t (entry.Dropped c told) is g =
    dropped_so c told (kept_at c told.decides (pending_command_at c t) t) (kept_so c told.decides
    (pending_command_at c t) t g)

pub replayed : (t : Table) (es : List Entry) (e : Entry) → replay t (es ++ e ∷ []) ≡ after (replay t es) e
replayed t [] e = refl
replayed t (x ∷ es) e = replayed (after t x) es e

-- ---- commands

module _ (s : Services) (nexts : (onion hash : List ℕ) → Where (λ n. length n ≡ 1366) (next_of (s.opened onion hash)))
  where
    add_so : (h : Htlc) (m : Mark) (o : Option (List ℕ)) → IsHtlc h → IsMark m → Where (λ n. length n ≡ 1366) o
        → Where IsCommand (add_with h m o)
    add_so h m None g is next = tt
    add_so h mark.None (Some onion) g is next = tt
    add_so h (mark.Forward d amount expiry) (Some onion) g is next = record {
      amount_fits = is.amount_fits;
      hash_fits = g.offer.hash;
      expiry_fits = is.expiry_fits;
      onion_fits = next;
      origin_fits = (g.key.channel, g.key.id);
    }
    add_so h (mark.Fail reason) (Some onion) g is next = tt
    add_so h (mark.Malformed code) (Some onion) g is next = tt
    add_so h (mark.Fulfil preimage) (Some onion) g is next = tt
    add_so h (mark.Held event) (Some onion) g is next = tt

    over_so : (x : Htlc) (h : How) → x.key.id < 2 ^ 64 → IsHow h → IsCommand (removal_resolved s x h)
    over_so x (how.Fulfilled preimage) small is = record { id = small; preimage = is }
    over_so x (how.Failed reason) small is = small
    over_so x (how.Malformed sha code) small is = small

    by_outgoing : (x : Htlc) (w : OutgoingLeg) → x.key.id < 2 ^ 64 → IsOutgoingLeg w
        → Where IsCommand (removal_by_outgoing s x w)
    by_outgoing x outgoing.Absent small is = tt
    by_outgoing x outgoing.Refused small is = small
    by_outgoing x (outgoing.Offered k) small is = tt
    by_outgoing x (outgoing.Resolved k h) small is = over_so x h small is

    removal_so : (h : Htlc) (m : Mark) → IsHtlc h → IsMark m → Where IsCommand (removal_by s h m)
    removal_so h mark.None g is = tt
    removal_so h (mark.Forward d amount expiry) g is = by_outgoing h h.outgoing g.key.id g.outgoing
    removal_so h (mark.Fail reason) g is = g.key.id
    removal_so h (mark.Malformed code) g is =
        record { id = g.key.id; sha256_of_onion = length-sha256 h.offer.onion; failure_code = is }
    removal_so h (mark.Fulfil preimage) g is = record { id = g.key.id; preimage = is }
    removal_so h (mark.Held event) g is = tt

    forget_so : (w : OutgoingLeg) → Where IsCommand (forget_by w)
    forget_so outgoing.Absent = tt
    forget_so outgoing.Refused = tt
    forget_so (outgoing.Offered k) = tt
    forget_so (outgoing.Resolved k h) = tt

    command_so : (h : Htlc) (o : Out) → IsHtlc h → Where IsCommand (command_of s h o)
    command_so h (out.Deciding n) g = tt
    command_so h (out.Adding k) g =
        add_so h h.mark (next_of (s.opened h.offer.onion h.offer.hash)) g g.mark (nexts h.offer.onion h.offer.hash)
    command_so h (out.Removing k) g = removal_so h h.mark g g.mark
    command_so h (out.Forgetting k) g = forget_so h.outgoing
    command_so h (out.Resuming n) g = tt

    abbrev pub Commands : Out × Command → Type 0
    Commands x = IsCommand x.1

    with_out_so : (o : Out) (x : Option Command) → Where IsCommand x → Where Commands (with_out o x)
    with_out_so o None h = tt
    with_out_so o (Some x) h = h

    due_so : (h : Htlc) (o : Option Out) → IsHtlc h → Where Commands (command_by s h o)
    due_so h None g = tt
    due_so h (Some o) g = with_out_so o (command_of s h o) (command_so h o g)

    or_next_so : (x y : Option (Out × Command)) → Where Commands x → Where Commands y → Where Commands (or_next x y)
    or_next_so None y h g = g
    or_next_so (Some x) y h g = h

    first_due_so : (c : List ℕ) (hs : List Htlc) → All IsHtlc hs → Where Commands (first_due s c hs)
    first_due_so c [] g = tt
    first_due_so c (h ∷ hs) g =
        or_next_so (command_by s h (due c h)) (first_due s c hs) (due_so h (due c h) g.0) (first_due_so c hs g.1)

    first_of_so : (c : List ℕ) (q : Option Queued) (hs : List Htlc) → Where IsQueued q → All IsHtlc hs
        → Where Commands (first_of s c q hs)
    first_of_so c (Some q) hs is g =
        either Commands q.resumes (out.Resuming q.event, command.Resume q.event q.mark)
        (out.Deciding q.event, command.Decide q.event q.mark) is is
    first_of_so c None hs is g = first_due_so c hs g

    first_at_so : (c : List ℕ) (d : PendingCommand) (t : Table) → IsTable t → Where Commands (first_at s c d t)
    first_at_so c pending_command.Idle t g =
        first_of_so c (find (is_queued_in c) t.queue) t.htlcs (all-find IsQueued (is_queued_in c) t.queue g.queue)
        g.htlcs
    first_at_so c (pending_command.InFlight o) t g = tt
    first_at_so c (pending_command.Unknown o) t g = tt

    pub first_so : (c : List ℕ) (t : Table) → IsTable t → Where Commands (first_command s c t)
    first_so c t g = first_at_so c (pending_command_at c t) t g
