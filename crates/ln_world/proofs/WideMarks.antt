-- What a book decides about an event is as wide as in code, and the onions for tests go on as ones of 1,366 bytes.
use Rattle.std.proofs.Common.{◌≡◌, ◌<◌, ◌≤◌, ◌+◌, ◌-◌, ◌^◌, ℕ, zero, suc, List, [], ◌∷◌, ◌++◌, length, take, drop}
use Rattle.std.proofs.Common.{replicate, refl, arith, length-append, length-take, length-drop}
use Rattle.std.proofs.Common.{Bool, true, false, cond, not, ◌||◌, ◌==◌, nat_lt, nat_le, is_none}
use Rattle.std.proofs.Common.{Option, Some, None, option_map, Result, Ok, Err}
use Rattle.std.proofs.lemmas.Bool.{ltb-false}
use Rattle.std.proofs.lemmas.List.{length-replicate}
use Rattle.std.specs.List.{find, list_any}
use Rattle.std.specs.Map.{lookup}
use Rattle.sha2.proofs.Facts256.{length-sha256}
use Rattle.ln_bytes.specs.declared.fault.Fault.{Fault}
use Rattle.ln_bytes.specs.Bigsize.{bigsize, bigsize_at}
use Rattle.ln_bytes.specs.Endian.{big_bytes}
use Rattle.ln_keys.specs.declared.onion.Opened.{Opened}
use Rattle.ln_keys.specs.declared.onion.OpenFault.{OpenFault}
use Rattle.ln_keys.specs.declared.onion.OpenFault.TheVariants as open_fault
use Rattle.ln_keys.specs.Onion.{onion_payloads}
use Rattle.ln_keys.specs.ToyOnion.{toy_key, toy_hmac, filled, toy_packet, next_packet, hop_of, hop_behind, packet_fault}
use Rattle.ln_keys.specs.ToyOnion.{unless, toy_opened}
use Rattle.ln_log.specs.declared.update.Add.{Add}
use Rattle.ln_log.specs.declared.update.Update.{Update}
use Rattle.ln_log.specs.declared.update.Update.TheVariants as update
use Rattle.ln_hooks.specs.declared.event.ChannelEvent.{ChannelEvent}
use Rattle.ln_hooks.specs.declared.event.ChannelEvent.TheVariants as event
use Rattle.ln_hooks.specs.declared.verdict.Verdict.{Verdict}
use Rattle.ln_hooks.specs.declared.verdict.Verdict.TheVariants as verdict
use Rattle.ln_hooks.specs.Amount.{greatest_amount, bounded}
use Rattle.ln_hooks.specs.Event.{event_of}
use Rattle.ln_forward.specs.declared.failure.Failure.{Failure}
use Rattle.ln_forward.specs.declared.failure.Failure.TheVariants as failure
use Rattle.ln_forward.specs.declared.payload.Payment.{Payment}
use Rattle.ln_forward.specs.Checks.{fee, final_fault}
use Rattle.ln_forward.specs.Failure.{failure_bytes}
use Rattle.ln_forward.specs.Payload.{Hop, payload_at}
use Rattle.ln_book_tables.specs.declared.htlc.Offer.{Offer}
use Rattle.ln_book_tables.specs.declared.entry.OutgoingChannel.{OutgoingChannel}
use Rattle.ln_book_tables.specs.declared.entry.Invoice.{Invoice}
use Rattle.ln_book_tables.specs.declared.htlc.Htlc.{Htlc}
use Rattle.ln_book_tables.specs.Replay.{Table, same, is_usable, is_resumed, is_held_in, held_by}
use Rattle.ln_channel_laws.specs.Widths.{IsMark, IsUpdate, IsAdd}
use Rattle.ln_channel_laws.proofs.Offered.{Where}
use Rattle.ln_keys.specs.Services.{Services}
use Rattle.ln_book.specs.Commands.{own_failure, next_of}
use Rattle.ln_book.specs.Marks.{offer_of, incoming_of, failure_by, unopened, outgoing_by, forward_mark, forwarded}
use Rattle.ln_book.specs.Marks.{final_mark, final_payload, expected_by, read_hop, read, opened_mark, mark_of}
use Rattle.ln_book.specs.Marks.{mark_by, decision, is_hold, resumed_mark, resumption}
use Rattle.ln_world.proofs.WideTables.{IsHow, IsOffer, IsHtlc, IsTable, IsDecided, IsOutgoing, IsInvoice}
use Rattle.ln_world.proofs.WideTables.{either, where-either, all-find, all-lookup}

-- ---- onions for tests

abbrev IsOnion : List ℕ → Type 0
IsOnion n = length n ≡ 1366

length-hmac : (payloads hash : List ℕ) → length (toy_hmac payloads hash) ≡ 32
unfolding toy_hmac
length-hmac payloads hash = length-sha256 (payloads ++ hash)

length-key : length toy_key ≡ 33
unfolding toy_key
length-key = refl

length-filled : (bytes : List ℕ) → length bytes ≤ 1300 → length (filled bytes) ≡ 1300
unfolding filled
length-filled bytes fits = omega (
  arith,
  length-append bytes (replicate (1300 - length bytes) 0),
  length-replicate {A = ℕ} (1300 - length bytes) 0,
)

packet_so : (bytes hash : List ℕ) → length bytes ≤ 1300 → IsOnion (toy_packet bytes hash)
packet_so bytes hash fits =
    let room = filled bytes in
    let hmac = toy_hmac room hash in
    omega (
      arith,
      length-append ((0 ∷ toy_key) ++ room) hmac,
      length-append (0 ∷ toy_key) room,
      length-key,
      length-filled bytes fits,
      length-hmac room hash,
    )

next_so : (bytes hash : List ℕ) → length bytes ≤ 1300 → Where IsOnion (next_packet bytes hash)
next_so [] hash fits = tt
next_so (zero ∷ rest) hash fits = tt
next_so (suc b ∷ rest) hash fits = packet_so (suc b ∷ rest) hash fits

abbrev GoesOn : Result Opened OpenFault → Type 0
GoesOn r = Where IsOnion (next_of r)

hop_so : (len : ℕ) (bytes hash : List ℕ) → length bytes ≤ 1300 → GoesOn (hop_of len bytes hash)
hop_so len bytes hash fits =
    let next = next_packet (drop len bytes) hash in
    either GoesOn (len == 0) (Err open_fault.Payload) _ tt
    (either GoesOn (nat_lt (length bytes) len) (Err open_fault.Payload)
    (Ok (record { payload = take len bytes; next = next })) tt
    (next_so (drop len bytes) hash (omega (arith, length-drop len bytes))))

behind_so : (r : Result (ℕ × ℕ) Fault) (bytes hash : List ℕ) → length bytes ≤ 1300
    → GoesOn (hop_behind r bytes hash)
behind_so (Err f) bytes hash fits = tt
behind_so (Ok len) bytes hash fits =
    hop_so len.0 (drop len.1 bytes) hash (omega (arith, length-drop len.1 bytes))

without_fault : (f : Option OpenFault) (r : Result Opened OpenFault) → GoesOn r → GoesOn (unless f r)
without_fault None r h = h
without_fault (Some f) r h = tt

pub nexts_so : (onion hash : List ℕ) → Where (λ n. length n ≡ 1366) (next_of (toy_opened onion hash))
nexts_so onion hash =
    let bytes = onion_payloads onion in
    without_fault (packet_fault onion hash) (hop_behind (bigsize_at bytes) bytes hash)
    (behind_so (bigsize_at bytes) bytes hash (omega (arith, length-take 1300 (drop 34 onion))))

-- ---- failures

abbrev IsShort : List ℕ → Type 0
IsShort bytes = length bytes ≤ 9

bigsize_short : (n : ℕ) → IsShort (bigsize n)
bigsize_short n =
    either IsShort (nat_lt n 253) (n ∷ []) _ (omega arith)
    (either IsShort (nat_lt n 65536) (253 ∷ big_bytes 2 n) _ (omega arith)
    (either IsShort (nat_lt n 4294967296) (254 ∷ big_bytes 4 n) (255 ∷ big_bytes 8 n) (omega arith) (omega arith)))

pub failure_short : (f : Failure) → length (failure_bytes f) < 2 ^ 64
failure_short failure.TemporaryChannelFailure = omega arith
failure_short failure.UnknownNextPeer = omega arith
failure_short (failure.AmountBelowMinimum amount) = omega arith
failure_short (failure.FeeInsufficient amount) = omega arith
failure_short (failure.IncorrectCltvExpiry expiry) = omega arith
failure_short failure.ExpiryTooSoon = omega arith
failure_short (failure.IncorrectOrUnknownPaymentDetails amount height) = omega arith
failure_short (failure.FinalIncorrectCltvExpiry expiry) = omega arith
failure_short (failure.FinalIncorrectHtlcAmount amount) = omega arith
failure_short failure.ExpiryTooFar = omega arith
failure_short (failure.InvalidOnionPayload typ) =
    let short = bigsize_short typ in
    omega (arith, short, length-append (bigsize typ) (big_bytes 2 0))

-- ---- events

abbrev pub IsEvent : ChannelEvent → Type 0
IsEvent (event.Added own id amount hash expiry onion) =
    IsOffer (record { id = id; amount = amount; hash = hash; expiry = expiry; onion = onion })
IsEvent (event.Settled own id h) = IsHow h
IsEvent (event.Closed fee) = Unit {0}

pub offer_so : (e : ChannelEvent) → IsEvent e → Where IsOffer (offer_of e)
offer_so (event.Added own id amount hash expiry onion) h =
    let o : Offer = record { id = id; amount = amount; hash = hash; expiry = expiry; onion = onion } in
    where-either IsOffer own None (Some o) tt h
offer_so (event.Settled own id h) g = tt
offer_so (event.Closed fee) h = tt

abbrev IsAmount : ℕ → Type 0
IsAmount n = n < 2 ^ 64

added_so : (own : Bool) (a : Add) (o : Option ℕ) → IsAdd a → Where IsAmount o
    → Where IsEvent (option_map (λ amount. event.Added own a.id amount a.hash a.expiry a.onion) o)
added_so own a None h is = tt
added_so own a (Some amount) h is = record { id = h.id; amount = is; hash = h.hash; expiry = h.expiry }

pub event_so : (own : Bool) (u : Update) → IsUpdate u → Where IsEvent (event_of own u)
event_so own (update.Add a) h =
    added_so own a (bounded a.amount) h
    (where-either IsAmount (nat_le a.amount greatest_amount) (Some a.amount) None h.amount tt)
event_so own (update.Fulfil f) h = h.preimage
event_so own (update.Fail f) h = tt
event_so own (update.Malformed m) h = tt
event_so own (update.Fee f) h = tt

-- ---- marks

module _ (s : Services) (short : (o : Offer) (f : Failure) → length (own_failure s o f) < 2 ^ 64) where
  chosen : (o : Offer) (hop : Hop) (l : Option OutgoingChannel) (b : Bool) (x : Failure) (f : Option Failure)
      → (b ≡ false → IsMark (forward_mark s o hop l f)) → IsMark (forward_mark s o hop l (cond b (Some x) f))
  chosen o hop l true x f h = short o x
  chosen o hop l false x f h = h refl

  -- what is forwarded is no more than what comes in, and expires no later
  paid_so : (o : Offer) (a e : ℕ) (next : Option (List ℕ)) (payment : Option Payment) (t : Table) (l : OutgoingChannel)
      → IsOffer o → IsOutgoing l
      → IsMark (forwarded s o (record { amount = Some a; expiry = Some e; next = next; payment = payment }) t (Some l))
  paid_so o a e next payment t l is line =
      let hop : Hop = record { amount = Some a; expiry = Some e; next = next; payment = payment } in
      let paid = a + fee l.policy a in
      let by = chosen o hop (Some l) in
      by (is_none next) (failure.InvalidOnionPayload 6) _ (λ _.
      by (not (is_usable l.channel t)) failure.TemporaryChannelFailure _ (λ _.
      by ((a == 0) || nat_lt a l.minimum) (failure.AmountBelowMinimum a) _ (λ _.
      by (nat_lt o.amount paid) (failure.FeeInsufficient o.amount) _ (λ enough.
      by (nat_lt o.expiry (e + l.policy.delta)) (failure.IncorrectCltvExpiry e) _ (λ timely.
      by (nat_le e (t.height + 3)) failure.ExpiryTooSoon _ (λ _.
      by (nat_lt (t.height + 2016) e) failure.ExpiryTooFar None (λ _.
      let pays : paid ≤ o.amount = ltb-false o.amount paid enough in
      let ends : e + l.policy.delta ≤ o.expiry = ltb-false o.expiry (e + l.policy.delta) timely in
      let amount = is.amount in
      let expiry = is.expiry in
      record { channel_fits = line; amount_fits = omega arith; expiry_fits = omega arith })))))))

  forwarded_so : (o : Offer) (amount expiry : Option ℕ) (next : Option (List ℕ)) (payment : Option Payment) (t : Table)
      (l : Option OutgoingChannel) → IsOffer o → Where IsOutgoing l
      → IsMark (forwarded s o (record { amount = amount; expiry = expiry; next = next; payment = payment }) t l)
  forwarded_so o None expiry next payment t l is line = short o (failure.InvalidOnionPayload 2)
  forwarded_so o (Some a) None next payment t l is line = short o (failure.InvalidOnionPayload 4)
  forwarded_so o (Some a) (Some e) next payment t None is line =
      chosen o (record { amount = Some a; expiry = Some e; next = next; payment = payment }) None (is_none next)
      (failure.InvalidOnionPayload 6) (Some failure.UnknownNextPeer) (λ _. short o failure.UnknownNextPeer)
  forwarded_so o (Some a) (Some e) next payment t (Some l) is line = paid_so o a e next payment t l is line

  outgoing_so : (t : Table) (id : Option (List ℕ)) → IsTable t → Where IsOutgoing (outgoing_by t id)
  outgoing_so t None g = tt
  outgoing_so t (Some id) g = all-lookup IsOutgoing (same id) t.routes g.routes

  final_so : (o : Offer) (i : Option Invoice) (f : Option Failure) → Where IsInvoice i → IsMark (final_mark s o i f)
  final_so o i (Some f) h = short o f
  final_so o None None h = tt
  final_so o (Some i) None h = h

  hop_read : (o : Offer) (t : Table) (b : Bool) (hop : Hop) → IsOffer o → IsTable t → IsMark (read_hop s o t b hop)
  hop_read o t true hop is g =
      let i = lookup (same o.hash) t.expected in
      final_so o i (final_fault (incoming_of o) (final_payload hop) (expected_by i) t.height)
      (all-lookup IsInvoice (same o.hash) t.expected g.expected)
  hop_read o t false hop is g =
      forwarded_so o hop.amount hop.expiry hop.next hop.payment t (outgoing_by t hop.next) is (outgoing_so t hop.next g)

  read_so : (o : Offer) (t : Table) (b : Bool) (r : Result Hop Fault) → IsOffer o → IsTable t → IsMark (read s o t b r)
  read_so o t b (Err f) is g = short o (failure.InvalidOnionPayload 0)
  read_so o t b (Ok hop) is g = hop_read o t b hop is g

  unopened_so : (o : Offer) (f : OpenFault) → IsMark (unopened s o f)
  unopened_so o open_fault.Version = omega arith
  unopened_so o open_fault.Hmac = omega arith
  unopened_so o open_fault.Key = omega arith
  unopened_so o open_fault.Payload = short o (failure.InvalidOnionPayload 0)
  unopened_so o open_fault.Memory = short o (failure.InvalidOnionPayload 0)

  opened_so : (o : Offer) (t : Table) (r : Result Opened OpenFault) → IsOffer o → IsTable t
      → IsMark (opened_mark s o t r)
  opened_so o t (Err f) is g = unopened_so o f
  opened_so o t (Ok p) is g = read_so o t (is_none p.next) (payload_at p.payload) is g

  by_so : (t : Table) (n : ℕ) (o : Offer) (v : Verdict) → IsOffer o → IsTable t → IsMark (mark_by s t n o v)
  by_so t n o verdict.Continue is g = opened_so o t (s.opened o.onion o.hash) is g
  by_so t n o (verdict.Fail c) is g = short o (failure_by c o t.height)
  by_so t n o verdict.Hold is g = tt

  mark_so : (t : Table) (n : ℕ) (o : Option Offer) (v : Verdict) → Where IsOffer o → IsTable t
      → IsMark (mark_of s t n o v)
  mark_so t n None v is g = tt
  mark_so t n (Some o) v is g = by_so t n o v is g

  pub decision_so : (t : Table) (c : List ℕ) (n : ℕ) (o : Option Offer) (v : Verdict) → length c ≡ 32 → IsTable t
      → Where IsOffer o → IsDecided (decision s t c n o v)
  decision_so t c n o v channel g is = record { channel = channel; offer = is; mark = mark_so t n o v is g }

  -- ---- what is held is resumed

  resumed_so : (t : Table) (n : ℕ) (o : Option Htlc) (v : Verdict) → Where IsHtlc o → IsTable t
      → Where IsMark (resumed_mark s t n o v)
  resumed_so t n None v is g = tt
  resumed_so t n (Some h) v is g =
      where-either IsMark (is_hold v) None (Some (mark_by s t n h.offer v)) tt (by_so t n h.offer v is.offer g)

  held_so : (c : List ℕ) (n : ℕ) (t : Table) → IsTable t → Where IsHtlc (held_by c n t)
  held_so c n t g =
      where-either IsHtlc (list_any (is_resumed c n) t.queue) None (find (is_held_in c n) t.htlcs) tt
      (all-find IsHtlc (is_held_in c n) t.htlcs g.htlcs)

  pub resumption_so : (t : Table) (c : List ℕ) (n : ℕ) (v : Verdict) → IsTable t
      → Where IsMark (resumption s t c n v)
  resumption_so t c n v g = resumed_so t n (held_by c n t) v (held_so c n t g) g
