-- What a book hears of the events that an end newly tells, and what that leaves of its payments.
use Rattle.std.proofs.Common.{◌≡◌, ℕ, zero, suc, ◌+◌, ◌-◌, ◌≤◌, List, [], ◌∷◌, ◌++◌, drop, length, refl, sym, ap, ◌∙◌}
use Rattle.std.proofs.Common.{subst, arith, append_assoc, length-append, Bool, true, false, cond, not, nat_lt}
use Rattle.std.proofs.Common.{Option, Some, None, option_map, slice_get, inl, inr}
use Rattle.std.specs.List.{cons_option}
use Rattle.std.proofs.lemmas.Bool.{le-leb}
use Rattle.ln_log.specs.declared.update.Update.{Update}
use Rattle.ln_log.specs.declared.mark.EventRef.{EventRef}
use Rattle.ln_log.specs.declared.mark.EventRef.TheVariants as ref
use Rattle.ln_hooks.specs.declared.event.ChannelEvent.{ChannelEvent}
use Rattle.ln_hooks.specs.declared.event.ChannelEvent.TheVariants as event
use Rattle.ln_hooks.specs.Event.{event_of}
use Rattle.ln_channel.specs.Ledger.{refs_of}
use Rattle.ln_channel.specs.Pending.{named_by, event_in}
use Rattle.ln_channel.specs.End.{End}
use Rattle.ln_book_tables.specs.declared.htlc.Htlc.{Htlc}
use Rattle.ln_book_tables.specs.declared.htlc.Key.{Key}
use Rattle.ln_book_tables.specs.declared.htlc.OutgoingLeg.{OutgoingLeg}
use Rattle.ln_book_tables.specs.declared.htlc.OutgoingLeg.TheVariants as outgoing
use Rattle.ln_book_tables.specs.declared.htlc.IncomingLeg.TheVariants as back
use Rattle.ln_book_tables.specs.declared.entry.Entry.TheVariants as entry
use Rattle.ln_book_tables.specs.Replay.{Table, table_of, goes_by, is_htlc, is_offered, is_finished, changed_first}
use Rattle.ln_book_tables.specs.Replay.{left_out}
use Rattle.ln_book_tables.specs.Replay.{put_outgoing}
use Rattle.ln_book_tables.specs.Replay.{put_incoming, with_incoming}
use Rattle.ln_world_dispatch.specs.World.{undecided, item, named_at}
use Rattle.ln_world_channels.specs.Settings.{channel_id_of}
use Rattle.ln_world.specs.Node.{Book}
use Rattle.ln_world.specs.BookReports.{with_event, with_events, with_held, event_count}
use Rattle.ln_payment.specs.Parts.{IsHeld, IsEnd}
use Rattle.ln_payment_circuits.specs.Snapshot.{Incoming, IsIn}
use Rattle.ln_payment_circuits.proofs.Links.{Links, course_at, removal_at}
use Rattle.ln_payment_circuits.proofs.Entries.{kind_of, key_is}
use Rattle.ln_payment_circuits.proofs.Lists.{among_changed, of_picked}
use Rattle.ln_payment_circuits.proofs.Scenes.{HasPayment, scene, settles, tells}
use Rattle.ln_payment_circuits.proofs.Past.{OldOffers, offers_same, offers_then, offers_left, offers_changed}
use Rattle.ln_payment_circuits.proofs.Waiting.{drop_next}
use Rattle.ln_world.proofs.Books.{one_more}
use Rattle.ln_world.proofs.Same.{one_id}
use Rattle.ln_world.proofs.Orderly.{AreLater, later_same, later_left, later_changed, later_then}

abbrev key : List ℕ → ℕ → Key
key c id = record { channel = c; id = id }

-- ---- one event

abbrev pub after_event : List ℕ → Option ChannelEvent → List Htlc → List Htlc
after_event c None xs = xs
after_event c (Some (event.Added own id amount hash expiry onion)) xs = xs
after_event c (Some (event.Settled true id how)) xs =
    changed_first (is_offered (key c id)) (put_outgoing (outgoing.Resolved (key c id) how)) xs
after_event c (Some (event.Settled false id how)) xs =
    left_out (is_finished (key c id)) (with_incoming (key c id) back.Settled xs)
after_event c (Some (event.Closed fee)) xs = xs

-- a book that has these HTLCs then, and nothing else that a payment is read off
pub record Hears (xs : List Htlc) (a b : Book) : Type 0 where
  pub htlcs : (table_of b).htlcs ≡ xs
  pub queue : (table_of b).queue ≡ (table_of a).queue
  pub pending_commands : (table_of b).pending_commands ≡ (table_of a).pending_commands

nothing : (a : Book) → Hears (table_of a).htlcs a a
nothing a = record { htlcs = refl; queue = refl; pending_commands = refl }

one_event : (c : List ℕ) (o : Option ChannelEvent) (a : Book)
    → Hears (after_event c o (table_of a).htlcs) a (with_event c o a)
one_event c None a = nothing a
one_event c (Some (event.Added own id amount hash expiry onion)) a = nothing a
one_event c (Some (event.Closed fee)) a = nothing a
one_event c (Some (event.Settled true id how)) a = record {
  htlcs = ap (λ (t : Table). t.htlcs) (one_more (entry.Resolved (key c id) how) a);
  queue = ap (λ (t : Table). t.queue) (one_more (entry.Resolved (key c id) how) a);
  pending_commands = ap (λ (t : Table). t.pending_commands) (one_more (entry.Resolved (key c id) how) a);
}
one_event c (Some (event.Settled false id how)) a = record {
  htlcs = ap (λ (t : Table). t.htlcs) (one_more (entry.Removed (key c id)) a);
  queue = ap (λ (t : Table). t.queue) (one_more (entry.Removed (key c id)) a);
  pending_commands = ap (λ (t : Table). t.pending_commands) (one_more (entry.Removed (key c id)) a);
}

-- ---- those that these entries of an end's ledger name

abbrev pub after_all : List ℕ → List EventRef → End → List Htlc → List Htlc
after_all c [] y xs = xs
after_all c (r ∷ rs) y xs = after_all c rs y (after_event c (named_by r y) xs)

at_place : (us rs : List EventRef) (r : EventRef) → item (length us) (us ++ r ∷ rs) ≡ Some r
at_place [] rs r = refl
at_place (u ∷ us) rs r = at_place us rs r

undecided_is : (y : End) (n : ℕ) (us rs : List EventRef) (r : EventRef) → y.ledger.undecided ≡ us ++ r ∷ rs
    → n ≡ y.ledger.decided + length us → undecided n y ≡ named_by r y
undecided_is y n us rs r is count =
    let d = y.ledger.decided in
    let le : d ≤ n = omega (arith, count) in
    let back : n - d ≡ length us = omega (arith, count) in
    ap (λ b. cond b (named_at (item (n - d) y.ledger.undecided) y) None) (le-leb d n le)
    ∙ ap (λ i. named_at (item i y.ledger.undecided) y) back
    ∙ ap (λ qs. named_at (item (length us) qs) y) is ∙ ap (λ o. named_at o y) (at_place us rs r)

hears_from : (c : List ℕ) (y : End) (n : ℕ) (us rs : List EventRef) (a : Book) → y.ledger.undecided ≡ us ++ rs
    → n ≡ y.ledger.decided + length us
    → Hears (after_all c rs y (table_of a).htlcs) a (with_events c n (length rs) y a)
hears_from c y n us [] a is count = nothing a
hears_from c y n us (r ∷ rs) a is count =
    let b = with_event c (undecided n y) a in
    let one = one_event c (undecided n y) a in
    let long : length (us ++ r ∷ []) ≡ length us + 1 = length-append us (r ∷ []) in
    let rest =
    hears_from c y (n + 1) (us ++ r ∷ []) rs b (is ∙ sym (append_assoc us (r ∷ []) rs))
    (omega (arith, count, long)) in
    record {
      htlcs = rest.htlcs ∙ ap (after_all c rs y) (one.htlcs
          ∙ ap (λ o. after_event c o (table_of a).htlcs) (undecided_is y n us rs r is count));
      queue = rest.queue ∙ one.queue;
      pending_commands = rest.pending_commands ∙ one.pending_commands;
    }

-- of an end that has told so many before
pub hears : (c : List ℕ) (x y : End) (rs : List EventRef) (a : Book) → y.ledger.undecided ≡ x.ledger.undecided ++ rs
    → y.ledger.decided ≡ x.ledger.decided
    → Hears (after_all c rs y (table_of a).htlcs) a (with_held c (event_count (Some x)) (Some y) a)
hears c x y rs a is same =
    let n = x.ledger.decided + length x.ledger.undecided in
    let long : length y.ledger.undecided ≡ length x.ledger.undecided + length rs =
    ap length is ∙ length-append x.ledger.undecided rs in
    let more : (y.ledger.decided + length y.ledger.undecided) - n ≡ length rs = omega (arith, long, same) in
    subst (λ m. Hears (after_all c rs y (table_of a).htlcs) a (with_events c n m y a)) (sym more)
    (hears_from c y n x.ledger.undecided rs a is (let s = same in omega (arith, s)))

pub hears_none : (c : List ℕ) (x y : End) (a : Book) → event_count (Some y) ≡ event_count (Some x)
    → with_held c (event_count (Some x)) (Some y) a ≡ a
hears_none c x y a same =
    let n = event_count (Some x) in
    let none : event_count (Some y) - n ≡ 0 = omega (arith, same) in
    ap (λ m. with_events c n m y a) none

-- ---- each HTLC is one that was there

-- one that is as it was, but for where it goes and its removal
pub record Kin (x y : Htlc) : Type 0 where
  pub key : y.key ≡ x.key
  pub event : y.event ≡ x.event
  pub mark : y.mark ≡ x.mark
  pub decided : y.decided ≡ x.decided

abbrev pub AreKin : List Htlc → List Htlc → Type 0
AreKin xs ys = (y : Htlc) → IsIn y ys → (x : Htlc) × IsIn x xs × Kin x y

pub itself : (x : Htlc) → Kin x x
itself x = record { key = refl; event = refl; mark = refl; decided = refl }

pub kin_as : (x y z : Htlc) → y ≡ z → Kin x y → Kin x z
kin_as x y z e k = subst (Kin x) e k

pub kin_then : (x y z : Htlc) → Kin x y → Kin y z → Kin x z
kin_then x y z h k = record {
  key = k.key ∙ h.key;
  event = k.event ∙ h.event;
  mark = k.mark ∙ h.mark;
  decided = k.decided ∙ h.decided;
}

pub kin_changed : (p : Htlc → Bool) (f : Htlc → Htlc) → ((x : Htlc) → Kin x (f x)) → (xs : List Htlc)
    → AreKin xs (changed_first p f xs)
kin_changed p f so xs y m = elim (among_changed p f y xs m) [
  | inl was ↦ (y, was, itself y)
  | inr r ↦ (r.0, r.1, kin_as r.0 (f r.0) y r.3 (so r.0))
]

pub kin_left : (p : Htlc → Bool) (xs : List Htlc) → AreKin xs (left_out p xs)
kin_left p xs y m = (y, of_picked (λ z. not (p z)) y xs m, itself y)

pub kin_both : (xs ys zs : List Htlc) → AreKin xs ys → AreKin ys zs → AreKin xs zs
kin_both xs ys zs h k z m =
    let a = k z m in
    let b = h a.0 a.1 in
    (b.0, b.1, kin_then b.0 a.0 z b.2 a.2)

kin_event : (c : List ℕ) (o : Option ChannelEvent) (xs : List Htlc) → AreKin xs (after_event c o xs)
kin_event c None xs y m = (y, m, itself y)
kin_event c (Some (event.Added own id amount hash expiry onion)) xs y m = (y, m, itself y)
kin_event c (Some (event.Closed fee)) xs y m = (y, m, itself y)
kin_event c (Some (event.Settled true id how)) xs y m =
    kin_changed (is_offered (key c id)) (put_outgoing (outgoing.Resolved (key c id) how))
    (λ x. record { key = refl; event = refl; mark = refl; decided = refl }) xs y m
kin_event c (Some (event.Settled false id how)) xs y m =
    kin_both xs (with_incoming (key c id) back.Settled xs) (left_out (is_finished (key c id))
    (with_incoming (key c id) back.Settled xs))
    (kin_changed (is_htlc (key c id)) (put_incoming back.Settled)
    (λ x. record { key = refl; event = refl; mark = refl; decided = refl }) xs)
    (kin_left (is_finished (key c id)) (with_incoming (key c id) back.Settled xs)) y m

pub kin_all : (c : List ℕ) (rs : List EventRef) (y : End) (xs : List Htlc) → AreKin xs (after_all c rs y xs)
kin_all c [] y xs z m = (z, m, itself z)
kin_all c (r ∷ rs) y xs z m =
    kin_both xs (after_event c (named_by r y) xs) (after_all c rs y (after_event c (named_by r y) xs))
    (kin_event c (named_by r y) xs) (kin_all c rs y (after_event c (named_by r y) xs)) z m

-- ---- what is left of a payment

-- an own removal is held, and an own HTLC has ended so
abbrev pub IsSo : Links → ℕ → Option ChannelEvent → Type 0
IsSo l c None = Unit {0}
IsSo l c (Some (event.Added own id amount hash expiry onion)) = Unit {0}
IsSo l c (Some (event.Settled true id how)) = IsEnd (kind_of how) (course_at id (l.sides c))
IsSo l c (Some (event.Settled false id how)) = IsHeld (removal_at id (l.sides c))
IsSo l c (Some (event.Closed fee)) = Unit {0}

one_paid : (h : Incoming) (l : Links) (c : ℕ) (o : Option ChannelEvent) (xs : List Htlc) → l.halted c ≡ false
    → IsSo l c o
    → HasPayment channel_id_of h (scene channel_id_of l xs)
    → HasPayment channel_id_of h (scene channel_id_of l (after_event (channel_id_of c) o xs))
one_paid h l c None xs awake so k = k
one_paid h l c (Some (event.Added own id amount hash expiry onion)) xs awake so k = k
one_paid h l c (Some (event.Closed fee)) xs awake so k = k
one_paid h l c (Some (event.Settled true id how)) xs awake so k =
    tells channel_id_of one_id h l c ((id, how) ∷ []) xs awake ((λ a. so), tt) k
one_paid h l c (Some (event.Settled false id how)) xs awake so k =
    settles channel_id_of h l (key (channel_id_of c) id ∷ []) xs (
      (λ e. subst (λ d. IsHeld (removal_at h.id (l.sides d))) (one_id c h.channel (ap (λ (z : Key). z.channel) e))
          (subst (λ i. IsHeld (removal_at i (l.sides c))) (ap (λ (z : Key). z.id) e) so)),
      tt,
    ) k

abbrev pub AreSo : Links → ℕ → List EventRef → End → Type 0
AreSo l c [] y = Unit {0}
AreSo l c (r ∷ rs) y = IsSo l c (named_by r y) × AreSo l c rs y

pub all_paid : (h : Incoming) (l : Links) (c : ℕ) (rs : List EventRef) (y : End) (xs : List Htlc) → l.halted c ≡ false
    → AreSo l c rs y → HasPayment channel_id_of h (scene channel_id_of l xs)
    → HasPayment channel_id_of h (scene channel_id_of l (after_all (channel_id_of c) rs y xs))
all_paid h l c [] y xs awake so k = k
all_paid h l c (r ∷ rs) y xs awake so k =
    all_paid h l c rs y (after_event (channel_id_of c) (named_by r y) xs) awake so.1
    (one_paid h l c (named_by r y) xs awake so.0 k)

-- ---- of an HTLC that waits nothing is heard, where its channel holds no removal of it

abbrev pub NoneHeld : Links → Htlc → Type 0
NoneHeld l x = (c : ℕ) → x.key.channel ≡ channel_id_of c → IsHeld (removal_at x.key.id (l.sides c)) → ⊥

none_held_still : (l : Links) (x y : Htlc) → y.key ≡ x.key → NoneHeld l x → NoneHeld l y
none_held_still l x y e h c at held = h c (sym (ap (λ (k : Key). k.channel) e) ∙ at)
    (subst (λ i. IsHeld (removal_at i (l.sides c))) (ap (λ (k : Key). k.id) e) held)

nowhere_else : (k : Key) (w : OutgoingLeg) → w ≡ outgoing.Absent → goes_by k w ≡ true → ⊥
nowhere_else k w e f = absurd (let no : false ≡ true = sym (ap (goes_by k) e) ∙ f in cc)

later_event : (l : Links) (c : ℕ) (o : Option ChannelEvent) (xs : List Htlc) → IsSo l c o
    → AreLater (NoneHeld l) xs (after_event (channel_id_of c) o xs)
later_event l c None xs so = later_same (NoneHeld l) xs
later_event l c (Some (event.Added own id amount hash expiry onion)) xs so = later_same (NoneHeld l) xs
later_event l c (Some (event.Closed fee)) xs so = later_same (NoneHeld l) xs
later_event l c (Some (event.Settled true id how)) xs so =
    later_changed (NoneHeld l) (is_offered (key (channel_id_of c) id))
    (put_outgoing (outgoing.Resolved (key (channel_id_of c) id) how)) xs (λ x m hit. record {
      key = refl;
      event = refl;
      was = λ e. (e, refl);
      waits = λ known new. absurd (nowhere_else (key (channel_id_of c) id) x.outgoing new.1 hit);
    })
later_event l c (Some (event.Settled false id how)) xs so =
    let k = key (channel_id_of c) id in
    later_then (NoneHeld l) (none_held_still l) xs (with_incoming k back.Settled xs)
    (left_out (is_finished k) (with_incoming k back.Settled xs))
    (later_changed (NoneHeld l) (is_htlc k) (put_incoming back.Settled) xs (λ x m hit.
    let here : k ≡ x.key = key_is k x.key hit in
    record {
      key = refl;
      event = refl;
      was = λ e. (e, refl);
      waits = λ known new. absurd (known c (sym (ap (λ (j : Key). j.channel) here))
          (subst (λ i. IsHeld (removal_at i (l.sides c))) (ap (λ (j : Key). j.id) here) so));
    }))
    (later_left (NoneHeld l) (is_finished k) (with_incoming k back.Settled xs))

pub later_all : (l : Links) (c : ℕ) (rs : List EventRef) (y : End) (xs : List Htlc) → AreSo l c rs y
    → AreLater (NoneHeld l) xs (after_all (channel_id_of c) rs y xs)
later_all l c [] y xs so = later_same (NoneHeld l) xs
later_all l c (r ∷ rs) y xs so = later_then (NoneHeld l) (none_held_still l) xs
    (after_event (channel_id_of c) (named_by r y) xs)
    (after_all (channel_id_of c) rs y (after_event (channel_id_of c) (named_by r y) xs))
    (later_event l c (named_by r y) xs so.0)
    (later_all l c rs y (after_event (channel_id_of c) (named_by r y) xs) so.1)

-- ---- nothing new goes out

abbrev Offering : List Htlc → List Htlc → Type 0
Offering xs ys = OldOffers channel_id_of xs ys

offers_event : (c : List ℕ) (o : Option ChannelEvent) (xs : List Htlc) → Offering xs (after_event c o xs)
offers_event c None xs = offers_same channel_id_of xs xs refl
offers_event c (Some (event.Added own id amount hash expiry onion)) xs = offers_same channel_id_of xs xs refl
offers_event c (Some (event.Closed fee)) xs = offers_same channel_id_of xs xs refl
offers_event c (Some (event.Settled true id how)) xs = offers_changed channel_id_of (is_offered (key c id))
    (put_outgoing (outgoing.Resolved (key c id) how)) (λ x k dec at. absurd
    (let no : ◌≡◌ {A = OutgoingLeg} (outgoing.Resolved (key c id) how) (outgoing.Offered k) = at in cc)) xs
offers_event c (Some (event.Settled false id how)) xs = offers_then channel_id_of xs (with_incoming
    (key c id) back.Settled xs) (left_out (is_finished (key c id)) (with_incoming (key c id) back.Settled xs))
    (offers_changed channel_id_of (is_htlc (key c id)) (put_incoming back.Settled) (λ x k dec at. (refl, dec, at)) xs)
    (offers_left channel_id_of (is_finished (key c id)) (with_incoming (key c id) back.Settled xs))

pub offers_all : (c : List ℕ) (rs : List EventRef) (y : End) (xs : List Htlc) → Offering xs (after_all c rs y xs)
offers_all c [] y xs = offers_same channel_id_of xs xs refl
offers_all c (r ∷ rs) y xs = offers_then channel_id_of xs (after_event c (named_by r y) xs)
    (after_all c rs y (after_event c (named_by r y) xs)) (offers_event c (named_by r y) xs)
    (offers_all c rs y (after_event c (named_by r y) xs))

-- ---- which events they name

got_at : (n : ℕ) (us : List Update) (u : Update) (zs : List Update) → drop n us ≡ u ∷ zs → slice_get us n ≡ Some u
got_at zero [] u zs e = absurd (cc)
got_at zero (v ∷ us) u zs e = let same : v ≡ u = cc in ap Some same
got_at (suc n) [] u zs e = absurd (cc)
got_at (suc n) (v ∷ us) u zs e = got_at n us u zs e

abbrev pub EachSo : Links → ℕ → Bool → List Update → Type 0
EachSo l c own [] = Unit {0}
EachSo l c own (u ∷ us) = IsSo l c (event_of own u) × EachSo l c own us

module _ (l : Links) (c : ℕ) (y : End) where
  one_so : (own : Bool) (b : Bool) (u : Update) (o : Option Update) → o ≡ Some u → IsSo l c (event_of own u)
      → IsSo l c (event_in own (cond b None o))
  one_so own true u o is so = tt
  one_so own false u o is so = subst (λ z. IsSo l c (event_in own z)) (sym is) so

  joins : (r : EventRef) (o : Option ChannelEvent) (rs : List EventRef) → IsSo l c (named_by r y) → AreSo l c rs y
      → AreSo l c (cons_option (option_map (λ e. r) o) rs) y
  joins r None rs so rest = rest
  joins r (Some e) rs so rest = (so, rest)

  pub own_so : (n : ℕ) (us rest : List Update) → drop n y.dance.log.own ≡ us ++ rest → EachSo l c true us
      → AreSo l c (refs_of true n us) y
  own_so n [] rest is so = tt
  own_so n (u ∷ us) rest is so =
      let next : n + 1 ≡ suc n = omega arith in
      joins (ref.Own n) (event_of true u) (refs_of true (n + 1) us)
      (one_so true (nat_lt n y.dance.log.first.own) u (slice_get y.dance.log.own n)
      (got_at n y.dance.log.own u (us ++ rest) is) so.0)
      (own_so (n + 1) us rest (ap (λ m. drop m y.dance.log.own) next
      ∙ drop_next n y.dance.log.own u (us ++ rest) is) so.1)

  pub peer_so : (n : ℕ) (us rest : List Update) → drop n y.dance.log.received ≡ us ++ rest → EachSo l c false us
      → AreSo l c (refs_of false n us) y
  peer_so n [] rest is so = tt
  peer_so n (u ∷ us) rest is so =
      let next : n + 1 ≡ suc n = omega arith in
      joins (ref.Peer n) (event_of false u) (refs_of false (n + 1) us)
      (one_so false (nat_lt n y.dance.log.first.peer) u (slice_get y.dance.log.received n)
      (got_at n y.dance.log.received u (us ++ rest) is) so.0)
      (peer_so (n + 1) us rest (ap (λ m. drop m y.dance.log.received) next
      ∙ drop_next n y.dance.log.received u (us ++ rest) is) so.1)
