-- What a book that is told of a lost connection, or of an event, leaves of a manager.
use Rattle.std.proofs.Common.{◌≡◌, ◌⊎◌, inl, inr, ℕ, ◌<◌, ◌≤◌, List, [], ◌∷◌, map, take, refl, sym, ap, ◌∙◌, subst}
use Rattle.std.proofs.Common.{Bool}
use Rattle.std.proofs.Common.{true, false, not, Option, Some, None}
use Rattle.std.specs.Prelude.{option_map}
use Rattle.ln_keys.specs.Signer.{Signer}
use Rattle.ln_log.specs.declared.update.Removal.{Removal}
use Rattle.ln_log.specs.declared.update.Update.{Update}
use Rattle.ln_log.specs.declared.update.Update.TheVariants as update
use Rattle.ln_log.specs.Updates.{removed, outcome}
use Rattle.ln_log.proofs.Removing.{removals-take}
use Rattle.ln_hooks.specs.declared.event.ChannelEvent.{ChannelEvent}
use Rattle.ln_hooks.specs.declared.event.ChannelEvent.TheVariants as event
use Rattle.ln_hooks.specs.declared.event.How.{How}
use Rattle.ln_hooks.specs.declared.event.How.TheVariants as how
use Rattle.ln_hooks.specs.Event.{event_of}
use Rattle.ln_hooks.specs.Amount.{bounded}
use Rattle.ln_channel.specs.End.{End, end_dropped}
use Rattle.ln_channel.specs.State.{is_down}
use Rattle.ln_book_tables.specs.declared.htlc.Htlc.{Htlc}
use Rattle.ln_book_tables.specs.declared.htlc.Key.{Key}
use Rattle.ln_book_tables.specs.declared.htlc.OutgoingLeg.TheVariants as outgoing
use Rattle.ln_book_tables.specs.declared.htlc.IncomingLeg.TheVariants as incoming
use Rattle.ln_book_tables.specs.declared.entry.Entry.TheVariants as entry
use Rattle.ln_book_tables.specs.declared.entry.KeptState.{KeptState}
use Rattle.ln_book_tables.specs.declared.entry.PendingCommand.TheVariants as pending_command
use Rattle.ln_book_tables.specs.Replay.{Table, replay, changed_first, left_out, htlc_kept, kept_at, pending_command_at}
use Rattle.ln_book_tables.specs.Replay.{is_htlc, is_offered, is_finished, put_outgoing, put_incoming, with_incoming}
use Rattle.ln_book.specs.Kept.{kept_ids, has_own_removal}
use Rattle.ln_book.specs.Rebuild.{no_event}
use Rattle.ln_payment_circuits.specs.Snapshot.{IsIn, is_gone, IsFitLog}
use Rattle.ln_payment_circuits.specs.Happens.{HasOwnIds, AreSame, outcome_of}
use Rattle.ln_payment_circuits.specs.Happens as may
use Rattle.ln_payment_circuits.proofs.Heard.{gone_among}
use Rattle.ln_payment_circuits.proofs.Lists.{of_picked, among_changed}
use Rattle.ln_payment_circuits.proofs.Naming.{AllName, names_dropped}
use Rattle.ln_payment_circuits.proofs.Removals.{fate_told}
use Rattle.ln_manager_laws.specs.Calls.{Seat, DropConnection, called}
use Rattle.ln_manager_laws.specs.Manager.{Manager, end_in, halted_in, seat_of, snapshot}
use Rattle.ln_manager_laws.specs.Steps.{Changes, others, Works, HasTold, heard, kept_by}
use Rattle.ln_manager_laws.proofs.Apart.{found_in}
use Rattle.ln_manager_laws.proofs.Losing.{IsDropped, dropped}
use Rattle.ln_manager_laws.proofs.Snapshots.{Apart, IsAt, loses, halted_same, here_now, seats_same}
use Rattle.ln_manager_laws.proofs.Orderly.{EachSeat, was_there, is_there, apart_changed, HasNumber, IsDated, SaysNames}
use Rattle.ln_manager_laws.proofs.Orderly.{IsOrderly, IsChannel, Happened, Same, Leaves, leaves_by, leaves_seats}
use Rattle.ln_manager_laws.proofs.Orderly.{Kin, kin_same, are_fit, HasEvents}
use Rattle.ln_channel.specs.Ledger.{most_decided}

-- ---- HTLCs that were there

pub kin_map : (f : Htlc → Htlc) → ((x : Htlc) → ((f x).key ≡ x.key) × ((f x).event ≡ x.event)) → (xs : List Htlc)
    → Kin xs (map f xs)
kin_map f keeps [] y m = absurd m
kin_map f keeps (x ∷ xs) y (inl e) =
    let k = keeps x in
    (x, inl refl, ap (λ (z : Htlc). z.key) (sym e) ∙ k.0, ap (λ (z : Htlc). z.event) (sym e) ∙ k.1)
kin_map f keeps (x ∷ xs) y (inr m) = let k = kin_map f keeps xs y m in (k.0, inr k.1, k.2, k.3)

pub kin_changed : (p : Htlc → Bool) (f : Htlc → Htlc) → ((x : Htlc) → ((f x).key ≡ x.key) × ((f x).event ≡ x.event))
    → (xs : List Htlc) → Kin xs (changed_first p f xs)
kin_changed p f keeps xs y m = elim (among_changed p f y xs m) [
  | inl old ↦ (y, old, refl, refl)
  | inr new ↦
      let k = keeps new.0 in
      (new.0, new.1, ap (λ (z : Htlc). z.key) (sym new.3) ∙ k.0, ap (λ (z : Htlc). z.event) (sym new.3) ∙ k.1)
]

pub kin_left : (p : Htlc → Bool) (xs : List Htlc) → Kin xs (left_out p xs)
kin_left p xs y m = (y, of_picked (λ x. not (p x)) y xs m, refl, refl)

pub kin_then : (xs ys zs : List Htlc) → Kin xs ys → Kin ys zs → Kin xs zs
kin_then xs ys zs a b z m =
    let k = b z m in
    let j = a k.0 k.1 in (j.0, j.1, k.2 ∙ j.2, k.3 ∙ j.3)

pub kin_as : (xs ys zs : List Htlc) → zs ≡ ys → Kin xs ys → Kin xs zs
kin_as xs ys zs e k = subst (Kin xs) (sym e) k

-- ---- what an event tells

record IsTold (u : Update) (id : ℕ) (w : How) : Type 0 where
  pub removal : Removal
  pub removes : removed u ≡ Some removal
  pub is : removal.id ≡ id
  pub outcome : removal.outcome ≡ outcome_of w

-- of a removal, by whom it is
settles_so : (own : Bool) (u : Update) (o : Bool) (id : ℕ) (w : How) → event_of own u ≡ Some (event.Settled o id w)
    → (o ≡ not own) × IsTold u id w
settles_so own (update.Add a) o id w e = cases (bounded a.amount) e
  where
    cases : (b : Option ℕ) → option_map (λ amount. event.Added own a.id amount a.hash a.expiry a.onion) b
        ≡ Some (event.Settled o id w) → (o ≡ not own) × IsTold (update.Add a) id w
    cases None f = absurd (cc)
    cases (Some amount) f = absurd (cc)
settles_so own (update.Fulfil f) o id w e =
    let same : event.Settled (not own) f.id (how.Fulfilled f.preimage) ≡ event.Settled o id w = cc in
    let side : not own ≡ o = cc in
    let number : f.id ≡ id = cc in
    let way : how.Fulfilled f.preimage ≡ w = cc in
    (sym side, record { removal = _; removes = refl; is = number; outcome = ap outcome_of way })
settles_so own (update.Fail f) o id w e =
    let same : event.Settled (not own) f.id (how.Failed f.reason) ≡ event.Settled o id w = cc in
    let side : not own ≡ o = cc in
    let number : f.id ≡ id = cc in
    let way : how.Failed f.reason ≡ w = cc in
    (sym side, record { removal = _; removes = refl; is = number; outcome = ap outcome_of way })
settles_so own (update.Malformed f) o id w e =
    let same : event.Settled (not own) f.id (how.Malformed f.sha256_of_onion f.failure_code) ≡ event.Settled o id w =
    cc in
    let side : not own ≡ o = cc in
    let number : f.id ≡ id = cc in
    let way : how.Malformed f.sha256_of_onion f.failure_code ≡ w = cc in
    (sym side, record { removal = _; removes = refl; is = number; outcome = ap outcome_of way })
settles_so own (update.Fee f) o id w e = absurd (cc)

told_removed : (e : End) (id : ℕ) (w : How) → HasTold e (event.Settled false id w)
    → is_gone id (take e.dance.log.current.own e.dance.log.own) ≡ true
told_removed e id w (inl t) =
    let k = (settles_so true t.0 false id w t.2).1 in
    subst (λ i. is_gone i (take e.dance.log.current.own e.dance.log.own) ≡ true) k.is
    (gone_among (take e.dance.log.current.own e.dance.log.own) t.0 k.removal t.1 k.removes)
told_removed e id w (inr t) = absurd (let no : false ≡ true = (settles_so false t.0 false id w t.2).0 in cc)

told_over : (e : End) (id : ℕ) (w : How) → IsFitLog e.dance.log e.ledger.undecided → HasTold e (event.Settled true id w)
    → outcome id (take e.dance.log.acknowledged.peer e.dance.log.received) ≡ outcome_of w
told_over e id w fit (inl t) = absurd (let no : true ≡ false = (settles_so true t.0 true id w t.2).0 in cc)
told_over e id w fit (inr t) =
    let k = (settles_so false t.0 true id w t.2).1 in
    let us = take e.dance.log.acknowledged.peer e.dance.log.received in
    let adds = take e.dance.log.current.own e.dance.log.own in
    ap (λ i. outcome i us) (sym k.is)
    ∙ fate_told adds [] us t.0 k.removal
    (removals-take adds [] e.dance.log.received e.dance.log.acknowledged.peer fit.sound.peer_removals) t.1 k.removes
    ∙ k.outcome

module _ {K : Type 0} (signer : K → Signer) (id_of : ℕ → List ℕ) (one : HasOwnIds id_of) (m n : Manager K)
    (h : IsOrderly id_of m) (numbers : EachSeat (HasNumber id_of) n) where
  -- ---- a connection is lost

  pub disconnects : (x : Seat K) (e : End) → Works x e → is_down x.link.connection ≡ false
      → (g : Changes x (called signer DropConnection x) m n)
      → pending_command_at e.dance.channel m.book ≡ pending_command.Idle
      → n.book ≡ replay m.book (entry.Dropped e.dance.channel (kept_by (end_dropped e) m.book) ∷ [])
      → Leaves id_of m n
  disconnects x e works up g idle book =
      leaves_by id_of x y m n g h d.sound apart keeps
      (Happened (may.Disconnects c.0 e told
      (ap end_in at.before ∙ works.end) (ap halted_in at.before ∙ works.halted)
      (record { next = refl; removes = ap (λ ch. kept_ids removes ch m.book.htlcs) c.1 })
      (loses id_of one x y m n g h.apart apart c.0 e (end_dropped e) works.end now c.1 refl refl)
      (halted_same id_of one x y m n g h.apart apart c.0 e (end_dropped e) works.end now c.1 refl d.halted)
      (htlcs ∙ ap (λ ch. map (htlc_kept ch told) m.book.htlcs) c.1)))
      (kin_as m.book.htlcs (map (htlc_kept e.dance.channel told) m.book.htlcs) n.book.htlcs htlcs
      (kin_map (htlc_kept e.dance.channel told) (λ z. (refl, refl)) m.book.htlcs))
      dated named few
    where
      y : Seat K
      y = called signer DropConnection x

      d : IsDropped signer id_of one m n h x y (others g)
      d = dropped signer id_of one m n h x (others g) (h.sound x (was_there x y m n g))

      apart : Apart n
      apart = apart_changed x y m n g h.apart d.alone

      now : y.end ≡ Some (end_dropped e)
      now = d.end up works.halted ∙ ap (option_map end_dropped) works.end

      c : (c : ℕ) × (e.dance.channel ≡ id_of c)
      c = numbers y (is_there x y m n g) (end_dropped e) now

      at : IsAt (id_of c.0) x y m n
      at = here_now id_of one x y m n g h.apart apart c.0 e (end_dropped e) works.end now c.1 refl

      told : KeptState
      told = kept_by (end_dropped e) m.book

      removes : ℕ → Bool
      removes = λ id. has_own_removal id (end_dropped e).dance.log

      htlcs : n.book.htlcs ≡ map (htlc_kept e.dance.channel told) m.book.htlcs
      htlcs = ap (λ (t : Table). t.htlcs) book
          ∙ ap (λ p. map (htlc_kept e.dance.channel told) (kept_at e.dance.channel told.decides p m.book).htlcs) idle

      keeps : (f : End) → x.end ≡ Some f → (q : End) × (y.end ≡ Some q) × (q.dance.channel ≡ f.dance.channel)
      keeps f is =
          let some : Some e ≡ Some f = sym works.end ∙ is in
          let same : e ≡ f = cc in (end_dropped e, now, ap (λ (z : End). z.dance.channel) same)

      dated : IsDated m.book.htlcs y
      dated f w z m_in at =
          let some : Some (end_dropped e) ≡ Some f = sym now ∙ w.end in
          let same : end_dropped e ≡ f = cc in
          subst (λ (q : End). (z.event ≡ no_event) ⊎ (z.event < q.ledger.decided)) same
          (h.dated x (was_there x y m n g) e works z m_in (at ∙ sym (ap (λ (q : End). q.dance.channel) same)))

      named : SaysNames m y
      named f is =
          let some : Some (end_dropped e) ≡ Some f = sym now ∙ is in
          let same : end_dropped e ≡ f = cc in
          subst (λ (q : End). AllName (IsChannel m) q.dance.log.own) same
          (names_dropped (IsChannel m) e (h.named x (was_there x y m n g) e works.end))

      few : HasEvents y
      few f is =
          let some : Some (end_dropped e) ≡ Some f = sym now ∙ is in
          let same : end_dropped e ≡ f = cc in
          subst (λ (q : End). q.ledger.decided ≤ most_decided) same
          (h.few x (was_there x y m n g) e works.end)

  -- ---- an event is heard

  module _ (x : Seat K) (e : End) (among : IsIn x m.seats) (works : Works x e) (seats : n.seats ≡ m.seats) where
    number : (c : ℕ) × (e.dance.channel ≡ id_of c)
    number = numbers x (subst (IsIn x) (sym seats) among) e works.end

    found : seat_of (id_of number.0) m.seats ≡ Some x
    found = ap (λ ch. seat_of ch m.seats) (sym number.1) ∙ found_in x m.seats e h.apart among works.end

    alike : AreSame (snapshot id_of m) (snapshot id_of n)
    alike = record {
      ends = λ d. ap (λ zs. end_in (seat_of (id_of d) zs)) seats;
      halted = λ d. ap (λ zs. halted_in (seat_of (id_of d) zs)) seats;
    }

    unheard : n.book ≡ m.book → Leaves id_of m n
    unheard book =
        let same = ap (λ (t : Table). t.htlcs) book in
        leaves_seats id_of m n seats h (Same (seats_same id_of one m n seats same))
        (kin_same m.book.htlcs n.book.htlcs same)

    over : (id : ℕ) (w : How) → HasTold e (event.Settled true id w)
        → n.book ≡ replay m.book (heard e.dance.channel (event.Settled true id w)) → Leaves id_of m n
    over id w told book =
        let k : Key = record { channel = e.dance.channel; id = id } in
        let htlcs = ap (λ (t : Table). t.htlcs) book in
        let fit = (are_fit id_of m h.sound).fit number.0 e (ap end_in found ∙ works.end) in
        leaves_seats id_of m n seats h
        (Happened (may.HearsOver number.0 id e w (ap end_in found ∙ works.end) (ap halted_in found ∙ works.halted)
        (told_over e id w fit told) alike
        (htlcs ∙ ap (λ ch. changed_first (is_offered (record { channel = ch; id = id }))
        (put_outgoing (outgoing.Resolved (record { channel = ch; id = id }) w)) m.book.htlcs) number.1)))
        (kin_as m.book.htlcs _ n.book.htlcs htlcs
        (kin_changed (is_offered k) (put_outgoing (outgoing.Resolved k w)) (λ z. (refl, refl)) m.book.htlcs))

    gone : (id : ℕ) (w : How) → HasTold e (event.Settled false id w)
        → n.book ≡ replay m.book (heard e.dance.channel (event.Settled false id w)) → Leaves id_of m n
    gone id w told book =
        let k : Key = record { channel = e.dance.channel; id = id } in
        let htlcs = ap (λ (t : Table). t.htlcs) book in
        leaves_seats id_of m n seats h
        (Happened (may.HearsRemoved number.0 id e (ap end_in found ∙ works.end) (told_removed e id w told) alike
        (htlcs ∙ ap (λ ch. left_out (is_finished (record { channel = ch; id = id }))
        (with_incoming (record { channel = ch; id = id }) incoming.Settled m.book.htlcs)) number.1)))
        (kin_as m.book.htlcs _ n.book.htlcs htlcs
        (kin_then m.book.htlcs (with_incoming k incoming.Settled m.book.htlcs) _
        (kin_changed (is_htlc k) (put_incoming incoming.Settled) (λ z. (refl, refl)) m.book.htlcs)
        (kin_left (is_finished k) (with_incoming k incoming.Settled m.book.htlcs))))

    pub hears : (told : ChannelEvent) → HasTold e told → n.book ≡ replay m.book (heard e.dance.channel told)
        → Leaves id_of m n
    hears (event.Added own id amount hash expiry onion) told book = unheard book
    hears (event.Settled true id w) told book = over id w told book
    hears (event.Settled false id w) told book = gone id w told book
    hears (event.Closed fee) told book = unheard book
