-- What a command that the book gives about an HTLC leaves of a manager, whether its link does it or refuses it.
use Rattle.std.proofs.Common.{◌≡◌, ◌⊎◌, inl, inr, ℕ, ◌≤◌, ◌<◌, List, [], ◌∷◌, refl, sym, ap, ◌∙◌, subst, arith}
use Rattle.std.proofs.Common.{Bool, true, false, cond, ◌==◌, Option, Some, None, Result, Ok, Err, nat_lt}
use Rattle.std.specs.List.{find}
use Rattle.ln_refusals.specs.declared.refusal.Refusal.{Refusal}
use Rattle.ln_refusals.specs.Refusal.{refusal_number}
use Rattle.ln_keys.specs.Signer.{Signer}
use Rattle.ln_log.specs.declared.mark.Mark.{Mark}
use Rattle.ln_log.specs.declared.mark.Mark.TheVariants as mark
use Rattle.ln_log.specs.declared.update.Add.{Add}
use Rattle.ln_log.specs.declared.update.Update.TheVariants as update
use Rattle.ln_channel.specs.declared.command.Command as declared
use Rattle.ln_channel.specs.declared.command.Command.TheVariants as command
use Rattle.ln_channel.specs.Base.{based, based_stage}
use Rattle.ln_channel.specs.End.{End, Turn}
use Rattle.ln_channel.specs.Record.{saved_end}
use Rattle.ln_channel.specs.Step.{Done, commanded}
use Rattle.ln_link.specs.Calls.{left_by}
use Rattle.ln_book_tables.specs.declared.htlc.Htlc.{Htlc}
use Rattle.ln_book_tables.specs.declared.htlc.OutgoingLeg.TheVariants as outgoing
use Rattle.ln_book_tables.specs.declared.htlc.IncomingLeg.TheVariants as incoming
use Rattle.ln_book_tables.specs.declared.entry.Out.{Out}
use Rattle.ln_book_tables.specs.declared.entry.Out.TheVariants as out
use Rattle.ln_book_tables.specs.declared.entry.Queued.{Queued}
use Rattle.ln_book_tables.specs.Replay.{Table, replay, taken_by, refused_by, resumed_by, is_told, decide, is_htlc}
use Rattle.ln_book_tables.specs.Replay.{is_over}
use Rattle.ln_book_tables.specs.Replay.{put_outgoing, put_incoming, put_mark, changed_first, is_held_in, is_resumed}
use Rattle.ln_book_tables.specs.Replay.{is_undecided, with_outgoing, left_out, is_unsure, is_later}
use Rattle.ln_book.specs.Answers.{command_subject, answer_to}
use Rattle.ln_keys.specs.Services.{Services}
use Rattle.ln_book.specs.Commands.{due, command_of, add_of, next_of}
use Rattle.ln_book.specs.Commands as book
use Rattle.ln_book.specs.Kept.{next_own_id}
use Rattle.ln_book.specs.Rebuild.{no_event}
use Rattle.ln_payment_circuits.specs.Snapshot.{IsIn}
use Rattle.ln_payment_circuits.specs.Happens.{HasOwnIds, Asks, obeyed}
use Rattle.ln_payment_circuits.specs.Happens as may
use Rattle.ln_payment_circuits.proofs.Covering.{obeyed_shift}
use Rattle.ln_payment_circuits.proofs.Due.{IsDueBy, Forgets, Offers, Removes, due_by, forgets_so}
use Rattle.ln_payment_circuits.proofs.Law.{forgotten_is}
use Rattle.ln_payment_circuits.proofs.Naming.{AllName, Names, names_more, shift_decided}
use Rattle.ln_payment_circuits.proofs.Proposed.{add_is, removing_is}
use Rattle.ln_manager_laws.specs.Calls.{Seat, working, Command, called}
use Rattle.ln_manager_laws.specs.Manager.{Manager, snapshot}
use Rattle.ln_manager_laws.specs.Steps.{Changes, others, Works, obeying, done_or_refused}
use Rattle.ln_manager_laws.proofs.Answering.{told_answer, answer_done, answer_refused, IsObeyed, commanded_is}
use Rattle.ln_manager_laws.proofs.Answering.{obeyed_channel}
use Rattle.ln_manager_laws.proofs.Calling.{become_keeps, become_few}
use Rattle.ln_manager_laws.proofs.Hearing.{kin_changed, kin_left, kin_then, kin_as}
use Rattle.ln_manager_laws.proofs.Hosted.{IsHosted, bidden}
use Rattle.ln_manager_laws.proofs.Snapshots.{Apart, goes, seat_same, seat_alike}
use Rattle.ln_manager_laws.proofs.Orderly.{EachSeat, was_there, is_there, apart_changed, channels_stay, HasNumber}
use Rattle.ln_manager_laws.proofs.Orderly.{IsDated, SaysNames, IsOrderly, IsChannel, KeepsEnd, Gives, Happened, Same}
use Rattle.ln_manager_laws.proofs.Orderly.{Leaves, leaves_by, Kin, kin_same}

-- ---- no HTLC is new

pub kin_taken : (c : List ℕ) (i : ℕ) (o : Out) (qs : List Queued) (hs : List Htlc) → Kin hs (taken_by c i o qs hs)
kin_taken c i (out.Deciding n) qs hs = kin_changed (is_told c n) decide (λ z. (refl, refl)) hs
kin_taken c i (out.Adding k) qs hs =
    kin_changed (is_htlc k) (put_outgoing (outgoing.Offered (record { channel = c; id = i }))) (λ z. (refl, refl)) hs
kin_taken c i (out.Removing k) qs hs =
    kin_changed (is_htlc k) (put_incoming incoming.RemovalSent) (λ z. (refl, refl)) hs
kin_taken c i (out.Forgetting k) qs hs = kin_left (is_htlc k) hs
kin_taken c i (out.Resuming n) qs hs = by_queued (find (is_resumed c n) qs)
  where
    by_queued : (q : Option Queued) → Kin hs (resumed_by c n q hs)
    by_queued None = kin_same hs hs refl
    by_queued (Some q) =
        kin_then hs (changed_first (is_held_in c n) (put_mark q.mark) hs) _
        (kin_changed (is_held_in c n) (put_mark q.mark) (λ z. (refl, refl)) hs)
        (kin_left is_over (changed_first (is_held_in c n) (put_mark q.mark) hs))

pub kin_refused : (c : List ℕ) (r : ℕ) (o : Out) (hs : List Htlc) → Kin hs (refused_by c r o hs)
kin_refused c r (out.Deciding n) hs = kin_left (is_undecided c n) hs
kin_refused c r (out.Adding k) hs = by_number (nat_lt r 47)
  where
    by_number : (b : Bool) → Kin hs (cond b (with_outgoing k outgoing.Refused hs) (left_out (is_htlc k) hs))
    by_number true = kin_changed (is_htlc k) (put_outgoing outgoing.Refused) (λ z. (refl, refl)) hs
    by_number false = kin_left (is_htlc k) hs
kin_refused c r (out.Removing k) hs =
    kin_changed (is_htlc k) (put_incoming incoming.RemovalRefused) (λ z. (refl, refl)) hs
kin_refused c r (out.Forgetting k) hs = kin_left (is_htlc k) hs
kin_refused c r (out.Resuming n) hs = kin_same hs hs refl

-- ---- the id of what is offered

adds_next : (n : ℕ) (z : Htlc) (w : Mark) (o : Option (List ℕ)) (y : declared.Command) → book.add_with z w o ≡ Some y
    → command_subject n y ≡ n
adds_next n z w None y e = absurd (cc)
adds_next n z mark.None (Some onion) y e = absurd (cc)
adds_next n z (mark.Fail reason) (Some onion) y e = absurd (cc)
adds_next n z (mark.Malformed code) (Some onion) y e = absurd (cc)
adds_next n z (mark.Fulfil preimage) (Some onion) y e = absurd (cc)
adds_next n z (mark.Held event) (Some onion) y e = absurd (cc)
adds_next n z (mark.Forward d amount expiry) (Some onion) y e =
    let same : command.Add amount z.offer.hash expiry onion (Some (z.key.channel, z.key.id)) ≡ y = cc in
    ap (command_subject n) (sym same)

-- a book is told the id of what is offered, and reads no other one
taken_alike : (v : Services) (c : List ℕ) (z : Htlc) (o : Out) (y : declared.Command) (n : ℕ) (qs : List Queued)
    (hs : List Htlc) → IsDueBy c z o → command_of v z o ≡ Some y
    → taken_by c (command_subject n y) o qs hs ≡ taken_by c n o qs hs
taken_alike v c z o y n qs hs (Offers dec uns now fwd is) asks =
    ap (λ i. taken_by c i o qs hs) (adds_next n z z.mark (next_of (v.opened z.offer.onion z.offer.hash)) y
    (sym (ap (command_of v z) is) ∙ asks))
taken_alike v c z o y n qs hs (Removes dec told unsent chan is) asks =
    ap (λ p. taken_by c (command_subject n y) p qs hs) is ∙ sym (ap (λ p. taken_by c n p qs hs) is)
taken_alike v c z o y n qs hs (Forgets dec settled over is) asks =
    ap (λ p. taken_by c (command_subject n y) p qs hs) is ∙ sym (ap (λ p. taken_by c n p qs hs) is)

-- ---- what the end then offers says by a channel which HTLC it forwards

add_named : (P : List ℕ → Type 0) (a : Add) (c : List ℕ) (i : ℕ) → a.origin ≡ Some (c, i) → P c
    → AllName P (update.Add a ∷ [])
add_named P a c i is p j = cases (a.id == j)
  where
    cases : (b : Bool) → Names P (cond b (Some a) None)
    cases true = λ o at.
        let some : Some (c, i) ≡ Some o = sym is ∙ at in
        let pair : ◌≡◌ {A = List ℕ × ℕ} (c, i) o = cc in subst P (ap (λ (q : List ℕ × ℕ). q.0) pair) p
    cases false = tt

turn_named : (P : List ℕ → Type 0) (v : Services) (keys : Signer) (c : List ℕ) (e : End) (z : Htlc) (o : Out)
    (y : declared.Command) (turn : Turn) → IsDueBy c z o → command_of v z o ≡ Some y → obeyed keys y e ≡ Ok turn
    → P z.key.channel → AllName P e.dance.log.own → AllName P turn.end.dance.log.own
turn_named P v keys c e z o y turn (Offers dec uns now fwd is) asks row p old =
    let a = add_is v keys z y e turn (sym (ap (command_of v z) is) ∙ asks) row in
    subst (λ (q : End). AllName P q.dance.log.own) (sym a.proposed.end)
    (names_more P e.dance.log.own (update.Add a.add) old (add_named P a.add z.key.channel z.key.id a.origin p))
turn_named P v keys c e z o y turn (Removes dec told unsent chan is) asks row p old =
    let u = removing_is v keys z y e turn (sym (ap (command_of v z) is) ∙ asks) row in
    subst (λ (q : End). AllName P q.dance.log.own) (sym u.proposed.end)
    (names_more P e.dance.log.own u.removing.change old
    (λ i. subst (Names P) (sym (u.removing.no_add i)) tt))
turn_named P v keys c e z o y turn (Forgets dec settled over is) asks row p old =
    let j = forgets_so z.outgoing y (sym (ap (command_of v z) is) ∙ asks) in
    let now = forgotten_is keys y e turn j.0 j.1 row in
    subst (λ (q : End). AllName P q.dance.log.own) (sym now) old

module _ {K : Type 0} (signer : K → Signer) (id_of : ℕ → List ℕ) (one : HasOwnIds id_of) (m n : Manager K)
    (h : IsOrderly id_of m) (numbers : EachSeat (HasNumber id_of) n) where
  -- ---- a command changes a link

  pub record IsBidden (x : Seat K) (e : End) (y : declared.Command) (g : Changes x (called signer (Command y) x) m n)
      : Type 0 where
    pub hosted : IsHosted ⊥ x (called signer (Command y) x) (others g)
    pub apart : Apart n
    pub keeps : KeepsEnd x (called signer (Command y) x)
    pub number : (c : ℕ) × (e.dance.channel ≡ id_of c)
    pub saved : saved_end x.link.stage ≡ Some e
    pub is : called signer (Command y) x
        ≡ working (left_by (commanded (signer x.link.keys) x.link y) (λ r. x.link) x.link)

  pub bids : (x : Seat K) (e : End) (y : declared.Command) → Works x e
      → (g : Changes x (called signer (Command y) x) m n) → IsBidden x e y g
  bids x e y works g =
      let now = called signer (Command y) x in
      let sound = h.sound x (was_there x now m n g) in
      let w = bidden signer x sound y (others g) in
      let keeps = become_keeps ⊥ x now w.becomes in
      let k = keeps e works.end in
      let c = numbers now (is_there x now m n g) k.0 k.1 in
      record {
        hosted = w;
        apart = apart_changed x now m n g h.apart w.alone;
        keeps = keeps;
        number = (c.0, sym k.2 ∙ c.1);
        saved = sym (sound.works works.halted).0 ∙ works.end;
        is = ap (λ b. cond b (record x {
          link = left_by (commanded (signer x.link.keys) x.link y) (λ r. x.link) x.link;
        }) (working (left_by (commanded (signer x.link.keys) x.link y) (λ r. x.link) x.link))) works.halted;
      }

  -- channels have numbers
  pub numbered : (c : List ℕ) → IsChannel n c → (k : ℕ) × (c ≡ id_of k)
  numbered c h = let k = numbers h.0 h.1 h.2.0 h.2.1 in (k.0, sym h.2.2 ∙ k.1)

  module _ (v : Services) (x : Seat K) (e : End) (z : Htlc) (o : Out) (y : declared.Command) (works : Works x e)
      (among : IsIn z m.book.htlcs) (is_due : due e.dance.channel z ≡ Some o) (asks : command_of v z o ≡ Some y)
      (g : Changes x (called signer (Command y) x) m n)
      (book : n.book ≡ replay m.book (obeying signer x.link e o y)) where
    abbrev now : Seat K
    now = called signer (Command y) x

    abbrev keys : Signer
    keys = signer x.link.keys

    abbrev subject : ℕ
    subject = command_subject (next_own_id e) y

    b : IsBidden x e y g
    b = bids x e y works g

    abbrev ch : List ℕ
    ch = e.dance.channel

    asks_so : Asks id_of b.number.0 v m.book.htlcs z o y
    asks_so =
        let k = numbered z.key.channel (channels_stay x now m n g b.keeps z.key.channel (h.keyed z among)) in
        record {
          has = among;
          incoming = record { channel = k.0; id = z.key.id };
          key = ap (λ c. record { channel = c; id = z.key.id }) k.1;
          is_due = subst (λ c. due c z ≡ Some o) b.number.1 is_due;
          command = asks;
        }

    told : (row : Result Done Refusal) → commanded keys x.link y ≡ row
        → n.book.htlcs ≡ (told_answer ch o (answer_to subject (done_or_refused row)) m.book).htlcs
    told row is = ap (λ (t : Table). t.htlcs) book
        ∙ ap (λ r. (told_answer ch o (answer_to subject (done_or_refused r)) m.book).htlcs) is

    does : (d : Done) → commanded keys x.link y ≡ Ok d → Leaves id_of m n
    does d row =
        leaves_by id_of x now m n g h b.hosted.sound b.apart b.keeps
        (Happened (may.Obeys v keys b.number.0 e z o y k.turn m.book.queue asks_so k.row
        (goes id_of one x now m n g h.apart b.apart b.number.0 e (based k.turn.end) works.end end b.number.1 channel
        works.halted b.hosted.halted)
        (htlcs ∙ ap (λ c. taken_by c (next_own_id e) o m.book.queue m.book.htlcs) b.number.1)))
        (kin_as m.book.htlcs (taken_by ch (next_own_id e) o m.book.queue m.book.htlcs) n.book.htlcs htlcs
        (kin_taken ch (next_own_id e) o m.book.queue m.book.htlcs))
        dated named (become_few ⊥ x now b.hosted.becomes (h.few x (was_there x now m n g)))
      where
        k : IsObeyed keys y e d
        k = commanded_is keys x.link y e d b.saved row

        channel : k.turn.end.dance.channel ≡ ch
        channel = obeyed_channel keys y e k.turn k.row

        end : now.end ≡ Some (based k.turn.end)
        end = ap (λ (q : Seat K). q.end) b.is ∙ ap (λ r. saved_end (left_by r (λ r. x.link) x.link).stage) row
            ∙ ap (λ s. saved_end (based_stage s)) k.stage

        htlcs : n.book.htlcs ≡ taken_by ch (next_own_id e) o m.book.queue m.book.htlcs
        htlcs = told (Ok d) row ∙ answer_done ch o subject m.book
            ∙ taken_alike v ch z o y (next_own_id e) m.book.queue m.book.htlcs (due_by ch z o is_due) asks

        dated : IsDated m.book.htlcs now
        dated f w q m_in at =
            let some : Some (based k.turn.end) ≡ Some f = sym end ∙ w.end in
            let same : based k.turn.end ≡ f = cc in
            later q f (h.dated x (was_there x now m n g) e works q m_in
            (at ∙ sym (ap (λ (z : End). z.dance.channel) same) ∙ channel))
            (subst (λ (z : End). e.ledger.decided ≤ z.ledger.decided) same
            (shift_decided e k.turn.end (obeyed_shift keys y e k.turn k.row)))
          where
            later : (q : Htlc) (f : End) → (q.event ≡ no_event) ⊎ (q.event < e.ledger.decided)
                → e.ledger.decided ≤ f.ledger.decided → (q.event ≡ no_event) ⊎ (q.event < f.ledger.decided)
            later q f (inl none) le = inl none
            later q f (inr lt) le = inr (omega (arith, lt, le))

        named : SaysNames m now
        named f is =
            let some : Some (based k.turn.end) ≡ Some f = sym end ∙ is in
            let same : based k.turn.end ≡ f = cc in
            subst (λ (z : End). AllName (IsChannel m) z.dance.log.own) same
            (turn_named (IsChannel m) v keys ch e z o y k.turn (due_by ch z o is_due) asks k.row (h.keyed z among)
            (h.named x (was_there x now m n g) e works.end))

    refuses : (r : Refusal) → commanded keys x.link y ≡ Err r → Leaves id_of m n
    refuses r row = cases (answer_refused ch o (refusal_number r) m.book)
      where
        end : now.end ≡ x.end
        end = ap (λ (q : Seat K). q.end) b.is ∙ ap (λ r. saved_end (left_by r (λ r. x.link) x.link).stage) row
            ∙ b.saved ∙ sym works.end

        htlcs : n.book.htlcs ≡ (told_answer ch o (Err (refusal_number r)) m.book).htlcs
        htlcs = told (Err r) row

        leaves : Gives id_of (snapshot id_of m) (snapshot id_of n) → Kin m.book.htlcs n.book.htlcs → Leaves id_of m n
        leaves gives kin =
            leaves_by id_of x now m n g h b.hosted.sound b.apart b.keeps gives kin
            (λ f w. h.dated x (was_there x now m n g) f
            (record { end = sym end ∙ w.end; halted = works.halted }))
            (λ f is. h.named x (was_there x now m n g) f (sym end ∙ is))
            (become_few ⊥ x now b.hosted.becomes (h.few x (was_there x now m n g)))

        cases : ((told_answer ch o (Err (refusal_number r)) m.book).htlcs ≡ m.book.htlcs)
            ⊎ ((is_unsure (refusal_number r) ≡ false) × (is_later (refusal_number r) ≡ false)
            × ((told_answer ch o (Err (refusal_number r)) m.book).htlcs ≡ refused_by ch (refusal_number r) o
            m.book.htlcs)) → Leaves id_of m n
        cases (inl same) =
            leaves (Same (seat_same id_of one x now m n g h.apart b.apart end (λ f is. b.hosted.halted)
            (htlcs ∙ same))) (kin_same m.book.htlcs n.book.htlcs (htlcs ∙ same))
        cases (inr for_good) =
            leaves (Happened (may.Refuses v b.number.0 z o y (refusal_number r) asks_so
            (seat_alike id_of one x now m n g h.apart b.apart end (λ f is. b.hosted.halted))
            (htlcs ∙ for_good.2 ∙ ap (λ c. refused_by c (refusal_number r) o m.book.htlcs) b.number.1)))
            (kin_as m.book.htlcs (refused_by ch (refusal_number r) o m.book.htlcs) n.book.htlcs (htlcs ∙ for_good.2)
            (kin_refused ch (refusal_number r) o m.book.htlcs))

    pub obeys : Leaves id_of m n
    obeys = cases (commanded keys x.link y) refl
      where
        cases : (row : Result Done Refusal) → commanded keys x.link y ≡ row → Leaves id_of m n
        cases (Ok d) row = does d row
        cases (Err r) row = refuses r row
