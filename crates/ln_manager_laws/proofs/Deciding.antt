-- What the decision of an event leaves of a manager: its link takes it, refuses it, or halts before it has.
use Rattle.std.proofs.Common.{◌≡◌, ◌⊎◌, inl, inr, ℕ, ◌+◌, ◌≤◌, ◌<◌, List, [], ◌∷◌, ◌++◌, refl, sym, ap, ◌∙◌}
use Rattle.std.proofs.Common.{subst, arith, Bool, true, false, cond, not, ◌==◌, ◌&&◌, Option, Some, None, Result, Ok}
use Rattle.std.proofs.Common.{Err}
use Rattle.std.specs.Prelude.{option_map}
use Rattle.std.specs.List.{list_any}
use Rattle.std.proofs.lemmas.Bool.{eqb-true, eq-eqb, ltb-true, and_parts}
use Rattle.ln_refusals.specs.declared.refusal.Refusal.{Refusal}
use Rattle.ln_refusals.specs.declared.refusal.Refusal.TheVariants as refusal
use Rattle.ln_refusals.specs.Refusal.{refusal_number}
use Rattle.ln_keys.specs.Signer.{Signer}
use Rattle.ln_log.specs.Log.{Log}
use Rattle.ln_log.specs.declared.mark.Mark.{Mark}
use Rattle.ln_log.specs.declared.mark.Mark.TheVariants as mark
use Rattle.ln_hooks.specs.declared.event.ChannelEvent.{ChannelEvent}
use Rattle.ln_hooks.specs.declared.verdict.Verdict.{Verdict}
use Rattle.ln_channel.specs.declared.command.Command as declared
use Rattle.ln_channel.specs.declared.command.Command.TheVariants as command
use Rattle.ln_channel.specs.declared.machine.ConnectionState.{ConnectionState}
use Rattle.ln_channel.specs.declared.machine.Stage.TheVariants as stage
use Rattle.ln_channel.specs.Base.{based, based_stage}
use Rattle.ln_channel.specs.Commands.{note_row, with_ledger, ledgered}
use Rattle.ln_channel.specs.End.{End, end_dropped}
use Rattle.ln_channel.specs.Ledger.{Ledger, most_decided, first_htlc, decide_row, decided_first, marked, is_in_turn}
use Rattle.ln_channel.specs.Ledger.{is_of_event}
use Rattle.ln_channel.specs.Record.{saved_end}
use Rattle.ln_channel.specs.State.{State}
use Rattle.ln_channel.specs.Step.{Done, commanded, noted, asked, turned, faulted, is_of_records}
use Rattle.ln_channel.specs.Step as step
use Rattle.ln_link.specs.Calls.{left_by}
use Rattle.ln_book_tables.specs.declared.htlc.Htlc.{Htlc}
use Rattle.ln_book_tables.specs.declared.htlc.Key.{Key}
use Rattle.ln_book_tables.specs.declared.htlc.Offer.{Offer}
use Rattle.ln_book_tables.specs.declared.entry.Decided.{Decided}
use Rattle.ln_book_tables.specs.declared.entry.Out.TheVariants as out
use Rattle.ln_book_tables.specs.declared.entry.Entry.TheVariants as entry
use Rattle.ln_book_tables.specs.Replay.{Table, same, replay, is_told, is_undecided, is_decided, is_htlc, htlc_of}
use Rattle.ln_book_tables.specs.Replay.{joined}
use Rattle.ln_book_tables.specs.Replay.{with_offer, with_decided, changed_first, left_out, decide}
use Rattle.ln_book.specs.Answers.{command_subject, answer_to}
use Rattle.ln_keys.specs.Services.{Services}
use Rattle.ln_book.specs.Kept.{next_own_id}
use Rattle.ln_book.specs.Marks.{offer_of, decision, mark_of}
use Rattle.ln_book.specs.Rebuild.{no_event}
use Rattle.ln_payment_circuits.specs.Snapshot.{IsIn, NonePasses}
use Rattle.ln_payment_circuits.specs.Happens.{HasOwnIds, IsOnFirst}
use Rattle.ln_payment_circuits.specs.Happens as may
use Rattle.ln_payment_circuits.proofs.Law.{noted as noted_so}
use Rattle.ln_payment_circuits.proofs.Answers.{others_of}
use Rattle.ln_payment_circuits.proofs.Entries.{is_same, same_is}
use Rattle.ln_payment_circuits.proofs.Held.{among_last}
use Rattle.ln_payment_circuits.proofs.Lists.{either, of_picked, among_changed}
use Rattle.ln_payment_circuits.proofs.Marking.{mark_does}
use Rattle.ln_payment_circuits.proofs.Naming.{AllName}
use Rattle.ln_payment_circuits.proofs.Offering.{first_offers}
use Rattle.ln_payment_circuits.proofs.Tidy.{decides_so}
use Rattle.ln_manager_laws.specs.Calls.{Seat, Command, Halt, called}
use Rattle.ln_manager_laws.specs.Manager.{Manager, snapshot, end_in, seat_of, seat_id, id_by, agreed_id}
use Rattle.ln_manager_laws.specs.Steps.{Changes, others, Works, IsNext, obeying, done_or_refused}
use Rattle.ln_manager_laws.proofs.Answering.{told_answer, answer_done, answer_for_good, IsObeyed, commanded_is}
use Rattle.ln_manager_laws.proofs.Answering.{obeyed_channel, stage_is}
use Rattle.ln_manager_laws.proofs.Apart.{Other, found_in}
use Rattle.ln_manager_laws.proofs.Calling.{become_few}
use Rattle.ln_manager_laws.proofs.Losing.{halted_apart, halted_keeps, halted_dated, halted_named, halted_few}
use Rattle.ln_manager_laws.proofs.Losing.{halted_sound}
use Rattle.ln_manager_laws.proofs.Losing.{halts}
use Rattle.ln_manager_laws.proofs.Hearing.{kin_as}
use Rattle.ln_manager_laws.proofs.Obeying.{IsBidden, bids}
use Rattle.ln_manager_laws.proofs.Seats.{IsSound}
use Rattle.ln_manager_laws.proofs.Snapshots.{Apart, goes, loses, halts_now, seat_same, seat_alike, here_now}
use Rattle.ln_manager_laws.proofs.Orderly.{EachSeat, was_there, is_there, now_or_others, others_alone, others_were}
use Rattle.ln_manager_laws.proofs.Orderly.{each_changed, channels_stay, HasNumber, IsDated, SaysNames, HasEvents}
use Rattle.ln_manager_laws.proofs.Orderly.{IsOrderly, IsChannel, KeepsEnd, Gives, Happened, Same as Alike, Leaves}
use Rattle.ln_manager_laws.proofs.Orderly.{leaves_by, names_stay, kin_same, Kin}

-- ---- HTLCs of which no event told

none_passes : (p : Htlc → Bool) (hs : List Htlc) → ((z : Htlc) → IsIn z hs → p z ≡ false) → NonePasses p hs
none_passes p [] h = tt
none_passes p (z ∷ hs) h = (h z (inl refl), none_passes p hs (λ y m. h y (inr m)))

none_changed : (p : Htlc → Bool) (f : Htlc → Htlc) (hs : List Htlc) → NonePasses p hs → changed_first p f hs ≡ hs
none_changed p f [] h = refl
none_changed p f (z ∷ hs) h =
    ap (λ b. cond b (f z ∷ hs) (z ∷ changed_first p f hs)) h.0 ∙ ap (λ ys. z ∷ ys) (none_changed p f hs h.1)

none_left : (p : Htlc → Bool) (hs : List Htlc) → NonePasses p hs → left_out p hs ≡ hs
none_left p [] h = refl
none_left p (z ∷ hs) h =
    ap (λ b. cond (not b) (z ∷ left_out p hs) (left_out p hs)) h.0 ∙ ap (λ ys. z ∷ ys) (none_left p hs h.1)

fewer_pass : (c : List ℕ) (i : ℕ) (hs : List Htlc) → NonePasses (is_told c i) hs → NonePasses (is_undecided c i) hs
fewer_pass c i [] h = tt
fewer_pass c i (z ∷ hs) h = (ap (λ b. b && not z.decided) h.0, fewer_pass c i hs h.1)

-- what is left passes no such test
left_passes : (p : Htlc → Bool) (y : Htlc) (hs : List Htlc) → IsIn y (left_out p hs) → p y ≡ false
left_passes p y [] m = absurd m
left_passes p y (z ∷ hs) m = cases (p z) refl m (λ k. left_passes p y hs k)
  where
    cases : (b : Bool) → p z ≡ b → IsIn y (cond (not b) (z ∷ left_out p hs) (left_out p hs))
        → (IsIn y (left_out p hs) → p y ≡ false) → p y ≡ false
    cases true is k rest = rest k
    cases false is (inl e) rest = ap p (sym e) ∙ is
    cases false is (inr k) rest = rest k

-- one joins them
old_or_new : (z : Htlc) (hs : List Htlc) (y : Htlc) → IsIn y (joined z hs) → IsIn y hs ⊎ (z ≡ y)
old_or_new z hs y m = cases (list_any (is_decided z.key) hs) m
  where
    cases : (b : Bool) → IsIn y (cond b hs (left_out (is_htlc z.key) hs ++ z ∷ [])) → IsIn y hs ⊎ (z ≡ y)
    cases true m = inl m
    cases false m = elim (among_last y z (left_out (is_htlc z.key) hs) m) [
      | inl old ↦ inl (of_picked (λ x. not (is_htlc z.key x)) y hs old)
      | inr new ↦ inr new
    ]

-- an end has decided fewer events than these
clash : (a b : ℕ) → a < b → b ≤ a → ⊥
clash a b lt le = omega (arith, lt, le)

not_last : (n : ℕ) → n ≤ most_decided → n ≡ no_event → ⊥
not_last n le is = clash most_decided no_event (ltb-true most_decided no_event refl)
    (subst (λ i. i ≤ most_decided) is le)

-- ---- a link that works refuses a decision by 40 alone

decide_refused : (i : ℕ) (w : Mark) (o : Option ℕ) (g : Ledger) (r : Refusal) → decide_row i w o g ≡ Err r
    → r ≡ refusal.NotReady
decide_refused i w o g r = by_turn (is_in_turn i g && is_of_event i w)
  where
    by_mark : (w : Mark) (o : Option ℕ) → decided_first (marked w o g) ≡ Err r → r ≡ refusal.NotReady
    by_mark mark.None o e = absurd (cc)
    by_mark (mark.Forward channel amount expiry) None e = cc
    by_mark (mark.Forward channel amount expiry) (Some id) e = absurd (cc)
    by_mark (mark.Fail reason) None e = cc
    by_mark (mark.Fail reason) (Some id) e = absurd (cc)
    by_mark (mark.Malformed code) None e = cc
    by_mark (mark.Malformed code) (Some id) e = absurd (cc)
    by_mark (mark.Fulfil preimage) None e = cc
    by_mark (mark.Fulfil preimage) (Some id) e = absurd (cc)
    by_mark (mark.Held n) None e = cc
    by_mark (mark.Held n) (Some id) e = absurd (cc)

    by_turn : (b : Bool) → cond b (decided_first (marked w o g)) (Err refusal.NotReady) ≡ Err r → r ≡ refusal.NotReady
    by_turn true e = by_mark w o e
    by_turn false e = cc

pub noted_refused : (l : ConnectionState) (y : declared.Command) (e : End) (r : Refusal)
    → turned l (note_row y e) ≡ Err r → ledgered y e ≡ Err r
noted_refused l y e r = cases (ledgered y e)
  where
    cases : (row : Result Ledger Refusal) → turned l (with_ledger row e) ≡ Err r → row ≡ Err r
    cases (Ok g) f = absurd (cc)
    cases (Err s) f = cc

pub note_refused : {K : Type 0} (keys : Signer) (l : State K) (y : declared.Command) (e : End) (r : Refusal)
    → l.halted ≡ false → l.stage ≡ stage.Funded e → is_of_records y ≡ true → commanded keys l y ≡ Err r
    → ledgered y e ≡ Err r
note_refused keys l y e r works at kind is =
    noted_refused l.connection y e r (sym (ap (λ b. cond b (Err refusal.Halted) (asked keys l y)) works
    ∙ ap (λ b. cond b (noted l.connection y l.stage)
    (faulted l.failure (step.obeyed keys l.connection y l.stage))) kind
    ∙ ap (noted l.connection y) at) ∙ is)

module _ {K : Type 0} (signer : K → Signer) (id_of : ℕ → List ℕ) (one : HasOwnIds id_of) (m n : Manager K)
    (h : IsOrderly id_of m) (numbers : EachSeat (HasNumber id_of) n) where
  -- ---- one HTLC is new, of the channel whose end changes

  abbrev IsOldOrNew : List ℕ → ℕ → Htlc → Type 0
  IsOldOrNew c i y = ((x : Htlc) × IsIn x m.book.htlcs × (y.key ≡ x.key) × (y.event ≡ x.event))
      ⊎ ((y.key.channel ≡ c) × (y.event ≡ i))

  leaves_new : (x y : Seat K) (e : End) (g : Changes x y m n) → Works x e → IsSound y → Apart n → KeepsEnd x y
      → Gives id_of (snapshot id_of m) (snapshot id_of n)
      → ((z : Htlc) → IsIn z n.book.htlcs → IsOldOrNew e.dance.channel e.ledger.decided z)
      → IsDated m.book.htlcs y → ((f : End) → Works y f → e.ledger.decided < f.ledger.decided)
      → SaysNames m y → HasEvents y → Leaves id_of m n
  leaves_new x y e g works sound apart keeps gives new dated later named few = record {
    sound = each_changed x y m n g IsSound IsSound (λ z k. k) sound h.sound;
    apart = apart;
    gives = gives;
    keyed = λ z m_in. elim (new z m_in) [
      | inl old ↦ stay z.key.channel
          (subst (λ (k : Key). IsChannel m k.channel) (sym old.2) (h.keyed old.0 old.1))
      | inr own ↦ stay z.key.channel (x, was_there x y m n g, (e, works.end, sym own.0))
    ];
    dated = λ s s_in. elim (now_or_others x y m n g s s_in) [
      | inl is ↦ subst (IsDated n.book.htlcs) is dated_now
      | inr other ↦ dated_other s other
    ];
    named = each_changed x y m n g (SaysNames m) (SaysNames n) (names_stay id_of m n stay)
        (names_stay id_of m n stay y named) h.named;
    few = each_changed x y m n g HasEvents HasEvents (λ z k. k) few h.few;
  }
    where
      stay : (c : List ℕ) → IsChannel m c → IsChannel n c
      stay = channels_stay x y m n g keeps

      dated_now : IsDated n.book.htlcs y
      dated_now f w z m_in at = elim (new z m_in) [
        | inl old ↦ subst (λ i. (i ≡ no_event) ⊎ (i < f.ledger.decided)) (sym old.3)
            (dated f w old.0 old.1 (ap (λ (q : Key). q.channel) (sym old.2) ∙ at))
        | inr own ↦ inr (subst (λ i. i < f.ledger.decided) (sym own.1) (later f w))
      ]

      dated_other : (s : Seat K) → IsIn s (others g) → IsDated n.book.htlcs s
      dated_other s other f w z m_in at = elim (new z m_in) [
        | inl old ↦ subst (λ i. (i ≡ no_event) ⊎ (i < f.ledger.decided)) (sym old.3)
            (h.dated s (others_were x y m n g s other) f w old.0 old.1 (ap (λ (q : Key). q.channel) (sym old.2) ∙ at))
        | inr own ↦ absurd (
            let apart_from : Other (seat_id x) (seat_id s) = others_alone x y m n g h.apart s other in
            let here : Other (Some e.dance.channel) (Some f.dance.channel) =
            subst (λ o. Other o (Some f.dance.channel)) (ap (λ o. id_by o (agreed_id x.link)) works.end)
            (subst (λ o. Other (seat_id x) o) (ap (λ o. id_by o (agreed_id s.link)) w.end) apart_from) in
            here (sym own.0 ∙ at))
      ]

  module _ (v : Services) (x : Seat K) (e : End) (told : ChannelEvent) (verdict : Verdict) (d : Decided)
      (works : Works x e) (next : IsNext e told)
      (d_is : d ≡ decision v m.book e.dance.channel e.ledger.decided (offer_of told) verdict) where
    abbrev ch : List ℕ
    ch = e.dance.channel

    abbrev hs : List Htlc
    hs = m.book.htlcs

    event_is : d.event ≡ e.ledger.decided
    event_is = ap (λ (z : Decided). z.event) d_is

    among : IsIn x m.seats → (z : Htlc) → IsIn z hs → is_told ch d.event z ≡ false
    among x_in z z_in = elim (either (is_told ch d.event z)) [
      | inr isnt ↦ isnt
      | inl is ↦ absurd (
          let p = and_parts (d.event == z.event) (same ch z.key.channel) is in
          let number : d.event ≡ z.event = eqb-true d.event z.event p.0 in
          which z x_in number (h.dated x x_in e works z z_in (sym (same_is ch z.key.channel p.1))))
    ]
      where
        which : (z : Htlc) → IsIn x m.seats → d.event ≡ z.event
            → (z.event ≡ no_event) ⊎ (z.event < e.ledger.decided) → ⊥
        which z x_in number (inl none) =
            not_last e.ledger.decided (h.few x x_in e works.end) (sym event_is ∙ number ∙ none)
        which z x_in number (inr lt) = omega (arith, lt, number, event_is)

    none_told : IsIn x m.seats → NonePasses (is_told ch d.event) hs
    none_told x_in = none_passes (is_told ch d.event) hs (among x_in)

    -- the book once it has the decision
    abbrev with_it : Table
    with_it = with_decided d m.book

    joins : (o : Option Offer) → offer_of told ≡ o → with_it.htlcs ≡ with_offer d o hs
    joins o is = ap (λ p. with_offer d p hs) (ap (λ (z : Decided). z.offer) d_is ∙ is)

    mark_is : (o : Option Offer) → offer_of told ≡ o → d.mark ≡ mark_of v m.book e.ledger.decided o verdict
    mark_is o is = ap (λ (z : Decided). z.mark) d_is
        ∙ ap (λ p. mark_of v m.book e.ledger.decided p verdict) is

    on_first : IsIn x m.seats → (c : ℕ) → ch ≡ id_of c → (o : Offer) → offer_of told ≡ Some o
        → IsOnFirst (id_of c) e hs d o
    on_first x_in c at o is = record {
      channel_is = ap (λ (z : Decided). z.channel) d_is ∙ at;
      first = ap (first_htlc e.dance.log) next.undecided ∙ first_offers e next.first told o next.is is;
      does_something = λ none. mark_does v m.book e.ledger.decided o verdict (sym (mark_is (Some o) is) ∙ none);
      no_other = others_of (is_told (id_of c) d.event) (is_htlc (htlc_of d o).key) hs
          (subst (λ k. NonePasses (is_told k d.event) hs) at (none_told x_in));
    }

    -- it is there, or new
    is_new : (o : Offer) (y : Htlc) → IsIn y (joined (htlc_of d o) hs) → IsOldOrNew ch e.ledger.decided y
    is_new o y m_in = elim (old_or_new (htlc_of d o) hs y m_in) [
      | inl old ↦ inl (y, old, refl, refl)
      | inr new ↦ inr (
        ap (λ (z : Htlc). z.key.channel) (sym new) ∙ ap (λ (z : Decided). z.channel) d_is,
        ap (λ (z : Htlc). z.event) (sym new) ∙ event_is,
      )
    ]

    -- ---- the link halts before it has decided it

    pub halts_deciding : (left : State K) (g : Changes x (called signer (Halt left) x) m n)
        → n.book.htlcs ≡ (replay m.book (entry.Decided d ∷ [])).htlcs → Leaves id_of m n
    halts_deciding left g book = cases (offer_of told) refl
      where
        now : Seat K
        now = called signer (Halt left) x

        x_in : IsIn x m.seats
        x_in = was_there x now m n g

        end : now.end ≡ Some (end_dropped e)
        end = ap (option_map end_dropped) works.end

        c : (c : ℕ) × (ch ≡ id_of c)
        c = numbers now (is_there x now m n g) (end_dropped e) end

        cases : (o : Option Offer) → offer_of told ≡ o → Leaves id_of m n
        cases None is = halts signer id_of one m n h x left g numbers (book ∙ joins None is)
        cases (Some o) is =
            let apart = halted_apart signer id_of one m n h x left g numbers in
            let htlcs : n.book.htlcs ≡ joined (htlc_of d o) hs = book ∙ joins (Some o) is in
            leaves_new x now e g works (halted_sound signer id_of one m n h x left g numbers) apart
            (halted_keeps signer id_of one m n h x left g numbers)
            (Happened (may.HaltsDeciding c.0 e d o
            (ap end_in (here_now id_of one x now m n g h.apart apart c.0 e
            (end_dropped e) works.end end c.1 refl).before
            ∙ works.end) (on_first x_in c.0 c.1 o is)
            (loses id_of one x now m n g h.apart apart c.0 e (end_dropped e) works.end end c.1 refl refl)
            (halts_now id_of one x now m n g h.apart apart c.0 e (end_dropped e) works.end end c.1 refl refl) htlcs))
            (λ y m_in. is_new o y (subst (IsIn y) htlcs m_in))
            (halted_dated signer id_of one m n h x left g numbers)
            (λ f w. absurd (let no : true ≡ false = w.halted in cc))
            (halted_named signer id_of one m n h x left g numbers)
            (halted_few signer id_of one m n h x left g numbers)

    -- ---- it takes it, or refuses it

    module _ (g : Changes x (called signer (Command (command.Decide d.event d.mark)) x) m n)
        (book : n.book ≡ replay m.book (entry.Decided d ∷ obeying signer x.link e (out.Deciding d.event)
        (command.Decide d.event d.mark))) where
      abbrev y : declared.Command
      y = command.Decide d.event d.mark

      abbrev seat : Seat K
      seat = called signer (Command y) x

      abbrev keys : Signer
      keys = signer x.link.keys

      abbrev subject : ℕ
      subject = command_subject (next_own_id e) y

      b : IsBidden signer id_of one m n h numbers x e y g
      b = bids signer id_of one m n h numbers x e y works g

      x_in : IsIn x m.seats
      x_in = was_there x seat m n g

      reply : (row : Result Done Refusal) → commanded keys x.link y ≡ row
          → n.book.htlcs ≡ (told_answer ch (out.Deciding d.event) (answer_to subject (done_or_refused row))
          with_it).htlcs
      reply row is = ap (λ (t : Table). t.htlcs) book
          ∙ ap (λ r. (told_answer ch (out.Deciding d.event) (answer_to subject (done_or_refused r)) with_it).htlcs) is

      taken : (done : Done) → commanded keys x.link y ≡ Ok done → Leaves id_of m n
      taken done row = cases (offer_of told) refl
        where
          k : IsObeyed keys y e done
          k = commanded_is keys x.link y e done b.saved row

          channel : k.turn.end.dance.channel ≡ ch
          channel = obeyed_channel keys y e k.turn k.row

          end : seat.end ≡ Some (based k.turn.end)
          end = ap (λ (q : Seat K). q.end) b.is ∙ ap (λ r. saved_end (left_by r (λ r. x.link) x.link).stage) row
              ∙ ap (λ s. saved_end (based_stage s)) k.stage

          note : (k.turn.end.dance.log ≡ e.dance.log) × (ledgered y e ≡ Ok k.turn.end.ledger)
          note = noted_so y e k.turn k.row

          one_more : k.turn.end.ledger.decided ≡ e.ledger.decided + 1
          one_more = (decides_so d.event d.mark (first_htlc e.dance.log e.ledger.undecided) e.ledger
              k.turn.end.ledger note.1).decided

          htlcs : n.book.htlcs ≡ changed_first (is_told ch d.event) decide with_it.htlcs
          htlcs = reply (Ok done) row ∙ answer_done ch (out.Deciding d.event) subject with_it

          go : may.Goes b.number.0 (Some e) (based k.turn.end) (snapshot id_of m) (snapshot id_of n)
          go = goes id_of one x seat m n g h.apart b.apart b.number.0 e (based k.turn.end) works.end end b.number.1
              channel works.halted b.hosted.halted

          later : (f : End) → Works seat f → e.ledger.decided < f.ledger.decided
          later f w =
              let some : Some (based k.turn.end) ≡ Some f = sym end ∙ w.end in
              let same_end : based k.turn.end ≡ f = cc in
              let count : f.ledger.decided ≡ e.ledger.decided + 1 =
              ap (λ (z : End). z.ledger.decided) (sym same_end) ∙ one_more in
              omega (arith, count)

          dated : IsDated hs seat
          dated f w z m_in at =
              let some : Some (based k.turn.end) ≡ Some f = sym end ∙ w.end in
              let same_end : based k.turn.end ≡ f = cc in
              wider z f (h.dated x x_in e works z m_in
              (at ∙ sym (ap (λ (q : End). q.dance.channel) same_end) ∙ channel)) (later f w)
            where
              wider : (z : Htlc) (f : End) → (z.event ≡ no_event) ⊎ (z.event < e.ledger.decided)
                  → e.ledger.decided < f.ledger.decided → (z.event ≡ no_event) ⊎ (z.event < f.ledger.decided)
              wider z f (inl none) lt = inl none
              wider z f (inr old) lt = inr (omega (arith, old, lt))

          named : SaysNames m seat
          named f is =
              let some : Some (based k.turn.end) ≡ Some f = sym end ∙ is in
              let same_end : based k.turn.end ≡ f = cc in
              subst (λ (z : End). AllName (IsChannel m) z.dance.log.own) same_end
              (subst (λ (l : Log). AllName (IsChannel m) l.own) (sym note.0) (h.named x x_in e works.end))

          few : HasEvents seat
          few = become_few ⊥ x seat b.hosted.becomes (h.few x x_in)

          cases : (o : Option Offer) → offer_of told ≡ o → Leaves id_of m n
          cases None is =
              let mark_none : d.mark ≡ mark.None = mark_is None is in
              let unchanged : n.book.htlcs ≡ hs = htlcs
              ∙ ap (changed_first (is_told ch d.event) decide) (joins None is)
              ∙ none_changed (is_told ch d.event) decide hs (none_told x_in) in
              leaves_by id_of x seat m n g h b.hosted.sound b.apart b.keeps
              (Happened (may.DecidesNothing b.number.0 e d.event k.turn
              (ap (λ w. note_row (command.Decide d.event w) e) (sym mark_none) ∙ k.row) go unchanged))
              (kin_same hs n.book.htlcs unchanged) dated named few
          cases (Some o) is =
              let now_is : n.book.htlcs ≡ changed_first (is_told ch d.event) decide (joined (htlc_of d o) hs) =
              htlcs ∙ ap (changed_first (is_told ch d.event) decide) (joins (Some o) is) in
              leaves_new x seat e g works b.hosted.sound b.apart b.keeps
              (Happened (may.Decides b.number.0 e d o k.turn with_it.queue (on_first x_in b.number.0 b.number.1 o is)
              k.row go
              (now_is ∙ ap (λ c. changed_first (is_told c d.event) decide (joined (htlc_of d o) hs)) b.number.1)))
              (λ z m_in. by_change o z (subst (IsIn z) now_is m_in)) dated later named few
            where
              by_change : (o : Offer) (z : Htlc)
                  → IsIn z (changed_first (is_told ch d.event) decide (joined (htlc_of d o) hs))
                  → IsOldOrNew ch e.ledger.decided z
              by_change o z m_in = elim (among_changed (is_told ch d.event) decide z (joined (htlc_of d o) hs) m_in) [
                | inl there ↦ is_new o z there
                | inr changed ↦ subst (IsOldOrNew ch e.ledger.decided) changed.3
                    (is_new o changed.0 changed.1)
              ]

      refused_so : (r : Refusal) → commanded keys x.link y ≡ Err r → Leaves id_of m n
      refused_so r row = cases (offer_of told) refl
        where
          for_good : r ≡ refusal.NotReady
          for_good = decide_refused d.event d.mark (first_htlc e.dance.log e.ledger.undecided) e.ledger r
              (note_refused keys x.link y e r works.halted (stage_is x.link.stage e b.saved) refl row)

          end : seat.end ≡ x.end
          end = ap (λ (q : Seat K). q.end) b.is ∙ ap (λ r. saved_end (left_by r (λ r. x.link) x.link).stage) row
              ∙ b.saved ∙ sym works.end

          htlcs : n.book.htlcs ≡ left_out (is_undecided ch d.event) with_it.htlcs
          htlcs = reply (Err r) row
              ∙ ap (λ q. (told_answer ch (out.Deciding d.event) (Err (refusal_number q)) with_it).htlcs) for_good
              ∙ answer_for_good ch (out.Deciding d.event) (refusal_number refusal.NotReady) with_it refl refl

          fewer : NonePasses (is_undecided ch d.event) hs
          fewer = fewer_pass ch d.event hs (none_told x_in)

          leaves : Gives id_of (snapshot id_of m) (snapshot id_of n) → Kin hs n.book.htlcs → Leaves id_of m n
          leaves gives kin =
              leaves_by id_of x seat m n g h b.hosted.sound b.apart b.keeps gives kin
              (λ f w. h.dated x x_in f (record { end = sym end ∙ w.end; halted = works.halted }))
              (λ f is. h.named x x_in f (sym end ∙ is))
              (become_few ⊥ x seat b.hosted.becomes (h.few x x_in))

          -- what was new is gone again
          kin_gone : (o : Offer) → Kin hs (left_out (is_undecided ch d.event) (joined (htlc_of d o) hs))
          kin_gone o z m_in = elim (old_or_new (htlc_of d o) hs z
              (of_picked (λ q. not (is_undecided ch d.event q)) z (joined (htlc_of d o) hs) m_in)) [
                | inl old ↦ (z, old, refl, refl)
                | inr new ↦ absurd (
                    let out : is_undecided ch d.event z ≡ false =
                    left_passes (is_undecided ch d.event) z (joined (htlc_of d o) hs) m_in in
                    let hit : is_undecided ch d.event (htlc_of d o) ≡ true =
                    ap (λ q. (q && same ch d.channel) && true) (eq-eqb d.event d.event refl)
                    ∙ ap (λ q. q && true) (is_same ch d.channel (sym (ap (λ (w : Decided). w.channel) d_is))) in
                    let no : true ≡ false = sym hit ∙ ap (is_undecided ch d.event) new ∙ out in cc)
              ]

          cases : (o : Option Offer) → offer_of told ≡ o → Leaves id_of m n
          cases None is =
              let unchanged : n.book.htlcs ≡ hs = htlcs ∙ ap (left_out (is_undecided ch d.event)) (joins None is)
              ∙ none_left (is_undecided ch d.event) hs fewer in
              leaves (Alike (seat_same id_of one x seat m n g h.apart b.apart end (λ f is. b.hosted.halted) unchanged))
              (kin_same hs n.book.htlcs unchanged)
          cases (Some o) is =
              let now_is : n.book.htlcs ≡ left_out (is_undecided ch d.event) (joined (htlc_of d o) hs) =
              htlcs ∙ ap (left_out (is_undecided ch d.event)) (joins (Some o) is) in
              leaves (Happened (may.RefusesDecision b.number.0 e d o 40
              (ap end_in (found_in_seat b.number.0 b.number.1) ∙ works.end)
              (on_first x_in b.number.0 b.number.1 o is)
              (seat_alike id_of one x seat m n g h.apart b.apart end (λ f is. b.hosted.halted))
              (now_is ∙ ap (λ c. left_out (is_undecided c d.event) (joined (htlc_of d o) hs)) b.number.1)))
              (kin_as hs (left_out (is_undecided ch d.event) (joined (htlc_of d o) hs)) n.book.htlcs now_is
              (kin_gone o))
            where
              found_in_seat : (c : ℕ) → ch ≡ id_of c → seat_of (id_of c) m.seats ≡ Some x
              found_in_seat c at = ap (λ i. seat_of i m.seats) (sym at)
                  ∙ found_in x m.seats e h.apart x_in works.end

      pub decides : Leaves id_of m n
      decides = cases (commanded keys x.link y) refl
        where
          cases : (row : Result Done Refusal) → commanded keys x.link y ≡ row → Leaves id_of m n
          cases (Ok done) row = taken done row
          cases (Err r) row = refused_so r row
