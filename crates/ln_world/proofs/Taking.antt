-- An end of the node takes the first command of the node's book.
use Rattle.std.proofs.Common.{◌≡◌, inl, inr, ℕ, List, [], ◌∷◌, filter, refl, sym, ap, ◌∙◌, subst}
use Rattle.std.proofs.Common.{Bool, true, false, cond, not, ◌==◌, nat_lt, Option, Some, None, Result, Ok, Err}
use Rattle.std.specs.List.{find}
use Rattle.ln_refusals.specs.declared.refusal.Refusal.{Refusal}
use Rattle.ln_refusals.specs.declared.refusal.Refusal.TheVariants as refusal
use Rattle.ln_refusals.specs.Refusal.{refusal_number}
use Rattle.ln_keys.specs.declared.keys.ChannelKeys.{Ghosts}
use Rattle.ln_hooks.specs.declared.verdict.Verdict.{Verdict}
use Rattle.ln_log.specs.declared.mark.Decision.{Decision}
use Rattle.ln_log.specs.declared.update.Add.{Add}
use Rattle.ln_log.specs.declared.update.Update.TheVariants as update
use Rattle.ln_log.specs.Updates.{next_id as next_add}
use Rattle.ln_channel.specs.declared.command.Command.{Command}
use Rattle.ln_channel.specs.declared.command.Command.TheVariants as command
use Rattle.ln_channel.specs.Base.{based, is_open as is_open_decision, entering}
use Rattle.ln_channel.specs.Commands.{ledgered, command_row, propose_row}
use Rattle.ln_channel.specs.End.{End as ChannelEnd}
use Rattle.ln_channel.specs.Ledger.{Ledger, forgotten as without_result}
use Rattle.ln_channel.specs.State.{State}
use Rattle.ln_channel.specs.Step.{Done, asked as asked_of, is_of_records}
use Rattle.ln_book_tables.specs.declared.htlc.Htlc.{Htlc}
use Rattle.ln_book_tables.specs.declared.htlc.Key.{Key}
use Rattle.ln_book_tables.specs.declared.htlc.OutgoingLeg.{OutgoingLeg}
use Rattle.ln_book_tables.specs.declared.htlc.OutgoingLeg.TheVariants as outgoing
use Rattle.ln_book_tables.specs.declared.htlc.IncomingLeg.TheVariants as back
use Rattle.ln_book_tables.specs.declared.entry.Out.{Out}
use Rattle.ln_book_tables.specs.declared.entry.Out.TheVariants as out
use Rattle.ln_book_tables.specs.declared.entry.Queued.{Queued}
use Rattle.ln_book_tables.specs.Replay.{Table, table_of, same_key, is_htlc, is_queued, is_resumed, is_later, left_out}
use Rattle.ln_book_tables.specs.Replay.{changed_first}
use Rattle.ln_book_tables.specs.Replay.{with_outgoing}
use Rattle.ln_book_tables.specs.Replay.{with_incoming, without_first}
use Rattle.ln_book_tables.specs.Replay.{queue_behind, refused_by, taken_by, is_settled, has_nothing_offered, is_open}
use Rattle.ln_book_tables.specs.Replay.{put_outgoing}
use Rattle.ln_book_tables.specs.Replay.{put_incoming, same}
use Rattle.ln_book.specs.Commands.{first_of, is_queued_in, queued_command}
use Rattle.ln_book.specs.Commands.{command_of, is_resolved_in, forwards_in, removal_by, add_of, forget_by}
use Rattle.ln_world_channels.specs.declared.step.Act.TheVariants as channel_act
use Rattle.ln_world_channels.specs.declared.step.Node.{Node}
use Rattle.ln_world_channels.specs.declared.step.End.{End}
use Rattle.ln_world_channels.specs.Settings.{channel_id_of}
use Rattle.ln_world_channels.specs.WorldChannel.{WorldChannel}
use Rattle.ln_world_dispatch.specs.Dispatcher.{dispatcher_at}
use Rattle.ln_world_dispatch.specs.World.{World as Dispatchers, is_dispatched, is_below_next, decided_of}
use Rattle.ln_world.specs.Node.{Book, services}
use Rattle.ln_book.specs.Answers.{command_subject, next_id}
use Rattle.ln_world.specs.World.{World, id_of, first_in, saved_of, handed_out}
use Rattle.ln_payment.specs.Parts.{Note}
use Rattle.ln_payment_circuits.specs.Snapshot.{Incoming, IsIn, origin, IsFit, key_at, key_of}
use Rattle.ln_payment_circuits.proofs.Links.{Links, Changed}
use Rattle.ln_payment_circuits.proofs.Lists.{of_picked, picked, among_changed}
use Rattle.ln_payment_circuits.proofs.Shifts.{side_of as read_side}
use Rattle.ln_payment_circuits.proofs.Entries.{same_is, is_key, AreEntries, HasEntry}
use Rattle.ln_payment_circuits.proofs.Due.{IsDue, IsDueBy, Forgets, Offers, Removes, due_by}
use Rattle.ln_payment_circuits.proofs.Due.{forgets_so}
use Rattle.ln_payment_circuits.proofs.Scenes.{Scene, HavePayments, offered, removed}
use Rattle.ln_payment_circuits.proofs.Resumed.{HoldAlike}
use Rattle.ln_payment_circuits.proofs.Past.{IsPast, OldOffers, offers_same, offers_left, offers_changed, offers_as}
use Rattle.ln_payment_circuits.proofs.Answers.{forgotten, add_refused, add_left, removal_refused, forget_refused}
use Rattle.ln_payment_circuits.proofs.Moments.{first_kept}
use Rattle.ln_payment_circuits.proofs.Held.{found_among}
use Rattle.ln_payment_circuits.proofs.Removing.{IsRemoving, removes_so, live_so, told_so, others_so, none_forwards}
use Rattle.ln_world.specs.Circuit.{has_halted}
use Rattle.ln_world.proofs.Answering.{RowSteps, IfDone, AtSaved}
use Rattle.ln_world.proofs.Scene.{link_in, links_of}
use Rattle.ln_world.proofs.Ends.{IsLink}
use Rattle.ln_world.proofs.PendingCommands.{IsCalm, turned_htlcs, turned_queue}
use Rattle.ln_world.proofs.Same.{one_id}
use Rattle.ln_world.proofs.Doing.{between, goes_on, saved_paid}
use Rattle.ln_world.proofs.Orderly.{IsOrderly, AreLater, Any, WaitsAt, view_at, AllName, Names, names_more, later_same}
use Rattle.ln_world.proofs.Orderly.{later_left, later_changed, later_as}
use Rattle.ln_world.proofs.Keeping.{Holds}
use Rattle.ln_world.proofs.Hearing.{AreKin, kin_changed, kin_left, itself}
use Rattle.ln_world.proofs.Refusing.{IsBooks}
use Rattle.ln_world.proofs.Obeyed.{by_row, proposed, noted, IsProposed, IsNoted}
use Rattle.ln_world.proofs.Removing.{IsAdding, adds_so}
use Rattle.ln_world.proofs.Given.{new, x0, y0, then, answer, answer_row, mine, turn_now, of_link, given_holds}
use Rattle.ln_world.proofs.Given.{refused_paid}
use Rattle.ln_world.proofs.Given.{agrees_now, order_now, past_then, first_is}
use Rattle.ln_world.proofs.Plainly.{awake_commanded}
use Rattle.ln_world.proofs.Acting.{done_by, OffersAwake}

-- ---- what is queued then was queued

without_fewer : {A : Type 0} (p : A → Bool) (xs : List A) (q : A) → IsIn q (without_first p xs) → IsIn q xs
without_fewer p [] q m = absurd m
without_fewer p (x ∷ xs) q m = cases (p x) m (λ k. without_fewer p xs q k)
  where
    cases : (b : Bool) → IsIn q (cond b xs (x ∷ without_first p xs)) → (IsIn q (without_first p xs) → IsIn q xs)
        → IsIn q (x ∷ xs)
    cases true k rest = inr k
    cases false (inl e) rest = inl e
    cases false (inr k) rest = inr (rest k)

behind_fewer : (c : List ℕ) (o : Out) (qs : List Queued) (q : Queued) → IsIn q (queue_behind c o qs) → IsIn q qs
behind_fewer c (out.Deciding n) qs q m = of_picked (λ z. not (is_queued c n z)) q qs m
behind_fewer c (out.Adding k) qs q m = m
behind_fewer c (out.Removing k) qs q m = m
behind_fewer c (out.Forgetting k) qs q m = m
behind_fewer c (out.Resuming n) qs q m = without_fewer (is_resumed c n) qs q m

pub queue_fewer : (c : List ℕ) (a : Result ℕ ℕ) (o : Out) (t : Table) (q : Queued) → IsIn q (turned_queue c a o t)
    → IsIn q t.queue
queue_fewer c (Ok i) o t q m = behind_fewer c o t.queue q m
queue_fewer c (Err r) o t q m = cases (is_later r) m
  where
    cases : (b : Bool) → IsIn q (cond b t.queue (queue_behind c o t.queue)) → IsIn q t.queue
    cases true k = k
    cases false k = behind_fewer c o t.queue q k

pub same_kin : (xs : List Htlc) → AreKin xs xs
same_kin xs y m = (y, m, itself y)

-- a book has one HTLC of a key at most
pub same_entry : (h : Incoming) (xs : List Htlc) (o : Option Note) → HasEntry channel_id_of h xs o → (z y : Htlc)
    → IsIn z xs → IsIn y xs → is_htlc (key_of channel_id_of h) z ≡ true → is_htlc (key_of channel_id_of h) y ≡ true
    → z ≡ y
same_entry h xs o k z y z_in y_in z_hit y_hit =
    cases (filter p xs) (picked p z xs z_in z_hit) (picked p y xs y_in y_hit) k
  where
    p : Htlc → Bool
    p = is_htlc (key_of channel_id_of h)

    cases : (ys : List Htlc) → IsIn z ys → IsIn y ys → AreEntries channel_id_of ys o → z ≡ y
    cases [] a b k = absurd a
    cases (x ∷ []) (inl a) (inl b) k = sym a ∙ b
    cases (x ∷ []) (inl a) (inr b) k = absurd b
    cases (x ∷ []) (inr a) b k = absurd a
    cases (x ∷ q ∷ ys) a b k = absurd k

module _ {K : Type 0} (k : Ghosts K) (e : End) (v : Verdict) (w : World K) (h : Holds k e.node w) (b : Book)
    (calm : IsCalm b)
    (paid0 : HavePayments channel_id_of (record {
      links = links_of e.node w.dispatchers.channels.channels;
      book =
          (table_of b).htlcs;
    }))
    (agrees0 : HoldAlike channel_id_of (record {
      links = links_of e.node w.dispatchers.channels.channels;
      book =
          (table_of b).htlcs;
    }))
    (past0 : IsPast channel_id_of (record {
      links = links_of e.node w.dispatchers.channels.channels;
      book = (table_of b).htlcs;
    }))
    (order0 : IsOrderly (view_at e.node w.dispatchers.channels.channels w.dispatchers.dispatchers b))
    (o : Out) (c : Command)
    (books : IsBooks c) (first : first_in e b ≡ Some (o, c))
    (may : is_dispatched e (channel_act.Send c) w.dispatchers ≡ true) (s : State K)
    (there : link_in e.node e.channel w.dispatchers.channels.channels ≡ Some s) (r : Option ℕ) where
  abbrev n : Node
  n = e.node

  abbrev cs : List (WorldChannel K)
  cs = w.dispatchers.channels.channels

  abbrev t : Table
  t = table_of b

  abbrev S : Scene
  S = record { links = links_of n cs; book = t.htlcs }

  abbrev X : ChannelEnd
  X = x0 k e v w h b calm o c books first may s there r

  abbrev Y : ChannelEnd
  Y = y0 k e v w h b calm o c books first may s there r

  abbrev N : List (WorldChannel K)
  N = new k e v w h b calm o c books first may s there r

  abbrev U : World K
  U = then k e v w h b calm o c books first may s there r

  abbrev R : Result Done Refusal
  R = answer_row k e v w h b calm o c books first may s there r

  abbrev about_it : ℕ
  about_it = command_subject (next_id (Some X)) c

  abbrev it : IsLink (channel_id_of e.channel) s
  it = mine k e v w h b calm o c books first may s there r

  fit : IsFit X
  fit = it.is.fit

  abbrev IsPaidAt : List (WorldChannel K) → List Htlc → Type 0
  IsPaidAt ds hs = HavePayments channel_id_of (record { links = links_of n ds; book = hs })

  -- ---- what is kept, by the answer

  pub kept_with : (q : Result Done Refusal) → R ≡ q → IsPaidAt N (turned_htlcs (id_of e) (by_row about_it q) o t)
      → HoldAlike channel_id_of (record {
        links = links_of n N;
        book = turned_htlcs (id_of e) (by_row about_it q) o t;
      })
      → OffersAwake (links_of n N) t.htlcs (turned_htlcs (id_of e) (by_row about_it q) o t)
      → (Known : Htlc → Type 0) → AreLater Known t.htlcs (turned_htlcs (id_of e) (by_row about_it q) o t)
      → ((d : ℕ) (z : Htlc) → IsIn z t.htlcs → z.key.channel ≡ channel_id_of d
      → WaitsAt (view_at n cs w.dispatchers.dispatchers b) d z
      → decided_of (saved_of (link_in n d N)) ≡ decided_of (saved_of (link_in n d cs)) → Known z)
      → (AllName X.dance.log.own → AllName Y.dance.log.own) → Holds k n U
  kept_with q is paid agrees offers Known later known names =
      let now : turned_htlcs (id_of e) (answer k e v w h b calm o c books first may s there r) o t
      ≡ turned_htlcs (id_of e) (by_row about_it q) o t = ap (λ z. turned_htlcs (id_of e) (by_row about_it z) o t) is in
      given_holds k e v w h b calm o c books first may s there r
      (subst (IsPaidAt N) (sym now) paid)
      (subst (λ hs. HoldAlike channel_id_of (record { links = links_of n N; book = hs })) (sym now) agrees)
      (past_then k e v w h b calm o c books first may s there r t.htlcs
      (turned_htlcs (id_of e) (answer k e v w h b calm o c books first may s there r) o t)
      (subst (OffersAwake (links_of n N) t.htlcs) (sym now) offers) past0)
      (order_now k e v w h b calm o c books first may s there r names Known b
      (λ z m. queue_fewer (id_of e) (answer k e v w h b calm o c books first may s there r) o t z m)
      (later_as Known t.htlcs (turned_htlcs (id_of e) (by_row about_it q) o t)
      (turned_htlcs (id_of e) (answer k e v w h b calm o c books first may s there r) o t) now later) known order0)

  pub kept : (q : Result Done Refusal) → R ≡ q → IsPaidAt N (turned_htlcs (id_of e) (by_row about_it q) o t)
      → ((d : Decision) → IsIn d Y.ledger.decisions → IsIn d X.ledger.decisions)
      → AreKin t.htlcs (turned_htlcs (id_of e) (by_row about_it q) o t)
      → OffersAwake (links_of n N) t.htlcs (turned_htlcs (id_of e) (by_row about_it q) o t) → (Known : Htlc → Type 0)
      → AreLater Known t.htlcs (turned_htlcs (id_of e) (by_row about_it q) o t)
      → ((d : ℕ) (z : Htlc) → IsIn z t.htlcs → z.key.channel ≡ channel_id_of d
      → WaitsAt (view_at n cs w.dispatchers.dispatchers b) d z
      → decided_of (saved_of (link_in n d N)) ≡ decided_of (saved_of (link_in n d cs)) → Known z)
      → (AllName X.dance.log.own → AllName Y.dance.log.own) → Holds k n U
  kept q is paid fewer kin offers Known later known names = kept_with q is paid
      (agrees_now k e v w h b calm o c books first may s there r fewer t.htlcs
      (turned_htlcs (id_of e) (by_row about_it q) o t) kin agrees0) offers Known later known names

  -- ---- it is refused

  refused : (q : Refusal) → R ≡ Err q → Y ≡ X → IsPaidAt cs (cond (is_later (refusal_number q)) t.htlcs
      (refused_by (id_of e) (refusal_number q) o t.htlcs))
      → AreKin t.htlcs (cond (is_later (refusal_number q)) t.htlcs (refused_by (id_of e) (refusal_number q) o t.htlcs))
      → OldOffers channel_id_of t.htlcs
      (cond (is_later (refusal_number q)) t.htlcs (refused_by (id_of e) (refusal_number q) o t.htlcs))
      → AreLater Any t.htlcs
      (cond (is_later (refusal_number q)) t.htlcs (refused_by (id_of e) (refusal_number q) o t.htlcs)) → Holds k n U
  refused q is same paid kin offers later = kept (Err q) is
      (refused_paid k e v w h b calm o c books first may s there r same (cond (is_later (refusal_number q)) t.htlcs
      (refused_by (id_of e) (refusal_number q) o t.htlcs)) paid)
      (λ d m. subst (λ (z : ChannelEnd). IsIn d z.ledger.decisions) same m) kin
      (λ h0 d i y halted. offers h0 d i y) Any later
      (λ d z m at next still. tt)
      (λ a. subst (λ (z : ChannelEnd). AllName z.dance.log.own) (sym same) a)

  pub refused_by_it : (q : Refusal) → R ≡ Err q → Y ≡ X
      → IsPaidAt cs (refused_by (id_of e) (refusal_number q) o t.htlcs)
      → AreKin t.htlcs (refused_by (id_of e) (refusal_number q) o t.htlcs)
      → OldOffers channel_id_of t.htlcs (refused_by (id_of e) (refusal_number q) o t.htlcs)
      → AreLater Any t.htlcs (refused_by (id_of e) (refusal_number q) o t.htlcs) → Holds k n U
  refused_by_it q is same paid kin offers later =
      refused q is same (cases (is_later (refusal_number q))) (by_kin (is_later (refusal_number q)))
      (by_offers (is_later (refusal_number q))) (by_later (is_later (refusal_number q)))
    where
      cases : (l : Bool) → IsPaidAt cs (cond l t.htlcs (refused_by (id_of e) (refusal_number q) o t.htlcs))
      cases true = paid0
      cases false = paid

      by_kin : (l : Bool) → AreKin t.htlcs (cond l t.htlcs (refused_by (id_of e) (refusal_number q) o t.htlcs))
      by_kin true = same_kin t.htlcs
      by_kin false = kin

      by_offers : (l : Bool) → OldOffers channel_id_of t.htlcs
          (cond l t.htlcs (refused_by (id_of e) (refusal_number q) o t.htlcs))
      by_offers true = offers_same channel_id_of t.htlcs t.htlcs refl
      by_offers false = offers

      by_later : (l : Bool) → AreLater Any t.htlcs (cond l t.htlcs (refused_by (id_of e) (refusal_number q) o t.htlcs))
      by_later true = later_same Any t.htlcs
      by_later false = later

  -- one that has halted
  pub halted_takes : s.halted ≡ true → Holds k n U
  halted_takes is =
      let row : R ≡ Err refusal.Halted =
      ap (λ z. cond z (Err refusal.Halted) (asked_of (k.signer s.keys) s c)) is in
      let steps = subst (RowSteps X Y) row (turn_now k e v w h b calm o c books first may s there r).steps in
      refused refusal.Halted row steps paid0 (same_kin t.htlcs) (offers_same channel_id_of t.htlcs t.htlcs refl)
      (later_same Any t.htlcs)

  -- ---- it is taken

  module _ (d : Done) (is : R ≡ Ok d) (st : RowSteps X Y (Ok d)) where
    abbrev pub f : ChannelEnd
    f = st.0

    pub g : Changed (origin channel_id_of) e.channel (read_side X) (read_side (based f)) (links_of n cs) (links_of n N)
    g =
        subst (λ q. Changed (origin channel_id_of) e.channel (read_side X) (read_side q) (links_of n cs)
        (links_of n N)) st.3
        (turn_now k e v w h b calm o c books first may s there r).changed

    abbrev pub mid : Links
    mid = between e.channel (read_side f) (links_of n cs)

    pub to_mid : Changed (origin channel_id_of) e.channel (read_side X) (read_side f) (links_of n cs) mid
    to_mid = goes_on e.channel X f (links_of n cs) (links_of n N) g

    -- its link works
    awake_now : (links_of n N).halted e.channel ≡ false
    awake_now = (turn_now k e v w h b calm o c books first may s there r).changed.halted e.channel
        ∙ ap has_halted there ∙ awake_commanded (k.signer s.keys) s c d is

    taken : (hs : List Htlc) → taken_by (id_of e) about_it o t.queue t.htlcs ≡ hs
        → HavePayments channel_id_of (record { links = mid; book = hs }) → f.ledger.decisions ≡ X.ledger.decisions
        → AreKin t.htlcs hs → OffersAwake (links_of n N) t.htlcs hs → AreLater Any t.htlcs hs
        → (AllName X.dance.log.own → AllName f.dance.log.own) → Holds k n U
    taken hs turned paid decisions kin offers later names = kept (Ok d) is
        (subst (IsPaidAt N) (sym turned) (saved_paid e.channel X f (links_of n cs) (links_of n N) g
        (first_kept X f fit st.2) hs paid))
        (λ q m. subst (IsIn q) decisions (of_picked (is_open_decision (entering f)) q f.ledger.decisions
        (subst (λ (z : ChannelEnd). IsIn q z.ledger.decisions) st.3 m)))
        (subst (AreKin t.htlcs) (sym turned) kin) (subst (OffersAwake (links_of n N) t.htlcs) (sym turned) offers) Any
        (subst (AreLater Any t.htlcs) (sym turned) later)
        (λ d z m at next still. tt)
        (λ a. subst (λ (z : ChannelEnd). AllName z.dance.log.own) (sym st.3) (names a))

  -- ---- what is due about an HTLC of the book

  module _ (z : Htlc) (m : IsIn z t.htlcs) (dec : z.decided ≡ true) where
    -- no other one has its key
    alone : (y : Htlc) → IsIn y t.htlcs → is_htlc z.key y ≡ true → y.decided ≡ true
    alone y y_in hit =
        let q = order0.keyed z m in
        ap (λ (i : Htlc). i.decided) (sym (same_entry q.0 t.htlcs (paid0 q.0).0.note (paid0 q.0).1.note z y m y_in
        (ap (same_key (key_of channel_id_of q.0)) q.1 ∙ is_key (key_of channel_id_of q.0))
        (ap (λ j. same_key j y.key) (sym q.1) ∙ hit)))
        ∙ dec

    -- so one that waits isn't changed by what is changed about it
    changed_later : (f : Htlc → Htlc) → ((y : Htlc) → (f y).key ≡ y.key) → ((y : Htlc) → (f y).event ≡ y.event)
        → ((y : Htlc) → (f y).decided ≡ y.decided) → AreLater Any t.htlcs (changed_first (is_htlc z.key) f t.htlcs)
    changed_later f key event decided = later_changed Any (is_htlc z.key) f t.htlcs (λ y y_in hit. record {
      key = key y;
      event = event y;
      was = λ u. absurd (let no : true ≡ false = sym (decided y ∙ alone y y_in hit) ∙ u in cc);
      waits = λ known new. absurd (let no : true ≡ false = sym (alone y y_in hit) ∙ new.0 in cc);
    })

    steps_now : (q : Result Done Refusal) → R ≡ q → RowSteps X Y q
    steps_now q is = subst (RowSteps X Y) is (turn_now k e v w h b calm o c books first may s there r).steps

    at_end : (P : ChannelEnd → Type 0) → IfDone P R → (d : Done) (is : R ≡ Ok d) → P (steps_now (Ok d) is).0
    at_end P p d is = subst (AtSaved P) (steps_now (Ok d) is).1 (subst (IfDone P) is p)

    -- a result is forgotten
    forgets : is_settled z.incoming ≡ true → is_resolved_in (id_of e) z.outgoing ≡ true → o ≡ out.Forgetting z.key
        → forget_by z.outgoing ≡ Some c → Holds k n U
    forgets settled over out_is cmd = cases R refl
      where
        j : (i : ℕ) × (c ≡ command.Forget i)
        j = forgets_so z.outgoing c cmd

        noted_so : IfDone (IsNoted X c) R
        noted_so = of_link k (channel_id_of e.channel) s it (IfDone (IsNoted X c)) c
            (noted (k.signer it.keys) it.halted it.keys it.connection X c (ap is_of_records j.1))

        cases : (q : Result Done Refusal) → R ≡ q → Holds k n U
        cases (Err q) is = refused_by_it q is (steps_now (Err q) is)
            (forget_refused channel_id_of one_id S
            (record { links = links_of n cs; book = refused_by (id_of e) (refusal_number q) o t.htlcs }) refl z m dec
            settled
            (ap (λ p. refused_by (id_of e) (refusal_number q) p t.htlcs) out_is) paid0)
            (subst (λ p. AreKin t.htlcs (refused_by (id_of e) (refusal_number q) p t.htlcs)) (sym out_is)
            (kin_left (is_htlc z.key) t.htlcs))
            (subst (λ p. OldOffers channel_id_of t.htlcs (refused_by (id_of e) (refusal_number q) p t.htlcs))
            (sym out_is) (offers_left channel_id_of (is_htlc z.key) t.htlcs))
            (subst (λ p. AreLater Any t.htlcs (refused_by (id_of e) (refusal_number q) p t.htlcs)) (sym out_is)
            (later_left Any (is_htlc z.key) t.htlcs))
        cases (Ok d) is =
            let st = steps_now (Ok d) is in
            let p = at_end (IsNoted X c) noted_so d is in
            let ok : ◌≡◌ {A = Result Ledger Refusal} (Ok (without_result j.0 X.ledger)) (Ok p.0) =
            sym (ap (λ q. ledgered q X) j.1) ∙ p.1 in
            let ledger : without_result j.0 X.ledger ≡ p.0 = cc in
            let f_is : st.0 ≡ record X { ledger = without_result j.0 X.ledger } =
            p.2 ∙ ap (λ q. record X { ledger = q }) (sym ledger) in
            taken d is st (left_out (is_htlc z.key) t.htlcs)
            (ap (λ p. taken_by (id_of e) about_it p t.queue t.htlcs) out_is)
            (forgotten channel_id_of one_id S
            (record { links = mid d is st; book = left_out (is_htlc z.key) t.htlcs }) e.channel (read_side X)
            (read_side st.0)
            (to_mid d is st) (ap (λ (q : ChannelEnd). q.dance.log) f_is) services z (order0.keyed z m).0 c j.0 m dec
            (order0.keyed z m).1 settled over cmd j.1 (ap (λ (q : ChannelEnd). q.ledger.results) f_is)
            (ap (λ (q : ChannelEnd). q.ledger.decisions) f_is) refl paid0)
            (ap (λ (q : ChannelEnd). q.ledger.decisions) f_is) (kin_left (is_htlc z.key) t.htlcs)
            (λ q c i y halted. offers_left channel_id_of (is_htlc z.key) t.htlcs q c i y)
            (later_left Any (is_htlc z.key) t.htlcs)
            (λ a. subst (λ (q : ChannelEnd). AllName q.dance.log.own) (sym f_is) a)

    -- an HTLC goes out
    offers : is_settled z.incoming ≡ false → has_nothing_offered z.outgoing ≡ true → forwards_in (id_of e) z.mark ≡ true
        → o ≡ out.Adding z.key → add_of services z ≡ Some c → Holds k n U
    offers unsettled nowhere forwards out_is cmd = cases R refl
      where
        j : IsAdding z c
        j = adds_so services z c cmd

        a : Add
        a = record {
          id = next_add X.dance.log.own;
          amount = j.amount;
          hash = z.offer.hash;
          expiry = j.expiry;
          onion = j.onion;
          origin = Some (z.key.channel, z.key.id);
        }

        row : command_row (k.signer it.keys) c X ≡ propose_row (update.Add a) X
        row = ap (λ q. command_row (k.signer it.keys) q X) j.is

        proposed_so : IfDone (IsProposed X (update.Add a)) R
        proposed_so = of_link k (channel_id_of e.channel) s it (IfDone (IsProposed X (update.Add a))) c
            (proposed (k.signer it.keys) it.halted it.keys it.connection X c (update.Add a) (ap is_of_records j.is) row)

        names : AllName (update.Add a ∷ [])
        names i = by_id (a.id == i)
          where
            by_id : (t : Bool) → Names (cond t (Some a) None)
            by_id false = tt
            by_id true = λ p as_said. let q = order0.keyed z m in
                let some : ◌≡◌ {A = Option (List ℕ × ℕ)} (Some (z.key.channel, z.key.id)) (Some p) = as_said in
                let pair : ◌≡◌ {A = List ℕ × ℕ} (z.key.channel, z.key.id) p = cc in (
                  q.0,
                  sym pair ∙ ap (λ (y : Key). (y.channel, y.id)) q.1,
                )

        cases : (q : Result Done Refusal) → R ≡ q → Holds k n U
        cases (Err q) is = refused_by_it q is (steps_now (Err q) is) (by_number (nat_lt (refusal_number q) 47) refl)
            (kin_number (nat_lt (refusal_number q) 47) refl) (offers_number (nat_lt (refusal_number q) 47) refl)
            (later_number (nat_lt (refusal_number q) 47) refl)
          where
            book_is : refused_by (id_of e) (refusal_number q) o t.htlcs ≡ cond (nat_lt (refusal_number q) 47)
                (with_outgoing z.key outgoing.Refused t.htlcs) (left_out (is_htlc z.key) t.htlcs)
            book_is = ap (λ p. refused_by (id_of e) (refusal_number q) p t.htlcs) out_is

            by_number : (l : Bool) → nat_lt (refusal_number q) 47 ≡ l
                → IsPaidAt cs (refused_by (id_of e) (refusal_number q) o t.htlcs)
            by_number true low = add_refused channel_id_of one_id S
                (record { links = links_of n cs; book = refused_by (id_of e) (refusal_number q) o t.htlcs }) refl z m
                dec
                unsettled nowhere (id_of e) forwards
                (book_is ∙ ap (λ u. cond u (with_outgoing z.key outgoing.Refused t.htlcs) (left_out
                (is_htlc z.key) t.htlcs))
                low) paid0
            by_number false low = add_left channel_id_of one_id S
                (record { links = links_of n cs; book = refused_by (id_of e) (refusal_number q) o t.htlcs }) refl z m
                dec
                unsettled nowhere (id_of e) forwards
                (book_is ∙ ap (λ u. cond u (with_outgoing z.key outgoing.Refused t.htlcs) (left_out
                (is_htlc z.key) t.htlcs))
                low) paid0

            kin_number : (l : Bool) → nat_lt (refusal_number q) 47 ≡ l
                → AreKin t.htlcs (refused_by (id_of e) (refusal_number q) o t.htlcs)
            kin_number true low = subst (AreKin t.htlcs) (sym (book_is
                ∙ ap (λ u. cond u (with_outgoing z.key outgoing.Refused t.htlcs) (left_out
                (is_htlc z.key) t.htlcs)) low))
                (kin_changed (is_htlc z.key) (put_outgoing outgoing.Refused)
                (λ y. record { key = refl; event = refl; mark = refl; decided = refl }) t.htlcs)
            kin_number false low = subst (AreKin t.htlcs) (sym (book_is
                ∙ ap (λ u. cond u (with_outgoing z.key outgoing.Refused t.htlcs) (left_out
                (is_htlc z.key) t.htlcs)) low))
                (kin_left (is_htlc z.key) t.htlcs)

            offers_number : (l : Bool) → nat_lt (refusal_number q) 47 ≡ l
                → OldOffers channel_id_of t.htlcs (refused_by (id_of e) (refusal_number q) o t.htlcs)
            offers_number true low = offers_as channel_id_of t.htlcs (with_outgoing z.key outgoing.Refused t.htlcs)
                (refused_by (id_of e) (refusal_number q) o t.htlcs) (book_is
                ∙ ap (λ u. cond u (with_outgoing z.key outgoing.Refused t.htlcs) (left_out
                (is_htlc z.key) t.htlcs)) low)
                (offers_changed channel_id_of (is_htlc z.key) (put_outgoing outgoing.Refused) (λ y j dec at. absurd
                (let no : ◌≡◌ {A = OutgoingLeg} outgoing.Refused (outgoing.Offered j) = at in cc)) t.htlcs)
            offers_number false low = offers_as channel_id_of t.htlcs (left_out (is_htlc z.key) t.htlcs)
                (refused_by (id_of e) (refusal_number q) o t.htlcs) (book_is
                ∙ ap (λ u. cond u (with_outgoing z.key outgoing.Refused t.htlcs) (left_out
                (is_htlc z.key) t.htlcs)) low)
                (offers_left channel_id_of (is_htlc z.key) t.htlcs)

            later_number : (l : Bool) → nat_lt (refusal_number q) 47 ≡ l
                → AreLater Any t.htlcs (refused_by (id_of e) (refusal_number q) o t.htlcs)
            later_number true low = subst (AreLater Any t.htlcs) (sym (book_is
                ∙ ap (λ u. cond u (with_outgoing z.key outgoing.Refused t.htlcs) (left_out
                (is_htlc z.key) t.htlcs)) low))
                (changed_later (put_outgoing outgoing.Refused) (λ y. refl) (λ y. refl) (λ y. refl))
            later_number false low = subst (AreLater Any t.htlcs) (sym (book_is
                ∙ ap (λ u. cond u (with_outgoing z.key outgoing.Refused t.htlcs) (left_out
                (is_htlc z.key) t.htlcs)) low))
                (later_left Any (is_htlc z.key) t.htlcs)
        cases (Ok d) is =
            let st = steps_now (Ok d) is in
            let p = at_end (IsProposed X (update.Add a)) proposed_so d is in
            let now = with_outgoing z.key (outgoing.Offered (key_at channel_id_of e.channel a.id)) t.htlcs in
            taken d is st now
            (ap (λ q. taken_by (id_of e) about_it q t.queue t.htlcs) out_is
            ∙ ap (λ i. with_outgoing z.key (outgoing.Offered (record { channel = id_of e; id = i })) t.htlcs)
            (ap (command_subject (next_id (Some X))) j.is))
            (offered channel_id_of S (record { links = mid d is st; book = now }) e.channel (read_side X)
            (read_side st.0) (to_mid d is st) fit.sound z m dec unsettled nowhere (id_of e) forwards a
            (ap (λ (q : ChannelEnd). q.dance.log) p.0) (ap (λ (q : ChannelEnd). q.ledger.results) p.0)
            (ap (λ (q : ChannelEnd). q.ledger.decisions) p.0) refl refl refl paid0)
            (ap (λ (q : ChannelEnd). q.ledger.decisions) p.0)
            (kin_changed (is_htlc z.key) (put_outgoing (outgoing.Offered (key_at channel_id_of e.channel a.id)))
            (λ y. record { key = refl; event = refl; mark = refl; decided = refl }) t.htlcs)
            (λ q y i g halted old. elim (among_changed (is_htlc z.key)
            (put_outgoing (outgoing.Offered (key_at channel_id_of e.channel a.id))) g t.htlcs old.there) [
              | inl before ↦
                  (g, record { there = before; key = old.key; decided = old.decided; outgoing = old.outgoing })
              | inr new_one ↦
                  let same_out : ◌≡◌ {A = OutgoingLeg} (outgoing.Offered (key_at channel_id_of e.channel a.id))
                  (outgoing.Offered (key_at channel_id_of y i)) =
                  ap (λ (x : Htlc). x.outgoing) new_one.3 ∙ old.outgoing in
                  let keys : key_at channel_id_of e.channel a.id ≡ key_at channel_id_of y i = cc in
                  let here : e.channel ≡ y = one_id e.channel y (ap (λ (j : Key). j.channel) keys) in
                  absurd (let no : true ≡ false = sym halted ∙ ap (links_of n N).halted (sym here)
                  ∙ awake_now d is st in cc)
            ])
            (changed_later (put_outgoing (outgoing.Offered (key_at channel_id_of e.channel a.id))) (λ y. refl)
            (λ y. refl) (λ y. refl))
            (λ q. subst (λ (y : ChannelEnd). AllName y.dance.log.own) (sym p.0)
            (names_more X.dance.log.own (update.Add a) q names))

    -- one that came in is removed
    removes : is_open z.incoming ≡ true → same (id_of e) z.key.channel ≡ true → o ≡ out.Removing z.key
        → removal_by services z z.mark ≡ Some c → Holds k n U
    removes unsent chan out_is cmd = cases R refl
      where
        j : IsRemoving z.key.id c
        j = removes_so services z c cmd

        proposed_so : IfDone (IsProposed X j.change) R
        proposed_so = of_link k (channel_id_of e.channel) s it (IfDone (IsProposed X j.change)) c
            (proposed (k.signer it.keys) it.halted it.keys it.connection X c j.change j.unnoted (j.row
            (k.signer it.keys) X))

        cases : (q : Result Done Refusal) → R ≡ q → Holds k n U
        cases (Err q) is = refused_by_it q is (steps_now (Err q) is)
            (removal_refused channel_id_of one_id S
            (record { links = links_of n cs; book = refused_by (id_of e) (refusal_number q) o t.htlcs }) refl z m dec
            services c
            unsent cmd (ap (λ p. refused_by (id_of e) (refusal_number q) p t.htlcs) out_is) paid0)
            (subst (λ p. AreKin t.htlcs (refused_by (id_of e) (refusal_number q) p t.htlcs)) (sym out_is)
            (kin_changed (is_htlc z.key) (put_incoming back.RemovalRefused)
            (λ y. record { key = refl; event = refl; mark = refl; decided = refl }) t.htlcs))
            (subst (λ p. OldOffers channel_id_of t.htlcs (refused_by (id_of e) (refusal_number q) p t.htlcs))
            (sym out_is) (offers_changed channel_id_of (is_htlc z.key) (put_incoming back.RemovalRefused)
            (λ y j dec at. (refl, dec, at)) t.htlcs))
            (subst (λ p. AreLater Any t.htlcs (refused_by (id_of e) (refusal_number q) p t.htlcs)) (sym out_is)
            (changed_later (put_incoming back.RemovalRefused) (λ y. refl) (λ y. refl) (λ y. refl)))
        cases (Ok d) is =
            let st = steps_now (Ok d) is in
            let p = at_end (IsProposed X j.change) proposed_so d is in
            let now = with_incoming z.key back.RemovalSent t.htlcs in
            let live = live_so z.key.id c j X p.1 in
            taken d is st now (ap (λ q. taken_by (id_of e) about_it q t.queue t.htlcs) out_is)
            (removed channel_id_of S (record { links = mid d is st; book = now }) e.channel (read_side X)
            (read_side st.0) (to_mid d is st) fit.sound services z m dec unsent chan c cmd j.change
            (told_so z.key.id c j X.dance.log.own live) live (others_so z.key.id c j X.dance.log.own)
            (none_forwards z.key.id c j)
            (ap (λ (q : ChannelEnd). q.dance.log) p.0) (ap (λ (q : ChannelEnd). q.ledger.results) p.0)
            (ap (λ (q : ChannelEnd). q.ledger.decisions) p.0) one_id refl paid0)
            (ap (λ (q : ChannelEnd). q.ledger.decisions) p.0)
            (kin_changed (is_htlc z.key) (put_incoming back.RemovalSent)
            (λ y. record { key = refl; event = refl; mark = refl; decided = refl }) t.htlcs)
            (λ q c i y halted. offers_changed channel_id_of (is_htlc z.key) (put_incoming back.RemovalSent)
            (λ y j dec at. (refl, dec, at)) t.htlcs q c i y)
            (changed_later (put_incoming back.RemovalSent) (λ y. refl) (λ y. refl) (λ y. refl))
            (λ q. subst (λ (y : ChannelEnd). AllName y.dance.log.own) (sym p.0)
            (names_more X.dance.log.own j.change q (λ i. subst Names (sym (j.no_add i)) tt)))

  -- ---- whichever it is

  pub due_takes : IsDue services (id_of e) t.htlcs o c → Holds k n U
  due_takes q = cases (due_by (id_of e) q.htlc o q.due_is)
    where
      cases : IsDueBy (id_of e) q.htlc o → Holds k n U
      cases (Forgets decided settled over is) = forgets q.htlc q.among decided settled over is
          (sym (ap (command_of services q.htlc) is) ∙ q.command)
      cases (Offers decided unsettled nowhere forwards is) = offers q.htlc q.among decided unsettled nowhere forwards is
          (sym (ap (command_of services q.htlc) is) ∙ q.command)
      cases (Removes decided told open_still here is) = removes q.htlc q.among decided open_still here is
          (sym (ap (command_of services q.htlc) is) ∙ q.command)

-- ---- a decision or a resumption that is queued

abbrev pub out_of : Queued → Out
out_of q = (queued_command q).0

abbrev pub command_in : Queued → Command
command_in q = (queued_command q).1

pub queued_books : (q : Queued) → IsBooks (command_in q)
queued_books q = cases q.resumes
  where
    cases : (b : Bool) → IsBooks (cond {A = Out × Command} b (out.Resuming q.event, command.Resume q.event q.mark)
        (out.Deciding q.event, command.Decide q.event q.mark)).1
    cases true = tt
    cases false = tt

pub queued_may : {K : Type 0} (e : End) (d : Dispatchers K) (q : Queued)
    → (q.resumes ≡ false → is_below_next q.event (dispatcher_at e d.dispatchers) ≡ true)
    → is_dispatched e (channel_act.Send (command_in q)) d ≡ true
queued_may e d q h = cases q.resumes refl
  where
    cases : (b : Bool) → q.resumes ≡ b → is_dispatched e (channel_act.Send (cond {A = Out × Command} b
        (out.Resuming q.event, command.Resume q.event q.mark)
        (out.Deciding q.event, command.Decide q.event q.mark)).1) d ≡ true
    cases true is = refl
    cases false is = h is

-- what is queued first is given first
module _ (e : End) (b : Book) (calm : IsCalm b) (q : Queued)
    (found : find (is_queued_in (id_of e)) (table_of b).queue ≡ Some q) (o : Out) (c : Command)
    (first : first_in e b ≡ Some (o, c)) where
  pub queued_given : command_in q ≡ c
  queued_given =
      let given : ◌≡◌ {A = Option (Out × Command)} (Some (queued_command q)) (Some (o, c)) =
      sym (first_is e b calm ∙ ap (λ z. first_of services (id_of e) z (table_of b).htlcs) found) ∙ first in
      let pair : ◌≡◌ {A = Out × Command} (queued_command q) (o, c) = cc in
      ap (λ (z : Out × Command). z.1) pair

  pub queued_there : IsIn q (table_of b).queue × (q.channel ≡ channel_id_of e.channel)
  queued_there =
      let r = found_among (is_queued_in (id_of e)) (table_of b).queue q found in
      (r.0, sym (same_is (id_of e) q.channel r.1))

  pub queued_dispatched : {K : Type 0} (d : Dispatchers K)
      → (q.resumes ≡ false → is_below_next q.event (dispatcher_at e d.dispatchers) ≡ true)
      → is_dispatched e (channel_act.Send c) d ≡ true
  queued_dispatched d below = subst (λ z. is_dispatched e (channel_act.Send z) d ≡ true) queued_given
      (queued_may e d q below)

-- and a link that has halted refuses it
pub halted_queued : {K : Type 0} (k : Ghosts K) (e : End) (v : Verdict) (w : World K) (h : Holds k e.node w) (b : Book)
    → IsCalm b
    → HavePayments channel_id_of (record {
      links = links_of e.node w.dispatchers.channels.channels;
      book = (table_of b).htlcs;
    })
    → HoldAlike channel_id_of (record {
      links = links_of e.node w.dispatchers.channels.channels;
      book = (table_of b).htlcs;
    })
    → IsPast channel_id_of (record {
      links = links_of e.node w.dispatchers.channels.channels;
      book = (table_of b).htlcs;
    })
    → IsOrderly (view_at e.node w.dispatchers.channels.channels w.dispatchers.dispatchers b) → (s : State K)
    → link_in e.node e.channel w.dispatchers.channels.channels ≡ Some s → s.halted ≡ true → (q : Queued)
    → find (is_queued_in (id_of e)) (table_of b).queue ≡ Some q → (o : Out) (c : Command) → first_in e b ≡ Some (o, c)
    → (r : Option ℕ)
    → Holds k e.node (done_by k e v w (Some c) (Some (channel_act.Send c)) r (handed_out e (Some b) w.nodes))
halted_queued k e v w h b calm paid agrees past order s there halted q found o c first r =
    let in_queue = queued_there e b calm q found o c first in
    halted_takes k e v w h b calm paid agrees past order o c
    (subst IsBooks (queued_given e b calm q found o c first) (queued_books q)) first
    (queued_dispatched e b calm q found o c first w.dispatchers
    (λ free. (order.queued e.channel q in_queue.0 in_queue.1 free).0)) s there r halted
