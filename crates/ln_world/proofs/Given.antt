-- A command that a node's book has handed out for an end, and its answer, which the book hears in the same step.
use Rattle.std.proofs.Common.{◌≡◌, ℕ, ◌+◌, ◌<◌, List, drop, length, refl, sym, ap, ◌∙◌}
use Rattle.std.proofs.Common.{subst, arith, Bool, true, false, cond, ◌==◌, ◌&&◌, nat_lt, Option, Some, None, Result, Ok}
use Rattle.std.proofs.Common.{Err}
use Rattle.std.specs.List.{find}
use Rattle.std.proofs.lemmas.Bool.{ltb-true, and_parts}
use Rattle.std.proofs.lemmas.List.{length-drop}
use Rattle.ln_refusals.specs.declared.refusal.Refusal.{Refusal}
use Rattle.ln_refusals.specs.declared.refusal.Refusal.TheVariants as refusal
use Rattle.ln_keys.specs.declared.keys.ChannelKeys.{Ghosts}
use Rattle.ln_hooks.specs.declared.verdict.Verdict.{Verdict}
use Rattle.ln_history.specs.History.{with_entry}
use Rattle.ln_log.specs.declared.mark.Mark.{Mark}
use Rattle.ln_log.specs.declared.update.Update.{Update}
use Rattle.ln_log.specs.declared.update.Update.TheVariants as update
use Rattle.ln_log.specs.Updates.{next_id as next_add}
use Rattle.ln_channel.specs.declared.command.Command.{Command}
use Rattle.ln_channel.specs.declared.command.Command.TheVariants as command
use Rattle.ln_channel.specs.declared.machine.Stage.{Stage}
use Rattle.ln_channel.specs.declared.machine.Stage.TheVariants as stage
use Rattle.ln_channel.specs.Commands.{ledgered, command_row, propose_row}
use Rattle.ln_channel.specs.End.{End as ChannelEnd}
use Rattle.ln_channel.specs.Ledger.{Ledger, first_htlc, is_in_turn, is_of_event, decided_first, marked, decide_row}
use Rattle.ln_channel.specs.Ledger.{most_decided, forgotten}
use Rattle.ln_channel.specs.State.{State}
use Rattle.ln_channel.specs.Step.{Done, commanded, is_of_records}
use Rattle.ln_book_tables.specs.declared.entry.Out.{Out}
use Rattle.ln_book_tables.specs.declared.entry.Queued.{Queued}
use Rattle.ln_book_tables.specs.declared.entry.Entry.TheVariants as entry
use Rattle.ln_book_tables.specs.Replay.{table_of}
use Rattle.ln_book.specs.Commands.{first_at, first_of, is_queued_in, with_taken}
use Rattle.ln_world_channels.specs.declared.step.Act.TheVariants as channel_act
use Rattle.ln_world_channels.specs.declared.step.Node.{Node}
use Rattle.ln_world_channels.specs.declared.step.End.{End}
use Rattle.ln_world_channels.specs.declared.step.Step.TheVariants as channel_step
use Rattle.ln_world_channels.specs.Settings.{channel_id_of}
use Rattle.ln_world_channels.specs.WorldChannel.{WorldChannel, place_of}
use Rattle.ln_world_channels.proofs.Mirror.{link_at}
use Rattle.ln_world_dispatch.specs.World.{is_dispatched}
use Rattle.ln_world_dispatch.specs.World as dispatchers
use Rattle.ln_world.specs.declared.node.NodeBook.{NodeBook}
use Rattle.ln_world.specs.Node.{Book, services, node_at, with_book}
use Rattle.ln_book.specs.Answers.{command_subject, next_id, replied}
use Rattle.ln_world.specs.BookReports.{answer_by, event_count}
use Rattle.ln_world.specs.World.{World, id_of, first_in, handed, handed_out}
use Rattle.ln_payment_circuits.specs.Snapshot.{IsIn}
use Rattle.ln_payment_circuits.proofs.Tidy.{decides_so, resumes_so}
use Rattle.ln_payment_circuits.proofs.Scenes.{HavePayments}
use Rattle.ln_payment_circuits.proofs.Resumed.{HoldAlike}
use Rattle.ln_payment_circuits.proofs.Past.{IsPast}
use Rattle.ln_world.proofs.Plainly.{awake_commanded}
use Rattle.ln_world.proofs.Answering.{RowSteps, IfDone, AtSaved}
use Rattle.ln_world.proofs.Moving.{row_of}
use Rattle.ln_world.proofs.Scene.{link_in}
use Rattle.ln_world.proofs.Lost.{place, link_is}
use Rattle.ln_world.proofs.Books.{own_book, IsAlike}
use Rattle.ln_world.proofs.PendingCommands.{IsCalm, IsSure, Turned, book_turned}
use Rattle.ln_world.proofs.Wells.{book_in}
use Rattle.ln_world.proofs.Keeping.{Holds}
use Rattle.ln_world.proofs.Ends.{IsLink}
use Rattle.ln_world.proofs.Refusing.{IfErr, IsCertain, IsBooks, certain}
use Rattle.ln_world.proofs.Obeyed.{by_row, told_so, proposed, noted, IsProposed, IsNoted}
use Rattle.ln_world.proofs.Hearing.{hears_none}
use Rattle.ln_world.proofs.Acting.{done_by, lines_of, turn, ds, x, y, act_channels, act_book, act_later}
use Rattle.ln_world.proofs.Acting.{concludes, past_now, OffersAwake}
use Rattle.ln_world.proofs.Acting.{refused_sides}
use Rattle.ln_log.specs.declared.mark.Decision.{Decision}
use Rattle.ln_book_tables.specs.declared.htlc.Htlc.{Htlc}
use Rattle.ln_world_dispatch.specs.World.{decided_of}
use Rattle.ln_world.specs.World.{saved_of}
use Rattle.ln_world.proofs.Books.{itself}
use Rattle.ln_world.proofs.PendingCommands.{turned_htlcs, turned_queue}
use Rattle.ln_world.proofs.Scene.{links_of}
use Rattle.ln_world.proofs.Same.{same_paid}
use Rattle.ln_world.proofs.Doing.{Turns, kin_agrees}
use Rattle.ln_world.proofs.Hearing.{AreKin}
use Rattle.ln_world.proofs.Orderly.{OneLater, View, IsOrderly, AreLater, WaitsAt, AllName, view_at, below_in, told_in}
use Rattle.ln_world.proofs.Orderly.{order_known, dispatchers_stay}

-- ---- such a command tells no new event

-- an event is decided where there is one
pub some_undecided : (event : ℕ) (m : Mark) (htlc : Option ℕ) (g n : Ledger) → decide_row event m htlc g ≡ Ok n
    → 0 < length g.undecided
some_undecided event m htlc g n = cases (is_in_turn event g && is_of_event event m) refl
  where
    cases : (b : Bool) → (is_in_turn event g && is_of_event event m) ≡ b
        → cond b (decided_first (marked m htlc g)) (Err refusal.NotReady) ≡ Ok n → 0 < length g.undecided
    cases true is f =
        let p = and_parts (is_in_turn event g) (is_of_event event m) is in
        let q = and_parts (event == g.decided) (nat_lt event most_decided && nat_lt 0 (length g.undecided)) p.0 in
        let r = and_parts (nat_lt event most_decided) (nat_lt 0 (length g.undecided)) q.1 in
        ltb-true 0 (length g.undecided) r.1
    cases false is f = absurd (cc)

note_counts : (c : Command) (e : ChannelEnd) (g : Ledger) → ledgered c e ≡ Ok g
    → g.decided + length g.undecided ≡ e.ledger.decided + length e.ledger.undecided
note_counts (command.Decide event m) e g is =
    let htlc = first_htlc e.dance.log e.ledger.undecided in
    let d = decides_so event m htlc e.ledger g is in
    let some = some_undecided event m htlc e.ledger g is in
    let more = d.decided in
    let less : length g.undecided ≡ length (drop 1 e.ledger.undecided) = ap length d.undecided in
    let one = length-drop 1 e.ledger.undecided in
    omega (arith, some, more, less, one)
note_counts (command.Forget i) e g is =
    let same : forgotten i e.ledger ≡ g = cc in ap (λ (z : Ledger). z.decided + length z.undecided) (sym same)
note_counts (command.Resume event m) e g is =
    ap (λ (z : Ledger). z.decided + length z.undecided) (resumes_so event m e.ledger g is).is
note_counts (command.Confirm i) e g is = absurd (cc)
note_counts (command.Add amount hash expiry onion origin) e g is = absurd (cc)
note_counts (command.Fulfil i preimage) e g is = absurd (cc)
note_counts (command.Fail i reason) e g is = absurd (cc)
note_counts (command.Malformed i sha code) e g is = absurd (cc)
note_counts (command.Fee feerate) e g is = absurd (cc)
note_counts command.Sign e g is = absurd (cc)
note_counts (command.Shutdown script) e g is = absurd (cc)

abbrev pub Counts : ChannelEnd → ChannelEnd → Type 0
Counts x f = event_count (Some f) ≡ event_count (Some x)

if_done : (P Q : ChannelEnd → Type 0) → ((f : ChannelEnd) → P f → Q f) → (r : Result Done Refusal) → IfDone P r
    → IfDone Q r
if_done P Q to (Err r) h = tt
if_done P Q to (Ok d) h = cases d.stage h
  where
    cases : (s : Stage) → AtSaved P s → AtSaved Q s
    cases (stage.Funded f) p = to f p
    cases (stage.AwaitsOpen c) p = absurd p
    cases (stage.AwaitsAccept c) p = absurd p
    cases (stage.AwaitsCreated c) p = absurd p
    cases (stage.AwaitsSigned c) p = absurd p
    cases stage.Gone p = absurd p

module _ {K : Type 0} (k : Ghosts K) (id : List ℕ) (s : State K) (mine : IsLink id s) where
  -- it is at this end
  abbrev pub row : Command → Result Done Refusal
  row c = commanded (k.signer s.keys) s c

  pub of_link : (P : Result Done Refusal → Type 0) (c : Command)
      → P (commanded (k.signer mine.keys) (link_at mine.halted mine.keys mine.connection mine.end) c) → P (row c)
  of_link P c h = subst (λ (z : State K). P (commanded (k.signer z.keys) z c)) (sym mine.link) h

  update_counts : (c : Command) (u : Update) → is_of_records c ≡ false
      → command_row (k.signer mine.keys) c mine.end
      ≡ propose_row u mine.end → IfDone (Counts mine.end) (row c)
  update_counts c u isnt is = of_link (IfDone (Counts mine.end)) c
      (if_done (IsProposed mine.end u) (Counts mine.end)
      (λ f p. ap (λ z. event_count (Some z)) p.0)
      (commanded (k.signer mine.keys) (link_at mine.halted mine.keys mine.connection mine.end) c)
      (proposed (k.signer mine.keys) mine.halted mine.keys mine.connection mine.end c u isnt is))

  note_counts_so : (c : Command) → is_of_records c ≡ true → IfDone (Counts mine.end) (row c)
  note_counts_so c is = of_link (IfDone (Counts mine.end)) c
      (if_done (IsNoted mine.end c) (Counts mine.end)
      (λ f p. ap (λ z. event_count (Some z)) p.2 ∙ note_counts c mine.end p.0 p.1)
      (commanded (k.signer mine.keys) (link_at mine.halted mine.keys mine.connection mine.end) c)
      (noted (k.signer mine.keys) mine.halted mine.keys mine.connection mine.end c is))

  pub counts_so : (c : Command) → IsBooks c → IfDone (Counts mine.end) (row c)
  counts_so (command.Add amount hash expiry onion origin) b =
      update_counts (command.Add amount hash expiry onion origin) (update.Add (record {
        id = next_add mine.end.dance.log.own;
        amount = amount;
        hash = hash;
        expiry = expiry;
        onion = onion;
        origin = origin;
      })) refl refl
  counts_so (command.Fulfil i preimage) b =
      update_counts (command.Fulfil i preimage) (update.Fulfil (record { id = i; preimage = preimage })) refl refl
  counts_so (command.Fail i reason) b =
      update_counts (command.Fail i reason) (update.Fail (record { id = i; reason = reason })) refl refl
  counts_so (command.Malformed i sha code) b = update_counts (command.Malformed i sha code)
      (update.Malformed (record { id = i; sha256_of_onion = sha; failure_code = code })) refl refl
  counts_so (command.Decide event m) b = note_counts_so (command.Decide event m) refl
  counts_so (command.Forget i) b = note_counts_so (command.Forget i) refl
  counts_so (command.Resume event m) b = note_counts_so (command.Resume event m) refl
  counts_so (command.Confirm i) b = absurd b
  counts_so (command.Fee feerate) b = absurd b
  counts_so command.Sign b = absurd b
  counts_so (command.Shutdown script) b = absurd b

  -- its answer says whether it was taken
  pub sure_so : (c : Command) → IsBooks c → (i : ℕ) → IsSure (by_row i (row c))
  sure_so c b i =
      cases (row c) (of_link (IfErr IsCertain) c (certain (k.signer mine.keys) mine.halted mine.keys mine.connection
      mine.end c
      b))
    where
      cases : (r : Result Done Refusal) → IfErr IsCertain r → IsSure (by_row i r)
      cases (Ok d) h = tt
      cases (Err r) h = h

-- ---- in a world

-- which command is the first
pub first_is : (e : End) (b : Book) → IsCalm b
    → first_in e b ≡ first_of services (id_of e) (find (is_queued_in (id_of e)) (table_of b).queue) (table_of b).htlcs
first_is e b calm = ap (λ d. first_at services (id_of e) d (table_of b)) (calm (id_of e))

module _ {K : Type 0} (k : Ghosts K) (e : End) (v : Verdict) (w : World K) (h : Holds k e.node w) (b0 : Book)
    (calm0 : IsCalm b0)
    (o : Out) (c : Command) (books : IsBooks c) (first : first_in e b0 ≡ Some (o, c))
    (may : is_dispatched e (channel_act.Send c) w.dispatchers ≡ true) (s : State K)
    (there : link_in e.node e.channel w.dispatchers.channels.channels ≡ Some s) (r : Option ℕ) where
  abbrev pub n : Node
  n = e.node

  abbrev pub cs : List (WorldChannel K)
  cs = w.dispatchers.channels.channels

  abbrev pub mine : IsLink (channel_id_of e.channel) s
  mine = link_is k.signer n cs h.well.open_ e.channel s there

  abbrev pub answer_row : Result Done Refusal
  answer_row = row k (channel_id_of e.channel) s mine c

  pub row_is : row_of k.signer (channel_act.Send c) (place_of (place n e.channel cs s there).side
      (place n e.channel cs s there).found.both) ≡ Some answer_row
  row_is = ap (λ (z : State K). Some (commanded (k.signer z.keys) z c)) (sym (place n e.channel cs s there).link)

  abbrev pub x0 : ChannelEnd
  x0 = x k e v w h.well.open_ (channel_act.Send c) may s there answer_row row_is

  abbrev pub y0 : ChannelEnd
  y0 = y k e v w h.well.open_ (channel_act.Send c) may s there answer_row row_is

  abbrev pub new : List (WorldChannel K)
  new = ds k e v w h.well.open_ (channel_act.Send c) may s there answer_row row_is

  abbrev pub then : World K
  then = done_by k e v w (Some c) (Some (channel_act.Send c)) r (handed_out e (Some b0) w.nodes)

  abbrev pub answer : Result ℕ ℕ
  answer = by_row (command_subject (next_id (Some x0)) c) answer_row

  abbrev taken : Book
  taken = with_entry (entry.Taken (id_of e) o) b0

  -- the book then
  abbrev pub book_now : Book
  book_now = replied (id_of e) answer taken

  pub turned : Turned (id_of e) answer o (table_of b0) (table_of book_now)
  turned = book_turned (id_of e) answer o b0
      (sure_so k (channel_id_of e.channel) s mine c books (command_subject (next_id (Some x0)) c)) calm0

  counts : event_count (Some y0) ≡ event_count (Some x0)
  counts = cases answer_row (turn k e v w h.well.open_ (channel_act.Send c) may s there answer_row row_is).steps
      (counts_so k (channel_id_of e.channel) s mine c books)
    where
      cases : (q : Result Done Refusal) → RowSteps x0 y0 q → IfDone (Counts x0) q
          → event_count (Some y0) ≡ event_count (Some x0)
      cases (Err q) same d = ap (λ z. event_count (Some z)) same
      cases (Ok d) t p = ap (λ z. event_count (Some z)) t.3 ∙ subst (AtSaved (Counts x0)) t.1 p

  told_now : answer_by (command_subject (next_id (Some x0)) c) (lines_of k e v w (channel_act.Send c)) ≡ answer
  told_now =
      ap (λ t. answer_by (command_subject (next_id (Some x0)) c)
      (dispatchers.lines_by k (cond t (Some (channel_step.Do e (channel_act.Send c))) None) w.dispatchers.channels)) may
      ∙ told_so k e w.dispatchers.channels s (place n e.channel cs s there) c (command_subject (next_id (Some x0)) c)

  pub given_alike : IsAlike book_now (book_in n then)
  given_alike =
      let xs = handed_out e (Some b0) w.nodes in
      let hand : (node_at n xs).book ≡ taken =
      ap (λ (z : NodeBook). z.book) (own_book (with_book (handed e b0)) (λ z. refl) n w.nodes)
      ∙ ap (λ f. with_taken (id_of e) f b0) first in
      subst (λ z. IsAlike z (book_in n then))
      (hears_none (id_of e) x0 y0
      (replied (id_of e) (answer_by (command_subject (next_id (Some x0)) c) (lines_of k e v w (channel_act.Send c)))
      (node_at n xs).book)
      counts
      ∙ ap (λ a. replied (id_of e) a (node_at n xs).book) told_now ∙ ap (replied (id_of e) answer) hand)
      (act_book k e v w h.well.open_ (channel_act.Send c) may s there answer_row row_is (Some c) r xs)

  -- ---- what is kept

  abbrev pub view_now : View
  view_now = record {
    links = links_of n new;
    decided = λ d. decided_of (saved_of (link_in n d new));
    below = below_in n w.dispatchers.dispatchers;
    told = told_in n w.dispatchers.dispatchers;
    queue = turned_queue (id_of e) answer o (table_of b0);
    htlcs = turned_htlcs (id_of e) answer o (table_of b0);
  }

  pub given_holds : HavePayments channel_id_of (record {
    links = links_of n new;
    book = turned_htlcs (id_of e) answer o
        (table_of b0);
  })
      → HoldAlike channel_id_of (record {
        links = links_of n new;
        book = turned_htlcs (id_of e) answer o
            (table_of b0);
      })
      → IsPast channel_id_of (record { links = links_of n new; book = turned_htlcs (id_of e) answer o (table_of b0) })
      → IsOrderly view_now → Holds k n then
  given_holds paid agrees past order =
      concludes k e v w h.well.open_ (channel_act.Send c) may s there answer_row row_is then
      (act_channels k e v w h.well.open_ (channel_act.Send c) may s there answer_row row_is) refl book_now given_alike
      h.well.small turned.calm
      (subst (λ hs. HavePayments channel_id_of (record { links = links_of n new; book = hs })) (sym turned.htlcs) paid)
      (subst (λ hs. HoldAlike channel_id_of (record { links = links_of n new; book = hs })) (sym turned.htlcs) agrees)
      (subst (λ hs. IsPast channel_id_of (record { links = links_of n new; book = hs })) (sym turned.htlcs) past)
      (subst (λ hs. IsOrderly (record view_now { queue = (table_of book_now).queue; htlcs = hs })) (sym turned.htlcs)
      (subst (λ qs. IsOrderly (record view_now { queue = qs })) (sym turned.queue) order))

  abbrev pub turn_now : Turns k.signer n n (itself n) cs h.well.open_ e.channel (channel_act.Send c) s there answer_row
  turn_now = turn k e v w h.well.open_ (channel_act.Send c) may s there answer_row row_is

  -- where the end stays as it was
  pub refused_paid : y0 ≡ x0 → (hs : List Htlc) → HavePayments channel_id_of
      (record { links = links_of n cs; book = hs })
      → HavePayments channel_id_of (record { links = links_of n new; book = hs })
  refused_paid same hs = same_paid channel_id_of (record { links = links_of n cs; book = hs })
      (record { links = links_of n new; book = hs }) (record {
        sides = refused_sides k e v w h.well.open_ (channel_act.Send c) may s there answer_row row_is same;
        halted = turn_now.changed.halted;
        book = refl;
      })

  -- where links that have halted offer nothing new
  pub past_then : (xs ys : List Htlc) → OffersAwake (links_of n new) xs ys
      → IsPast channel_id_of (record { links = links_of n cs; book = xs })
      → IsPast channel_id_of (record { links = links_of n new; book = ys })
  past_then = past_now k e v w h.well.open_ (channel_act.Send c) may s there answer_row row_is
      (λ d is. awake_commanded (k.signer s.keys) s c d is)

  -- where its decisions are among those that there were
  pub agrees_now : ((d : Decision) → IsIn d y0.ledger.decisions → IsIn d x0.ledger.decisions) → (xs ys : List Htlc)
      → AreKin xs ys → HoldAlike channel_id_of (record { links = links_of n cs; book = xs })
      → HoldAlike channel_id_of (record { links = links_of n new; book = ys })
  agrees_now fewer xs ys kin =
      kin_agrees e.channel x0 y0 (links_of n cs) (links_of n new) xs ys turn_now.changed fewer kin

  pub later_now : (AllName x0.dance.log.own → AllName y0.dance.log.own) → (d : ℕ)
      → OneLater (link_in n d cs) (link_in n d new)
  later_now names = act_later k e v w h.well.open_ (channel_act.Send c) may s there answer_row row_is names

  -- the book as it was, but for what was entered in this step
  pub order_now : (AllName x0.dance.log.own → AllName y0.dance.log.own) → (Known : Htlc → Type 0) (b : Book)
      → ((q : Queued) → IsIn q (turned_queue (id_of e) answer o (table_of b0)) → IsIn q (table_of b).queue)
      → AreLater Known (table_of b).htlcs (turned_htlcs (id_of e) answer o (table_of b0))
      → ((d : ℕ) (z : Htlc) → IsIn z (table_of b).htlcs → z.key.channel ≡ channel_id_of d
      → WaitsAt (view_at n cs w.dispatchers.dispatchers b) d z
      → decided_of (saved_of (link_in n d new)) ≡ decided_of (saved_of (link_in n d cs)) → Known z)
      → IsOrderly (view_at n cs w.dispatchers.dispatchers b) → IsOrderly view_now
  order_now names Known b queue later known order =
      let links = act_later k e v w h.well.open_ (channel_act.Send c) may s there answer_row row_is names in
      order_known Known (view_at n cs w.dispatchers.dispatchers b) view_now
      (λ d. ((links d).decided, (links d).names)) queue later (dispatchers_stay n w.dispatchers.dispatchers) known order
