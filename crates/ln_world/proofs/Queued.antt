-- An end that works takes a decision, or a resumption, that its node's book has queued for it.
use Rattle.std.proofs.Common.{◌≡◌, ◌⊎◌, inl, inr, ℕ, ◌+◌, ◌≤◌, ◌<◌, List, [], ◌∷◌, ◌++◌, take, filter, refl, sym, ap}
use Rattle.std.proofs.Common.{◌∙◌, subst, arith}
use Rattle.std.proofs.Common.{Bool, true, false, cond, not, ◌==◌, ◌&&◌, nat_lt, Option, Some, None, Result, Ok, Err}
use Rattle.std.specs.List.{find}
use Rattle.std.proofs.lemmas.Bool.{eqb-true, eq-eqb, lt-ltb, and_parts}
use Rattle.ln_refusals.specs.declared.refusal.Refusal.{Refusal}
use Rattle.ln_keys.specs.declared.keys.ChannelKeys.{Ghosts}
use Rattle.ln_hooks.specs.declared.verdict.Verdict.{Verdict}
use Rattle.ln_log.specs.declared.mark.Decision.{Decision as LogDecision}
use Rattle.ln_log.specs.declared.mark.Mark.{Mark as LogMark}
use Rattle.ln_log.specs.declared.mark.Mark.TheVariants as mark
use Rattle.ln_log.specs.Mark.{is_held_by}
use Rattle.ln_log.specs.Updates.{is_live, next_id as next_add}
use Rattle.ln_channel.specs.declared.command.Command.TheVariants as command
use Rattle.ln_channel.specs.Base.{based, is_open as is_open_decision, entering}
use Rattle.ln_channel.specs.End.{End as ChannelEnd}
use Rattle.ln_channel.specs.Ledger.{Ledger, first_htlc, most_decided, with_mark as marked_decisions}
use Rattle.ln_channel.specs.Record.{saved_end}
use Rattle.ln_channel.specs.State.{State}
use Rattle.ln_channel.specs.Step.{Done}
use Rattle.ln_book_tables.specs.declared.htlc.Htlc.{Htlc}
use Rattle.ln_book_tables.specs.declared.htlc.Key.{Key}
use Rattle.ln_book_tables.specs.declared.htlc.OutgoingLeg.{OutgoingLeg}
use Rattle.ln_book_tables.specs.declared.htlc.OutgoingLeg.TheVariants as outgoing
use Rattle.ln_book_tables.specs.declared.entry.Out.TheVariants as out
use Rattle.ln_book_tables.specs.declared.entry.Queued.{Queued}
use Rattle.ln_book_tables.specs.Replay.{Table, table_of, same, same_key, is_htlc, is_told, is_undecided, is_resumed}
use Rattle.ln_book_tables.specs.Replay.{is_held_in}
use Rattle.ln_book_tables.specs.Replay.{is_over, changed_first, left_out, htlc_of, decide, with_mark, put_mark}
use Rattle.ln_book_tables.specs.Replay.{resumed_by}
use Rattle.ln_book.specs.Rebuild.{no_event}
use Rattle.ln_book.specs.Commands.{is_queued_in}
use Rattle.ln_world_channels.specs.declared.step.Node.{Node}
use Rattle.ln_world_channels.specs.declared.step.End.{End}
use Rattle.ln_world_channels.specs.Settings.{channel_id_of}
use Rattle.ln_world_channels.specs.WorldChannel.{WorldChannel}
use Rattle.ln_world_dispatch.specs.Dispatcher.{dispatcher_at}
use Rattle.ln_world_dispatch.specs.World.{is_below_next, decided_of}
use Rattle.ln_world.specs.Node.{Book}
use Rattle.ln_world.specs.World.{World, id_of, first_in, saved_of}
use Rattle.ln_payment.specs.Parts.{Mark, Note, Undecided}
use Rattle.ln_payment_circuits.specs.Snapshot.{Incoming, IsIn, IsFit, NonePasses, is_gone, key_at, key_of, origin}
use Rattle.ln_payment_circuits.proofs.Links.{Side, Links, Changed, decision_at, decision_by, has_mark, mark_as}
use Rattle.ln_payment_circuits.proofs.Lists.{of_picked, picked, left_turn}
use Rattle.ln_payment_circuits.proofs.Held.{among_last, some_held, found_of}
use Rattle.ln_payment_circuits.proofs.Waiting.{waiting_ids}
use Rattle.ln_payment_circuits.proofs.Shifts.{side_of as read_side, IsTidy}
use Rattle.ln_payment_circuits.proofs.Tidy.{Decides, decides_so, resumes_so, none_decided, none_in_base}
use Rattle.ln_payment_circuits.proofs.Entries.{same_is, is_key, IsEntry, AreEntries, HasEntry}
use Rattle.ln_payment_circuits.proofs.Scenes.{Scene, HavePayments, by_moves}
use Rattle.ln_payment_circuits.proofs.Resumed.{HoldAlike, resumed, agrees_resumed}
use Rattle.ln_payment_circuits.proofs.Agrees.{agrees_taken}
use Rattle.ln_payment_circuits.proofs.Past.{IsPast, OldOffers, offers_same, offers_left, offers_changed, offers_then}
use Rattle.ln_payment_circuits.proofs.Past.{offers_as}
use Rattle.ln_payment_circuits.proofs.Answers.{decided_waiting, taken_unheard, decided_or_old, waited}
use Rattle.ln_payment_circuits.proofs.Halts.{no_note}
use Rattle.ln_payment_circuits.proofs.Moments.{first_kept}
use Rattle.ln_world.proofs.Answering.{RowSteps, IfDone, AtSaved}
use Rattle.ln_world.proofs.Scene.{link_in, links_of, either}
use Rattle.ln_world.proofs.Lost.{link_is, side_is}
use Rattle.ln_world.proofs.PendingCommands.{IsCalm}
use Rattle.ln_world.proofs.Same.{IsSame, same_paid, one_id}
use Rattle.ln_world.proofs.Ends.{IsLink}
use Rattle.ln_world.proofs.Doing.{saved_paid, is_saved, kin_agrees}
use Rattle.ln_world.proofs.Orderly.{IsOrderly, IsNext, IsDated, AreLater, Any, WaitsAt, view_at, end_at, told_in}
use Rattle.ln_world.proofs.Orderly.{told_by}
use Rattle.ln_world.proofs.Orderly.{AllName}
use Rattle.ln_world.proofs.Orderly.{later_same, later_left, later_changed, later_then}
use Rattle.ln_world.proofs.Keeping.{Holds}
use Rattle.ln_world.proofs.Hearing.{kin_left}
use Rattle.ln_world.proofs.Obeyed.{noted, IsNoted}
use Rattle.ln_world.proofs.Given.{new, y0, then, answer_row, turn_now, of_link}
use Rattle.ln_world.proofs.Dispatched.{Ran, first_told}
use Rattle.ln_world.proofs.Taking.{kept_with, refused_by_it, same_kin}
use Rattle.ln_world.proofs.Taking as taking

-- ---- lists

none_change : (p : Htlc → Bool) (f : Htlc → Htlc) (xs : List Htlc) → find p xs ≡ None → changed_first p f xs ≡ xs
none_change p f [] e = refl
none_change p f (y ∷ xs) e = cases (p y) e (none_change p f xs)
  where
    cases : (b : Bool) → cond b (Some y) (find p xs) ≡ None → (find p xs ≡ None → changed_first p f xs ≡ xs)
        → cond b (f y ∷ xs) (y ∷ changed_first p f xs) ≡ y ∷ xs
    cases true e rest = absurd (cc)
    cases false e rest = ap (λ zs. y ∷ zs) (rest e)

-- what isn't found isn't there
not_found : {A : Type 0} (p : A → Bool) (xs : List A) → find p xs ≡ None → (x : A) → IsIn x xs → p x ≡ true → ⊥
not_found p [] e x m hit = m
not_found p (y ∷ xs) e x m hit = cases (p y) refl e m (λ f k. not_found p xs f x k hit)
  where
    cases : (b : Bool) → p y ≡ b → cond b (Some y) (find p xs) ≡ None → IsIn x (y ∷ xs)
        → (find p xs ≡ None → IsIn x xs → ⊥) → ⊥
    cases true at f k rest = absurd (cc)
    cases false at f (inl is) rest = absurd (let no : true ≡ false = sym hit ∙ sym (ap p is) ∙ at in cc)
    cases false at f (inr k) rest = rest f k

found_there : {A : Type 0} (p : A → Bool) (xs : List A) (x : A) → find p xs ≡ Some x → IsIn x xs × (p x ≡ true)
found_there p [] x e = absurd (cc)
found_there p (y ∷ xs) x e = cases (p y) refl e (found_there p xs x)
  where
    cases : (b : Bool) → p y ≡ b → cond b (Some y) (find p xs) ≡ Some x
        → (find p xs ≡ Some x → IsIn x xs × (p x ≡ true)) → IsIn x (y ∷ xs) × (p x ≡ true)
    cases true at f rest = let same_one : y ≡ x = cc in (inl same_one, ap p (sym same_one) ∙ at)
    cases false at f rest = let r = rest f in (inr r.0, r.1)

none_other : (p q : Htlc → Bool) (xs : List Htlc) → ((x : Htlc) → IsIn x xs → p x ≡ true → q x ≡ true)
    → NonePasses (λ x. p x && not (q x)) xs
none_other p q [] h = tt
none_other p q (x ∷ xs) h = (cases (p x) refl, none_other p q xs (λ y m. h y (inr m)))
  where
    cases : (b : Bool) → p x ≡ b → (b && not (q x)) ≡ false
    cases true e = ap not (h x (inl refl) e)
    cases false e = refl

-- ---- what isn't decided goes: no payment has a part in it

gone_entry : (u : Htlc → Bool) → ((y : Htlc) → u y ≡ true → y.decided ≡ false) → (ys : List Htlc) (o : Option Note)
    → AreEntries channel_id_of ys o → AreEntries channel_id_of (left_out u ys) o
gone_entry u undecided [] o k = k
gone_entry u undecided (y ∷ z ∷ ys) o k = absurd k
gone_entry u undecided (y ∷ []) o k = cases (u y) refl o k
  where
    cases : (t : Bool) → u y ≡ t → (o : Option Note) → IsEntry channel_id_of y o
        → AreEntries channel_id_of (cond (not t) (y ∷ []) []) o
    cases false is o k = k
    cases true is None k = refl
    cases true is (Some n) k = absurd (let no : true ≡ false = sym k.0 ∙ undecided y is in cc)

gone_paid : (u : Htlc → Bool) → ((y : Htlc) → u y ≡ true → y.decided ≡ false) → (l : Links) (hs : List Htlc)
    → HavePayments channel_id_of (record { links = l; book = hs })
    → HavePayments channel_id_of (record { links = l; book = left_out u hs })
gone_paid u undecided l hs k q = by_moves channel_id_of q (record { links = l; book = left_out u hs }) (k q).0
    ((k q).1.kept, (k q).1.holds) [] tt (k q).1.of_links
    (subst (λ ys. AreEntries channel_id_of ys (k q).0.note)
    (sym (left_turn u (is_htlc (key_of channel_id_of q)) hs))
    (gone_entry u undecided (filter (is_htlc (key_of channel_id_of q)) hs) (k q).0.note (k q).1.note))

-- ---- what resumes

-- of what is queued for a channel, the first that resumes what is held by this event, where it is the first of all
pub first_resumed : (c : List ℕ) (qs : List Queued) (q : Queued) → find (is_queued_in c) qs ≡ Some q
    → q.resumes ≡ true → find (is_resumed c q.event) qs ≡ Some q
first_resumed c [] q e r = absurd (cc)
first_resumed c (x ∷ qs) q e r = cases (same c x.channel) refl e (λ f. first_resumed c qs q f r)
  where
    never : (a : Bool) → (a && (false && x.resumes)) ≡ false
    never true = refl
    never false = refl

    cases : (b : Bool) → same c x.channel ≡ b → cond b (Some x) (find (is_queued_in c) qs) ≡ Some q
        → (find (is_queued_in c) qs ≡ Some q → find (is_resumed c q.event) qs ≡ Some q)
        → cond (is_resumed c q.event x) (Some x) (find (is_resumed c q.event) qs) ≡ Some q
    cases true at f rest =
        let same_one : x ≡ q = cc in
        let hit : is_resumed c q.event x ≡ true =
        ap (λ (z : Queued). (q.event == z.event) && (same c x.channel && z.resumes)) same_one
        ∙ ap (λ b. b && (same c x.channel && q.resumes)) (eq-eqb q.event q.event refl)
        ∙ ap (λ b. b && q.resumes) at ∙ r in
        ap (λ b. cond b (Some x) (find (is_resumed c q.event) qs)) hit ∙ ap (λ z. Some z) same_one
    cases false at f rest = ap (λ b. cond b (Some x) (find (is_resumed c q.event) qs))
        (ap (λ b. (q.event == x.event) && (b && x.resumes)) at ∙ never (q.event == x.event)) ∙ rest f

module _ {K : Type 0} (k : Ghosts K) (e : End) (v : Verdict) (w : World K) (h : Holds k e.node w) (b : Book)
    (calm : IsCalm b)
    (paid0 : HavePayments channel_id_of (record {
      links = links_of e.node w.dispatchers.channels.channels;
      book = (table_of b).htlcs;
    }))
    (agrees0 : HoldAlike channel_id_of (record {
      links = links_of e.node w.dispatchers.channels.channels;
      book = (table_of b).htlcs;
    }))
    (past0 : IsPast channel_id_of (record {
      links = links_of e.node w.dispatchers.channels.channels;
      book = (table_of b).htlcs;
    }))
    (order0 : IsOrderly (view_at e.node w.dispatchers.channels.channels w.dispatchers.dispatchers b))
    (s : State K) (there : link_in e.node e.channel w.dispatchers.channels.channels ≡ Some s)
    (awake : s.halted ≡ false) (i : ℕ) (m : LogMark) (j : Option ℕ) where
  abbrev n : Node
  n = e.node

  abbrev cs : List (WorldChannel K)
  cs = w.dispatchers.channels.channels

  abbrev t : Table
  t = table_of b

  abbrev S : Scene
  S = record { links = links_of n cs; book = t.htlcs }

  abbrev it : IsLink (channel_id_of e.channel) s
  it = link_is k.signer n cs h.well.open_ e.channel s there

  abbrev X : ChannelEnd
  X = (link_is k.signer n cs h.well.open_ e.channel s there).end

  fit : IsFit X
  fit = it.is.fit

  tidy : IsTidy X
  tidy = it.is.keeps.tidy

  side_was : (links_of n cs).sides e.channel ≡ Some (read_side X)
  side_was = side_is k.signer n cs h.well.open_ e.channel s there

  saved_was : saved_of (Some s) ≡ Some X
  saved_was = ap (λ (z : State K). saved_end z.stage) it.link

  count_was : decided_of (saved_of (link_in n e.channel cs)) ≡ X.ledger.decided
  count_was = ap (λ o. decided_of (saved_of o)) there ∙ ap decided_of saved_was

  -- ---- a decision

  module _ (ran : Ran k w) (first : first_in e b ≡ Some (out.Deciding i, command.Decide i m))
      (below : is_below_next i (dispatcher_at e w.dispatchers.dispatchers) ≡ true)
      (marks : (y : Htlc) → IsIn y t.htlcs → y.key.channel ≡ channel_id_of e.channel → y.event ≡ i
      → y.decided ≡ false → y.mark ≡ m) where
    abbrev N : List (WorldChannel K)
    N = new k e v w h b calm (out.Deciding i) (command.Decide i m) tt first below s there j

    abbrev Y : ChannelEnd
    Y = y0 k e v w h b calm (out.Deciding i) (command.Decide i m) tt first below s there j

    abbrev R : Result Done Refusal
    R = answer_row k e v w h b calm (out.Deciding i) (command.Decide i m) tt first below s there j

    abbrev U : World K
    U = then k e v w h b calm (out.Deciding i) (command.Decide i m) tt first below s there j

    abbrev told : Htlc → Bool
    told = is_told (id_of e) i

    -- it is refused
    refused : (f : Refusal) → R ≡ Err f → Y ≡ X → Holds k n U
    refused f is same_end = refused_by_it k e v w h b calm paid0 agrees0 past0 order0 (out.Deciding i)
        (command.Decide i m) tt
        first below s there j f is same_end (gone_paid u undecided (links_of n cs) t.htlcs paid0)
        (kin_left u t.htlcs) (offers_left channel_id_of u t.htlcs) (later_left Any u t.htlcs)
      where
        u : Htlc → Bool
        u = is_undecided (id_of e) i

        undecided : (y : Htlc) → u y ≡ true → y.decided ≡ false
        undecided y hit = by_not y.decided (and_parts (told y) (not y.decided) hit).1
          where
            by_not : (z : Bool) → not z ≡ true → z ≡ false
            by_not true e = absurd (cc)
            by_not false e = refl

    -- ---- it is taken

    module _ (dn : Done) (is : R ≡ Ok dn) (st : RowSteps X Y (Ok dn)) (p : IsNoted X (command.Decide i m) st.0) where
      abbrev f : ChannelEnd
      f = st.0

      abbrev l : Ledger
      l = p.0

      dec : Decides X.ledger l i m (first_htlc X.dance.log X.ledger.undecided)
      dec = decides_so i m (first_htlc X.dance.log X.ledger.undecided) X.ledger l p.1

      g : Changed (origin channel_id_of) e.channel (read_side X) (read_side (based f)) (links_of n cs) (links_of n N)
      g = taking.g k e v w h b calm paid0 agrees0 past0 order0 (out.Deciding i) (command.Decide i m) tt first below s
          there j dn is st

      abbrev mid : Links
      mid = taking.mid k e v w h b calm paid0 agrees0 past0 order0 (out.Deciding i) (command.Decide i m) tt first
          below s there j dn is st

      to_mid : Changed (origin channel_id_of) e.channel (read_side X) (read_side f) (links_of n cs) mid
      to_mid = taking.to_mid k e v w h b calm paid0 agrees0 past0 order0 (out.Deciding i) (command.Decide i m) tt
          first below s there j dn is st

      same_log : f.dance.log ≡ X.dance.log
      same_log = ap (λ (z : ChannelEnd). z.dance.log) p.2

      same_results : f.ledger.results ≡ X.ledger.results
      same_results = ap (λ (z : ChannelEnd). z.ledger.results) p.2 ∙ dec.results

      le : f.dance.log.first.own ≤ f.dance.log.current.own
      le = first_kept X f fit st.2

      names : AllName X.dance.log.own → AllName Y.dance.log.own
      names a = subst (λ (z : ChannelEnd). AllName z.dance.log.own) (sym st.3)
          (subst (λ (z : ChannelEnd). AllName z.dance.log.own) (sym p.2) a)

      -- its end has decided one more
      count_now : decided_of (saved_of (link_in n e.channel N)) ≡ X.ledger.decided + 1
      count_now = ap decided_of (turn_now k e v w h b calm (out.Deciding i) (command.Decide i m) tt first below s there
          j).saved ∙ ap (λ (z : ChannelEnd). z.ledger.decided) st.3 ∙ ap (λ (z : ChannelEnd). z.ledger.decided) p.2
          ∙ dec.decided

      -- an HTLC of the book that this event told of waits for it
      told_next : (y : Htlc) → IsIn y t.htlcs → told y ≡ true
          → IsNext (told_in n w.dispatchers.dispatchers e.channel y.event)
          (decided_of (saved_of (link_in n e.channel cs))) y
      told_next y y_in hit =
          cases (order0.dated e.channel y y_in (sym (same_is (id_of e) y.key.channel both.1)))
        where
          both : ((i == y.event) ≡ true) × (same (id_of e) y.key.channel ≡ true)
          both = and_parts (i == y.event) (same (id_of e) y.key.channel) hit

          number : i ≡ y.event
          number = eqb-true i y.event both.0

          cases : IsDated (told_in n w.dispatchers.dispatchers e.channel)
              (decided_of (saved_of (link_in n e.channel cs))) y
              → IsNext (told_in n w.dispatchers.dispatchers e.channel y.event)
              (decided_of (saved_of (link_in n e.channel cs))) y
          cases (inl none) = absurd (
              let low : nat_lt no_event most_decided ≡ true = lt-ltb no_event most_decided
              (subst (λ z. z < most_decided) (number ∙ none.0) dec.few) in
              let high : nat_lt no_event most_decided ≡ false = refl in
              let no : true ≡ false = sym low ∙ high in cc)
          cases (inr (inl lt)) =
              let turn = dec.turn in let count = count_was in absurd (omega (arith, number, lt, count, turn))
          cases (inr (inr next)) = next

      -- by what becomes of the book
      taken : (hs : List Htlc) → changed_first told decide t.htlcs ≡ hs
          → HavePayments channel_id_of (record { links = mid; book = hs })
          → HoldAlike channel_id_of (record { links = links_of n N; book = hs })
          → OldOffers channel_id_of t.htlcs hs → Holds k n U
      taken hs turned paid agrees offers = kept_with k e v w h b calm paid0 agrees0 past0 order0 (out.Deciding i)
          (command.Decide i m) tt first below s there j (Ok dn) is
          (subst (λ y. HavePayments channel_id_of (record { links = links_of n N; book = y })) (sym turned)
          (saved_paid e.channel X f (links_of n cs) (links_of n N) g le hs paid))
          (subst (λ y. HoldAlike channel_id_of (record { links = links_of n N; book = y })) (sym turned) agrees)
          (λ q c z y halted. offers_as channel_id_of t.htlcs hs (changed_first told decide t.htlcs) turned offers q c z
          y)
          (λ y. told y ≡ false)
          (later_changed (λ y. told y ≡ false) told decide t.htlcs (λ y y_in hit. record {
            key = refl;
            event = refl;
            was = λ u. absurd (let no : true ≡ false = u in cc);
            waits = λ isnt new. absurd (let no : true ≡ false = sym hit ∙ isnt in cc);
          })) known names
        where
          known : (d : ℕ) (z : Htlc) → IsIn z t.htlcs → z.key.channel ≡ channel_id_of d
              → WaitsAt (view_at n cs w.dispatchers.dispatchers b) d z
              → decided_of (saved_of (link_in n d N)) ≡ decided_of (saved_of (link_in n d cs)) → told z ≡ false
          known d z z_in at next still = cases (told z) refl
            where
              cases : (y : Bool) → told z ≡ y → told z ≡ false
              cases false isnt = isnt
              cases true hit =
                  let both = and_parts (i == z.event) (same (id_of e) z.key.channel) hit in
                  let here : d ≡ e.channel =
                  one_id d e.channel (sym at ∙ sym (same_is (id_of e) z.key.channel both.1)) in
                  let count : decided_of (saved_of (link_in n e.channel N))
                  ≡ decided_of (saved_of (link_in n e.channel cs)) =
                  subst (λ c. decided_of (saved_of (link_in n c N)) ≡ decided_of (saved_of (link_in n c cs))) here
                  still in
                  let a = count_now in
                  let c = count_was in
                  absurd (omega (arith, count, a, c))

      -- nothing is decided about an HTLC
      nothing : f.ledger.decisions ≡ X.ledger.decisions → find told t.htlcs ≡ None → Holds k n U
      nothing same_decisions none =
          let sides : read_side f ≡ read_side X =
          ap (λ z. record { log = z; results = f.ledger.results; decisions = f.ledger.decisions }) same_log
          ∙ ap (λ z. record { log = X.dance.log; results = z; decisions = f.ledger.decisions }) same_results
          ∙ ap (λ z. record { log = X.dance.log; results = X.ledger.results; decisions = z }) same_decisions in
          let same_scene : IsSame S (record { links = mid; book = t.htlcs }) = record {
            sides = λ c. elim (either (c == e.channel)) [
              | inr isnt ↦ to_mid.others c isnt
              | inl at ↦ ap mid.sides (eqb-true c e.channel at) ∙ to_mid.behind ∙ ap (λ z. Some z) sides
                  ∙ sym side_was ∙ sym (ap (links_of n cs).sides (eqb-true c e.channel at))
            ];
            halted = to_mid.halted;
            book = refl;
          } in
          taken t.htlcs (none_change told decide t.htlcs none)
          (same_paid channel_id_of S (record { links = mid; book = t.htlcs }) same_scene paid0)
          (kin_agrees e.channel X (based f) (links_of n cs) (links_of n N) t.htlcs t.htlcs g
          (λ z y. subst (IsIn z) same_decisions (of_picked (is_open_decision (entering f)) z f.ledger.decisions y))
          (same_kin t.htlcs) agrees0) (offers_same channel_id_of t.htlcs t.htlcs refl)

      -- or one of the peer's is decided
      module _ (id : ℕ) (is_first : first_htlc X.dance.log X.ledger.undecided ≡ Some id)
          (decisions : f.ledger.decisions ≡ X.ledger.decisions ++ record { id = id; mark = m } ∷ [])
          (does : m ≡ mark.None → ⊥) where
        abbrev one_decision : LogDecision
        one_decision = record { id = id; mark = m }

        abbrev h0 : Incoming
        h0 = record { channel = e.channel; id = id }

        none : find (λ z. z.id == id) X.ledger.decisions ≡ None
        none = none_decided X.dance.log X.ledger fit tidy id is_first

        base : is_gone id (take X.dance.log.first.own X.dance.log.own) ≡ false
        base = ap (λ y. not (is_live y)) (none_in_base X.dance.log X.ledger fit tidy id is_first)

        undecided : decision_at id (S.links.sides e.channel) ≡ Undecided
        undecided = ap (decision_at id) side_was
            ∙ ap (λ y. decision_by y (is_gone id (take X.dance.log.first.own X.dance.log.own))) none
            ∙ ap (decision_by None) base

        is_mark : (z : Mark) × (mark_as m ≡ Some z)
        is_mark = has_mark m does

        fresh : (z : LogDecision) → IsIn z X.ledger.decisions → z.id ≡ id → ⊥
        fresh z z_in at = not_found (λ z. z.id == id) X.ledger.decisions none z z_in (eq-eqb z.id id at)

        old_or_new : (c : ℕ) (Z : Side) → mid.sides c ≡ Some Z → (z : LogDecision) → IsIn z Z.decisions
            → ((c ≡ e.channel) × (one_decision ≡ z))
            ⊎ ((W : Side) × ((links_of n cs).sides c ≡ Some W) × IsIn z W.decisions)
        old_or_new c Z at z z_in = elim (either (c == e.channel)) [
          | inr isnt ↦ inr (Z, sym (to_mid.others c isnt) ∙ at, z_in)
          | inl here ↦ elim (among_last z one_decision X.ledger.decisions (subst (IsIn z) decisions
              (subst (λ (y : Side). IsIn z y.decisions) (let some : Some Z ≡ Some (read_side f) =
              sym at ∙ ap mid.sides (eqb-true c e.channel here) ∙ to_mid.behind in
              let same_side : Z ≡ read_side f = cc in same_side) z_in))) [
                | inl old ↦ inr (
                  read_side X,
                  ap (links_of n cs).sides (eqb-true c e.channel here) ∙ side_was,
                  old,
                )
                | inr is_new ↦ inl (eqb-true c e.channel here, is_new)
              ]
        ]

        -- where each HTLC of the book was there, or is the one that is decided
        agrees_now : (hs : List Htlc) → HoldAlike channel_id_of (record { links = mid; book = hs })
            → HoldAlike channel_id_of (record { links = links_of n N; book = hs })
        agrees_now hs a = kin_agrees e.channel f (based f) mid (links_of n N) hs hs
            (is_saved e.channel X f (links_of n cs) (links_of n N) g)
            (λ z y. of_picked (is_open_decision (entering f)) z f.ledger.decisions y) (same_kin hs) a

        -- none of the book's is undecided by this event: it hears of that later
        unheard : find told t.htlcs ≡ None → Holds k n U
        unheard missing = taken t.htlcs (none_change told decide t.htlcs missing)
            (taken_unheard channel_id_of one_id S (record { links = mid; book = t.htlcs }) e.channel (read_side X)
            (read_side f) to_mid same_log one_decision is_mark.0 x same_results decisions is_mark.1 none base refl refl
            paid0)
            (agrees_now t.htlcs (agrees_taken channel_id_of one_id S (record { links = mid; book = t.htlcs }) e.channel
            (read_side X) one_decision x side_was refl refl fresh old_or_new
            (λ y y_in. inl (y_in, λ key dec. undecided_entry y y_in key dec)) agrees0))
            (offers_same channel_id_of t.htlcs t.htlcs refl)
          where
            x : Htlc
            x = htlc_of (record { channel = id_of e; event = i; offer = None; mark = m })
                (record { id = id; amount = 0; hash = []; expiry = 0; onion = [] })

            had : HasEntry channel_id_of h0 t.htlcs None
            had = subst (λ z. HasEntry channel_id_of h0 t.htlcs z)
                (no_note (paid0 h0).0 (paid0 h0).1.kept ((paid0 h0).1.of_links.decision ∙ undecided)) (paid0 h0).1.note

            undecided_entry : (y : Htlc) → IsIn y t.htlcs → y.key ≡ key_at channel_id_of e.channel id
                → y.decided ≡ true → ⊥
            undecided_entry y y_in key dec = cases (filter has_key t.htlcs) (picked has_key y t.htlcs y_in
                (ap (same_key (key_of channel_id_of h0)) key ∙ is_key (key_of channel_id_of h0))) had
              where
                has_key : Htlc → Bool
                has_key = is_htlc (key_of channel_id_of h0)

                cases : (ys : List Htlc) → IsIn y ys → AreEntries channel_id_of ys None → ⊥
                cases [] a b = a
                cases (z ∷ []) (inl a) b = absurd (let no : true ≡ false =
                    sym dec ∙ sym (ap (λ (q : Htlc). q.decided) a) ∙ b in cc)
                cases (z ∷ []) (inr a) b = a
                cases (z ∷ q ∷ ys) a b = b

        -- or this one
        waits_for : (y : Htlc) → find told t.htlcs ≡ Some y → Holds k n U
        waits_for y found = taken hs refl
            (decided_waiting channel_id_of one_id S (record { links = mid; book = hs }) e.channel (read_side X)
            (read_side f) to_mid same_log one_decision is_mark.0 y told same_results decisions is_mark.1 none base key
            marked next.new.1 next.new.2 next.new.0 hit others y_in refl paid0)
            (agrees_now hs (agrees_taken channel_id_of one_id S (record { links = mid; book = hs }) e.channel
            (read_side X) one_decision y side_was key marked fresh old_or_new
            books agrees0)) (λ q c z x old. elim (books x old.there) [
              | inl before ↦
                  (x, record { there = before.0; key = old.key; decided = old.decided; outgoing = old.outgoing })
              | inr now ↦ absurd (let no : ◌≡◌ {A = OutgoingLeg} outgoing.Absent
                  (outgoing.Offered (key_at channel_id_of c z)) =
                  sym next.new.1 ∙ ap (λ (g : Htlc). g.outgoing) now ∙ old.outgoing in cc)
            ])
          where
            hs : List Htlc
            hs = changed_first told decide t.htlcs

            y_in : IsIn y t.htlcs
            y_in = (found_there told t.htlcs y found).0

            hit : told y ≡ true
            hit = (found_there told t.htlcs y found).1

            next : IsNext (told_in n w.dispatchers.dispatchers e.channel y.event)
                (decided_of (saved_of (link_in n e.channel cs))) y
            next = told_next y y_in hit

            -- the one of which the event told
            told_id : (z : Htlc) → IsIn z t.htlcs → told z ≡ true → z.key ≡ key_at channel_id_of e.channel id
            told_id z z_in z_hit =
                let q = told_next z z_in z_hit in
                let both = and_parts (i == z.event) (same (id_of e) z.key.channel) z_hit in
                let offered : Some q.offered.id ≡ Some id =
                sym (first_told k w ran (end_at n e.channel) s there X saved_was q.offered
                (ap (λ c. told_by c (dispatcher_at (end_at n e.channel) w.dispatchers.dispatchers))
                (sym (q.event ∙ count_was)) ∙ q.told)) ∙ is_first in
                let same_id : q.offered.id ≡ id = cc in
                ap (λ c. record { channel = c; id = z.key.id }) (sym (same_is (id_of e) z.key.channel both.1))
                ∙ ap (key_at channel_id_of e.channel) (q.id ∙ same_id)

            key : y.key ≡ key_at channel_id_of e.channel id
            key = told_id y y_in hit

            marked : y.mark ≡ m
            marked = marks y y_in (ap (λ (z : Key). z.channel) key)
                (sym (eqb-true i y.event (and_parts (i == y.event) (same (id_of e) y.key.channel) hit).0)) next.new.0

            others : NonePasses (λ z. told z && not (is_htlc (key_at channel_id_of e.channel id) z)) t.htlcs
            others = none_other told (is_htlc (key_at channel_id_of e.channel id)) t.htlcs (λ z z_in z_hit.
                ap (same_key (key_at channel_id_of e.channel id)) (told_id z z_in z_hit)
                ∙ is_key (key_at channel_id_of e.channel id))

            -- each of the book was there, or is this one
            alone : filter (is_htlc (key_at channel_id_of e.channel id)) t.htlcs ≡ y ∷ []
            alone = waited channel_id_of one_id S (record { links = mid; book = hs }) e.channel (read_side X)
                (read_side f) to_mid same_log one_decision y key next.new.0 y_in paid0

            books : (x : Htlc) → IsIn x hs
                → (IsIn x t.htlcs × (x.key ≡ key_of channel_id_of h0 → x.decided ≡ true → ⊥)) ⊎ (decide y ≡ x)
            books = decided_or_old channel_id_of one_id t.htlcs hs h0 y told key others refl next.new.0 alone

      decides : Holds k n U
      decides = elim dec.decisions [
        | inl same_decisions ↦ by_none same_decisions.0 same_decisions.1 (find told t.htlcs) refl
        | inr some ↦ by_some some.0 some.1 some.2 some.3 (find told t.htlcs) refl
      ]
        where
          by_none : m ≡ mark.None → l.decisions ≡ X.ledger.decisions → (o : Option Htlc) → find told t.htlcs ≡ o
              → Holds k n U
          by_none no_mark same_decisions None found =
              nothing (ap (λ (z : ChannelEnd). z.ledger.decisions) p.2 ∙ same_decisions) found
          by_none no_mark same_decisions (Some y) found =
              let r = found_there told t.htlcs y found in
              let next = told_next y r.0 r.1 in
              let both = and_parts (i == y.event) (same (id_of e) y.key.channel) r.1 in
              absurd (next.does (marks y r.0 (sym (same_is (id_of e) y.key.channel both.1))
              (sym (eqb-true i y.event both.0)) next.new.0 ∙ no_mark))

          by_some : (id : ℕ) → first_htlc X.dance.log X.ledger.undecided ≡ Some id
              → l.decisions ≡ X.ledger.decisions ++ record { id = id; mark = m } ∷ [] → (m ≡ mark.None → ⊥)
              → (o : Option Htlc) → find told t.htlcs ≡ o → Holds k n U
          by_some id is_first ds does None found =
              unheard id is_first (ap (λ (z : ChannelEnd). z.ledger.decisions) p.2 ∙ ds) does found
          by_some id is_first ds does (Some y) found =
              waits_for id is_first (ap (λ (z : ChannelEnd). z.ledger.decisions) p.2 ∙ ds) does y found

    -- whatever it answers
    pub awake_decides : Holds k n U
    awake_decides = cases R refl
        (turn_now k e v w h b calm (out.Deciding i) (command.Decide i m) tt first below s there j).steps
        (of_link k (channel_id_of e.channel) s it (IfDone (IsNoted X (command.Decide i m))) (command.Decide i m)
        (noted (k.signer it.keys) it.halted it.keys it.connection X (command.Decide i m) refl))
      where
        cases : (z : Result Done Refusal) → R ≡ z → RowSteps X Y z → IfDone (IsNoted X (command.Decide i m)) z
            → Holds k n U
        cases (Err f) is st p = refused f is st
        cases (Ok dn) is st p = decides dn is st (subst (AtSaved (IsNoted X (command.Decide i m))) st.1 p)

  -- ---- a resumption

  module _ (first : first_in e b ≡ Some (out.Resuming i, command.Resume i m))
      (queued : (q : Queued) × (find (is_resumed (id_of e) i) t.queue ≡ Some q) × (q.mark ≡ m)) where
    abbrev N' : List (WorldChannel K)
    N' = new k e v w h b calm (out.Resuming i) (command.Resume i m) tt first refl s there j

    abbrev Y' : ChannelEnd
    Y' = y0 k e v w h b calm (out.Resuming i) (command.Resume i m) tt first refl s there j

    abbrev R' : Result Done Refusal
    R' = answer_row k e v w h b calm (out.Resuming i) (command.Resume i m) tt first refl s there j

    abbrev U' : World K
    U' = then k e v w h b calm (out.Resuming i) (command.Resume i m) tt first refl s there j

    abbrev hs : List Htlc
    hs = with_mark (id_of e) i m t.htlcs

    -- nothing of an HTLC that waits is changed
    all_later : AreLater Any t.htlcs hs
    all_later = later_then Any (λ x y at known. tt) t.htlcs
        (changed_first (is_held_in (id_of e) i) (put_mark m) t.htlcs) hs
        (later_changed Any (is_held_in (id_of e) i) (put_mark m) t.htlcs (λ y y_in hit.
        let dec = (and_parts y.decided (is_held_by i y.mark && same (id_of e) y.key.channel) hit).0 in
        record {
          key = refl;
          event = refl;
          was = λ u. absurd (let no : true ≡ false = sym dec ∙ u in cc);
          waits = λ known is_new. absurd (let no : true ≡ false = sym dec ∙ is_new.0 in cc);
        }))
        (later_left Any is_over (changed_first (is_held_in (id_of e) i) (put_mark m) t.htlcs))

    all_offers : OldOffers channel_id_of t.htlcs hs
    all_offers = offers_then channel_id_of t.htlcs (changed_first (is_held_in (id_of e) i) (put_mark m) t.htlcs) hs
        (offers_changed channel_id_of (is_held_in (id_of e) i) (put_mark m) (λ z j dec at. (refl, dec, at)) t.htlcs)
        (offers_left channel_id_of is_over (changed_first (is_held_in (id_of e) i) (put_mark m) t.htlcs))

    resume_refused : (f : Refusal) → R' ≡ Err f → Y' ≡ X → Holds k n U'
    resume_refused f is same_end = refused_by_it k e v w h b calm paid0 agrees0 past0 order0 (out.Resuming i)
        (command.Resume i m) tt first refl s there j f is same_end paid0 (same_kin t.htlcs)
        (offers_same channel_id_of t.htlcs t.htlcs refl) (later_same Any t.htlcs)

    resume_taken : (dn : Done) (is : R' ≡ Ok dn) (st : RowSteps X Y' (Ok dn)) → IsNoted X (command.Resume i m) st.0
        → Holds k n U'
    resume_taken dn is st p =
        let f = st.0 in
        let q = resumes_so i m X.ledger p.0 p.1 in
        let f_is : f ≡ record X { ledger = record X.ledger { decisions = marked_decisions i m X.ledger.decisions } } =
        p.2 ∙ ap (λ y. record X { ledger = y }) q.is in
        let g = taking.g k e v w h b calm paid0 agrees0 past0 order0 (out.Resuming i) (command.Resume i m) tt first
        refl s there j dn is st in
        let mid = taking.mid k e v w h b calm paid0 agrees0 past0 order0 (out.Resuming i) (command.Resume i m) tt
        first refl s there j dn is st in
        let to_mid = taking.to_mid k e v w h b calm paid0 agrees0 past0 order0 (out.Resuming i) (command.Resume i m)
        tt first refl s there j dn is st in
        let held = some_held i X.ledger.decisions q.there in
        let found = found_of 0 X.ledger.decisions (waiting_ids X.dance.log.received X.ledger.undecided)
        (next_add (take X.dance.log.acknowledged.peer X.dance.log.received)) held.0 tidy.ids held.1 in
        let log = ap (λ (y : ChannelEnd). y.dance.log) f_is in
        let results = ap (λ (y : ChannelEnd). y.ledger.results) f_is in
        let decisions = ap (λ (y : ChannelEnd). y.ledger.decisions) f_is in
        let paid = resumed channel_id_of one_id S (record { links = mid; book = hs }) e.channel (read_side X)
        (read_side f) to_mid log results i m q.answers decisions (tidy.waits.one i) held.0 held.1 held.2 found
        agrees0 refl paid0 in
        let agrees = agrees_resumed channel_id_of one_id S (record { links = mid; book = hs }) e.channel
        (read_side X) (read_side f) to_mid log results i m q.answers decisions (tidy.waits.one i) held.0 held.1 held.2
        found agrees0 refl paid0 in
        let turned : resumed_by (id_of e) i (find (is_resumed (id_of e) i) t.queue) t.htlcs ≡ hs =
        ap (λ o. resumed_by (id_of e) i o t.htlcs) queued.1
        ∙ ap (λ z. with_mark (id_of e) i z t.htlcs) queued.2 in
        kept_with k e v w h b calm paid0 agrees0 past0 order0 (out.Resuming i) (command.Resume i m) tt first refl s
        there j (Ok dn) is
        (subst (λ y. HavePayments channel_id_of (record { links = links_of n N'; book = y })) (sym turned)
        (saved_paid e.channel X f (links_of n cs) (links_of n N') g (first_kept X f fit st.2) hs paid))
        (subst (λ y. HoldAlike channel_id_of (record { links = links_of n N'; book = y })) (sym turned)
        (kin_agrees e.channel f (based f) mid (links_of n N') hs hs
        (is_saved e.channel X f (links_of n cs) (links_of n N') g)
        (λ d a. of_picked (is_open_decision (entering f)) d f.ledger.decisions a) (same_kin hs) agrees))
        (λ z c g y halted. offers_as channel_id_of t.htlcs hs _ turned all_offers z c g y)
        Any (subst (AreLater Any t.htlcs) (sym turned) all_later) (λ d z z_in at next still. tt)
        (λ a. subst (λ (y : ChannelEnd). AllName y.dance.log.own) (sym st.3)
        (subst (λ (y : ChannelEnd). AllName y.dance.log.own) (sym f_is) a))

    pub awake_resumes : Holds k n U'
    awake_resumes = cases R' refl
        (turn_now k e v w h b calm (out.Resuming i) (command.Resume i m) tt first refl s there j).steps
        (of_link k (channel_id_of e.channel) s it (IfDone (IsNoted X (command.Resume i m))) (command.Resume i m)
        (noted (k.signer it.keys) it.halted it.keys it.connection X (command.Resume i m) refl))
      where
        cases : (z : Result Done Refusal) → R' ≡ z → RowSteps X Y' z → IfDone (IsNoted X (command.Resume i m)) z
            → Holds k n U'
        cases (Err f) is st p = resume_refused f is st
        cases (Ok dn) is st p = resume_taken dn is st (subst (AtSaved (IsNoted X (command.Resume i m))) st.1 p)
