-- What becomes of what a host decides.
use Rattle.std.proofs.Common.{◌≡◌, inl, inr, ℕ, List, [], ◌∷◌, slice_get, slice_set, refl, sym, ap, ◌∙◌, subst}
use Rattle.std.proofs.Common.{Bool, true, false, cond, Option, Some, None}
use Rattle.std.specs.Prelude.{option_map}
use Rattle.ln_keys.specs.Services.{Services}
use Rattle.ln_keys.specs.Signer.{Signer}
use Rattle.ln_log.specs.declared.mark.EventRef.{EventRef}
use Rattle.ln_log.specs.declared.mark.Mark.{Mark}
use Rattle.ln_hooks.specs.declared.event.ChannelEvent.{ChannelEvent}
use Rattle.ln_hooks.specs.declared.verdict.Verdict.{Verdict}
use Rattle.ln_channel.specs.declared.command.Command.{Command}
use Rattle.ln_channel.specs.declared.command.Command.TheVariants as command
use Rattle.ln_channel.specs.End.{End}
use Rattle.ln_channel.specs.Pending.{named_by}
use Rattle.ln_channel.specs.Record.{saved_end}
use Rattle.ln_channel.specs.State.{State, KeepsChannel, halts}
use Rattle.ln_channel.specs.Step.{commanded}
use Rattle.ln_history.specs.History.{with_entry}
use Rattle.ln_book_tables.specs.declared.entry.Decided.{Decided}
use Rattle.ln_book_tables.specs.declared.entry.Resumed.{Resumed}
use Rattle.ln_book_tables.specs.declared.entry.Entry.{Entry}
use Rattle.ln_book_tables.specs.declared.entry.Entry.TheVariants as entry
use Rattle.ln_book_tables.specs.declared.entry.Out.{Out}
use Rattle.ln_book_tables.specs.declared.entry.Out.TheVariants as out
use Rattle.ln_book_tables.specs.Replay.{Table, after, replay, table_of}
use Rattle.ln_book.specs.Answers.{answer_to, command_subject}
use Rattle.ln_book.specs.Commands.{first_command}
use Rattle.ln_book.specs.Kept.{next_own_id}
use Rattle.ln_book.specs.Marks.{decision, offer_of, resumption}
use Rattle.ln_manager_laws.specs.Calls as made
use Rattle.ln_manager_laws.specs.Calls.{Seat, called}
use Rattle.ln_manager_laws.specs.Manager.{Manager}
use Rattle.ln_manager_laws.specs.Steps.{Step, IsNext, Works, done_or_refused, obeying}
use Rattle.ln_manager_laws.specs.Steps as step
use Rattle.ln_manager_channels.specs.declared.given.Given.{Given}
use Rattle.ln_manager_channels.specs.declared.given.Given.TheVariants as given
use Rattle.ln_manager_channels.specs.Books.{Book}
use Rattle.ln_manager_channels.specs.Commands.{decides, resumes}
use Rattle.ln_manager_channels.specs.Events.{first_named, next_event}
use Rattle.ln_manager_channels.specs.Links.{id_by_end, working_end, working_id}
use Rattle.ln_manager_channels.specs.Obeying as obeying
use Rattle.ln_manager_channels.specs.Obeying.{Obeyed, Gives, Stops, first_of, taking}
use Rattle.ln_manager_channels.specs.Obeying.{Concludes, ConcludesIf, ConcludesFirst, ConcludesDue, deciding, resuming}
use Rattle.ln_manager_channels.specs.Places.{changed_by}
use Rattle.ln_manager_channels.specs.Calls.{Parts, obeyed}
use Rattle.ln_manager_calls.proofs.Due.{decided_first, first_books, resumed_first}
use Rattle.ln_manager_calls.specs.Standing.{Loaded, kept_at}
use Rattle.ln_manager_calls.proofs.Hosting.{same_records}
use Rattle.ln_manager_calls.proofs.Kept.{View, view, Stands, Leads, lead_then, seat_changes, with_seat}
use Rattle.ln_manager_calls.proofs.Obeying.{IsGiven, Answered, Halted, is_given, knowing_failure, sure_answer}
use Rattle.ln_manager_calls.proofs.Pending.{OutOnly, one_more, out_answered, out_same, out_taken, out_then}
use Rattle.ln_manager_calls.proofs.Places.{got_set, is_among}
use Rattle.ln_manager_calls.proofs.Recording.{Tells, halt_tells}
use Rattle.ln_manager_calls.proofs.Seating.{drops_keeps, halted_seat}
use Rattle.ln_manager_calls.proofs.Steps.{IsWorking, halt_lead, quiet_lead, still_halts}

-- ---- the book has entered what is due, and then its link is told

module _ {K : Type 0} (signer : K → Signer) (old : Loaded) (p q : Parts K) (numbers : q.numbers ≡ p.numbers)
    (s : Services) (c : ℕ) (l : State K) (e : End) (at : slice_get p.links c ≡ Some l) (works : l.halted ≡ false)
    (end : saved_end l.stage ≡ Some e) (x : Entry)
    (quiet : (after (table_of p.book) x).pending_commands ≡ (table_of p.book).pending_commands) where
  -- its table then
  abbrev t : Table
  t = table_of p.book

  abbrev t' : Table
  t' = after t x

  abbrev b : Book
  b = with_entry x p.book

  book_is : table_of b ≡ t'
  book_is = one_more x p.book

  -- the link halts, or does what was due
  pub record MayConclude (is_due : Command → Bool) : Type 0 where
    pub halting : (m : Manager K) → Stands (view old p) m → (z : Seat K) → slice_get m.seats c ≡ Some z → z.link ≡ l
        → (l' : State K) (u : Table) → u.htlcs ≡ t'.htlcs → Step signer m (with_seat c (halted_seat z l') u m)
    pub doing : (o : Out) (y : Command) → first_command s e.dance.channel t' ≡ Some (o, y) → is_due y ≡ true
        → (m : Manager K) → Stands (view old p) m → (z : Seat K) → slice_get m.seats c ≡ Some z → z.link ≡ l
        → Works z e → (u : Table) → u ≡ replay t' (obeying signer l e o y)
        → Step signer m (with_seat c (called signer (made.Command y) z) u m)

  module _ (is_due : Command → Bool) (may : MayConclude is_due) where
    halts_so : (w : View K) (l' : State K) → w.links ≡ slice_set p.links c l' → w.numbers ≡ p.numbers
        → l'.halted ≡ true → KeepsChannel l.stage l'.stage → ((z : Option End) → Tells (kept_at old p.records)
        w.records c l l' z)
        → OutOnly (IsWorking l) t w.table → w.table.htlcs ≡ t'.htlcs → Leads signer (view old p) w
    halts_so w l' links nums halted keeps told out same =
        halt_lead signer (view old p) w c l l' at links nums halted keeps told out
        (λ m h z z_at link. may.halting m h z z_at link l' w.table same)

    out_entered : OutOnly (IsWorking l) t t'
    out_entered = out_same (IsWorking l) t t' quiet

    -- it halts as the book has entered it, or taken it as well
    stops_entered : (g : Given) → Stops c g (record (obeyed p) { book = b }) (obeyed q) → Leads signer (view old p)
        (view old q)
    stops_entered g h =
        let links = ap (λ (z : Obeyed K). z.links) h.1 ∙ ap (λ z. changed_by c halts z p.links) at in
        let table : table_of q.book ≡ t' = ap (λ (z : Obeyed K). table_of z.book) h.1 ∙ book_is in
        halts_so (view old q) (halts l) links numbers refl (drops_keeps l)
        (halt_tells (kept_at old p.records) (kept_at old q.records) c l (halts l) (same_records old p q
        (ap (λ (z : Obeyed K). z.records) h.1)) refl)
        (subst (OutOnly (IsWorking l) t) (sym table) out_entered) (ap (λ (u : Table). u.htlcs) table)

    module _ (o : Out) (y : Command) (first : first_of s e.dance.channel b ≡ Some (o, y)) where
      abbrev r : Obeyed K
      r = taking e.dance.channel (Some (o, y)) (record (obeyed p) { book = b })

      taken_is : table_of r.book ≡ after t' (entry.Taken e.dance.channel o)
      taken_is = one_more (entry.Taken e.dance.channel o) b ∙ ap (λ u. after u (entry.Taken e.dance.channel o)) book_is

      first_now : first_command s e.dance.channel t' ≡ Some (o, y)
      first_now = ap (first_command s e.dance.channel) (sym book_is) ∙ first

      stops_taken : (w : View K) (l' : State K) → w.links ≡ slice_set p.links c l' → w.numbers ≡ p.numbers
          → l'.halted ≡ true → KeepsChannel l.stage l'.stage → ((z : Option End) → Tells (kept_at old p.records)
          w.records c l l' z)
          → w.table ≡ table_of r.book → Leads signer (view old p) w
      stops_taken w l' links nums halted keeps told same =
          let table = same ∙ taken_is in
          halts_so w l' links nums halted keeps told
          (subst (OutOnly (IsWorking l) t) (sym table) (out_then (IsWorking l) t t'
          (after t' (entry.Taken e.dance.channel o)) out_entered
          (out_taken (IsWorking l) e.dance.channel o t' (works, (e, end, refl)))))
          (ap (λ (u : Table). u.htlcs) table)

      does : is_due y ≡ true → (w : View K) (l' : State K) → w.links ≡ slice_set p.links c l' → w.numbers ≡ p.numbers
          → l' ≡ made.made signer (made.Command y) l → ((z : Option End) → Tells (kept_at old p.records) w.records c l
          l' z)
          → w.table ≡ replay (table_of b) (obeying signer l e o y) → Leads signer (view old p) w
      does now w l' links nums is told same = knowing_failure signer (view old p) w c l at (λ fails.
          let table : w.table ≡ replay t' (obeying signer l e o y) =
          same ∙ ap (λ u. replay u (obeying signer l e o y)) book_is in
          let a = answer_to (command_subject (next_own_id e) y) (done_or_refused (commanded (signer l.keys) l y)) in
          quiet_lead signer (view old p) w c l l' at links nums (made.Command y) tt is
          (λ halted. absurd (let no : true ≡ false = sym halted ∙ works in cc)) told
          (subst (OutOnly (λ id. ⊥) t) (sym table) (out_then (λ id. ⊥) t t'
          (replay t' (obeying signer l e o y)) (out_same (λ id. ⊥) t t' quiet)
          (out_answered (λ id. ⊥) e.dance.channel o a t'
          (sure_answer signer l y (command_subject (next_own_id e) y) works (fails works)
          (first_books s e.dance.channel t' o y first_now)))))
          (λ m h z z_at link.
          let halted = ap (λ (k : State K). k.halted) link ∙ works in
          may.doing o y first_now now m h z z_at link (record {
            end = ((h.sound z (is_among m.seats c z z_at)).works halted).0
                ∙ ap (λ (k : State K). saved_end k.stage) link ∙ end;
            halted = halted;
          }) w.table table))

      -- it is given it
      given_so : is_due y ≡ true → (g : Given) → IsGiven signer old c l e o y b g r (obeyed q)
          → Leads signer (view old p) (view old q)
      given_so now g (Answered l' links is told book) = does now (view old q) l' links numbers is told book
      given_so now g (Halted l' links halted keeps told book over) =
          stops_taken (view old q) l' links numbers halted keeps told
          (ap table_of book)

      -- it can't take it now, and halts
      waits_so : is_due y ≡ true → (g : Given) (k : Obeyed K) → IsGiven signer old c l e o y b given.Waits r k
          → Stops c g k (obeyed q) → Leads signer (view old p) (view old q)
      waits_so now g k (Answered l' links is told book) stops =
          let mid : View K = record {
            links = k.links;
            records = kept_at old k.records;
            numbers = p.numbers;
            table = table_of k.book;
          } in
          let records : q.records ≡ k.records = ap (λ (z : Obeyed K). z.records) stops.1 in
          let there : slice_get k.links c ≡ Some l' = ap (λ ls. slice_get ls c) links ∙ got_set p.links c l l' at in
          lead_then signer (view old p) mid (view old q) (does now mid l' links refl is told book)
          (still_halts signer mid (view old q) c l' (halts l') there
          (ap (λ (z : Obeyed K). z.links) stops.1 ∙ ap (λ z. changed_by c halts z k.links) there) numbers refl
          (drops_keeps l')
          (halt_tells (kept_at old k.records) (kept_at old q.records) c l' (halts l')
          (λ i. ap (λ ns. kept_at old ns i) records) refl)
          (ap (λ (z : Obeyed K). table_of z.book) stops.1))
      waits_so now g k (Halted l' links halted keeps told book over) stops = absurd (cc)

      by_due : (z : Bool) → is_due y ≡ z → (g : Given)
          → ConcludesIf signer c e.dance.channel y z g r (obeyed q) → Leads signer (view old p) (view old q)
      by_due false isnt g h =
          let links = ap (λ (z : Obeyed K). z.links) h.1 ∙ ap (λ z. changed_by c halts z p.links) at in
          stops_taken (view old q) (halts l) links numbers refl (drops_keeps l)
          (halt_tells (kept_at old p.records) (kept_at old q.records) c l (halts l) (same_records old p q
          (ap (λ (z : Obeyed K). z.records) h.1)) refl)
          (ap (λ (z : Obeyed K). table_of z.book) h.1)
      by_due true is g (inl h) =
          given_so is g (is_given signer old c l e works end o y b g r (obeyed q) at refl h)
      by_due true is g (inr h) =
          waits_so is g h.0 (is_given signer old c l e works end o y b given.Waits r h.0 at refl h.1) h.2

    pub concludes : (g : Given)
        → ConcludesDue signer s c e.dance.channel is_due g (record (obeyed p) { book = b }) (obeyed q)
        → Leads signer (view old p) (view old q)
    unfolding ConcludesDue
    concludes g (inl h) = stops_entered g h
    concludes g (inr h) = by_first (first_of s e.dance.channel b) refl h
      where
        by_first : (f : Option (Out × Command)) → first_of s e.dance.channel b ≡ f
            → ConcludesFirst signer c e.dance.channel is_due (option_map (λ z. z.1) f) g
            (taking e.dance.channel f (record (obeyed p) { book = b })) (obeyed q) → Leads signer (view old p)
            (view old q)
        by_first None is k = stops_entered g k
        by_first (Some z) is k = by_due z.0 z.1 is (is_due z.1) refl g k

-- ---- a decision

module _ {K : Type 0} (signer : K → Signer) (old : Loaded) (p q : Parts K) (numbers : q.numbers ≡ p.numbers)
    (s : Services) (c : ℕ) (v : Verdict) where
  module _ (l : State K) (e : End) (at : slice_get p.links c ≡ Some l) (works : l.halted ≡ false)
      (end : saved_end l.stage ≡ Some e) where
    its_end : (m : Manager K) → Stands (view old p) m → (z : Seat K) → slice_get m.seats c ≡ Some z → z.link ≡ l
        → Works z e
    its_end m h z z_at link =
        let halted = ap (λ (k : State K). k.halted) link ∙ works in
        record {
          end = ((h.sound z (is_among m.seats c z z_at)).works halted).0
              ∙ ap (λ (k : State K). saved_end k.stage) link ∙ end;
          halted = halted;
        }

    module _ (told : ChannelEvent) (next : IsNext e told) where
      abbrev d : Table → Decided
      d t = decision s t e.dance.channel e.ledger.decided (offer_of told) v

      abbrev now : Decided
      now = d (table_of p.book)

      may_decide : MayConclude signer old p q numbers s c l e at works end (entry.Decided now) refl
          (decides e.ledger.decided)
      may_decide = record {
        halting = λ m h z z_at link l' u same. step.HaltsDeciding s z e told v l' (its_end m h z z_at link) next
            (seat_changes c z (halted_seat z l') u m z_at)
            (same ∙ ap (λ t. (after t (entry.Decided (d t))).htlcs) (sym h.book));
        doing = λ o y first due m h z z_at link w u same.
            let k = decided_first s now (table_of p.book) o y first due in
            subst (λ i. Step signer m (with_seat c (called signer (made.Command i) z) u m)) (sym k.1)
            (step.Decides s z e told v now w next (ap d (sym h.book))
            (seat_changes c z (called signer (made.Command (command.Decide now.event now.mark)) z) u m z_at)
            (same
            ∙ ap (λ i. replay (after (table_of p.book) (entry.Decided now)) (obeying signer l e i y)) k.0
            ∙ ap (λ i. replay (after (table_of p.book) (entry.Decided now)) (obeying signer l e
            (out.Deciding now.event) i)) k.1
            ∙ ap (λ t. replay (after t (entry.Decided now)) (obeying signer l e (out.Deciding now.event)
            (command.Decide now.event now.mark))) (sym h.book)
            ∙ ap (λ i. replay (after m.book (entry.Decided now)) (obeying signer i e (out.Deciding now.event)
            (command.Decide now.event now.mark))) (sym link)));
      }

      decides_told : (g : Given)
          → ConcludesDue signer s c e.dance.channel (decides e.ledger.decided) g
          (deciding s e.dance.channel e.ledger.decided told v (obeyed p)) (obeyed q) → Leads signer (view old p)
          (view old q)
      decides_told g h = concludes signer old p q numbers s c l e at works end (entry.Decided now) refl
          (decides e.ledger.decided) may_decide g h

    at_named : (rs : List EventRef) → e.ledger.undecided ≡ rs → (r : Mark × Given)
        → obeying.Decides signer s c (option_map (λ told. (e.dance.channel, e.ledger.decided, told)) (first_named rs e))
        v r (obeyed p) (obeyed q) → Leads signer (view old p) (view old q)
    at_named [] is r h = absurd h
    at_named (f ∷ rs) is r h = by_told (named_by f e) refl h
      where
        by_told : (o : Option ChannelEvent) → named_by f e ≡ o
            → obeying.Decides signer s c (option_map (λ told. (e.dance.channel, e.ledger.decided, told)) o) v r
            (obeyed p) (obeyed q) → Leads signer (view old p) (view old q)
        by_told None at k = absurd k
        by_told (Some told) at k =
            decides_told told (record { first = f; rest = rs; undecided = is; is = at }) r.1 k.1

    -- ---- what is held

    module _ (n : ℕ) (mark : Mark) (said : resumption s (table_of p.book) e.dance.channel n v ≡ Some mark) where
      abbrev entered : Resumed
      entered = record { channel = e.dance.channel; event = n; mark = mark }

      may_resume : MayConclude signer old p q numbers s c l e at works end (entry.Resumed entered) refl (resumes n)
      may_resume = record {
        halting = λ m h z z_at link l' u same. step.Halts z l' (seat_changes c z (halted_seat z l') u m z_at)
            (same ∙ ap (λ (t : Table). t.htlcs) (sym h.book));
        doing = λ o y first due m h z z_at link w u same.
            let k = resumed_first s e.dance.channel n v mark (table_of p.book) o y said first due in
            subst (λ i. Step signer m (with_seat c (called signer (made.Command i) z) u m)) (sym k.1)
            (step.Resumes s z e n v mark w (ap (λ t. resumption s t e.dance.channel n v) h.book ∙ said)
            (seat_changes c z (called signer (made.Command (command.Resume n mark)) z) u m z_at)
            (same
            ∙ ap (λ i. replay (after (table_of p.book) (entry.Resumed entered)) (obeying signer l e i y)) k.0
            ∙ ap (λ i. replay (after (table_of p.book) (entry.Resumed entered)) (obeying signer l e
            (out.Resuming n) i)) k.1
            ∙ ap (λ t. replay (after t (entry.Resumed entered)) (obeying signer l e (out.Resuming n)
            (command.Resume n mark))) (sym h.book)
            ∙ ap (λ i. replay (after m.book (entry.Resumed entered)) (obeying signer i e (out.Resuming n)
            (command.Resume n mark))) (sym link)));
      }

      resumes_held : (g : Given)
          → ConcludesDue signer s c e.dance.channel (resumes n) g (resuming e.dance.channel n mark (obeyed p))
          (obeyed q)
          → Leads signer (view old p) (view old q)
      resumes_held g h = concludes signer old p q numbers s c l e at works end (entry.Resumed entered) refl
          (resumes n) may_resume g h

  -- ---- by the link

  pub decides_next : (r : Mark × Given)
      → obeying.Decides signer s c (next_event (working_end (slice_get p.links c))) v r (obeyed p) (obeyed q)
      → Leads signer (view old p) (view old q)
  decides_next r h = by_link (slice_get p.links c) refl h
    where
      by_end : (l : State K) → slice_get p.links c ≡ Some l → l.halted ≡ false → (o : Option End)
          → saved_end l.stage ≡ o → obeying.Decides signer s c (next_event o) v r (obeyed p) (obeyed q)
          → Leads signer (view old p) (view old q)
      by_end l at works None end k = absurd k
      by_end l at works (Some e) end k = at_named l e at works end e.ledger.undecided refl r k

      by_halted : (l : State K) → slice_get p.links c ≡ Some l → (b : Bool) → l.halted ≡ b
          → obeying.Decides signer s c (next_event (cond b None (saved_end l.stage))) v r (obeyed p) (obeyed q)
          → Leads signer (view old p) (view old q)
      by_halted l at true is k = absurd k
      by_halted l at false is k = by_end l at is (saved_end l.stage) refl k

      by_link : (o : Option (State K)) → slice_get p.links c ≡ o
          → obeying.Decides signer s c (next_event (working_end o)) v r (obeyed p) (obeyed q)
          → Leads signer (view old p) (view old q)
      by_link None at k = absurd k
      by_link (Some l) at k = by_halted l at l.halted refl k

  pub resumes_at : (n : ℕ) (r : Mark × Given)
      → obeying.Resumes signer s c (working_id (slice_get p.links c)) n v r (obeyed p) (obeyed q)
      → Leads signer (view old p) (view old q)
  resumes_at n r h = by_link (slice_get p.links c) refl h
    where
      by_end : (l : State K) → slice_get p.links c ≡ Some l → l.halted ≡ false → (o : Option End)
          → saved_end l.stage ≡ o → obeying.Resumes signer s c (id_by_end o) n v r (obeyed p) (obeyed q)
          → Leads signer (view old p) (view old q)
      by_end l at works None end k = absurd k
      by_end l at works (Some e) end k = resumes_held l e at works end n r.0 k.0 r.1 k.1

      by_halted : (l : State K) → slice_get p.links c ≡ Some l → (b : Bool) → l.halted ≡ b
          → obeying.Resumes signer s c (cond b None (id_by_end (saved_end l.stage))) n v r (obeyed p) (obeyed q)
          → Leads signer (view old p) (view old q)
      by_halted l at true is k = absurd k
      by_halted l at false is k = by_end l at is (saved_end l.stage) refl k

      by_link : (o : Option (State K)) → slice_get p.links c ≡ o
          → obeying.Resumes signer s c (working_id o) n v r (obeyed p) (obeyed q) → Leads signer (view old p)
          (view old q)
      by_link None at k = absurd k
      by_link (Some l) at k = by_halted l at l.halted refl k
