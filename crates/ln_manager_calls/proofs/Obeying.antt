-- What becomes of what the book commands.
use Rattle.std.proofs.Common.{◌≡◌, inl, inr, ℕ, List, slice_get, slice_set, refl, sym, ap, ◌∙◌, subst}
use Rattle.std.proofs.Common.{Bool, true, false, cond, Option, Some, None, Result, Ok, Err}
use Rattle.std.specs.Prelude.{option_map}
use Rattle.ln_refusals.specs.declared.refusal.Refusal.{Refusal}
use Rattle.ln_keys.specs.Services.{Services}
use Rattle.ln_keys.specs.Signer.{Signer}
use Rattle.ln_channel.specs.declared.command.Command.{Command}
use Rattle.ln_channel.specs.End.{End}
use Rattle.ln_channel.specs.Record.{saved_end}
use Rattle.ln_channel.specs.State.{State, KeepsChannel, halts}
use Rattle.ln_channel.specs.Step.{Done, commanded}
use Rattle.ln_history.specs.History.{with_entry}
use Rattle.ln_book_tables.specs.declared.entry.Entry.TheVariants as entry
use Rattle.ln_book_tables.specs.declared.entry.Out.{Out}
use Rattle.ln_book_tables.specs.declared.entry.PendingCommand.TheVariants as pending_command
use Rattle.ln_book_tables.specs.Replay.{Table, after, replay, pending_command_at, table_of}
use Rattle.ln_book.specs.Answers.{answer_to, command_subject, next_id, replied}
use Rattle.ln_book.specs.Commands.{with_answered}
use Rattle.ln_book.specs.Kept.{next_own_id}
use Rattle.ln_manager_laws.specs.Calls as made
use Rattle.ln_manager_laws.specs.Calls.{Seat, called}
use Rattle.ln_manager_laws.specs.Steps.{Works, done_or_refused, obeying}
use Rattle.ln_manager_laws.specs.Steps as step
use Rattle.ln_manager_laws.proofs.Seats.{made_halted}
use Rattle.ln_manager_channels.specs.declared.given.Given.{Given}
use Rattle.ln_manager_channels.specs.declared.given.Given.TheVariants as given
use Rattle.ln_manager_channels.specs.declared.newest.Newest.{Newest}
use Rattle.ln_manager_channels.specs.Books.{Book}
use Rattle.ln_manager_channels.specs.Commands.{is_decision}
use Rattle.ln_manager_channels.specs.Links.{done_in, halted_in, id_by_end, working_id}
use Rattle.ln_manager_channels.specs.Moves.{Answer, Obeys, ObeysBy, ObeysOver, store_of}
use Rattle.ln_manager_channels.specs.Obeying.{Obeyed, Gives, GivesBy, given_by, heard_by, ObeysBook}
use Rattle.ln_manager_channels.specs.Obeying.{ObeysCommand, ObeysFirst, first_of, subject_in, taking}
use Rattle.ln_manager_channels.specs.Places.{AnswersBesideBy, changed_by}
use Rattle.ln_manager_channels.specs.Calls.{Parts, obeyed}
use Rattle.ln_manager_calls.proofs.Answering.{IsMade, command_left}
use Rattle.ln_manager_calls.proofs.Certain.{IfErr, IsBooks, IsCertain, certain}
use Rattle.ln_manager_calls.proofs.Due.{first_books, first_due_is}
use Rattle.ln_manager_calls.proofs.Hosting.{same_lead, same_records}
use Rattle.ln_manager_calls.proofs.Kept.{View, view, Leads}
use Rattle.ln_manager_calls.proofs.Kept.{seat_changes}
use Rattle.ln_manager_calls.proofs.Pending.{IsSure, OutOnly, one_more, out_answered, out_taken, taken_out}
use Rattle.ln_payment_circuits.specs.Snapshot.{IsIn}
use Rattle.ln_manager_calls.specs.Standing.{Loaded, kept_at, link_of}
use Rattle.ln_manager_calls.proofs.Places.{got_set, is_among, mapped_at}
use Rattle.ln_manager_calls.proofs.Recording.{Tells, call_tells, command_leaves, halt_tells}
use Rattle.ln_manager_calls.proofs.Seating.{FailsOnly, drops_keeps}
use Rattle.ln_manager_calls.proofs.Steps.{IsWorking, halts_lead, quiet_lead}

-- ---- a link is given a command that was taken

module _ {K : Type 0} (signer : K → Signer) (old : Loaded) (c : ℕ) (l : State K) (e : End) where
  abbrev id : List ℕ
  id = e.dance.channel

  -- it answers, and the book hears that; or it halts, and the book hears nothing
  pub data IsGiven (o : Out) (y : Command) (b : Book) (g : Given) (r q : Obeyed K) : Type 0 where
    Answered : (l' : State K) → q.links ≡ slice_set r.links c l' → l' ≡ made.made signer (made.Command y) l
        → ((end : Option End) → Tells (kept_at old r.records) (kept_at old q.records) c l l' end)
        → table_of q.book ≡ replay (table_of b) (obeying signer l e o y) → IsGiven o y b g r q
    Halted : (l' : State K) → q.links ≡ slice_set r.links c l' → l'.halted ≡ true
        → KeepsChannel l.stage l'.stage → ((end : Option End) → Tells (kept_at old r.records) (kept_at old q.records) c
        l l' end)
        → q.book ≡ r.book → g ≡ given.Halted → IsGiven o y b g r q

  module _ (works : l.halted ≡ false) (end : saved_end l.stage ≡ Some e) (o : Out) (y : Command)
      (b : Book) (g : Given) (r q : Obeyed K) (at : slice_get r.links c ≡ Some l)
      (taken : r.book ≡ with_entry (entry.Taken id o) b) where
    first : table_of r.book ≡ after (table_of b) (entry.Taken id o)
    first = ap table_of taken ∙ one_more (entry.Taken id o) b

    -- what the book hears
    heard : (a : Result ℕ ℕ) → q.book ≡ replied id a r.book
        → table_of q.book ≡ after (after (table_of b) (entry.Taken id o)) (entry.Answered id a)
    heard a is =
        let out : pending_command_at id (table_of r.book) ≡ pending_command.InFlight o =
        ap (pending_command_at id) first ∙ taken_out id o (table_of b) in
        ap table_of (is ∙ ap (λ d. with_answered id a d r.book) out) ∙ one_more (entry.Answered id a) r.book
        ∙ ap (λ t. after t (entry.Answered id a)) first

    answers : (l' : State K) (answer : Answer) → q.links ≡ slice_set r.links c l'
        → IsMade (λ v. v.items) l l' (commanded (signer l.keys) l y) (λ r. l) answer
        → ((z : Option End) → Tells (kept_at old r.records) (kept_at old q.records) c l l' z)
        → GivesBy c id y answer (halted_in (slice_get q.links c)) g r q → IsGiven o y b g r q
    answers l' answer links m told h =
        let there : slice_get q.links c ≡ Some l' = ap (λ ls. slice_get ls c) links ∙ got_set r.links c l l' at in
        let still : halted_in (slice_get q.links c) ≡ false =
        ap halted_in there ∙ ap (λ (z : State K). z.halted) m.is ∙ made_halted signer (made.Command y) l ∙ works in
        let book : q.book ≡ replied id (answer_to (subject_in (slice_get r.links c) y) (done_in answer)) r.book =
        h.1 ∙ ap (λ z. heard_by z id (subject_in (slice_get r.links c) y) answer r.book) still in
        let subject : subject_in (slice_get r.links c) y ≡ command_subject (next_own_id e) y =
        ap (λ z. subject_in z y) at ∙ ap (λ z. command_subject (next_id z) y) end in
        let said : answer_to (subject_in (slice_get r.links c) y) (done_in answer)
        ≡ answer_to (command_subject (next_own_id e) y) (done_or_refused (commanded (signer l.keys) l y)) =
        ap (λ z. answer_to z (done_in answer)) subject
        ∙ ap (answer_to (command_subject (next_own_id e) y)) m.answer in
        Answered l' links m.is told (heard _ (book ∙ ap (λ a. replied id a r.book) said))

    stops : (l' : State K) (answer : Answer) → q.links ≡ slice_set r.links c l' → l'.halted ≡ true
        → KeepsChannel l.stage l'.stage → ((z : Option End) → Tells (kept_at old r.records) (kept_at old q.records) c l
        l' z)
        → GivesBy c id y answer (halted_in (slice_get q.links c)) g r q → IsGiven o y b g r q
    stops l' answer links halted keeps told h =
        let there : slice_get q.links c ≡ Some l' = ap (λ ls. slice_get ls c) links ∙ got_set r.links c l l' at in
        let over : halted_in (slice_get q.links c) ≡ true = ap halted_in there ∙ halted in
        let subject = subject_in (slice_get r.links c) y in
        Halted l' links halted keeps told (h.1 ∙ ap (λ z. heard_by z id subject answer r.book) over)
        (h.0 ∙ ap (λ z. given_by z subject y answer) over)

    one_link : (l' : State K) (n n' : Newest) (answer : Answer) → slice_get r.records c ≡ Some n
        → q.links ≡ slice_set r.links c l' → q.records ≡ slice_set r.records c n'
        → Obeys signer y l l' n n' answer → GivesBy c id y answer (halted_in (slice_get q.links c)) g r q
        → IsGiven o y b g r q
    unfolding Obeys
    one_link l' n n' answer found links kept k h =
        let told = call_tells old r.records q.records c l l' n n' found kept k.1
        (command_leaves (λ v. v.items) l l' n n' (signer l.keys) answer y k.0) in
        elim (command_left (λ v. v.items) l l' y (commanded (signer l.keys) l y) answer (store_of n) (store_of n')
        k.0) [
          | inl m ↦ answers l' answer links m told h
          | inr halted ↦ stops l' answer links halted k.1 told h
        ]

    over_record : (answer : Answer) → ObeysOver signer c y answer r.links q.links r.records q.records
        → GivesBy c id y answer (halted_in (slice_get q.links c)) g r q → IsGiven o y b g r q
    unfolding ObeysOver
    over_record answer k h = by_record (slice_get r.records c) refl k
      where
        by_link : (n n' : Newest) → slice_get r.records c ≡ Some n → q.records ≡ slice_set r.records c n'
            → (z : Option (State K)) → slice_get r.links c ≡ z
            → AnswersBesideBy c (Obeys signer y) z answer r.links q.links n n' → IsGiven o y b g r q
        by_link n n' at' kept None none k = absurd (let no : None ≡ Some l = sym none ∙ at in cc)
        by_link n n' at' kept (Some z) found k =
            let some : Some z ≡ Some l = sym found ∙ at in
            let same : z ≡ l = cc in
            one_link k.0 n n' answer at' k.1 kept (subst (λ i. Obeys signer y i k.0 n n' answer) same k.2) h

        by_record : (z : Option Newest) → slice_get r.records c ≡ z
            → ObeysBy signer c y z answer r.links q.links r.records q.records → IsGiven o y b g r q
        by_record None none k =
            stops (halts l) answer (k.1 ∙ ap (λ z. changed_by c halts z r.links) at) refl (drops_keeps l)
            (halt_tells (kept_at old r.records) (kept_at old q.records) c l (halts l) (λ i. ap (λ ns. kept_at old ns i)
            k.2) refl) h
        by_record (Some n) found k = by_link n k.0 found k.1 (slice_get r.links c) refl k.2

    pub is_given : Gives signer c id y g r q → IsGiven o y b g r q
    unfolding Gives
    is_given h = over_record h.0 h.1 h.2

-- ---- the first command

sure_so : (i : ℕ) (row : Result Done Refusal) → IfErr IsCertain row → IsSure (answer_to i (done_or_refused row))
sure_so i (Ok d) h = tt
sure_so i (Err r) h = h

-- it says whether it took the command
pub sure_answer : {K : Type 0} (signer : K → Signer) (l : State K) (y : Command) (i : ℕ) → l.halted ≡ false
    → FailsOnly l → IsBooks y → IsSure (answer_to i (done_or_refused (commanded (signer l.keys) l y)))
sure_answer signer l y i works fails books =
    sure_so i (commanded (signer l.keys) l y) (certain (signer l.keys) l fails y books works)

-- what a seat says of its link is known as steps are taken
pub knowing_failure : {K : Type 0} (signer : K → Signer) (v w : View K) (c : ℕ) (l : State K)
    → slice_get v.links c ≡ Some l → ((l.halted ≡ false → FailsOnly l) → Leads signer v w) → Leads signer v w
knowing_failure signer v w c l at leads m h =
    let k = mapped_at link_of m.seats c l (ap (λ ls. slice_get ls c) h.links ∙ at) in
    leads (λ works r is. (h.faithful k.0 (is_among m.seats c k.0 k.1)).failed
    (ap (λ (z : State _). z.halted) k.2 ∙ works) r (ap (λ (z : State _). z.failure) k.2 ∙ is)) m h

module _ {K : Type 0} (signer : K → Signer) (old : Loaded) (p q : Parts K) (numbers : q.numbers ≡ p.numbers)
    (s : Services) (c : ℕ) where
  stays : obeyed q ≡ obeyed p → Leads signer (view old p) (view old q)
  stays is = same_lead signer (view old p) (view old q) (ap (λ (z : Obeyed K). z.links) is)
      (same_records old p q (ap (λ (z : Obeyed K). z.records) is)) numbers
      (ap (λ (z : Obeyed K). table_of z.book) is)

  module _ (l : State K) (e : End) (at : slice_get p.links c ≡ Some l) (works : l.halted ≡ false)
      (end : saved_end l.stage ≡ Some e) (o : Out) (y : Command)
      (first : first_of s e.dance.channel p.book ≡ Some (o, y)) (g : Given) where
    abbrev r : Obeyed K
    r = taking e.dance.channel (Some (o, y)) (obeyed p)

    abbrev table : Table
    table = table_of p.book

    out_now : table_of q.book ≡ after table (entry.Taken e.dance.channel o)
        → OutOnly (IsWorking l) table (table_of q.book)
    out_now is = subst (OutOnly (IsWorking l) table) (sym is)
        (out_taken (IsWorking l) e.dance.channel o table (works, (e, end, refl)))

    -- it halts, and the book hears nothing more
    over : (l' : State K) → q.links ≡ slice_set p.links c l' → l'.halted ≡ true → KeepsChannel l.stage l'.stage
        → ((z : Option End) → Tells (kept_at old p.records) (kept_at old q.records) c l l' z) → q.book ≡ r.book
        → Leads signer (view old p) (view old q)
    over l' links halted keeps told book =
        let is : table_of q.book ≡ after table (entry.Taken e.dance.channel o) =
        ap table_of book ∙ one_more (entry.Taken e.dance.channel o) p.book in
        halts_lead signer (view old p) (view old q) c l l' at links numbers halted
        keeps told (out_now is) (ap (λ (t : Table). t.htlcs) is)

    obeys : is_decision y ≡ false → (l' : State K) → q.links ≡ slice_set p.links c l'
        → l' ≡ made.made signer (made.Command y) l → ((z : Option End) → Tells (kept_at old p.records)
        (kept_at old q.records) c l l' z)
        → table_of q.book ≡ replay table (obeying signer l e o y) → Leads signer (view old p) (view old q)
    obeys isnt l' links is told book = knowing_failure signer (view old p) (view old q) c l at (λ fails.
        let d = first_due_is s e.dance.channel table o y first isnt in
        let a = answer_to (command_subject (next_own_id e) y) (done_or_refused (commanded (signer l.keys) l y)) in
        quiet_lead signer (view old p) (view old q) c l l' at links numbers (made.Command y) tt is
        (λ halted. absurd (let no : true ≡ false = sym halted ∙ works in cc)) told
        (subst (OutOnly (λ id. ⊥) table) (sym book) (out_answered (λ id. ⊥) e.dance.channel o a table
        (sure_answer signer l y (command_subject (next_own_id e) y) works (fails works)
        (first_books s e.dance.channel table o y first))))
        (λ m h x x_at link.
        let halted = ap (λ (z : State K). z.halted) link ∙ works in
        step.Obeys s x e d.htlc o y (record {
          end = ((h.sound x (is_among m.seats c x x_at)).works halted).0
              ∙ ap (λ (z : State K). saved_end z.stage) link ∙ end;
          halted = halted;
        }) (subst (λ (t : Table). IsIn d.htlc t.htlcs) (sym h.book) d.among) d.due d.command
        (seat_changes c x (called signer (made.Command y) x) (table_of q.book) m x_at)
        (book ∙ ap (λ t. replay t (obeying signer l e o y)) (sym h.book)
        ∙ ap (λ k. replay m.book (obeying signer k e o y)) (sym link))))

    given_lead : is_decision y ≡ false → IsGiven signer old c l e o y p.book g r (obeyed q)
        → Leads signer (view old p) (view old q)
    given_lead isnt (Answered l' links is told book) = obeys isnt l' links is told book
    given_lead isnt (Halted l' links halted keeps told book g) = over l' links halted keeps told book

    by_command : (b : Bool) → is_decision y ≡ b → ObeysCommand signer c e.dance.channel y b g r (obeyed q)
        → Leads signer (view old p) (view old q)
    by_command true is h =
        over (halts l) (ap (λ (z : Obeyed K). z.links) h.1 ∙ ap (λ z. changed_by c halts z p.links) at) refl
        (drops_keeps l)
        (halt_tells (kept_at old p.records) (kept_at old q.records) c l (halts l) (same_records old p q
        (ap (λ (z : Obeyed K). z.records) h.1)) refl)
        (ap (λ (z : Obeyed K). z.book) h.1)
    by_command false isnt h =
        given_lead isnt (is_given signer old c l e works end o y p.book g r (obeyed q) at refl h)

  at_first : (l : State K) (e : End) → slice_get p.links c ≡ Some l → l.halted ≡ false
      → saved_end l.stage ≡ Some e → (f : Option (Out × Command)) → first_of s e.dance.channel p.book ≡ f → (g : Given)
      → ObeysFirst signer c e.dance.channel (option_map (λ x. x.1) f) g (taking e.dance.channel f (obeyed p)) (obeyed q)
      → Leads signer (view old p) (view old q)
  at_first l e at works end None comes g h = stays h.1
  at_first l e at works end (Some x) comes g h =
      by_command l e at works end x.0 x.1 comes g (is_decision x.1) refl h

  at_end : (l : State K) → slice_get p.links c ≡ Some l → l.halted ≡ false → (o : Option End)
      → saved_end l.stage ≡ o → (g : Given) → ObeysBook signer s c (id_by_end o) g (obeyed p) (obeyed q)
      → Leads signer (view old p) (view old q)
  at_end l at works None end g h = stays h.1
  at_end l at works (Some e) end g h =
      at_first l e at works end (first_of s e.dance.channel p.book) refl g h

  pub obeys_book : (g : Given) → ObeysBook signer s c (working_id (slice_get p.links c)) g (obeyed p) (obeyed q)
      → Leads signer (view old p) (view old q)
  obeys_book g h = by_link (slice_get p.links c) refl h
    where
      by_halted : (l : State K) → slice_get p.links c ≡ Some l → (b : Bool) → l.halted ≡ b
          → ObeysBook signer s c (cond b None (id_by_end (saved_end l.stage))) g (obeyed p) (obeyed q)
          → Leads signer (view old p) (view old q)
      by_halted l at true is k = stays k.1
      by_halted l at false is k = at_end l at is (saved_end l.stage) refl g k

      by_link : (o : Option (State K)) → slice_get p.links c ≡ o
          → ObeysBook signer s c (working_id o) g (obeyed p) (obeyed q) → Leads signer (view old p) (view old q)
      by_link None at k = stays k.1
      by_link (Some l) at k = by_halted l at l.halted refl k
