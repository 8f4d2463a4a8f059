-- What becomes of what the book commands, and of what a host decides, by parts.
use Rattle.std.proofs.Common.{◌≡◌, ◌∙◌, ℕ, List, Bool, true, false, Option, Some, None, slice_get, option_map}
use Rattle.std.proofs.Common.{refl, sym, subst, ap, inl, inr}
use Rattle.std.specs.Prelude.{Result}
use Rattle.ln_keys.specs.Signer.{Signer}
use Rattle.ln_keys.specs.Services.{Services}
use Rattle.ln_log.specs.declared.mark.Mark.{Mark}
use Rattle.ln_hooks.specs.declared.event.ChannelEvent.{ChannelEvent}
use Rattle.ln_hooks.specs.declared.verdict.Verdict.{Verdict}
use Rattle.ln_channel.specs.declared.command.Command.{Command}
use Rattle.ln_channel.specs.State.{halts}
use Rattle.ln_book.specs.Answers.{answer_to, replied, waits}
use Rattle.ln_book.specs.Marks.{offer_of, mark_of, resumption}
use Rattle.ln_book_tables.specs.Replay.{table_of}
use Rattle.ln_manager_channels.specs.declared.given.Given.{Given}
use Rattle.ln_manager_channels.specs.declared.given.Given.TheVariants as given
use Rattle.ln_manager_channels.specs.Books.{Book}
use Rattle.ln_manager_channels.specs.Commands.{is_decision, decides, resumes}
use Rattle.ln_manager_channels.specs.Links.{halted_in, done_in}
use Rattle.ln_manager_channels.specs.Moves.{Answer, ObeysOver}
use Rattle.ln_manager_channels.specs.Obeying.{Obeyed, Gives, GivesBy, subject_in, origin_of, given_of, Stops, stopped}
use Rattle.ln_manager_channels.specs.Obeying.{ObeysCommand, ObeysFirst, ObeysBook, first_of, taking, Concludes}
use Rattle.ln_manager_channels.specs.Obeying.{ConcludesIf, ConcludesFirst, ConcludesDue, Decides, deciding, Resumes}
use Rattle.ln_manager_channels.specs.Obeying.{resuming}
use Rattle.ln_manager_channels.specs.Places.{changed_at}

-- ---- parts

pub same_parts : {K : Type 0} (p q : Obeyed K) → q.links ≡ p.links → q.records ≡ p.records → q.book ≡ p.book → q ≡ p
same_parts p q links records book =
    ap (λ ls. record { links = ls; records = q.records; book = q.book }) links
    ∙ ap (λ rs. record { links = p.links; records = rs; book = q.book }) records
    ∙ ap (λ b. record { links = p.links; records = p.records; book = b }) book

module _ {K : Type 0} (signer : K → Signer) (c : ℕ) (id : List ℕ) (x : Command) (p q : Obeyed K) where
  -- ---- a link is given a command

  pub gives_halted : (answer : Answer) → ObeysOver signer c x answer p.links q.links p.records q.records
      → halted_in (slice_get q.links c) ≡ true → q.book ≡ p.book → Gives signer c id x given.Halted p q
  unfolding Gives
  gives_halted answer obeys halted book =
      (answer, obeys, subst (λ b. GivesBy c id x answer b given.Halted p q) (sym halted) (refl, book))

  pub gives_working : (answer : Answer) (g : Given) (subject : ℕ) (heard : Result ℕ ℕ) (b : Book)
      → ObeysOver signer c x answer p.links q.links p.records q.records → halted_in (slice_get q.links c) ≡ false
      → subject ≡ subject_in (slice_get p.links c) x → heard ≡ answer_to subject (done_in answer)
      → g ≡ given_of answer (waits heard) (origin_of x) → b ≡ p.book → q.book ≡ replied id heard b
      → Gives signer c id x g p q
  unfolding Gives
  gives_working answer g subject heard b obeys halted subject_is heard_is given_is same book =
      let told : heard ≡ answer_to (subject_in (slice_get p.links c) x) (done_in answer) =
      heard_is ∙ ap (λ n. answer_to n (done_in answer)) subject_is in
      let becomes : g ≡ given_of answer (waits (answer_to (subject_in (slice_get p.links c) x) (done_in answer)))
      (origin_of x) = given_is ∙ ap (λ a. given_of answer (waits a) (origin_of x)) told in
      let hears : q.book ≡ replied id (answer_to (subject_in (slice_get p.links c) x) (done_in answer)) p.book =
      book ∙ ap (λ (a : Result ℕ ℕ). replied id a b) told
      ∙ ap (replied id (answer_to (subject_in (slice_get p.links c) x) (done_in answer))) same in
      (answer, obeys, subst (λ h. GivesBy c id x answer h g p q) (sym halted) (becomes, hears))

  -- ---- the first command of the book

  pub obeys_decision : (g : Given) → is_decision x ≡ true → Stops c g p q
      → ObeysCommand signer c id x (is_decision x) g p q
  obeys_decision g e stops = subst (λ b. ObeysCommand signer c id x b g p q) (sym e) stops

  pub obeys_other : (g : Given) → is_decision x ≡ false → Gives signer c id x g p q
      → ObeysCommand signer c id x (is_decision x) g p q
  obeys_other g e gives = subst (λ b. ObeysCommand signer c id x b g p q) (sym e) gives

  -- ---- a decision that waits

  pub concludes_stopped : (r : Obeyed K) (w g : Given) → w ≡ given.Waits → Gives signer c id x w p r → Stops c g r q
      → Concludes signer c id x g p q
  concludes_stopped r w g e gives stops = inr (r, subst (λ v. Gives signer c id x v p r) e gives, stops)

module _ {K : Type 0} (c : ℕ) (p q : Obeyed K) where
  pub stops_so : (g : Given) → g ≡ given.Halted → q.links ≡ changed_at c halts p.links → q.records ≡ p.records
      → q.book ≡ p.book → Stops c g p q
  stops_so g e links records book = (e, same_parts (stopped c p) q links records book)

module _ {K : Type 0} (signer : K → Signer) (s : Services) (c : ℕ) (p q : Obeyed K) where
  pub book_of_none : (w : Option (List ℕ)) → w ≡ None → q ≡ p → ObeysBook signer s c w given.Nothing p q
  book_of_none w e same = subst (λ o. ObeysBook signer s c o given.Nothing p q) (sym e) (refl, same)

  pub book_has_none : (w : Option (List ℕ)) (id : List ℕ) → w ≡ Some id
      → option_map (λ x. x.1) (first_of s id p.book) ≡ None → q ≡ taking id (first_of s id p.book) p
      → ObeysBook signer s c w given.Nothing p q
  book_has_none w id e none same =
      let first = first_of s id p.book in
      subst (λ o. ObeysBook signer s c o given.Nothing p q) (sym e)
      (subst (λ o. ObeysFirst signer c id o given.Nothing (taking id first p) q) (sym none) (refl, same))

  pub book_has : (w : Option (List ℕ)) (id : List ℕ) (x : Command) (g : Given) (r : Obeyed K) → w ≡ Some id
      → option_map (λ x. x.1) (first_of s id p.book) ≡ Some x → r ≡ taking id (first_of s id p.book) p
      → ObeysCommand signer c id x (is_decision x) g r q → ObeysBook signer s c w g p q
  book_has w id x g r e some same obeys =
      let first = first_of s id p.book in
      subst (λ o. ObeysBook signer s c o g p q) (sym e)
      (subst (λ o. ObeysFirst signer c id o g (taking id first p) q) (sym some)
      (subst (λ (m : Obeyed K). ObeysCommand signer c id x (is_decision x) g m q) same obeys))

  -- ---- what is due

  module _ (id : List ℕ) (is_due : Command → Bool) (g : Given) where
    pub due_stops : Stops c g p q → ConcludesDue signer s c id is_due g p q
    unfolding ConcludesDue
    due_stops stops = inl stops

    pub due_none : (r : Obeyed K) → option_map (λ x. x.1) (first_of s id p.book) ≡ None
        → r ≡ taking id (first_of s id p.book) p → Stops c g r q → ConcludesDue signer s c id is_due g p q
    unfolding ConcludesDue
    due_none r none same stops =
        let first = first_of s id p.book in
        inr (subst (λ o. ConcludesFirst signer c id is_due o g (taking id first p) q) (sym none)
        (subst (λ (m : Obeyed K). Stops c g m q) same stops))

    due_first : (x : Command) (r : Obeyed K) → option_map (λ x. x.1) (first_of s id p.book) ≡ Some x
        → r ≡ taking id (first_of s id p.book) p → ConcludesIf signer c id x (is_due x) g r q
        → ConcludesDue signer s c id is_due g p q
    unfolding ConcludesDue
    due_first x r some same concludes =
        let first = first_of s id p.book in
        inr (subst (λ o. ConcludesFirst signer c id is_due o g (taking id first p) q) (sym some)
        (subst (λ (m : Obeyed K). ConcludesIf signer c id x (is_due x) g m q) same concludes))

    pub due_other : (x : Command) (r : Obeyed K) → option_map (λ x. x.1) (first_of s id p.book) ≡ Some x
        → r ≡ taking id (first_of s id p.book) p → is_due x ≡ false → Stops c g r q
        → ConcludesDue signer s c id is_due g p q
    due_other x r some same e stops =
        due_first x r some same (subst (λ b. ConcludesIf signer c id x b g r q) (sym e) stops)

    pub due_so : (x : Command) (r : Obeyed K) → option_map (λ x. x.1) (first_of s id p.book) ≡ Some x
        → r ≡ taking id (first_of s id p.book) p → is_due x ≡ true → Concludes signer c id x g r q
        → ConcludesDue signer s c id is_due g p q
    due_so x r some same e concludes =
        due_first x r some same (subst (λ b. ConcludesIf signer c id x b g r q) (sym e) concludes)

  -- ---- what a host decides

  pub decides_so : (next : Option (List ℕ × ℕ × ChannelEvent)) (id : List ℕ) (n : ℕ) (told : ChannelEvent)
      (v : Verdict) (m : Mark) (g : Given) (r : Obeyed K) → next ≡ Some (id, n, told)
      → m ≡ mark_of s (table_of p.book) n (offer_of told) v → r ≡ deciding s id n told v p
      → ConcludesDue signer s c id (decides n) g r q → Decides signer s c next v (m, g) p q
  decides_so next id n told v m g r e mark same concludes =
      subst (λ o. Decides signer s c o v (m, g) p q) (sym e)
      (mark, subst (λ (o : Obeyed K). ConcludesDue signer s c id (decides n) g o q) same concludes)

  pub resumes_so : (w : Option (List ℕ)) (id : List ℕ) (n : ℕ) (v : Verdict) (m : Mark) (g : Given) (r : Obeyed K)
      → w ≡ Some id → resumption s (table_of p.book) id n v ≡ Some m → r ≡ resuming id n m p
      → ConcludesDue signer s c id (resumes n) g r q → Resumes signer s c w n v (m, g) p q
  resumes_so w id n v m g r e mark same concludes =
      subst (λ o. Resumes signer s c o n v (m, g) p q) (sym e)
      (mark, subst (λ (o : Obeyed K). ConcludesDue signer s c id (resumes n) g o q) same concludes)
