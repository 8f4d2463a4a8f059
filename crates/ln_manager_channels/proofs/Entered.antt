-- What a public call leaves, as one of the list of calls, and one call more.
use Rattle.std.proofs.Common.{◌≡◌, ◌⊎◌, inl, inr, ℕ, List, [], ◌∷◌, ◌++◌, slice_get, refl, sym, subst, ap, ◌∙◌}
use Rattle.std.proofs.Common.{OnOk, OnErr, IfOk}
use Rattle.std.specs.Prelude.{Result, Ok, Err, if◌then◌else◌}
use Rattle.ln_refusals.specs.declared.refusal.Refusal.{Refusal}
use Rattle.ln_keys.specs.Signer.{Signer}
use Rattle.ln_channel.specs.State.{State, drops, halts}
use Rattle.ln_forward.specs.declared.checks.Policy.{Policy}
use Rattle.ln_history.specs.History.{begun_with}
use Rattle.ln_book_tables.specs.Replay.{no_table, table_of}
use Rattle.ln_book.specs.declared.switch.uses.Use.{Use}
use Rattle.ln_book.specs.Rebuild.{rebuilt}
use Rattle.ln_book.specs.Uses.{with_route, with_use}
use Rattle.ln_manager_channels.specs.declared.newest.Newest.{Newest}
use Rattle.ln_manager_channels.specs.declared.saved.Saved.{Saved}
use Rattle.ln_manager_channels.specs.Books.{Book, snapshots_of, with_kept}
use Rattle.ln_manager_channels.specs.Calls.{Parts, Call, Makes, Make, Begins, IsOutcome, AreLoaded, no_parts, seats}
use Rattle.ln_manager_channels.specs.Calls.{Running, Adds, HasPlace, Loses, OrSame, Hears}
use Rattle.ln_manager_channels.specs.Links.{end_in, is_up}
use Rattle.ln_manager_channels.specs.Loading.{SeatsAll}
use Rattle.ln_manager_channels.specs.Numbers.{NumbersById}
use Rattle.ln_manager_channels.specs.Places.{changed_at}

-- ---- one call more

module _ {K : Type 0} (signer : K → Signer) where
  make_more : (ks : List (Call K)) (k : Call K) (o p q : Parts K) → Make signer ks o p → Makes signer k p q
      → Make signer (ks ++ k ∷ []) o q
  make_more [] k o p q made makes = (q, subst (λ (r : Parts K). Makes signer k r q) made makes, refl)
  make_more (x ∷ ks) k o p q made makes = (made.0, made.1, make_more ks k made.0 p q made.2 makes)

  pub one_more : (k : Call K) (o p q : Parts K) → IsOutcome signer (record { began = o; parts = p })
      → Makes signer k p q → IsOutcome signer (record { began = o; parts = q })
  one_more k o p q is makes = record {
    begins = is.begins;
    calls = is.calls ++ k ∷ [];
    made = make_more is.calls k o p q is.made makes;
  }

  pub entered : (k : Call K) (r s : Running K) (q : Parts K) → r ≡ s → Makes signer k r.parts q
      → Makes signer k s.parts q
  entered k r s q same makes = subst (λ (t : Running K). Makes signer k t.parts q) same makes

  -- none yet
  pub just_begun : (o p : Parts K) → o ≡ p → Begins p → IsOutcome signer (record { began = o; parts = p })
  just_begun o p same begins = record { begins = subst Begins (sym same) begins; calls = []; made = sym same }

-- ---- what they begin with

module _ {K : Type 0} where
  pub same_as_none : (p : Parts K) → p.links ≡ [] → p.records ≡ [] → p.numbers ≡ [] → p.book ≡ begun_with no_table
      → p ≡ no_parts
  same_as_none p links records numbers book =
      ap (λ (ls : List (State K)). record { links = ls; records = p.records; numbers = p.numbers; book = p.book }) links
      ∙ ap (λ (rs : List Newest). record { links = []; records = rs; numbers = p.numbers; book = p.book }) records
      ∙ ap (λ (ns : NumbersById). record { links = []; records = []; numbers = ns; book = p.book }) numbers
      ∙ ap (λ (b : Book). record { links = []; records = []; numbers = []; book = b }) book

  pub loaded_so : (saved : List (Saved K)) (n p : Parts K) → n ≡ no_parts → SeatsAll saved (seats n) (seats p)
      → p.book ≡ begun_with (rebuilt (table_of n.book) (snapshots_of p.links)) → AreLoaded saved p
  loaded_so saved n p none all book = (
    subst (λ (m : Parts K). SeatsAll saved (seats m) (seats p)) none all,
    subst (λ (m : Parts K). p.book ≡ begun_with (rebuilt (table_of m.book) (snapshots_of p.links))) none book,
  )

-- ---- a call

module _ {K : Type 0} (p q : Parts K) where
  pub adds_so : (l m : State K) → l ≡ m → (r : Result (Unit {0}) Refusal) → OnOk r (q.links ≡ p.links ++ l ∷ [])
      → OnErr r (q.links ≡ p.links) → OnOk r (HasPlace p q) → OnErr r ((q.records ≡ p.records) ⊎ HasPlace p q)
      → q.numbers ≡ p.numbers → q.book ≡ p.book → Adds m p q
  adds_so l m same (Ok u) adds stay place most numbers book =
      (inl (adds ∙ ap (λ (x : State K). p.links ++ x ∷ []) same, place), (numbers, book))
  adds_so l m same (Err e) adds stay place most numbers book = (inr (stay, most), (numbers, book))

  pub loses_so : (c : ℕ) (r : Result (Unit {0}) Refusal)
      → OnOk r (q.links ≡ (if is_up (slice_get p.links c) then changed_at c drops p.links else p.links))
      → OnOk r (q.book
      ≡ (if is_up (slice_get p.links c) then with_kept (end_in (slice_get q.links c)) p.book else p.book))
      → OnErr r (q.links ≡ changed_at c halts (changed_at c drops p.links)) → OnErr r (q.book ≡ p.book)
      → Loses c p q
  loses_so c (Ok u) links book halted same = inl (links, book)
  loses_so c (Err e) links book halted same = inr (halted, same)

  pub or_same : {V : Type 0} (Done : V → Type 0) (r : Result V Refusal) → IfOk r Done → OnErr r (q.links ≡ p.links)
      → OnErr r (q.book ≡ p.book) → OnErr r (q.records ≡ p.records) → q.numbers ≡ p.numbers
      → OrSame ((v : V) × Done v) p q
  or_same Done (Ok v) done links book records numbers = (inl (v, done), numbers)
  or_same Done (Err e) done links book records numbers = (inr (links, book, records), numbers)

  pub hears_so : {V : Type 0} (told : Book) (r : Result V Refusal) → OnOk r (q.book ≡ told)
      → OnErr r (q.book ≡ p.book) → q.links ≡ p.links → q.numbers ≡ p.numbers → q.records ≡ p.records → Hears told p q
  hears_so told (Ok v) hears same links numbers records = (inl hears, (links, numbers, records))
  hears_so told (Err e) hears same links numbers records = (inr same, (links, numbers, records))

  pub follows_so : (policy : Policy) (used : Use) (r : Result (Unit {0}) Refusal)
      → OnOk r (q.book ≡ with_use policy used p.book)
      → OnErr r ((q.book ≡ p.book) ⊎ (q.book ≡ with_route policy used used.short_id p.book))
      → q.links ≡ p.links → q.numbers ≡ p.numbers → q.records ≡ p.records
      → Hears (with_use policy used p.book) p q ⊎ Hears (with_route policy used used.short_id p.book) p q
  follows_so policy used (Ok u) follows routes links numbers records = inl (inl follows, (links, numbers, records))
  follows_so policy used (Err e) follows (inl same) links numbers records = inl (inr same, (links, numbers, records))
  follows_so policy used (Err e) follows (inr route) links numbers records = inr (inl route, (links, numbers, records))
