-- What is kept of a manager that stands for links, records, numbers and a book: each seat has its number and its
-- record, and a command is out only in the channel of a link that has halted.
use Rattle.std.proofs.Common.{◌≡◌, ◌⊎◌, inl, inr, ℕ, List, [], ◌∷◌, ◌++◌, map, slice_get, slice_set, refl, sym, ap}
use Rattle.std.proofs.Common.{◌∙◌, subst, Bool, true, false, Some, ◌==◌}
use Rattle.std.proofs.lemmas.Bool.{eqb-true, eq-eqb}
use Rattle.ln_refusals.specs.declared.refusal.Refusal.{Refusal}
use Rattle.ln_keys.specs.Signer.{Signer}
use Rattle.ln_channel.specs.End.{End}
use Rattle.ln_channel.specs.Failing.{fails}
use Rattle.ln_channel.specs.State.{State, kept_channel}
use Rattle.ln_book_tables.specs.declared.entry.PendingCommand.TheVariants as pending_command
use Rattle.ln_book_tables.specs.Replay.{Table, table_of, pending_command_at}
use Rattle.ln_payment_circuits.specs.Snapshot.{IsIn}
use Rattle.ln_manager_laws.specs.Calls.{Seat}
use Rattle.ln_manager_laws.specs.Manager.{Manager, seat_id}
use Rattle.ln_manager_laws.specs.Steps.{Step, Changes, AreSteps, last_step}
use Rattle.ln_manager_laws.proofs.Orderly.{EachSeat, each_changed, then_or_now, is_there}
use Rattle.ln_manager_laws.proofs.Seats.{IsSound}
use Rattle.ln_manager_laws.proofs.Stepping.{step_sound}
use Rattle.ln_manager_channels.specs.Numbers.{NumbersById, number_at}
use Rattle.ln_manager_channels.specs.Calls.{Parts}
use Rattle.ln_manager_calls.specs.Standing.{Kept, Loaded, link_of, kept_at, IsRecorded, IsStuck}
use Rattle.ln_manager_calls.proofs.Pending.{OutOnly}
use Rattle.ln_manager_calls.proofs.Places.{stands_at, got_set, got_other, set_other, mapped_set, mapped_at, place_of}

-- what clauses speak of, with what the book says
pub record View (K : Type 0) : Type 0 where
  pub links : List (State K)
  pub records : ℕ → Kept  -- of each place
  pub numbers : NumbersById
  pub table : Table

abbrev pub view : {K : Type 0} → Loaded → Parts K → View K
view old p = record { links = p.links; records = kept_at old p.records; numbers = p.numbers; table = table_of p.book }

module _ {K : Type 0} where
  -- at each place the records are the same
  abbrev pub SameRecords : View K → View K → Type 0
  SameRecords v w = (k : ℕ) → w.records k ≡ v.records k

  -- ---- of each link

  -- its end's channel is that of its stage, and its channel has failed by what fails one
  pub record IsFaithful (x : Seat K) : Type 0 where
    pub held : (e : End) → x.end ≡ Some e → kept_channel x.link.stage ≡ Some e.dance.channel
    pub failed : x.link.halted ≡ false → (r : Refusal) → x.link.failure ≡ Some r → fails r ≡ true

  -- its id has this number
  abbrev pub HasNumber : NumbersById → ℕ → Seat K → Type 0
  HasNumber numbers k x = (id : List ℕ) → seat_id x ≡ Some id → number_at id numbers ≡ Some k

  abbrev pub AreNumbered : NumbersById → List (Seat K) → Type 0
  AreNumbered numbers xs = (k : ℕ) (x : Seat K) → slice_get xs k ≡ Some x → HasNumber numbers k x

  abbrev pub AreOut : Manager K → Type 0
  AreOut m = (id : List ℕ) → (pending_command_at id m.book ≡ pending_command.Idle)
      ⊎ ((x : Seat K) × IsIn x m.seats × IsStuck id x)

  -- ---- a manager stands for them

  pub record Stands (v : View K) (m : Manager K) : Type 0 where
    pub links : map link_of m.seats ≡ v.links
    pub book : m.book ≡ v.table
    pub sound : EachSeat IsSound m
    pub faithful : EachSeat IsFaithful m
    pub numbered : AreNumbered v.numbers m.seats
    pub recorded : (k : ℕ) → IsRecorded (slice_get m.seats k) (v.records k)
    pub out : AreOut m

  -- no command is out in the channel of a link that works
  pub none_out : (v : View K) (m : Manager K) → Stands v m → (c : ℕ) (x : Seat K) → slice_get m.seats c ≡ Some x
      → x.link.halted ≡ false → (id : List ℕ) → seat_id x ≡ Some id
      → pending_command_at id m.book ≡ pending_command.Idle
  none_out v m h c x at works id is = cases (h.out id)
    where
      same_seat : (k : ℕ) (z : Seat K) → slice_get m.seats k ≡ Some z → seat_id z ≡ Some id → x ≡ z
      same_seat k z there its =
          let some : Some c ≡ Some k = sym (h.numbered c x at id is) ∙ h.numbered k z there id its in
          let same : c ≡ k = cc in
          let found : Some x ≡ Some z = sym at ∙ ap (slice_get m.seats) same ∙ there in cc

      cases : (pending_command_at id m.book ≡ pending_command.Idle)
          ⊎ ((z : Seat K) × IsIn z m.seats × IsStuck id z) → pending_command_at id m.book ≡ pending_command.Idle
      cases (inl idle) = idle
      cases (inr s) =
          let k = place_of m.seats s.0 s.1 in
          let same = same_seat k.0 s.0 k.1 s.2.1 in
          absurd (let no : true ≡ false = sym s.2.0 ∙ ap (λ (z : Seat K). z.link.halted) (sym same) ∙ works in cc)

  -- ---- another seat stands at a place

  abbrev pub with_seat : ℕ → Seat K → Table → Manager K → Manager K
  with_seat c y t m = record { seats = slice_set m.seats c y; book = t }

  pub seat_changes : (c : ℕ) (x y : Seat K) (t : Table) (m : Manager K) → slice_get m.seats c ≡ Some x
      → Changes x y m (with_seat c y t m)
  seat_changes c x y t m at =
      let p = stands_at m.seats c x at in record { before = p.before; after = p.after; was = p.was; is = p.is y }

  -- ---- steps, one after the other

  steps_more : (signer : K → Signer) (m : Manager K) (ns ks : List (Manager K)) → AreSteps signer m ns
      → AreSteps signer (last_step m ns) ks → AreSteps signer m (ns ++ ks)
  steps_more signer m [] ks a b = b
  steps_more signer m (n ∷ ns) ks a b = (a.0, steps_more signer n ns ks a.1 b)

  pub last_more : (m : Manager K) (ns ks : List (Manager K)) → last_step m (ns ++ ks) ≡ last_step (last_step m ns) ks
  last_more m [] ks = refl
  last_more m (n ∷ ns) ks = last_more n ns ks

  module _ (signer : K → Signer) where
    -- steps lead from one that stands for these to one that stands for those
    abbrev pub Reaches : View K → Manager K → Type 0
    Reaches w m = (ns : List (Manager K)) × AreSteps signer m ns × Stands w (last_step m ns)

    abbrev pub Leads : View K → View K → Type 0
    Leads v w = (m : Manager K) → Stands v m → Reaches w m

    pub lead_none : (v w : View K) → w ≡ v → Leads v w
    lead_none v w same m h = ([], tt, subst (λ z. Stands z m) (sym same) h)

    pub lead_then : (v w u : View K) → Leads v w → Leads w u → Leads v u
    lead_then v w u f g m h =
        let a = f m h in
        let b = g (last_step m a.0) a.2 in
        (a.0 ++ b.0, steps_more signer m a.0 b.0 a.1 b.1, subst (Stands u) (sym (last_more m a.0 b.0)) b.2)

    -- ---- one seat changes

    module _ (v w : View K) (m : Manager K) (h : Stands v m) (c : ℕ) (x y : Seat K)
        (at : slice_get m.seats c ≡ Some x) where
      abbrev next : Manager K
      next = with_seat c y w.table m

      g : Changes x y m next
      g = seat_changes c x y w.table m at

      pub moved : Step signer m next → w.links ≡ slice_set v.links c y.link → IsFaithful y
          → HasNumber w.numbers c y
          → ((k : ℕ) (z : Seat K) → slice_get m.seats k ≡ Some z → (k ≡ c → ⊥) → HasNumber w.numbers k z)
          → IsRecorded (Some y) (w.records c)
          → ((k : ℕ) → (k ≡ c → ⊥) → w.records k ≡ v.records k)
          → ((id : List ℕ) → IsStuck id x → IsStuck id y) → OutOnly (λ id. IsStuck id y) v.table w.table → Reaches w m
      moved step links faithful number others here beside stuck out = (
        next ∷ [],
        (step, tt),
        record {
          links = mapped_set link_of m.seats c y ∙ ap (λ ls. slice_set ls c y.link) h.links ∙ sym links;
          book = refl;
          sound = step_sound signer m next h.sound step;
          faithful = each_changed x y m next g IsFaithful IsFaithful (λ z k. k) faithful h.faithful;
          numbered = numbered;
          recorded = recorded;
          out = λ id. was_out id (out id) (h.out id);
        },
      )
        where
          recorded : (k : ℕ) → IsRecorded (slice_get next.seats k) (w.records k)
          recorded k = by_place (k == c) refl
            where
              by_place : (b : Bool) → (k == c) ≡ b → IsRecorded (slice_get next.seats k) (w.records k)
              by_place true is =
                  subst (λ i. IsRecorded (slice_get next.seats i) (w.records i)) (sym (eqb-true k c is))
                  (subst (λ o. IsRecorded o (w.records c)) (sym (got_set m.seats c x y at)) here)
              by_place false isnt =
                  let apart : k ≡ c → ⊥ = λ same. absurd (let no : true ≡ false = sym (eq-eqb k c same) ∙ isnt in cc) in
                  subst (λ o. IsRecorded o (w.records k)) (sym (set_other m.seats c k y apart))
                  (subst (IsRecorded (slice_get m.seats k)) (sym (beside k apart)) (h.recorded k))

          numbered : AreNumbered w.numbers next.seats
          numbered k z there = by_place (k == c) refl
            where
              by_place : (b : Bool) → (k == c) ≡ b → HasNumber w.numbers k z
              by_place true is =
                  let same : k ≡ c = eqb-true k c is in
                  let found : Some y ≡ Some z = sym (got_set m.seats c x y at)
                  ∙ ap (slice_get next.seats) (sym same) ∙ there in
                  let seat : y ≡ z = cc in
                  subst (λ i. HasNumber w.numbers i z) (sym same) (subst (HasNumber w.numbers c) seat number)
              by_place false isnt =
                  let apart : k ≡ c → ⊥ = λ same. absurd (let no : true ≡ false = sym (eq-eqb k c same) ∙ isnt in cc) in
                  others k z (got_other m.seats c k y z there apart) apart

          still : (id : List ℕ) → ((z : Seat K) × IsIn z m.seats × IsStuck id z)
              → (z : Seat K) × IsIn z next.seats × IsStuck id z
          still id s = elim (then_or_now x y m next g s.0 s.1) [
            | inl same ↦ (y, is_there x y m next g, stuck id (subst (IsStuck id) (sym same) s.2))
            | inr there ↦ (s.0, there, s.2)
          ]

          was_out : (id : List ℕ) → (pending_command_at id w.table ≡ pending_command.Idle)
              ⊎ ((pending_command_at id w.table ≡ pending_command_at id v.table) ⊎ IsStuck id y)
              → (pending_command_at id m.book ≡ pending_command.Idle)
              ⊎ ((z : Seat K) × IsIn z m.seats × IsStuck id z)
              → (pending_command_at id w.table ≡ pending_command.Idle)
              ⊎ ((z : Seat K) × IsIn z next.seats × IsStuck id z)
          was_out id (inl idle) old = inl idle
          was_out id (inr (inr s)) old = inr (y, is_there x y m next g, s)
          was_out id (inr (inl k)) (inl idle) = inl (k ∙ ap (pending_command_at id) (sym h.book) ∙ idle)
          was_out id (inr (inl k)) (inr s) = inr (still id s)

    -- ---- the book alone changes

    pub entered : (v w : View K) → w.links ≡ v.links → w.numbers ≡ v.numbers → SameRecords v w
        → OutOnly (λ id. ⊥) v.table w.table
        → ((m : Manager K) → Stands v m → Step signer m (record m { book = w.table })) → Leads v w
    entered v w links numbers records out step m h =
        let n : Manager K = record m { book = w.table } in (
          n ∷ [],
          (step m h, tt),
          record {
            links = h.links ∙ sym links;
            book = refl;
            sound = step_sound signer m n h.sound (step m h);
            faithful = h.faithful;
            numbered = λ k x at. subst (λ ns. HasNumber ns k x) (sym numbers) (h.numbered k x at);
            recorded = λ k. subst (IsRecorded (slice_get m.seats k)) (sym (records k)) (h.recorded k);
            out = λ id. was_out id (out id) (h.out id);
          },
        )
      where
        was_out : (id : List ℕ) → (pending_command_at id w.table ≡ pending_command.Idle)
            ⊎ ((pending_command_at id w.table ≡ pending_command_at id v.table) ⊎ ⊥)
            → (pending_command_at id m.book ≡ pending_command.Idle) ⊎ ((z : Seat K) × IsIn z m.seats × IsStuck id z)
            → (pending_command_at id w.table ≡ pending_command.Idle) ⊎ ((z : Seat K) × IsIn z m.seats × IsStuck id z)
        was_out id (inl idle) old = inl idle
        was_out id (inr (inr none)) old = absurd none
        was_out id (inr (inl k)) (inl idle) = inl (k ∙ ap (pending_command_at id) (sym h.book) ∙ idle)
        was_out id (inr (inl k)) (inr s) = inr s

    -- ---- the link at a place

    pub at_link : (v w : View K) (c : ℕ) (l : State K) → slice_get v.links c ≡ Some l
        → ((m : Manager K) → Stands v m → (x : Seat K) → slice_get m.seats c ≡ Some x → x.link ≡ l → Reaches w m)
        → Leads v w
    at_link v w c l is goes m h =
        let k = mapped_at link_of m.seats c l (ap (λ ls. slice_get ls c) h.links ∙ is) in
        goes m h k.0 k.1 k.2
