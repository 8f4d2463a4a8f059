-- The steps by which a call of a node's channels leads from a manager to another one, at the link of a place.
use Rattle.std.proofs.Common.{◌≡◌, ℕ, List, slice_get, slice_set, refl, sym, ap, ◌∙◌}
use Rattle.std.proofs.Common.{subst, Bool, true, false, cond, Option, Some, None, Result, Ok, Err}
use Rattle.ln_refusals.specs.declared.refusal.Refusal.{Refusal}
use Rattle.ln_keys.specs.Signer.{Signer}
use Rattle.ln_channel.specs.declared.machine.ConnectionState.TheVariants as connection
use Rattle.ln_channel.specs.End.{End}
use Rattle.ln_channel.specs.Failing.{fails}
use Rattle.ln_channel.specs.Record.{saved_end}
use Rattle.ln_channel.specs.State.{State, KeepsChannel, refused, unless_failed, fails_by, failed, drops, cut, is_down}
use Rattle.ln_channel.specs.Step.{Done, commanded, connected}
use Rattle.ln_link.specs.Calls.{left_by}
use Rattle.ln_link.specs.Saving.{handled_beside}
use Rattle.ln_book_tables.specs.Replay.{Table}
use Rattle.ln_manager_laws.specs.Calls as made
use Rattle.ln_manager_laws.specs.Calls.{Seat, Call, connected_by, seated, called}
use Rattle.ln_manager_laws.specs.Manager.{Manager}
use Rattle.ln_manager_laws.specs.Steps.{Step, Changes, others, IsHosts}
use Rattle.ln_manager_laws.specs.Steps as step
use Rattle.ln_manager_laws.proofs.Seats.{IsSound, called_sound, made_halted}
use Rattle.ln_manager_laws.proofs.Turns.{IdGoes, Keeps, Loses, Agrees, IsReady, cut_so, naming_goes, command_goes}
use Rattle.ln_manager_laws.proofs.Turns.{connection_goes}
use Rattle.ln_channel.specs.declared.machine.Stage.{Stage}
use Rattle.ln_manager_channels.specs.Numbers.{NumbersById, number_at}
use Rattle.ln_manager_calls.specs.Standing.{IsRecorded, IsStuck}
use Rattle.ln_manager_calls.proofs.Kept.{View, Stands, HasNumber, Reaches, Leads, moved}
use Rattle.ln_manager_calls.proofs.Kept.{at_link, with_seat, seat_changes}
use Rattle.ln_manager_calls.proofs.Pending.{OutOnly, out_same, out_wide}
use Rattle.ln_manager_calls.proofs.Places.{is_among}
use Rattle.ln_manager_calls.proofs.Recording.{Tells, halted_recorded, seated_recorded}
use Rattle.ln_manager_calls.proofs.Seating.{FailsOnly, seated_link, seated_faithful, seated_number, seated_stuck}
use Rattle.ln_manager_calls.proofs.Seating.{halted_seat, halted_link, halted_faithful, halted_number, halted_stuck}
use Rattle.ln_manager_calls.proofs.Seating.{now_stuck}

goes_wide : (O : List ℕ → Type 0) (s t : Stage) → IdGoes (λ id. ⊥) s t → IdGoes O s t
goes_wide O s t (Keeps is) = Keeps is
goes_wide O s t (Loses is) = Loses is
goes_wide O s t (Agrees id none is) = absurd none

-- ---- a channel fails by what fails one

module _ {K : Type 0} where
  refused_fails : (r : Refusal) (l : State K) → FailsOnly l → FailsOnly (refused r l)
  refused_fails r l h = by_halted l.halted
    where
      by_fault : (b : Bool) → fails r ≡ b → FailsOnly (cond b (failed r l) l)
      by_fault true is = λ s at. let same : r ≡ s = cc in subst (λ z. fails z ≡ true) same is
      by_fault false is = h

      by_failure : (o : Option Refusal) → FailsOnly (unless_failed o l (fails_by r l))
      by_failure None = by_fault (fails r) refl
      by_failure (Some f) = h

      by_halted : (b : Bool) → FailsOnly (cond b l (unless_failed l.failure l (fails_by r l)))
      by_halted true = h
      by_halted false = by_failure l.failure

  pub left_fails : (row : Result Done Refusal) (refusing : Refusal → State K) (l : State K) → FailsOnly l
      → ((r : Refusal) → FailsOnly (refusing r)) → FailsOnly (left_by row refusing l)
  left_fails (Ok d) refusing l h none = h
  left_fails (Err r) refusing l h none = none r

  connected_fails : (row : Result Done Refusal) (l : State K) → FailsOnly l → FailsOnly (connected_by row l)
  connected_fails (Ok d) l h = h
  connected_fails (Err r) l h = h

  dropped_fails : (l : State K) → FailsOnly l → FailsOnly (drops l)
  dropped_fails l h = by_line (is_down l.connection)
    where
      by_line : (b : Bool) → FailsOnly (cond b l (record l { connection = connection.Down; stage = cut l.stage }))
      by_line true = h
      by_line false = h

  pub made_fails : (signer : K → Signer) (k : Call K) (l : State K) → FailsOnly l → FailsOnly (made.made signer k l)
  made_fails signer (made.SetKeys keys) l h = h
  made_fails signer (made.NameFunding txid output) l h = h
  made_fails signer (made.Handle known m) l h =
      left_fails (handled_beside known (signer l.keys) l m) (λ r. refused r l) l h (λ r. refused_fails r l h)
  made_fails signer (made.Command c) l h = left_fails (commanded (signer l.keys) l c) (λ r. l) l h (λ r. h)
  made_fails signer made.Connect l h = connected_fails (connected (signer l.keys) l) l h
  made_fails signer made.DropConnection l h = dropped_fails l h
  made_fails signer (made.Halt left) l h = h
  made_fails signer (made.Load keys failure) l h = h

  -- ---- a call that isn't a halt, nor a load

  abbrev pub IsPlain : Call K → Type 0
  IsPlain (made.SetKeys keys) = Unit {0}
  IsPlain (made.NameFunding txid output) = Unit {0}
  IsPlain (made.Handle known m) = Unit {0}
  IsPlain (made.Command c) = Unit {0}
  IsPlain made.Connect = Unit {0}
  IsPlain made.DropConnection = Unit {0}
  IsPlain (made.Halt left) = ⊥
  IsPlain (made.Load keys failure) = ⊥

  plain_seat : (signer : K → Signer) (k : Call K) (x : Seat K) → IsPlain k
      → called signer k x ≡ seated x (made.made signer k x.link)
  plain_seat signer (made.SetKeys keys) x p = refl
  plain_seat signer (made.NameFunding txid output) x p = refl
  plain_seat signer (made.Handle known m) x p = refl
  plain_seat signer (made.Command c) x p = refl
  plain_seat signer made.Connect x p = refl
  plain_seat signer made.DropConnection x p = refl
  plain_seat signer (made.Halt left) x p = absurd p
  plain_seat signer (made.Load keys failure) x p = absurd p

  -- without one that opens a channel
  abbrev pub IsQuiet : Call K → Type 0
  IsQuiet (made.SetKeys keys) = Unit {0}
  IsQuiet (made.NameFunding txid output) = Unit {0}
  IsQuiet (made.Handle known m) = ⊥
  IsQuiet (made.Command c) = Unit {0}
  IsQuiet made.Connect = Unit {0}
  IsQuiet made.DropConnection = Unit {0}
  IsQuiet (made.Halt left) = ⊥
  IsQuiet (made.Load keys failure) = ⊥

  quiet_plain : (k : Call K) → IsQuiet k → IsPlain k
  quiet_plain (made.SetKeys keys) q = tt
  quiet_plain (made.NameFunding txid output) q = tt
  quiet_plain (made.Handle known m) q = absurd q
  quiet_plain (made.Command c) q = tt
  quiet_plain made.Connect q = tt
  quiet_plain made.DropConnection q = tt
  quiet_plain (made.Halt left) q = absurd q
  quiet_plain (made.Load keys failure) q = absurd q

  dropped_goes : (l : State K) → IdGoes (λ id. ⊥) l.stage (drops l).stage
  dropped_goes l = by_line (is_down l.connection)
    where
      by_line : (b : Bool) → IdGoes (λ id. ⊥) l.stage
          (cond b l (record l { connection = connection.Down; stage = cut l.stage })).stage
      by_line true = Keeps refl
      by_line false = (cut_so l.stage).id

  -- it agrees on no id
  quiet_goes : (signer : K → Signer) (k : Call K) (l : State K) → IsQuiet k → IsReady l.stage
      → IdGoes (λ id. ⊥) l.stage (made.made signer k l).stage
  quiet_goes signer (made.SetKeys keys) l q ready = Keeps refl
  quiet_goes signer (made.NameFunding txid output) l q ready = (naming_goes ⊥ (λ id. ⊥) txid output l ready).id
  quiet_goes signer (made.Handle known m) l q ready = absurd q
  quiet_goes signer (made.Command c) l q ready =
      (command_goes ⊥ (λ id. ⊥) (signer l.keys) c l ready (λ p. absurd p)).id
  quiet_goes signer made.Connect l q ready = (connection_goes ⊥ (λ id. ⊥) (signer l.keys) l ready).id
  quiet_goes signer made.DropConnection l q ready = dropped_goes l
  quiet_goes signer (made.Halt left) l q ready = absurd q
  quiet_goes signer (made.Load keys failure) l q ready = absurd q

  -- ---- a call leads so

  -- its end has this id, and it works
  abbrev pub IsWorking : State K → List ℕ → Type 0
  IsWorking l id = (l.halted ≡ false) × ((e : End) × (saved_end l.stage ≡ Some e) × (e.dance.channel ≡ id))

  -- what a call makes of a link whose number is this one
  pub record IsMadeBy (signer : K → Signer) (k : Call K) (numbers : NumbersById) (c : ℕ) (l l' : State K) : Type 0 where
    pub is : l' ≡ made.made signer k l
    pub keeps : l.halted ≡ true → KeepsChannel l.stage l'.stage
    pub goes : l.halted ≡ false → IsReady l.stage
        → IdGoes (λ id. number_at id numbers ≡ Some c) l.stage (made.made signer k l).stage

  module _ (signer : K → Signer) (v w : View K) (c : ℕ) (l l' : State K) (there : slice_get v.links c ≡ Some l)
      (links : w.links ≡ slice_set v.links c l') (numbers : w.numbers ≡ v.numbers) where
    -- what stands at its place is recorded
    its_record : (m : Manager K) → Stands v m → (x : Seat K) → slice_get m.seats c ≡ Some x
        → IsRecorded (Some x) (v.records c)
    its_record m h x at = subst (λ o. IsRecorded o (v.records c)) at (h.recorded c)

    pub plain_reaches : (k : Call K) → IsPlain k → IsMadeBy signer k w.numbers c l l'
        → OutOnly (λ id. ⊥) v.table w.table → (m : Manager K) → Stands v m → (x : Seat K)
        → slice_get m.seats c ≡ Some x → x.link ≡ l → Tells v.records w.records c l l' x.end
        → Step signer m (with_seat c (called signer k x) w.table m) → Reaches signer w m
    plain_reaches k plain given out m h x at link told step =
        let y = seated x (made.made signer k x.link) in
        let to_y : called signer k x ≡ y = plain_seat signer k x plain in
        let g : IsMadeBy signer k w.numbers c x.link l' =
        subst (λ z. IsMadeBy signer k w.numbers c z l') (sym link) given in
        let same = made_halted signer k x.link in
        let x_in = is_among m.seats c x at in
        let s = h.sound x x_in in
        let t : IsSound y = subst IsSound to_y (called_sound signer k x s) in
        let tells : Tells v.records w.records c x.link (made.made signer k x.link) x.end =
        subst (λ z. Tells v.records w.records c x.link z x.end) g.is (subst (λ z. Tells v.records w.records c z l'
        x.end) (sym link) told) in
        moved signer v w m h c x y at
        (subst (λ z. Step signer m (with_seat c z w.table m)) to_y step)
        (links ∙ ap (slice_set v.links c) (g.is ∙ sym (seated_link x (made.made signer k x.link) same)))
        (seated_faithful x (made.made signer k x.link) same (h.faithful x x_in)
        (λ halted. subst (λ (z : State K). KeepsChannel x.link.stage z.stage) g.is (g.keeps halted))
        (λ works. made_fails signer k x.link))
        (seated_number x (made.made signer k x.link) same (λ id. number_at id w.numbers ≡ Some c) s t
        (λ works. g.goes works (s.works works).1)
        (λ id its. ap (number_at id) numbers ∙ h.numbered c x at id its))
        (λ i z found apart. subst (λ ns. HasNumber ns i z) (sym numbers) (h.numbered i z found))
        (seated_recorded v.records w.records c x (made.made signer k x.link) tells (its_record m h x at) s same
        (λ works. made_fails signer k x.link ((h.faithful x x_in).failed (sym same ∙ works)))) tells.beside
        (seated_stuck x (made.made signer k x.link) same)
        (out_wide (λ id. ⊥) (λ id. IsStuck id y) v.table w.table (λ id none. absurd none) out)

    -- one that opens no channel
    pub quiet_lead : (k : Call K) → IsQuiet k → l' ≡ made.made signer k l
        → (l.halted ≡ true → KeepsChannel l.stage l'.stage) → ((o : Option End) → Tells v.records w.records c l l' o)
        → OutOnly (λ id. ⊥) v.table w.table
        → ((m : Manager K) → Stands v m → (x : Seat K) → slice_get m.seats c ≡ Some x → x.link ≡ l
        → Step signer m (with_seat c (called signer k x) w.table m)) → Leads signer v w
    quiet_lead k quiet is keeps told out step = at_link signer v w c l there (λ m h x at link.
        plain_reaches k (quiet_plain k quiet) (record {
          is = is;
          keeps = keeps;
          goes = λ works ready. goes_wide (λ id. number_at id w.numbers ≡ Some c) l.stage
              (made.made signer k l).stage (quiet_goes signer k l quiet ready);
        }) out m h x at link (told x.end) (step m h x at link))

    -- for a peer or a user
    pub host_lead : (k : Call K) → IsQuiet k → ((xs : List (Seat K)) → IsHosts xs k) → l' ≡ made.made signer k l
        → (l.halted ≡ true → KeepsChannel l.stage l'.stage) → ((o : Option End) → Tells v.records w.records c l l' o)
        → w.table ≡ v.table → Leads signer v w
    host_lead k quiet hosts is keeps told same =
        quiet_lead k quiet is keeps told
        (out_same (λ id. ⊥) v.table w.table (ap (λ (t : Table). t.pending_commands) same)) (λ m h x at link.
        let g = seat_changes c x (called signer k x) w.table m at in
        step.Calls x k g (hosts (others g)) (same ∙ sym h.book))

    -- ---- it halts

    pub halt_lead : l'.halted ≡ true → KeepsChannel l.stage l'.stage → ((o : Option End) → Tells v.records w.records c
        l l' o)
        → OutOnly (IsWorking l) v.table w.table
        → ((m : Manager K) → Stands v m → (x : Seat K) → slice_get m.seats c ≡ Some x → x.link ≡ l
        → Step signer m (with_seat c (halted_seat x l') w.table m)) → Leads signer v w
    halt_lead halted keeps told out step = at_link signer v w c l there reaches
      where
        now : (x : Seat K) → IsSound x → x.link ≡ l → (id : List ℕ) → IsWorking l id → IsStuck id (halted_seat x l')
        now x sound link id k =
            let works = ap (λ (z : State K). z.halted) link ∙ k.0 in
            let is = (sound.works works).0 ∙ ap (λ (z : State K). saved_end z.stage) link ∙ k.1.1 in
            subst (λ i. IsStuck i (halted_seat x l')) k.1.2 (now_stuck x l' k.1.0 is)

        reaches : (m : Manager K) → Stands v m → (x : Seat K) → slice_get m.seats c ≡ Some x → x.link ≡ l
            → Reaches signer w m
        reaches m h x at link =
            let x_in = is_among m.seats c x at in
            let tells : Tells v.records w.records c x.link l' x.end = subst (λ z. Tells v.records w.records c z l'
            x.end) (sym link) (told x.end) in
            moved signer v w m h c x (halted_seat x l') at (step m h x at link)
            (links ∙ ap (slice_set v.links c) (sym (halted_link l' halted)))
            (halted_faithful x l' (h.faithful x x_in)
            (subst (λ (z : State K). KeepsChannel z.stage l'.stage) (sym link) keeps))
            (λ id its. ap (number_at id) numbers ∙ h.numbered c x at id (halted_number x l' id its))
            (λ i z found apart. subst (λ ns. HasNumber ns i z) (sym numbers) (h.numbered i z found))
            (halted_recorded v.records w.records c x l' tells (its_record m h x at) halted) tells.beside
            (halted_stuck x l')
            (out_wide (IsWorking l) (λ id. IsStuck id (halted_seat x l')) v.table w.table
            (now x (h.sound x x_in) link) out)

    -- and nothing by which a payment is read is heard
    pub halts_lead : l'.halted ≡ true → KeepsChannel l.stage l'.stage → ((o : Option End) → Tells v.records w.records c
        l l' o)
        → OutOnly (IsWorking l) v.table w.table → w.table.htlcs ≡ v.table.htlcs → Leads signer v w
    halts_lead halted keeps told out same = halt_lead halted keeps told out (λ m h x at link.
        step.Halts x l' (seat_changes c x (halted_seat x l') w.table m at)
        (same ∙ ap (λ (t : Table). t.htlcs) (sym h.book)))

    -- the book stays
    pub still_halts : l'.halted ≡ true → KeepsChannel l.stage l'.stage → ((o : Option End) → Tells v.records w.records
        c l l' o)
        → w.table ≡ v.table → Leads signer v w
    still_halts halted keeps told same =
        halts_lead halted keeps told (out_same (IsWorking l) v.table w.table (ap (λ (t : Table). t.pending_commands)
        same))
        (ap (λ (t : Table). t.htlcs) same)
