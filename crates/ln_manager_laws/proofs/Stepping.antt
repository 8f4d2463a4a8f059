-- Whatever step a manager takes, all is kept of it that its payments need.
use Rattle.std.proofs.Common.{◌≡◌, ◌⊎◌, inl, inr, ℕ, List, [], ◌∷◌, ◌++◌, refl, sym, ap, ◌∙◌, subst, Bool, true, false}
use Rattle.std.proofs.Common.{cond, Some, None}
use Rattle.std.specs.Prelude.{option_map}
use Rattle.ln_keys.specs.Signer.{Signer}
use Rattle.ln_channel.specs.declared.command.Command.TheVariants as command
use Rattle.ln_channel.specs.End.{End, end_dropped}
use Rattle.ln_channel.specs.declared.machine.ConnectionState.TheVariants as connection
use Rattle.ln_channel.specs.declared.machine.Stage.{Stage}
use Rattle.ln_channel.specs.declared.machine.Stage.TheVariants as stage
use Rattle.ln_channel.specs.Record.{saved_end}
use Rattle.ln_channel.specs.State.{State, cut, drops, is_down}
use Rattle.ln_manager_laws.proofs.Turns.{cut_so}
use Rattle.ln_payment_circuits.specs.Snapshot.{IsIn}
use Rattle.ln_payment_circuits.specs.Happens.{HasOwnIds}
use Rattle.ln_manager_laws.specs.Calls.{Seat, working, begun_seat, Call, Halt, Command, DropConnection, called}
use Rattle.ln_manager_laws.specs.Manager.{Manager}
use Rattle.ln_manager_laws.specs.Steps.{Step, Adds, Calls, Halts, LosesOpening, Disconnects, Hears, Sets, Obeys}
use Rattle.ln_manager_laws.specs.Steps.{Decides}
use Rattle.ln_manager_laws.specs.Steps.{HaltsDeciding, Resumes, Changes, others, Works, IsFirst}
use Rattle.ln_manager_laws.proofs.Seats.{IsSound, called_sound}
use Rattle.ln_manager_laws.proofs.Hosted.{hosted, bidden}
use Rattle.ln_manager_laws.proofs.Calling.{become_keeps, calls}
use Rattle.ln_manager_laws.proofs.Losing.{sets, halts, adds, loses_opening}
use Rattle.ln_manager_laws.proofs.Hearing.{disconnects, hears}
use Rattle.ln_manager_laws.proofs.Obeying.{obeys}
use Rattle.ln_manager_laws.proofs.Deciding.{decides, halts_deciding}
use Rattle.ln_manager_laws.proofs.Resuming.{resumes}
use Rattle.ln_manager_laws.proofs.Orderly.{EachSeat, was_there, channels_stay, IsChannel, KeepsEnd, HasNumber}
use Rattle.ln_manager_laws.proofs.Orderly.{IsOrderly}
use Rattle.ln_manager_laws.proofs.Orderly.{Leaves, each_changed}

module _ {K : Type 0} (signer : K → Signer) (m n : Manager K) where
  -- ---- a channel that there is stays

  halt_keeps : (x : Seat K) (left : State K) → KeepsEnd x (called signer (Halt left) x)
  halt_keeps x left e is = (end_dropped e, ap (option_map end_dropped) is, refl)

  same_stay : n.seats ≡ m.seats → (c : List ℕ) → IsChannel m c → IsChannel n c
  same_stay seats c k = (k.0, subst (IsIn k.0) (sym seats) k.1, k.2)

  among_more : (z : Seat K) (xs ys : List (Seat K)) → IsIn z xs → IsIn z (xs ++ ys)
  among_more z [] ys k = absurd k
  among_more z (x ∷ xs) ys (inl e) = inl e
  among_more z (x ∷ xs) ys (inr k) = inr (among_more z xs ys k)

  -- of a lost connection
  line_keeps : (x : Seat K) (e : End) → Works x e → is_down x.link.connection ≡ false → IsSound x
      → KeepsEnd x (called signer DropConnection x)
  line_keeps x e works up sound f is =
      let some : Some e ≡ Some f = sym works.end ∙ is in
      let same : e ≡ f = cc in
      (end_dropped e, now, ap (λ (z : End). z.dance.channel) same)
    where
      by_line : (b : Bool) → is_down x.link.connection ≡ b → b ≡ false
          → saved_end (cond b x.link (record x.link { connection = connection.Down; stage = cut x.link.stage })).stage
          ≡ option_map end_dropped (saved_end x.link.stage)
      by_line true at up = absurd (cc)
      by_line false at up = (cut_so x.link.stage).end

      now : (called signer DropConnection x).end ≡ Some (end_dropped e)
      now = ap (λ b. (cond b (record x { link = drops x.link }) (working (drops x.link))).end) works.halted
          ∙ by_line (is_down x.link.connection) refl up
          ∙ ap (option_map end_dropped) (sym (sound.works works.halted).0 ∙ works.end)

  pub step_stays : EachSeat IsSound m → Step signer m n → (c : List ℕ) → IsChannel m c → IsChannel n c
  step_stays sound (Adds keys s first seats book) =
      λ c k. (k.0, subst (IsIn k.0) (sym seats) (among_more k.0 m.seats (begun_seat keys s ∷ []) k.1), k.2)
  step_stays sound (Calls x k g hosts book) =
      channels_stay x (called signer k x) m n g (become_keeps (Unit {0}) x (called signer k x)
      (hosted signer x (sound x (was_there x (called signer k x) m n g)) k (others g) hosts).becomes)
  step_stays sound (Halts x left g book) = channels_stay x (called signer (Halt left) x) m n g (halt_keeps x left)
  step_stays sound (LosesOpening x none g book) =
      channels_stay x (called signer DropConnection x) m n g
      (λ e is. absurd (let no : None ≡ Some e = sym none ∙ is in cc))
  step_stays sound (Disconnects x e works up g idle book) =
      channels_stay x (called signer DropConnection x) m n g
      (line_keeps x e works up (sound x (was_there x (called signer DropConnection x) m n g)))
  step_stays sound (Hears x e told among works has seats book) = same_stay seats
  step_stays sound (Sets s is seats book) = same_stay seats
  step_stays sound (Obeys v x e z o y works among is_due asks g book) =
      channels_stay x (called signer (Command y) x) m n g (become_keeps ⊥ x (called signer (Command y) x)
      (bidden signer x (sound x (was_there x (called signer (Command y) x) m n g)) y (others g)).becomes)
  step_stays sound (Decides v x e told verdict d works next is g book) =
      let y = command.Decide d.event d.mark in
      channels_stay x (called signer (Command y) x) m n g (become_keeps ⊥ x (called signer (Command y) x)
      (bidden signer x (sound x (was_there x (called signer (Command y) x) m n g)) y (others g)).becomes)
  step_stays sound (HaltsDeciding v x e told verdict left works next g book) =
      channels_stay x (called signer (Halt left) x) m n g (halt_keeps x left)
  step_stays sound (Resumes v x e i verdict w works said g book) =
      let y = command.Resume i w in
      channels_stay x (called signer (Command y) x) m n g (become_keeps ⊥ x (called signer (Command y) x)
      (bidden signer x (sound x (was_there x (called signer (Command y) x) m n g)) y (others g)).becomes)

  -- ---- each link stays sound

  changed_sound : (x : Seat K) (k : Call K) → Changes x (called signer k x) m n → EachSeat IsSound m
      → EachSeat IsSound n
  changed_sound x k g sound =
      each_changed x (called signer k x) m n g IsSound IsSound (λ z q. q)
      (called_sound signer k x (sound x (was_there x (called signer k x) m n g))) sound

  among_last : (z y : Seat K) (xs : List (Seat K)) → IsIn z (xs ++ y ∷ []) → IsIn z xs ⊎ (y ≡ z)
  among_last z y [] (inl e) = inr e
  among_last z y [] (inr k) = absurd k
  among_last z y (x ∷ xs) (inl e) = inl (inl e)
  among_last z y (x ∷ xs) (inr k) = elim (among_last z y xs k) [ inl l ↦ inl (inr l) | inr e ↦ inr e ]

  first_sound : (keys : K) (s : Stage) → IsFirst s → IsSound (begun_seat keys s)
  first_sound keys (stage.AwaitsOpen c) is = record { fit = tt; works = λ now. (refl, tt) }
  first_sound keys (stage.AwaitsAccept s) is = record { fit = tt; works = λ now. (refl, tt) }
  first_sound keys (stage.AwaitsCreated a) is = absurd is
  first_sound keys (stage.AwaitsSigned e) is = absurd is
  first_sound keys (stage.Funded e) is = absurd is
  first_sound keys stage.Gone is = absurd is

  pub step_sound : EachSeat IsSound m → Step signer m n → EachSeat IsSound n
  step_sound sound (Adds keys s first seats book) =
      λ z k. elim (among_last z (begun_seat keys s) m.seats (subst (IsIn z) seats k)) [
        | inl old ↦ sound z old
        | inr e ↦ subst IsSound e (first_sound keys s first)
      ]
  step_sound sound (Calls x k g hosts book) = changed_sound x k g sound
  step_sound sound (Halts x left g book) = changed_sound x (Halt left) g sound
  step_sound sound (LosesOpening x none g book) = changed_sound x DropConnection g sound
  step_sound sound (Disconnects x e works up g idle book) = changed_sound x DropConnection g sound
  step_sound sound (Hears x e told among works has seats book) = λ z k. sound z (subst (IsIn z) seats k)
  step_sound sound (Sets s is seats book) = λ z k. sound z (subst (IsIn z) seats k)
  step_sound sound (Obeys v x e z o y works among is_due asks g book) = changed_sound x (Command y) g sound
  step_sound sound (Decides v x e told verdict d works next is g book) =
      changed_sound x (Command (command.Decide d.event d.mark)) g sound
  step_sound sound (HaltsDeciding v x e told verdict left works next g book) = changed_sound x (Halt left) g sound
  step_sound sound (Resumes v x e i verdict w works said g book) =
      changed_sound x (Command (command.Resume i w)) g sound

  -- ---- what it leaves

  pub step_leaves : (id_of : ℕ → List ℕ) → HasOwnIds id_of → IsOrderly id_of m → EachSeat (HasNumber id_of) n
      → Step signer m n → Leaves id_of m n
  step_leaves id_of one h numbers (Adds keys s first seats book) = adds signer id_of one m n h keys s first seats book
  step_leaves id_of one h numbers (Calls x k g hosts book) = calls signer id_of one x k m n g h hosts book numbers
  step_leaves id_of one h numbers (Halts x left g book) = halts signer id_of one m n h x left g numbers book
  step_leaves id_of one h numbers (LosesOpening x none g book) = loses_opening signer id_of one m n h x g none book
  step_leaves id_of one h numbers (Disconnects x e works up g idle book) =
      disconnects signer id_of one m n h numbers x e works up g idle book
  step_leaves id_of one h numbers (Hears x e told among works has seats book) =
      hears signer id_of one m n h numbers x e among works seats told has book
  step_leaves id_of one h numbers (Sets s is seats book) = sets signer id_of one m n h s is seats book
  step_leaves id_of one h numbers (Obeys v x e z o y works among is_due asks g book) =
      obeys signer id_of one m n h numbers v x e z o y works among is_due asks g book
  step_leaves id_of one h numbers (Decides v x e told verdict d works next is g book) =
      decides signer id_of one m n h numbers v x e told verdict d works next is g book
  step_leaves id_of one h numbers (HaltsDeciding v x e told verdict left works next g book) =
      halts_deciding signer id_of one m n h numbers v x e told verdict _ works next refl left g book
  step_leaves id_of one h numbers (Resumes v x e i verdict w works said g book) =
      resumes signer id_of one m n h numbers v x e i verdict w works said g book
