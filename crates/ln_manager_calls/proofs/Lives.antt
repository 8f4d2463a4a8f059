-- What holds of a node's channels at each moment of their lives: a manager that takes steps, whose batches are saved
-- and loaded, has what they have.
use Rattle.std.proofs.Common.{◌≡◌, inl, ℕ, List, [], ◌∷◌, ◌++◌, refl, sym, ap, ◌∙◌, subst, Some}
use Rattle.ln_keys.specs.Signer.{Signer}
use Rattle.ln_payment_circuits.specs.Snapshot.{Incoming}
use Rattle.ln_payment_circuits.specs.Circuit.{PaysOnce, IsCovered}
use Rattle.ln_payment_circuits.specs.Happens.{HasOwnIds}
use Rattle.ln_manager_laws.specs.Manager as laws
use Rattle.ln_manager_laws.specs.Manager.{Manager, no_channels, snapshot}
use Rattle.ln_manager_laws.specs.Steps.{AreSteps, last_step}
use Rattle.ln_manager_laws.specs.Runs as runs
use Rattle.ln_manager_laws.specs.Runs.{Course, AreCourses, IsLoaded, beginning, last_of}
use Rattle.ln_manager_laws.proofs.Loading.{loaded_sound, loaded_stays}
use Rattle.ln_manager_laws.proofs.Orderly.{EachSeat, HasNumber, IsChannel}
use Rattle.ln_manager_laws.proofs.Running.{covered_saved, covered_stays, one_payment}
use Rattle.ln_manager_laws.proofs.Seats.{IsSound}
use Rattle.ln_manager_laws.proofs.Stepping.{step_sound, step_stays}
use Rattle.ln_manager_channels.specs.Calls.{Parts, Call, Makes, Make, Running, IsOutcome, no_parts}
use Rattle.ln_manager_calls.specs.Standing.{Loaded, StandsFor, nothing_loaded}
use Rattle.ln_manager_calls.specs.Lives.{Moment, Goes, Calls, Loads, AreMoments, first_moment, last_moment}
use Rattle.ln_manager_calls.proofs.Kept.{view, Stands}
use Rattle.ln_manager_calls.proofs.Listing.{call_leads}

module _ {K : Type 0} where
  -- ---- what a manager that stands for them has

  pub stands_for : (old : Loaded) (p : Parts K) (m : Manager K) → Stands (view old p) m
      → ((id bytes : List ℕ) → old id ≡ Some bytes → IsChannel m id) → StandsFor old p m
  stands_for old p m h came = record {
    links = h.links;
    ends = λ x x_in works. ((h.sound x x_in).works works).0;
    channels = λ x x_in. (h.faithful x x_in).held;
    failures = λ x x_in. (h.faithful x x_in).failed;
    records = h.recorded;
    loaded = came;
    numbers = h.numbered;
    commands = h.out;
    book = h.book;
  }

  pub stands_so : (old : Loaded) (p : Parts K) (m : Manager K) → StandsFor old p m → EachSeat IsSound m
      → Stands (view old p) m
  stands_so old p m h sound = record {
    links = h.links;
    book = h.book;
    sound = sound;
    faithful = λ x x_in. record { held = h.channels x x_in; failed = h.failures x x_in };
    numbered = h.numbers;
    recorded = h.records;
    out = h.commands;
  }

  begun : Stands {K = K} (view nothing_loaded no_parts) no_channels
  begun = record {
    links = refl;
    book = refl;
    sound = λ x k. absurd k;
    faithful = λ x k. absurd k;
    numbered = λ k x is. absurd (cc);
    recorded = λ k. record { has = λ e is. absurd (cc); alone = λ rs is. absurd (cc) };
    out = λ id. inl refl;
  }

  -- it stands for what the channels have
  pub record IsAt (s : Moment K) : Type 0 where
    pub stands : Stands (view s.loaded s.parts) s.stood
    pub came : (id bytes : List ℕ) → s.loaded id ≡ Some bytes → IsChannel s.stood id

  of_stands : (t : Moment K) → StandsFor t.loaded t.parts t.stood → EachSeat IsSound t.stood → IsAt t
  of_stands t stands sound = record {
    stands = stands_so t.loaded t.parts t.stood stands sound;
    came = stands.loaded;
  }

  pub first_at : IsAt first_moment
  first_at = record { stands = begun; came = λ id bytes is. absurd (cc) }

  module _ (signer : K → Signer) where
    steps_sound : (m : Manager K) (ns : List (Manager K)) → AreSteps signer m ns → EachSeat IsSound m
        → EachSeat IsSound (last_step m ns)
    steps_sound m [] a sound = sound
    steps_sound m (n ∷ ns) a sound = steps_sound n ns a.1 (step_sound signer m n sound a.0)

    steps_stay : (m : Manager K) (ns : List (Manager K)) → AreSteps signer m ns → EachSeat IsSound m → (id : List ℕ)
        → IsChannel m id → IsChannel (last_step m ns) id
    steps_stay m [] a sound id k = k
    steps_stay m (n ∷ ns) a sound id k =
        steps_stay n ns a.1 (step_sound signer m n sound a.0) id (step_stays signer m n sound a.0 id k)

    -- ---- each moment

    abbrev SoundAt : Moment K → Type 0
    SoundAt s = EachSeat IsSound s.stood

    goes_sound : (s t : Moment K) → Goes signer s t → SoundAt s → SoundAt t
    goes_sound s t (Calls k makes same ms steps is stands) sound =
        subst (EachSeat IsSound) (sym is) (steps_sound s.stood ms steps sound)
    goes_sound s t (Loads saved q are loads again parts old back stands) sound =
        loaded_sound s.stood t.stood back sound

    goes_stays : (s t : Moment K) → Goes signer s t → SoundAt s → (id : List ℕ) → IsChannel s.stood id
        → IsChannel t.stood id
    goes_stays s t (Calls k makes same ms steps is stands) sound id is_there =
        subst (λ m. IsChannel m id) (sym is) (steps_stay s.stood ms steps sound id is_there)
    goes_stays s t (Loads saved q are loads again parts old back stands) sound id is_there =
        loaded_stays s.stood t.stood back id is_there

    goes_at : (s t : Moment K) → Goes signer s t → IsAt s → IsAt t
    goes_at s t (Calls k makes same ms steps is stands) at =
        of_stands t stands (goes_sound s t (Calls k makes same ms steps is stands) at.stands.sound)
    goes_at s t (Loads saved q are loads again parts old back stands) at =
        of_stands t stands (goes_sound s t (Loads saved q are loads again parts old back stands) at.stands.sound)

    pub all_at : (s : Moment K) (ts : List (Moment K)) → AreMoments signer s ts → IsAt s → IsAt (last_moment s ts)
    all_at s [] a at = at
    all_at s (t ∷ ts) a at = all_at t ts a.1 (goes_at s t a.0 at)

    -- ---- a call leads to one

    pub call_goes : (s : Moment K) → IsAt s → (k : Call K) (q : Parts K) → Makes signer k s.parts q
        → (n : Manager K) × Goes signer s (record { parts = q; loaded = s.loaded; stood = n })
    call_goes s at k q makes =
        let r = call_leads signer s.loaded s.parts q k makes s.stood at.stands in
        let n = last_step s.stood r.0 in (
          n,
          Calls k makes refl r.0 r.1 refl (stands_for s.loaded q n r.2
              (λ id bytes is. steps_stay s.stood r.0 r.1 at.stands.sound id (at.came id bytes is))),
        )

    calls_go : (s : Moment K) → IsAt s → (ks : List (Call K)) (q : Parts K) → Make signer ks s.parts q
        → (ts : List (Moment K)) × AreMoments signer s ts × ((last_moment s ts).parts ≡ q)
    calls_go s at [] q made = ([], tt, sym made)
    calls_go s at (k ∷ ks) q made =
        let one = call_goes s at k made.0 made.1 in
        let t : Moment K = record { parts = made.0; loaded = s.loaded; stood = one.0 } in
        let rest = calls_go t (goes_at s t one.1 at) ks q made.2 in
        (t ∷ rest.0, (one.1, rest.1), rest.2)

    -- what began with none
    pub made_of_none : (r : Running K) → IsOutcome signer r → r.began ≡ no_parts
        → (ts : List (Moment K)) × AreMoments signer first_moment ts × ((last_moment first_moment ts).parts ≡ r.parts)
    made_of_none r is none =
        calls_go first_moment first_at is.calls r.parts (subst (λ (o : Parts K). Make signer is.calls o r.parts) none
        is.made)

    -- ---- a run of steps, of batches and of loads

    abbrev pub Runs : Course K → Manager K → Type 0
    Runs c m = (cs : List (Course K)) × AreCourses signer c cs × ((last_of c cs).now ≡ m)

    courses_more : (c : Course K) (cs ds : List (Course K)) → AreCourses signer c cs
        → AreCourses signer (last_of c cs) ds → AreCourses signer c (cs ++ ds)
    courses_more c [] ds a b = b
    courses_more c (d ∷ cs) ds a b = (a.0, courses_more d cs ds a.1 b)

    last_more : (c : Course K) (cs ds : List (Course K)) → last_of c (cs ++ ds) ≡ last_of (last_of c cs) ds
    last_more c [] ds = refl
    last_more c (d ∷ cs) ds = last_more d cs ds

    runs_then : (c : Course K) (m n : Manager K) → Runs c m → ((d : Course K) → d.now ≡ m → Runs d n) → Runs c n
    runs_then c m n r f =
        let k = f (last_of c r.0) r.2 in (
          r.0 ++ k.0,
          courses_more c r.0 k.0 r.1 k.1,
          ap (λ (d : Course K). d.now) (last_more c r.0 k.0) ∙ k.2,
        )

    steps_run : (c : Course K) (ms : List (Manager K)) → AreSteps signer c.now ms → Runs c (last_step c.now ms)
    steps_run c [] a = ([], tt, refl)
    steps_run c (m ∷ ms) a =
        let d : Course K = record { now = m; closed = c.closed; saved = c.saved } in
        let r = steps_run d ms a.1 in
        (d ∷ r.0, (runs.Steps a.0 refl refl, r.1), r.2)

    -- a batch is closed, and saved
    abbrev closing : Course K → Course K
    closing c = record { now = c.now; closed = c.now; saved = c.saved }

    abbrev saving : Course K → Course K
    saving c = record { now = c.now; closed = c.now; saved = c.now }

    loads_run : (c : Course K) (n : Manager K) → IsLoaded c.now n → Runs c n
    loads_run c n l = (
      closing c ∷ saving c ∷ record { now = n; closed = c.now; saved = c.now } ∷ [],
      (runs.Closes refl refl refl, (runs.Saves refl refl refl, (runs.LoadsSaved l refl refl, tt))),
      refl,
    )

    goes_run : (c : Course K) (s t : Moment K) → Goes signer s t → c.now ≡ s.stood → Runs c t.stood
    goes_run c s t (Calls k makes same ms steps is stands) at =
        let r = steps_run c ms (subst (λ m. AreSteps signer m ms) (sym at) steps) in
        (r.0, r.1, r.2 ∙ ap (λ m. last_step m ms) at ∙ sym is)
    goes_run c s t (Loads saved q are loads again parts old back stands) at =
        loads_run c t.stood (subst (λ m. IsLoaded m t.stood) (sym at) back)

    all_run : (s : Moment K) (ts : List (Moment K)) → AreMoments signer s ts → Runs beginning s.stood
        → Runs beginning (last_moment s ts).stood
    all_run s [] a r = r
    all_run s (t ∷ ts) a r =
        all_run t ts a.1 (runs_then beginning s.stood t.stood r (λ c at. goes_run c s t a.0 at))

    pub first_run : Runs beginning no_channels
    first_run = ([], tt, refl)

    -- ---- one payment out

    pub pays_once : (ts : List (Moment K)) → AreMoments signer first_moment ts → (id_of : ℕ → List ℕ) (h : Incoming)
        → HasOwnIds id_of → laws.AreNumbered id_of (last_moment first_moment ts).stood
        → PaysOnce id_of h (snapshot id_of (last_moment first_moment ts).stood)
    pays_once ts a id_of h one numbers =
        let r = all_run first_moment ts a first_run in
        subst (λ m. PaysOnce id_of h (snapshot id_of m)) r.2
        (one_payment signer r.0 r.1 id_of one (subst (laws.AreNumbered id_of) (sym r.2) numbers) h)

    -- ---- what is covered stays

    module _ (id_of : ℕ → List ℕ) (one : HasOwnIds id_of) (h : Incoming) (c i : ℕ) where
      abbrev At : Manager K → Type 0
      At m = IsCovered id_of h (snapshot id_of m) c i

      -- channels that stay had their numbers before
      numbered_before : (m n : Manager K) → ((id : List ℕ) → IsChannel m id → IsChannel n id)
          → EachSeat (HasNumber id_of) n → EachSeat (HasNumber id_of) m
      numbered_before m n stay numbers x x_in e is =
          let k = stay e.dance.channel (x, x_in, (e, is, refl)) in
          let d = numbers k.0 k.1 k.2.0 k.2.1 in (d.0, sym k.2.2 ∙ d.1)

      all_stay : (s : Moment K) (ts : List (Moment K)) → AreMoments signer s ts → SoundAt s → (id : List ℕ)
          → IsChannel s.stood id → IsChannel (last_moment s ts).stood id
      all_stay s [] a sound id k = k
      all_stay s (t ∷ ts) a sound id k =
          all_stay t ts a.1 (goes_sound s t a.0 sound) id (goes_stays s t a.0 sound id k)

      goes_cover : (s t : Moment K) → Runs beginning s.stood → Goes signer s t → EachSeat (HasNumber id_of) t.stood
          → At s.stood → At t.stood
      goes_cover s t r (Calls k makes same ms steps is stands) numbers covers =
          let steps_on = subst (λ m. AreSteps signer m ms) (sym r.2) steps in
          let to_t : last_step (last_of beginning r.0).now ms ≡ t.stood = ap (λ m. last_step m ms) r.2 ∙ sym is in
          subst At to_t (covered_stays signer id_of one h c i r.0 r.1 ms steps_on
          (subst (EachSeat (HasNumber id_of)) (sym to_t) numbers) (subst At (sym r.2) covers))
      goes_cover s t r (Loads saved q are loads again parts old back stands) numbers covers =
          let d = last_of beginning r.0 in
          let more = closing d ∷ saving d ∷ [] in
          let ds = r.0 ++ more in
          let there : (last_of beginning ds).saved ≡ s.stood =
          ap (λ (z : Course K). z.saved) (last_more beginning r.0 more) ∙ r.2 in
          covered_saved signer id_of one h c i ds (courses_more beginning r.0 more r.1
          (runs.Closes refl refl refl, (runs.Saves refl refl refl, tt))) t.stood
          (subst (λ m. IsLoaded m t.stood) (sym there) back) numbers (subst At (sym there) covers)

      pub all_cover : (s : Moment K) → Runs beginning s.stood → SoundAt s → (ts : List (Moment K))
          → AreMoments signer s ts → EachSeat (HasNumber id_of) (last_moment s ts).stood → At s.stood
          → At (last_moment s ts).stood
      all_cover s r sound [] a numbers covers = covers
      all_cover s r sound (t ∷ ts) a numbers covers =
          let next = goes_sound s t a.0 sound in
          all_cover t (runs_then beginning s.stood t.stood r (λ d at. goes_run d s t a.0 at)) next ts a.1 numbers
          (goes_cover s t r a.0 (numbered_before t.stood (last_moment t ts).stood (all_stay t ts a.1 next) numbers)
          covers)

    pub stays_covered : (ts later : List (Moment K)) → AreMoments signer first_moment ts
        → AreMoments signer (last_moment first_moment ts) later → (id_of : ℕ → List ℕ) (h : Incoming) (c i : ℕ)
        → HasOwnIds id_of → laws.AreNumbered id_of (last_moment (last_moment first_moment ts) later).stood
        → IsCovered id_of h (snapshot id_of (last_moment first_moment ts).stood) c i
        → IsCovered id_of h (snapshot id_of (last_moment (last_moment first_moment ts) later).stood) c i
    stays_covered ts later a b id_of h c i one numbers covers =
        all_cover id_of one h c i (last_moment first_moment ts) (all_run first_moment ts a first_run)
        (all_at first_moment ts a first_at).stands.sound later b numbers covers
