-- A manager over every list of its steps, of batches that are saved, and of loads.
use Rattle.std.proofs.Common.{ℕ, List, [], ◌∷◌, refl, sym, ◌∙◌, subst}
use Rattle.ln_keys.specs.Signer.{Signer}
use Rattle.ln_payment_circuits.specs.Snapshot.{Incoming}
use Rattle.ln_payment_circuits.specs.Circuit.{PaysOnce, IsCovered}
use Rattle.ln_payment_circuits.specs.Happens.{HasOwnIds}
use Rattle.ln_payment_circuits.proofs.Covering.{covered_then}
use Rattle.ln_payment_circuits.proofs.Law.{first_kept_is}
use Rattle.ln_payment_circuits.proofs.Promise.{pays_once}
use Rattle.ln_manager_laws.specs.Manager.{Manager, no_channels, snapshot}
use Rattle.ln_manager_laws.specs.Steps.{Step, AreSteps, last_step}
use Rattle.ln_manager_laws.specs.Runs.{IsLoaded, Course, beginning, Goes, Steps, Closes, Saves, LoadsSaved, LoadsClosed}
use Rattle.ln_manager_laws.specs.Runs.{AreCourses, last_of}
use Rattle.ln_manager_laws.proofs.Seats.{IsSound}
use Rattle.ln_manager_laws.proofs.Loading.{loaded_sound, loaded_stays, loaded_orderly, restarted}
use Rattle.ln_manager_laws.proofs.Orderly.{EachSeat, IsChannel, HasNumber, IsOrderly, stays_orderly, Gives}
use Rattle.ln_manager_laws.proofs.Orderly.{Happened, Same, are_fit}
use Rattle.ln_manager_laws.proofs.Stepping.{step_stays, step_sound, step_leaves}

module _ {K : Type 0} where
  -- whatever numbers ids have
  pub record IsGood (m : Manager K) : Type 0 where
    pub sound : EachSeat IsSound m
    pub orderly : (id_of : ℕ → List ℕ) → HasOwnIds id_of → EachSeat (HasNumber id_of) m → IsOrderly id_of m

  -- channels that stay had their numbers before
  numbered_before : (m n : Manager K) (id_of : ℕ → List ℕ) → ((c : List ℕ) → IsChannel m c → IsChannel n c)
      → EachSeat (HasNumber id_of) n → EachSeat (HasNumber id_of) m
  numbered_before m n id_of stay numbers x x_in e is =
      let k = stay e.dance.channel (x, x_in, (e, is, refl)) in
      let c = numbers k.0 k.1 k.2.0 k.2.1 in (c.0, sym k.2.2 ∙ c.1)

  good_begun : IsGood no_channels
  good_begun = record {
    sound = λ x x_in. absurd x_in;
    orderly = λ id_of one numbers. record {
      sound = λ x x_in. absurd x_in;
      apart = tt;
      kept = first_kept_is id_of one;
      keyed = λ z z_in. absurd z_in;
      dated = λ x x_in. absurd x_in;
      named = λ x x_in. absurd x_in;
      few = λ x x_in. absurd x_in;
    };
  }

  good_steps : (signer : K → Signer) (m n : Manager K) → Step signer m n → IsGood m → IsGood n
  good_steps signer m n s g = record {
    sound = step_sound signer m n g.sound s;
    orderly = λ id_of one numbers.
        let h = g.orderly id_of one (numbered_before m n id_of (step_stays signer m n g.sound s) numbers) in
        stays_orderly id_of one m n h (step_leaves signer m n id_of one h numbers s);
  }

  good_loads : (m n : Manager K) → IsLoaded m n → IsGood m → IsGood n
  good_loads m n l g = record {
    sound = loaded_sound m n l g.sound;
    orderly = λ id_of one numbers. loaded_orderly m n l id_of one numbers
        (g.orderly id_of one (numbered_before m n id_of (loaded_stays m n l) numbers));
  }

  pub record AreGood (s : Course K) : Type 0 where
    pub now : IsGood s.now
    pub closed : IsGood s.closed
    pub saved : IsGood s.saved

  goes_good : (signer : K → Signer) (s t : Course K) → Goes signer s t → AreGood s → AreGood t
  goes_good signer s t (Steps x closed saved) g = record {
    now = good_steps signer s.now t.now x g.now;
    closed = subst IsGood (sym closed) g.closed;
    saved = subst IsGood (sym saved) g.saved;
  }
  goes_good signer s t (Closes now closed saved) g = record {
    now = subst IsGood (sym now) g.now;
    closed = subst IsGood (sym closed) g.now;
    saved = subst IsGood (sym saved) g.saved;
  }
  goes_good signer s t (Saves now closed saved) g = record {
    now = subst IsGood (sym now) g.now;
    closed = subst IsGood (sym closed) g.closed;
    saved = subst IsGood (sym saved) g.closed;
  }
  goes_good signer s t (LoadsSaved l closed saved) g = record {
    now = good_loads s.saved t.now l g.saved;
    closed = subst IsGood (sym closed) g.saved;
    saved = subst IsGood (sym saved) g.saved;
  }
  goes_good signer s t (LoadsClosed l closed saved) g = record {
    now = good_loads s.closed t.now l g.closed;
    closed = subst IsGood (sym closed) g.closed;
    saved = subst IsGood (sym saved) g.closed;
  }

  all_good : (signer : K → Signer) (s : Course K) (ts : List (Course K)) → AreCourses signer s ts → AreGood s
      → AreGood (last_of s ts)
  all_good signer s [] a g = g
  all_good signer s (t ∷ ts) a g = all_good signer t ts a.1 (goes_good signer s t a.0 g)

  pub one_payment : (signer : K → Signer) (ts : List (Course K)) → AreCourses signer beginning ts
      → (id_of : ℕ → List ℕ) → HasOwnIds id_of → EachSeat (HasNumber id_of) (last_of beginning ts).now
      → (h : Incoming) → PaysOnce id_of h (snapshot id_of (last_of beginning ts).now)
  one_payment signer ts a id_of one numbers h =
      let g = all_good signer beginning ts a (record { now = good_begun; closed = good_begun; saved = good_begun }) in
      let k = (g.now.orderly id_of one numbers).kept in
      pays_once id_of h (snapshot id_of (last_of beginning ts).now) k.paid (k.payments h)

  -- ---- what is covered stays

  module _ (signer : K → Signer) (id_of : ℕ → List ℕ) (one : HasOwnIds id_of) (h : Incoming) (d i : ℕ) where
    abbrev At : Manager K → Type 0
    At m = IsCovered id_of h (snapshot id_of m) d i

    covers : (m n : Manager K) → IsOrderly id_of m → Gives id_of (snapshot id_of m) (snapshot id_of n) → At m → At n
    covers m n k (Happened x) =
        covered_then id_of h d i (snapshot id_of m) (snapshot id_of n) (are_fit id_of m k.sound) x
    covers m n k (Same is) = subst (λ t. IsCovered id_of h t d i) (sym is)

    steps_stay : (m : Manager K) (ns : List (Manager K)) → IsGood m → AreSteps signer m ns → (c : List ℕ)
        → IsChannel m c → IsChannel (last_step m ns) c
    steps_stay m [] g a c k = k
    steps_stay m (n ∷ ns) g a c k =
        steps_stay n ns (good_steps signer m n a.0 g) a.1 c (step_stays signer m n g.sound a.0 c k)

    steps_cover : (m : Manager K) (ns : List (Manager K)) → IsGood m → AreSteps signer m ns
        → EachSeat (HasNumber id_of) (last_step m ns) → At m → At (last_step m ns)
    steps_cover m [] g a numbers k = k
    steps_cover m (n ∷ ns) g a numbers k =
        let next = good_steps signer m n a.0 g in
        let here = numbered_before n (last_step n ns) id_of (steps_stay n ns next a.1) numbers in
        let order = g.orderly id_of one (numbered_before m n id_of (step_stays signer m n g.sound a.0) here) in
        steps_cover n ns next a.1 numbers
        (covers m n order (step_leaves signer m n id_of one order here a.0).gives k)

    loads_cover : (m n : Manager K) → IsLoaded m n → IsGood m → EachSeat (HasNumber id_of) n → At m → At n
    loads_cover m n l g numbers =
        let order = g.orderly id_of one (numbered_before m n id_of (loaded_stays m n l) numbers) in
        covers m n order (Happened (restarted m n l id_of one numbers order))

    reached : (ts : List (Course K)) → AreCourses signer beginning ts → AreGood (last_of beginning ts)
    reached ts a = all_good signer beginning ts a (record { now = good_begun; closed = good_begun; saved = good_begun })

    pub covered_stays : (ts : List (Course K)) → AreCourses signer beginning ts → (ns : List (Manager K))
        → AreSteps signer (last_of beginning ts).now ns
        → EachSeat (HasNumber id_of) (last_step (last_of beginning ts).now ns) → At (last_of beginning ts).now
        → At (last_step (last_of beginning ts).now ns)
    covered_stays ts a ns steps = steps_cover (last_of beginning ts).now ns (reached ts a).now steps

    pub covered_saved : (ts : List (Course K)) → AreCourses signer beginning ts → (n : Manager K)
        → IsLoaded (last_of beginning ts).saved n → EachSeat (HasNumber id_of) n → At (last_of beginning ts).saved
        → At n
    covered_saved ts a n l = loads_cover (last_of beginning ts).saved n l (reached ts a).saved
