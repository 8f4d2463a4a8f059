-- What a lost connection, a halt, a new channel and a setting make of a manager.
use Rattle.std.proofs.Common.{◌≡◌, ◌⊎◌, inl, inr, ℕ, ◌≤◌, List, [], ◌∷◌, ◌++◌, refl, sym, ap, ◌∙◌, subst, Bool, true}
use Rattle.std.proofs.Common.{false, cond, Option, Some, None}
use Rattle.std.specs.Prelude.{option_map}
use Rattle.ln_keys.specs.Signer.{Signer}
use Rattle.ln_channel.specs.declared.machine.ConnectionState.TheVariants as connection
use Rattle.ln_channel.specs.declared.machine.Stage.{Stage}
use Rattle.ln_channel.specs.declared.machine.Stage.TheVariants as stage
use Rattle.ln_channel.specs.End.{End, end_dropped}
use Rattle.ln_channel.specs.Naming.{channel_of}
use Rattle.ln_channel.specs.State.{State, drops, cut, is_down}
use Rattle.ln_book_tables.specs.declared.entry.Entry.{Entry}
use Rattle.ln_book_tables.specs.declared.entry.Entry.TheVariants as entry
use Rattle.ln_book_tables.specs.Replay.{Table, replay}
use Rattle.ln_payment_circuits.specs.Snapshot.{IsIn, All}
use Rattle.ln_payment_circuits.specs.Happens.{HasOwnIds}
use Rattle.ln_payment_circuits.specs.Happens as may
use Rattle.ln_payment_circuits.proofs.Naming.{AllName, names_dropped, names_widen}
use Rattle.ln_manager_laws.specs.Calls.{Seat, working, begun_seat, Halt, DropConnection, called}
use Rattle.ln_manager_laws.specs.Manager.{Manager, has_id, seat_of, end_in, halted_in, snapshot, seat_id, id_by}
use Rattle.ln_manager_laws.specs.Steps.{Changes, others, IsFirst, IsSetting}
use Rattle.ln_manager_laws.proofs.Turns.{IdGoes, Keeps, Loses, Agrees, cut_so}
use Rattle.ln_manager_laws.proofs.Seats.{IsSound, called_sound, made_halted}
use Rattle.ln_manager_laws.proofs.Apart.{AreApart, ids, Other, found_more}
use Rattle.ln_manager_laws.proofs.Hosted.{IsAlone, none_alone, works_id, halted_id}
use Rattle.ln_manager_laws.proofs.Snapshots.{Apart, loses, halts_now, snapshot_same, seats_same, seat_same}
use Rattle.ln_manager_laws.proofs.Orderly.{EachSeat, was_there, is_there, apart_changed, KeepsEnd, HasNumber, IsDated}
use Rattle.ln_manager_laws.proofs.Orderly.{SaysNames, IsOrderly, Gives, Happened, Same, Leaves, leaves_by, leaves_seats}
use Rattle.ln_manager_laws.proofs.Orderly.{kin_same, IsChannel, HasEvents}
use Rattle.ln_channel.specs.Ledger.{most_decided}

-- ---- settings

setting_htlcs : (s : Entry) → IsSetting s → (t : Table) → (replay t (s ∷ [])).htlcs ≡ t.htlcs
setting_htlcs (entry.Route id l) h t = refl
setting_htlcs (entry.Use c u) h t = refl
setting_htlcs (entry.Height n) h t = refl
setting_htlcs (entry.Expect i) h t = refl
setting_htlcs (entry.Decided d) h t = absurd h
setting_htlcs (entry.Resumed r) h t = absurd h
setting_htlcs (entry.Taken c o) h t = absurd h
setting_htlcs (entry.Answered c a) h t = absurd h
setting_htlcs (entry.Resolved k how) h t = absurd h
setting_htlcs (entry.Removed k) h t = absurd h
setting_htlcs (entry.Dropped c told) h t = absurd h

module _ {K : Type 0} (signer : K → Signer) (id_of : ℕ → List ℕ) (one : HasOwnIds id_of) (m n : Manager K)
    (h : IsOrderly id_of m) where
  pub sets : (s : Entry) → IsSetting s → n.seats ≡ m.seats → n.book ≡ replay m.book (s ∷ []) → Leaves id_of m n
  sets s is seats book =
      let same = ap (λ (t : Table). t.htlcs) book ∙ setting_htlcs s is m.book in
      leaves_seats id_of m n seats h (Same (seats_same id_of one m n seats same))
      (kin_same m.book.htlcs n.book.htlcs same)

  -- ---- a link halts

  dropped_id : (o : Option End) (agreed : Option (List ℕ)) (xs : List (Seat K)) → IsAlone (id_by o agreed) xs
      → IsAlone (id_by (option_map end_dropped o) None) xs
  dropped_id None agreed xs k = none_alone xs
  dropped_id (Some e) agreed xs k = k

  module _ (x : Seat K) (left : State K) (g : Changes x (called signer (Halt left) x) m n)
      (numbers : EachSeat (HasNumber id_of) n) where
    abbrev pub Halted : Seat K
    Halted = called signer (Halt left) x

    pub halted_apart : Apart n
    halted_apart = apart_changed x Halted m n g h.apart (λ k.
        subst (λ a. IsAlone a (others g)) (sym (halted_id Halted refl)) (dropped_id x.end _ (others g) k))

    pub halted_keeps : KeepsEnd x Halted
    halted_keeps e is = (end_dropped e, ap (option_map end_dropped) is, refl)

    pub halted_dated : IsDated m.book.htlcs Halted
    halted_dated e works z m_in at = absurd (let no : true ≡ false = works.halted in cc)

    pub halted_named : SaysNames m Halted
    halted_named e is = cases x.end refl is
      where
        cases : (o : Option End) → x.end ≡ o → option_map end_dropped o ≡ Some e
            → AllName (IsChannel m) e.dance.log.own
        cases None was f = absurd (cc)
        cases (Some d) was f =
            let same : end_dropped d ≡ e = cc in
            subst (λ (q : End). AllName (IsChannel m) q.dance.log.own) same
            (names_dropped (IsChannel m) d (h.named x (was_there x Halted m n g) d was))

    pub halted_few : HasEvents Halted
    halted_few e is = cases x.end refl is
      where
        cases : (o : Option End) → x.end ≡ o → option_map end_dropped o ≡ Some e → e.ledger.decided ≤ most_decided
        cases None was f = absurd (cc)
        cases (Some d) was f =
            let same : end_dropped d ≡ e = cc in
            subst (λ (q : End). q.ledger.decided ≤ most_decided) same (h.few x (was_there x Halted m n g) d was)

    pub halted_sound : IsSound Halted
    halted_sound = called_sound signer (Halt left) x (h.sound x (was_there x Halted m n g))

    pub halts : n.book.htlcs ≡ m.book.htlcs → Leaves id_of m n
    halts book =
        leaves_by id_of x Halted m n g h halted_sound halted_apart halted_keeps (gives x.end refl)
        (kin_same m.book.htlcs n.book.htlcs book) halted_dated halted_named halted_few
      where
        gives : (o : Option End) → x.end ≡ o → Gives id_of (snapshot id_of m) (snapshot id_of n)
        gives None was = Same (seat_same id_of one x Halted m n g h.apart halted_apart
            (ap (option_map end_dropped) was ∙ sym was)
            (λ e is. absurd (let no : None ≡ Some e = sym was ∙ is in cc)) book)
        gives (Some e) was =
            let now = ap (option_map end_dropped) was in
            let c = numbers Halted (is_there x Halted m n g) (end_dropped e) now in
            Happened (may.Halts c.0
            (loses id_of one x Halted m n g h.apart halted_apart c.0 e (end_dropped e) was now c.1 refl refl)
            (halts_now id_of one x Halted m n g h.apart halted_apart c.0 e (end_dropped e) was now c.1 refl refl) book)

  -- ---- a channel is added

  none_first : (keys : K) (s : Stage) → IsFirst s → (begun_seat keys s).end ≡ None
  none_first keys (stage.AwaitsOpen c) is = refl
  none_first keys (stage.AwaitsAccept s) is = refl
  none_first keys (stage.AwaitsCreated a) is = absurd is
  none_first keys (stage.AwaitsSigned e) is = absurd is
  none_first keys (stage.Funded e) is = absurd is
  none_first keys stage.Gone is = absurd is

  none_agreed : (keys : K) (s : Stage) → IsFirst s → seat_id (begun_seat keys s) ≡ None
  none_agreed keys (stage.AwaitsOpen c) is = refl
  none_agreed keys (stage.AwaitsAccept s) is = refl
  none_agreed keys (stage.AwaitsCreated a) is = absurd is
  none_agreed keys (stage.AwaitsSigned e) is = absurd is
  none_agreed keys (stage.Funded e) is = absurd is
  none_agreed keys stage.Gone is = absurd is

  first_ready : (keys : K) (s : Stage) → IsFirst s → IsSound (begun_seat keys s)
  first_ready keys (stage.AwaitsOpen c) is = record { fit = tt; works = λ now. (refl, tt) }
  first_ready keys (stage.AwaitsAccept s) is = record { fit = tt; works = λ now. (refl, tt) }
  first_ready keys (stage.AwaitsCreated a) is = absurd is
  first_ready keys (stage.AwaitsSigned e) is = absurd is
  first_ready keys (stage.Funded e) is = absurd is
  first_ready keys stage.Gone is = absurd is

  among_last : (z y : Seat K) (xs : List (Seat K)) → IsIn z (xs ++ y ∷ []) → IsIn z xs ⊎ (y ≡ z)
  among_last z y [] (inl e) = inr e
  among_last z y [] (inr k) = absurd k
  among_last z y (x ∷ xs) (inl e) = inl (inl e)
  among_last z y (x ∷ xs) (inr k) = elim (among_last z y xs k) [ inl l ↦ inl (inr l) | inr e ↦ inr e ]

  among_more : (z : Seat K) (xs ys : List (Seat K)) → IsIn z xs → IsIn z (xs ++ ys)
  among_more z [] ys k = absurd k
  among_more z (x ∷ xs) ys (inl e) = inl e
  among_more z (x ∷ xs) ys (inr k) = inr (among_more z xs ys k)

  all_last : (a : Option (List ℕ)) (us : List (Option (List ℕ))) → All (Other a) us → All (Other a) (us ++ None ∷ [])
  all_last None [] k = (tt, tt)
  all_last (Some a) [] k = (tt, tt)
  all_last a (u ∷ us) k = (k.0, all_last a us k.1)

  apart_last : (us : List (Option (List ℕ))) → AreApart us → AreApart (us ++ None ∷ [])
  apart_last [] k = (tt, tt)
  apart_last (u ∷ us) k = (all_last u us k.0, apart_last us k.1)

  pub adds : (keys : K) (s : Stage) → IsFirst s → n.seats ≡ m.seats ++ begun_seat keys s ∷ [] → n.book ≡ m.book
      → Leaves id_of m n
  adds keys s is seats book = record {
    sound = λ z k. elim (now z k) [ inl old ↦ h.sound z old | inr e ↦ subst IsSound e (first_ready keys s is) ];
    apart = subst (λ zs. AreApart (ids zs)) (sym seats)
        (subst AreApart (sym (ids_more m.seats)) (apart_last (ids m.seats) h.apart));
    gives = Same (snapshot_same id_of one m n (λ id. ap end_in (same id)) (λ id. ap halted_in (same id)) htlcs);
    keyed = λ z k. let c = h.keyed z (subst (IsIn z) htlcs k) in (c.0, there c.0 c.1, c.2);
    dated = λ z k. elim (now z k) [
      | inl old ↦ subst (λ hs. IsDated hs z) (sym htlcs) (h.dated z old)
      | inr e ↦ λ d works. absurd (let no : None ≡ Some d =
          sym (none_first keys s is) ∙ ap (λ (q : Seat K). q.end) e ∙ works.end in cc)
    ];
    named = λ z k. elim (now z k) [
      | inl old ↦ λ d has. names_widen (IsChannel m) (IsChannel n) (λ c q. (q.0, there q.0 q.1, q.2)) d.dance.log.own
          (h.named z old d has)
      | inr e ↦ λ d has. absurd (let no : None ≡ Some d =
          sym (none_first keys s is) ∙ ap (λ (q : Seat K). q.end) e ∙ has in cc)
    ];
    few = λ z k. elim (now z k) [
      | inl old ↦ h.few z old
      | inr e ↦ λ d has. absurd (let no : None ≡ Some d =
          sym (none_first keys s is) ∙ ap (λ (q : Seat K). q.end) e ∙ has in cc)
    ];
  }
    where
      new : Seat K
      new = begun_seat keys s

      htlcs : n.book.htlcs ≡ m.book.htlcs
      htlcs = ap (λ (t : Table). t.htlcs) book

      now : (z : Seat K) → IsIn z n.seats → IsIn z m.seats ⊎ (new ≡ z)
      now z k = among_last z new m.seats (subst (IsIn z) seats k)

      there : (z : Seat K) → IsIn z m.seats → IsIn z n.seats
      there z k = subst (IsIn z) (sym seats) (among_more z m.seats (new ∷ []) k)

      same : (id : List ℕ) → seat_of id n.seats ≡ seat_of id m.seats
      same id = ap (seat_of id) seats ∙ found_more id m.seats new (ap (has_id id) (none_first keys s is))

      ids_more : (zs : List (Seat K)) → ids (zs ++ new ∷ []) ≡ ids zs ++ None ∷ []
      ids_more [] = ap (λ a. a ∷ []) (none_agreed keys s is)
      ids_more (z ∷ zs) = ap (λ us. seat_id z ∷ us) (ids_more zs)

  -- ---- a connection is lost

  -- what is left of a link
  pub record IsDropped (x y : Seat K) (xs : List (Seat K)) : Type 0 where
    pub sound : IsSound y
    pub halted : y.link.halted ≡ x.link.halted
    pub end : is_down x.link.connection ≡ false → x.link.halted ≡ false → y.end ≡ option_map end_dropped x.end
    pub none : x.end ≡ None → y.end ≡ None
    pub alone : IsAlone (seat_id x) xs → IsAlone (seat_id y) xs

  cut_alone : (xs : List (Seat K)) (s t : Stage) → IdGoes (λ id. ⊥) s t → IsAlone (channel_of s) xs
      → IsAlone (channel_of t) xs
  cut_alone xs s t (Keeps is) k = subst (λ a. IsAlone a xs) (sym is) k
  cut_alone xs s t (Loses is) k = subst (λ a. IsAlone a xs) (sym is) (none_alone xs)
  cut_alone xs s t (Agrees id o is) k = absurd o

  pub dropped : (x : Seat K) (xs : List (Seat K)) → IsSound x → IsDropped x (called signer DropConnection x) xs
  dropped x xs s = by_halted x.link.halted refl (called_sound signer DropConnection x s)
    where
      line : (b : Bool) → State K
      line b = cond b x.link (record x.link { connection = connection.Down; stage = cut x.link.stage })

      same : (drops x.link).halted ≡ x.link.halted
      same = made_halted signer DropConnection x.link

      works_so : (b : Bool) → is_down x.link.connection ≡ b → x.link.halted ≡ false → IsSound (working (line b))
          → (line b).halted ≡ x.link.halted → IsDropped x (working (line b)) xs
      works_so true down works t halted = record {
        sound = t;
        halted = halted;
        end = λ up. absurd (let no : true ≡ false = sym down ∙ up in cc);
        none = λ none. sym (s.works works).0 ∙ none;
        alone = λ k. subst (λ a. IsAlone a xs) (sym (works_id (working x.link) t (halted ∙ works)))
            (subst (λ a. IsAlone a xs) (works_id x s works) k);
      }
      works_so false down works t halted =
          let c = cut_so x.link.stage in
          record {
            sound = t;
            halted = halted;
            end = λ up now. c.end ∙ ap (option_map end_dropped) (sym (s.works works).0);
            none = λ none. c.end ∙ ap (option_map end_dropped) (sym (s.works works).0 ∙ none);
            alone = λ k. subst (λ a. IsAlone a xs) (sym (works_id (working (line false)) t (halted ∙ works)))
                (cut_alone xs x.link.stage (cut x.link.stage) c.id (subst (λ a. IsAlone a xs) (works_id x s works) k));
          }

      by_halted : (b : Bool) → x.link.halted ≡ b → IsSound (cond b (record x { link = drops x.link })
          (working (drops x.link)))
          → IsDropped x (cond b (record x { link = drops x.link }) (working (drops x.link))) xs
      by_halted true is t = record {
        sound = t;
        halted = same;
        end = λ up works. absurd (let no : true ≡ false = sym is ∙ works in cc);
        none = λ none. none;
        alone = subst (λ a. IsAlone a xs) (halted_id x is ∙ sym (halted_id (record x { link = drops x.link })
            (same ∙ is)));
      }
      by_halted false is t = works_so (is_down x.link.connection) refl is t same

  pub loses_opening : (x : Seat K) (g : Changes x (called signer DropConnection x) m n) → x.end ≡ None
      → n.book ≡ m.book → Leaves id_of m n
  loses_opening x g none book =
      let y = called signer DropConnection x in
      let d = dropped x (others g) (h.sound x (was_there x y m n g)) in
      let apart = apart_changed x y m n g h.apart d.alone in
      let htlcs = ap (λ (t : Table). t.htlcs) book in
      leaves_by id_of x y m n g h d.sound apart (λ e is. absurd (let no : None ≡ Some e = sym none ∙ is in cc))
      (Same (seat_same id_of one x y m n g h.apart apart (d.none none ∙ sym none)
      (λ e is. absurd (let no : None ≡ Some e = sym none ∙ is in cc)) htlcs))
      (kin_same m.book.htlcs n.book.htlcs htlcs)
      (λ e works. absurd (let no : None ≡ Some e = sym (d.none none) ∙ works.end in cc))
      (λ e is. absurd (let no : None ≡ Some e = sym (d.none none) ∙ is in cc))
      (λ e is. absurd (let no : None ≡ Some e = sym (d.none none) ∙ is in cc))
