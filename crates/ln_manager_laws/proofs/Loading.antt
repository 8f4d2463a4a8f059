-- A manager that is loaded of all records of another one: its links come back, and its book is read off them.
use Rattle.std.proofs.Common.{◌≡◌, inl, inr, ℕ, ◌≤◌, List, [], ◌∷◌, ◌++◌, take, refl, sym, ap, ◌∙◌, subst}
use Rattle.std.proofs.Common.{true, false, ◌==◌, Option, Some, None}
use Rattle.std.specs.Prelude.{option_map}
use Rattle.std.proofs.lemmas.Bool.{eqb-true}
use Rattle.ln_log.specs.declared.mark.Settlement.{Settlement}
use Rattle.ln_channel.specs.End.{End, end_dropped}
use Rattle.ln_channel.specs.Ledger.{most_decided}
use Rattle.ln_book_tables.specs.declared.htlc.Htlc.{Htlc}
use Rattle.ln_book.specs.Rebuild.{rebuilt_htlcs}
use Rattle.ln_book.specs.Snapshots.{snapshot_by}
use Rattle.ln_payment_circuits.specs.Snapshot.{IsIn, All, AreDistinct, IsFit, snapshots}
use Rattle.ln_payment_circuits.specs.Happens.{HasOwnIds, AreEnds}
use Rattle.ln_payment_circuits.specs.Happens as may
use Rattle.ln_payment_circuits.proofs.Entries.{same_is}
use Rattle.ln_payment_circuits.proofs.Fitting.{fit_dropped}
use Rattle.ln_payment_circuits.proofs.Lists.{either}
use Rattle.ln_payment_circuits.proofs.Naming.{AllName, names_dropped, names_widen}
use Rattle.ln_payment_circuits.proofs.OutgoingLegs.{of_member}
use Rattle.ln_payment_circuits.proofs.Reading.{IsReadSo, IsEndSo, read_so, results_so}
use Rattle.ln_manager_laws.specs.Calls.{Seat}
use Rattle.ln_manager_laws.specs.Manager.{Manager, has_id, seat_of, end_in, halted_in, end_of, snapshot, seat_id}
use Rattle.ln_manager_laws.specs.Manager.{id_by, agreed_id}
use Rattle.ln_manager_laws.specs.Runs.{IsLoaded, AreOnce, AreOther, read_off}
use Rattle.ln_manager_laws.proofs.Apart.{AreApart, Other, ids, found_in, found_is}
use Rattle.ln_manager_laws.proofs.Seats.{IsSound, AreFitEnds}
use Rattle.ln_manager_laws.proofs.Snapshots.{Apart}
use Rattle.ln_manager_laws.proofs.Orderly.{EachSeat, IsChannel, HasNumber, IsOrderly, stays_orderly, Happened}
use Rattle.ln_manager_laws.proofs.Orderly.{of_all, at_seat}

-- ---- no two of them have one id

other_so : (a b : Option (List ℕ)) → AreOther a b → Other a b
other_so None b h = tt
other_so (Some a) None h = tt
other_so (Some a) (Some b) h = h

-- an end with its number
abbrev one : (o : Option End) → ((e : End) → o ≡ Some e → ℕ) → List (ℕ × End) → List (ℕ × End)
one None f rest = rest
one (Some e) f rest = (f e refl, e) ∷ rest

module _ {K : Type 0} where
  all_other : (a : Option (List ℕ)) (xs : List (Seat K)) → All (λ y. AreOther a (seat_id y)) xs → All (Other a) (ids xs)
  all_other a [] h = tt
  all_other a (x ∷ xs) h = (other_so a (seat_id x) h.0, all_other a xs h.1)

  once_apart : (xs : List (Seat K)) → AreOnce xs → AreApart (ids xs)
  once_apart [] h = tt
  once_apart (x ∷ xs) h = (all_other (seat_id x) xs h.0, once_apart xs h.1)

  -- ---- the ends, by the numbers of their channels

  module _ (id_of : ℕ → List ℕ) where
    abbrev ends_of : (xs : List (Seat K)) → All (HasNumber id_of) xs → List (ℕ × End)
    ends_of [] h = []
    ends_of (x ∷ xs) h = one x.end (λ e is. (h.0 e is).0) (ends_of xs h.1)

    all_numbered : (xs : List (Seat K)) → ((x : Seat K) → IsIn x xs → HasNumber id_of x) → All (HasNumber id_of) xs
    all_numbered [] h = tt
    all_numbered (x ∷ xs) h = (h x (inl refl), all_numbered xs (λ z k. h z (inr k)))

    read_so_off : (xs : List (Seat K)) (h : All (HasNumber id_of) xs) → read_off xs ≡ snapshots (ends_of xs h)
    read_so_off [] h = refl
    read_so_off (x ∷ xs) h =
        ap (λ rs. snapshot_by x.end ++ rs) (read_so_off xs h.1) ∙ cases x.end (λ e is. (h.0 e is).0)
      where
        cases : (o : Option End) (f : (e : End) → o ≡ Some e → ℕ)
            → snapshot_by o ++ snapshots (ends_of xs h.1) ≡ snapshots (one o f (ends_of xs h.1))
        cases None f = refl
        cases (Some e) f = refl

    -- each is a link's, by its number
    abbrev IsEndOf : List (Seat K) → ℕ × End → Type 0
    IsEndOf xs p = (x : Seat K) × IsIn x xs × ((x.end ≡ Some p.1) × (p.1.dance.channel ≡ id_of p.0))

    more_ends : (x : Seat K) (xs : List (Seat K)) (ps : List (ℕ × End)) → All (IsEndOf xs) ps
        → All (IsEndOf (x ∷ xs)) ps
    more_ends x xs [] h = tt
    more_ends x xs (p ∷ ps) h = ((h.0.0, inr h.0.1, h.0.2), more_ends x xs ps h.1)

    each_end : (xs : List (Seat K)) (h : All (HasNumber id_of) xs) → All (IsEndOf xs) (ends_of xs h)
    each_end [] h = tt
    each_end (x ∷ xs) h = cases x.end refl (λ e is. h.0 e is) (more_ends x xs (ends_of xs h.1) (each_end xs h.1))
      where
        cases : (o : Option End) → x.end ≡ o → (f : (e : End) → o ≡ Some e → (c : ℕ) × (e.dance.channel ≡ id_of c))
            → All (IsEndOf (x ∷ xs)) (ends_of xs h.1)
            → All (IsEndOf (x ∷ xs)) (one o (λ e is. (f e is).0) (ends_of xs h.1))
        cases None at f rest = rest
        cases (Some e) at f rest = ((x, inl refl, (at, (f e refl).1)), rest)

    -- and each of theirs is there
    there : (one_id : HasOwnIds id_of) (xs : List (Seat K)) (h : All (HasNumber id_of) xs) (x : Seat K) → IsIn x xs
        → (c : ℕ) (e : End) → x.end ≡ Some e → e.dance.channel ≡ id_of c → IsIn (c, e) (ends_of xs h)
    there one_id [] h x k c e is at = absurd k
    there one_id (y ∷ xs) h x (inl same) c e is at =
        cases y.end (λ q r. h.0 q r) (ap (λ (z : Seat K). z.end) same ∙ is)
      where
        cases : (o : Option End) (f : (q : End) → o ≡ Some q → (d : ℕ) × (q.dance.channel ≡ id_of d)) → o ≡ Some e
            → IsIn (c, e) (one o (λ q r. (f q r).0) (ends_of xs h.1))
        cases None f r = absurd (cc)
        cases (Some q) f r =
            let same_end : q ≡ e = cc in
            let number : (f q refl).0 ≡ c = one_id (f q refl).0 c (sym (f q refl).1
            ∙ ap (λ (z : End). z.dance.channel) same_end ∙ at) in
            inl (cc)
    there one_id (y ∷ xs) h x (inr k) c e is at = cases y.end (λ q r. (h.0 q r).0) (there one_id xs h.1 x k c e is at)
      where
        cases : (o : Option End) (f : (q : End) → o ≡ Some q → ℕ) → IsIn (c, e) (ends_of xs h.1)
            → IsIn (c, e) (one o f (ends_of xs h.1))
        cases None f m = m
        cases (Some q) f m = inr m

    -- each once
    far : (a : Option (List ℕ)) (c : ℕ) (xs : List (Seat K)) → a ≡ Some (id_of c) → All (Other a) (ids xs)
        → (ps : List (ℕ × End)) → All (IsEndOf xs) ps → All (λ (p : ℕ × End). (p.0 == c) ≡ false) ps
    far a c xs is others [] h = tt
    far a c xs is others (p ∷ ps) h = (
      elim (either (p.0 == c)) [
        | inr isnt ↦ isnt
        | inl number ↦ absurd (
            let z = h.0.0 in
            let other : Other (Some (id_of c)) (Some p.1.dance.channel) =
            subst (λ o. Other o (Some p.1.dance.channel)) is
            (subst (Other a) (ap (λ o. id_by o (agreed_id z.link)) h.0.2.0) (of_all a z xs others h.0.1)) in
            other (sym (h.0.2.1 ∙ ap id_of (eqb-true p.0 c number))))
      ],
      far a c xs is others ps h.1,
    )

    distinct : (xs : List (Seat K)) (h : All (HasNumber id_of) xs) → AreApart (ids xs) → AreDistinct (ends_of xs h)
    distinct [] h apart = tt
    distinct (x ∷ xs) h apart = cases x.end refl (λ q r. h.0 q r) (distinct xs h.1 apart.1)
      where
        cases : (o : Option End) → x.end ≡ o → (f : (q : End) → o ≡ Some q → (d : ℕ) × (q.dance.channel ≡ id_of d))
            → AreDistinct (ends_of xs h.1) → AreDistinct (one o (λ q r. (f q r).0) (ends_of xs h.1))
        cases None at f rest = rest
        cases (Some q) at f rest = (
          far (seat_id x) (f q refl).0 xs (ap (λ o. id_by o (agreed_id x.link)) at ∙ ap Some (f q refl).1) apart.0
              (ends_of xs h.1) (each_end xs h.1),
          rest,
        )

-- ---- what is loaded

module _ {K : Type 0} (m n : Manager K) (l : IsLoaded m n) where
  pub loaded_apart : Apart n
  loaded_apart = once_apart n.seats l.once

  pub loaded_sound : EachSeat IsSound m → EachSeat IsSound n
  loaded_sound sound y y_in =
      let b = l.back y y_in in
      let e = b.2.0 in
      let fit : IsFit e = subst AreFitEnds b.2.1 (sound b.0 b.1).fit in
      subst IsSound (sym b.2.2.2) (record { fit = fit_dropped e fit; works = λ now. (refl, tt) })

  -- a link that came back has what a lost connection leaves
  back_end : (y : Seat K) (y_in : IsIn y n.seats) → y.end ≡ Some (end_dropped (l.back y y_in).2.0)
  back_end y y_in = ap (λ (z : Seat K). z.end) (l.back y y_in).2.2.2

  pub loaded_stays : (c : List ℕ) → IsChannel m c → IsChannel n c
  loaded_stays c k =
      let b = l.all k.0 k.1 k.2.0 k.2.1 in (b.0, b.1, (end_dropped k.2.0, b.2, k.2.2))

  module _ (id_of : ℕ → List ℕ) (one_id : HasOwnIds id_of) (numbers : EachSeat (HasNumber id_of) n)
      (h : IsOrderly id_of m) where
    hs : All (HasNumber id_of) n.seats
    hs = all_numbered id_of n.seats numbers

    abbrev es : List (ℕ × End)
    es = ends_of id_of n.seats hs

    ends : (id : List ℕ) → end_of id n ≡ option_map end_dropped (end_of id m)
    ends id = cases (seat_of id n.seats) refl
      where
        has_end : (o : Option End) → has_id id o ≡ true → (e : End) × (o ≡ Some e) × (id ≡ e.dance.channel)
        has_end None is = absurd (cc)
        has_end (Some e) is = (e, refl, same_is id e.dance.channel is)

        none_there : (o : Option (Seat K)) → seat_of id m.seats ≡ o → seat_of id n.seats ≡ None
            → None ≡ option_map end_dropped (end_in o)
        none_there None at none = refl
        none_there (Some x) at none =
            let k = found_is id m.seats x at in
            let q = has_end x.end k.1 in
            let b = l.all x k.0 q.0 q.1 in
            absurd (let no : None ≡ Some b.0 = sym none ∙ ap (λ i. seat_of i n.seats) q.2
            ∙ found_in b.0 n.seats (end_dropped q.0) loaded_apart b.1 b.2 in cc)

        cases : (o : Option (Seat K)) → seat_of id n.seats ≡ o → end_in o ≡ option_map end_dropped (end_of id m)
        cases None at = none_there (seat_of id m.seats) refl at
        cases (Some y) at =
            let k = found_is id n.seats y at in
            let b = l.back y k.0 in
            let e = b.2.0 in
            let same_id : id ≡ e.dance.channel = same_is id e.dance.channel
            (sym (ap (has_id id) (back_end y k.0)) ∙ k.1) in
            back_end y k.0
            ∙ sym (ap (option_map end_dropped) (ap (λ i. end_of i m) same_id
            ∙ ap end_in (found_in b.0 m.seats e h.apart b.1 b.2.1) ∙ b.2.1))

    none_halted : (id : List ℕ) → halted_in (seat_of id n.seats) ≡ false
    none_halted id = cases (seat_of id n.seats) refl
      where
        cases : (o : Option (Seat K)) → seat_of id n.seats ≡ o → halted_in o ≡ false
        cases None at = refl
        cases (Some y) at = ap (λ (z : Seat K). z.link.halted) (l.back y (found_is id n.seats y at).0).2.2.2

    book : n.book.htlcs ≡ rebuilt_htlcs (snapshots es)
    book = l.book ∙ ap rebuilt_htlcs (read_so_off id_of n.seats hs)

    are_ends : AreEnds (snapshot id_of n) es
    are_ends = record {
      once = distinct id_of n.seats hs loaded_apart;
      there = λ p p_in.
          let k = of_member (IsEndOf id_of n.seats) es p (each_end id_of n.seats hs) p_in in
          ap (λ i. end_of i n) (sym k.2.1) ∙ ap end_in (found_in k.0 n.seats p.1 loaded_apart k.1 k.2.0) ∙ k.2.0;
      all = λ c e is.
          let k = at_seat id_of c n e is in
          there id_of one_id n.seats hs k.0 k.1 c e k.2
          (sym (same_is (id_of c) e.dance.channel (sym (ap (has_id (id_of c)) k.2) ∙ k.3)));
    }

    pub restarted : may.Happens id_of (snapshot id_of m) (snapshot id_of n)
    restarted = may.Restarts es (record {
      theirs = λ d is. ends (id_of d);
      others = λ d isnt. absurd (let no : true ≡ false = isnt in cc);
    }) (λ d. none_halted (id_of d)) are_ends book

    -- ---- each HTLC that is read

    end_so : (p : ℕ × End) → IsEndOf id_of n.seats p → IsEndSo (IsChannel n) p
    end_so p k =
        let b = l.back k.0 k.1 in
        let x = b.0 in
        let e = b.2.0 in
        let some : Some (end_dropped e) ≡ Some p.1 = sym (back_end k.0 k.1) ∙ k.2.0 in
        let same_end : end_dropped e ≡ p.1 = cc in
        let channel : e.dance.channel ≡ id_of p.0 = ap (λ (z : End). z.dance.channel) same_end ∙ k.2.1 in
        let there_is : end_of (id_of p.0) m ≡ Some e = ap (λ i. end_of i m) (sym channel)
        ∙ ap end_in (found_in x m.seats e h.apart b.1 b.2.1) ∙ b.2.1 in
        let tidy = h.kept.tidy p.0 e there_is in
        let names = names_widen (IsChannel m) (IsChannel n) loaded_stays e.dance.log.own (h.named x b.1 e b.2.1) in (
          (k.0, k.1, (p.1, k.2.0, refl)),
          subst (λ (z : End). All (λ (s : Settlement). IsChannel n s.origin.0) z.ledger.results) same_end
              (results_so (IsChannel n) e.dance.log.own (take e.dance.log.acknowledged.peer e.dance.log.received)
              names e.ledger.results tidy.true_results),
        )

    all_so : (ps : List (ℕ × End)) → All (IsEndOf id_of n.seats) ps → All (IsEndSo (IsChannel n)) ps
    all_so [] k = tt
    all_so (p ∷ ps) k = (end_so p k.0, all_so ps k.1)

    reads : (z : Htlc) → IsIn z n.book.htlcs → IsReadSo (IsChannel n) z
    reads z z_in = read_so (IsChannel n) es (all_so es (each_end id_of n.seats hs)) z (subst (IsIn z) book z_in)

    pub loaded_orderly : IsOrderly id_of n
    loaded_orderly = stays_orderly id_of one_id m n h (record {
      sound = loaded_sound h.sound;
      apart = loaded_apart;
      gives = Happened restarted;
      keyed = λ z z_in. (reads z z_in).1;
      dated = λ y y_in e works z z_in at. inl (reads z z_in).0;
      named = λ y y_in f is.
          let b = l.back y y_in in
          let e = b.2.0 in
          let some : Some (end_dropped e) ≡ Some f = sym (back_end y y_in) ∙ is in
          let same_end : end_dropped e ≡ f = cc in
          subst (λ (z : End). AllName (IsChannel n) z.dance.log.own) same_end
          (names_dropped (IsChannel n) e
          (names_widen (IsChannel m) (IsChannel n) loaded_stays e.dance.log.own (h.named b.0 b.1 e b.2.1)));
      few = λ y y_in f is.
          let b = l.back y y_in in
          let e = b.2.0 in
          let some : Some (end_dropped e) ≡ Some f = sym (back_end y y_in) ∙ is in
          let same_end : end_dropped e ≡ f = cc in
          subst (λ (z : End). z.ledger.decided ≤ most_decided) same_end (h.few b.0 b.1 e b.2.1);
    })
