-- What a book has offered in a channel whose link has halted: its end has that add, or none of that id yet. So what is
-- kept when the link comes back is what was offered, and no other add of the same id.
use Rattle.std.proofs.Common.{◌≡◌, ◌⊎◌, inl, inr, ℕ, ◌≤◌, List, [], ◌∷◌, ◌++◌, take, map, filter, refl, sym, ap, ◌∙◌}
use Rattle.std.proofs.Common.{subst, arith, Bool, true, false, cond, not, ◌<◌, ◌==◌, ◌||◌, nat_le, nat_lt, Option, Some}
use Rattle.std.proofs.Common.{None}
use Rattle.std.specs.List.{list_any}
use Rattle.std.proofs.lemmas.Bool.{leb-true, le-leb, ltb-true, ltb-false}
use Rattle.ln_log.specs.declared.update.Update.{Update}
use Rattle.ln_log.specs.Updates.{next_id}
use Rattle.ln_log.proofs.Behind.{offered_below}
use Rattle.ln_log.proofs.Removing.{numbered-take, next-front}
use Rattle.ln_book_tables.specs.declared.htlc.Key.{Key}
use Rattle.ln_book_tables.specs.declared.htlc.OutgoingLeg.{OutgoingLeg as BookOutgoing}
use Rattle.ln_book_tables.specs.declared.htlc.OutgoingLeg.TheVariants as outgoing
use Rattle.ln_book_tables.specs.declared.htlc.Htlc.{Htlc}
use Rattle.ln_book_tables.specs.Replay.{is_htlc, is_decided, joined, changed_first, left_out}
use Rattle.ln_payment.specs.Parts.{Out, OutgoingLeg, Absent, Refused, Offered, Resolved, Note, Among, IsAt}
use Rattle.ln_payment.specs.Moves.{is_of}
use Rattle.ln_payment_circuits.specs.Snapshot.{Incoming, IsIn, key_at, key_of, origin}
use Rattle.ln_payment_circuits.proofs.Parts.{HasAdd}
use Rattle.ln_payment_circuits.proofs.Logs.{add_kept}
use Rattle.ln_payment_circuits.proofs.Links.{Side, Links, HasAddAt, AreOuts}
use Rattle.ln_payment_circuits.proofs.Losses.{Drops, IsSoundSide, all_dropped}
use Rattle.ln_payment_circuits.proofs.Lists.{either, of_picked, passes, among_changed}
use Rattle.ln_payment_circuits.proofs.Held.{among_last}
use Rattle.ln_payment_circuits.proofs.Entries.{key_is, IsOutgoingOf, IsNoteOf, AreEntries}
use Rattle.ln_payment_circuits.proofs.Scenes.{Scene, HasPayment, HavePayments, note_of, awake_there}

-- ---- one end

abbrev pub IsPastAt : List ℕ × ℕ → ℕ → Option Side → Type 0
IsPastAt o i None = Unit {0}
IsPastAt o i (Some x) = HasAdd o i x.log ⊎ (next_id x.log.own ≤ i)

past_has : (o : List ℕ × ℕ) (i : ℕ) (x : Option Side) → HasAddAt o i x → IsPastAt o i x
past_has o i None a = tt
past_has o i (Some x) a = inl a

below : (n i : ℕ) → nat_le n i ≡ false → n ≤ i → ⊥
below n i e le = let no : true ≡ false = sym (le-leb n i le) ∙ e in absurd (cc)

-- what isn't signed is lost
past_dropped : (o : List ℕ × ℕ) (i : ℕ) (x : Option Side) → IsSoundSide x → IsPastAt o i x
    → IsPastAt o i (all_dropped x)
past_dropped o i None s k = tt
past_dropped o i (Some x) s (inr le) =
    let less = next-front x.log.signed.own x.log.own in inr (omega (arith, le, less))
past_dropped o i (Some x) s (inl a) = cases (nat_le (next_id signed) i) refl
  where
    signed : List Update
    signed = take x.log.signed.own x.log.own

    cases : (b : Bool) → nat_le (next_id signed) i ≡ b → IsPastAt o i (all_dropped (Some x))
    cases true e = inr (leb-true (next_id signed) i e)
    cases false e = inl (add_kept o i x.log
        ((offered_below i signed (numbered-take 0 x.log.signed.own x.log.own s.own_ids)).1 (less (next_id signed) e)) a)
      where
        less : (n : ℕ) → nat_le n i ≡ false → i < n
        less n f = cases_of (nat_lt i n) refl
          where
            cases_of : (b : Bool) → nat_lt i n ≡ b → i < n
            cases_of true k = ltb-true i n k
            cases_of false k = absurd (below n i f (ltb-false i n k))

-- ---- what the book has offered

module _ (id_of : ℕ → List ℕ) where
  -- an HTLC that came in goes out there
  pub record IsOffer (xs : List Htlc) (h : Incoming) (c i : ℕ) (x : Htlc) : Type 0 where
    pub there : IsIn x xs
    pub key : x.key ≡ key_of id_of h
    pub decided : x.decided ≡ true
    pub outgoing : x.outgoing ≡ outgoing.Offered (key_at id_of c i)

  abbrev pub IsPast : Scene → Type 0
  IsPast s = (h : Incoming) (c i : ℕ) (x : Htlc) → IsOffer s.book h c i x → s.links.halted c ≡ true
      → IsPastAt (origin id_of h) i (s.links.sides c)

  abbrev pub WasOffer : List Htlc → Incoming → ℕ → ℕ → Type 0
  WasOffer xs h c i = (x : Htlc) × IsOffer xs h c i x

  -- each that goes out did before
  abbrev pub OldOffers : List Htlc → List Htlc → Type 0
  OldOffers xs ys = (h : Incoming) (c i : ℕ) (y : Htlc) → IsOffer ys h c i y → WasOffer xs h c i

  pub offers_same : (xs ys : List Htlc) → ys ≡ xs → OldOffers xs ys
  offers_same xs ys e h c i y o =
      (y, record { there = subst (IsIn y) e o.there; key = o.key; decided = o.decided; outgoing = o.outgoing })

  pub offers_as : (xs ys zs : List Htlc) → zs ≡ ys → OldOffers xs ys → OldOffers xs zs
  offers_as xs ys zs e k = subst (OldOffers xs) (sym e) k

  pub offers_then : (xs ys zs : List Htlc) → OldOffers xs ys → OldOffers ys zs → OldOffers xs zs
  offers_then xs ys zs a b h c i z o = let y = b h c i z o in a h c i y.0 y.1

  pub offers_left : (p : Htlc → Bool) (xs : List Htlc) → OldOffers xs (left_out p xs)
  offers_left p xs h c i y o = (
    y,
    record {
      there = of_picked (λ x. not (p x)) y xs o.there;
      key = o.key;
      decided = o.decided;
      outgoing = o.outgoing;
    },
  )

  -- a change that lets nothing go out
  abbrev pub OffersNothing : (Htlc → Htlc) → Type 0
  OffersNothing f = (x : Htlc) (k : Key) → (f x).decided ≡ true → (f x).outgoing ≡ outgoing.Offered k
      → (x.key ≡ (f x).key) × (x.decided ≡ true) × (x.outgoing ≡ outgoing.Offered k)

  offer_before : (f : Htlc → Htlc) → OffersNothing f → (xs ys : List Htlc) (h : Incoming) (c i : ℕ) (x y : Htlc)
      → f x ≡ y → IsIn x xs → IsOffer ys h c i y → WasOffer xs h c i
  offer_before f none xs ys h c i x y e m o =
      let k = none x (key_at id_of c i) (ap (λ (z : Htlc). z.decided) e ∙ o.decided)
      (ap (λ (z : Htlc). z.outgoing) e ∙ o.outgoing) in
      (x, record { there = m; key = k.0 ∙ ap (λ (z : Htlc). z.key) e ∙ o.key; decided = k.1; outgoing = k.2 })

  pub offers_changed : (p : Htlc → Bool) (f : Htlc → Htlc) → OffersNothing f → (xs : List Htlc)
      → OldOffers xs (changed_first p f xs)
  offers_changed p f none xs h c i y o = elim (among_changed p f y xs o.there) [
    | inl old ↦ (y, record { there = old; key = o.key; decided = o.decided; outgoing = o.outgoing })
    | inr new ↦ offer_before f none xs (changed_first p f xs) h c i new.0 y new.3 new.1 o
  ]

  mapped : (f : Htlc → Htlc) (xs : List Htlc) (y : Htlc) → IsIn y (map f xs) → (x : Htlc) × IsIn x xs × (f x ≡ y)
  mapped f [] y m = absurd m
  mapped f (x ∷ xs) y (inl e) = (x, inl refl, e)
  mapped f (x ∷ xs) y (inr m) = let r = mapped f xs y m in (r.0, inr r.1, r.2)

  pub offers_map : (f : Htlc → Htlc) → OffersNothing f → (xs : List Htlc) → OldOffers xs (map f xs)
  offers_map f none xs h c i y o =
      let r = mapped f xs y o.there in offer_before f none xs (map f xs) h c i r.0 y r.2 r.1 o

  -- one more, which goes nowhere
  absent_not : (x : Htlc) (k : Key) → x.outgoing ≡ outgoing.Absent → x.outgoing ≡ outgoing.Offered k → ⊥
  absent_not x k a e =
      let no : ◌≡◌ {A = BookOutgoing} outgoing.Absent (outgoing.Offered k) = sym a ∙ e in absurd (cc)

  pub offers_last : (xs : List Htlc) (x : Htlc) → x.outgoing ≡ outgoing.Absent → OldOffers xs (xs ++ x ∷ [])
  offers_last xs x a h c i y o = elim (among_last y x xs o.there) [
    | inl old ↦ (y, record { there = old; key = o.key; decided = o.decided; outgoing = o.outgoing })
    | inr new ↦ absurd (absent_not x (key_at id_of c i) a (ap (λ (z : Htlc). z.outgoing) new ∙ o.outgoing))
  ]

  pub offers_joined : (x : Htlc) (xs : List Htlc) → x.outgoing ≡ outgoing.Absent → OldOffers xs (joined x xs)
  offers_joined x xs a = cases (list_any (is_decided x.key) xs)
    where
      cases : (b : Bool) → OldOffers xs (cond b xs (left_out (is_htlc x.key) xs ++ x ∷ []))
      cases true = offers_same xs xs refl
      cases false = offers_then xs (left_out (is_htlc x.key) xs) (left_out (is_htlc x.key) xs ++ x ∷ [])
          (offers_left (is_htlc x.key) xs) (offers_last (left_out (is_htlc x.key) xs) x a)

  -- ---- of all of them

  -- where halted links stay as they are, and nothing goes out in them
  pub past_on : (s t : Scene)
      → ((c : ℕ) → t.links.halted c ≡ true → (s.links.halted c ≡ true) × (t.links.sides c ≡ s.links.sides c))
      → ((h : Incoming) (c i : ℕ) (y : Htlc) → t.links.halted c ≡ true → IsOffer t.book h c i y
      → WasOffer s.book h c i) → IsPast s → IsPast t
  past_on s t links book k h c i y o halted =
      let l = links c halted in
      let x = book h c i y halted o in
      subst (IsPastAt (origin id_of h) i) (sym l.1) (k h c i x.0 x.1 l.0)

  module _ (one : (c d : ℕ) → id_of c ≡ id_of d → c ≡ d) where
    -- an offer of the book is the payment's
    offered_note : (c i : ℕ) (v : BookOutgoing) (w : OutgoingLeg) → v ≡ outgoing.Offered (key_at id_of c i)
        → IsOutgoingOf id_of v w → w ≡ Offered c i
    offered_note c i v Absent e is = absurd (subst (λ z. IsOutgoingOf id_of z Absent) e is)
    offered_note c i v Refused e is = absurd (subst (λ z. IsOutgoingOf id_of z Refused) e is)
    offered_note c i v (Resolved d j m) e is = absurd (subst (λ z. IsOutgoingOf id_of z (Resolved d j m)) e is)
    offered_note c i v (Offered d j) e is =
        let key : key_at id_of c i ≡ key_at id_of d j = subst (λ z. IsOutgoingOf id_of z (Offered d j)) e is in
        ap (λ n. Offered n j) (sym (one c d (ap (λ (k : Key). k.channel) key)))
        ∙ ap (Offered c) (sym (ap (λ (k : Key). k.id) key))

    out_there : (h : Incoming) (l : Links) (c i : ℕ) (os : List Out) → AreOuts (origin id_of) h l os
        → Among (IsAt c i) os → HasAddAt (origin id_of h) i (l.sides c)
    out_there h l c i [] o a = absurd a
    out_there h l c i (q ∷ r ∷ os) o a = absurd o
    out_there h l c i (q ∷ []) o (inr a) = absurd a
    out_there h l c i (q ∷ []) o (inl a) =
        subst (λ z. HasAddAt (origin id_of h) z (l.sides c)) a.1
        (subst (λ z. HasAddAt (origin id_of h) q.id (l.sides z)) a.0 o.0)

    there_out : (h : Incoming) (l : Links) (c i : ℕ) (os : List Out) → AreOuts (origin id_of) h l os
        → HasAddAt (origin id_of h) i (l.sides c) → Among (IsAt c i) os
    there_out h l c i [] o a = absurd (o c i a)
    there_out h l c i (q ∷ r ∷ os) o a = absurd o
    there_out h l c i (q ∷ []) o a = let x = o.2 c i a in inl (sym x.0, sym x.1)

    awake_has : (s : Scene) (h : Incoming) (c i : ℕ) (x : Htlc) → s.links.halted c ≡ false → HavePayments id_of s
        → IsOffer s.book h c i x → HasAddAt (origin id_of h) i (s.links.sides c)
    awake_has s h c i x awake k o =
        let n = note_of id_of h s (k h) x o.there o.decided o.key in
        out_there h s.links c i (k h).0.outs (k h).1.of_links.outs
        (awake_there id_of c s awake h (k h) n.0 i n.1
        (offered_note c i x.outgoing n.0.outgoing o.outgoing n.2.outgoing))

    -- a link halts
    pub past_halts : (s t : Scene) (c : ℕ) → Drops (is_of c) s.links t.links
        → ((d : ℕ) → t.links.halted d ≡ ((d == c) || s.links.halted d)) → OldOffers s.book t.book
        → HavePayments id_of s → IsPast s → IsPast t
    past_halts s t c g now book k past h d i y o halted = elim (either (d == c)) [
      | inr isnt ↦
          subst (IsPastAt (origin id_of h) i) (sym (g.others d isnt)) (past h d i x.0 x.1
          (sym (ap (λ b. b || s.links.halted d) isnt) ∙ sym (now d) ∙ halted))
      | inl is ↦
          subst (IsPastAt (origin id_of h) i) (sym (g.lost d is))
          (past_dropped (origin id_of h) i (s.links.sides d) (g.sound d) (before (s.links.halted d) refl))
    ]
      where
        x : WasOffer s.book h d i
        x = book h d i y o

        before : (b : Bool) → s.links.halted d ≡ b → IsPastAt (origin id_of h) i (s.links.sides d)
        before true e = past h d i x.0 x.1 e
        before false e = past_has (origin id_of h) i (s.links.sides d) (awake_has s h d i x.0 e k x.1)

    -- so it has what the book has offered, below the next id
    entry_there : (h : Incoming) (xs : List Htlc) (n : Note) (ys : List Htlc)
        → filter (is_htlc (key_of id_of h)) xs ≡ ys → AreEntries id_of ys (Some n)
        → (x : Htlc) × IsIn x xs × (x.key ≡ key_of id_of h) × (x.decided ≡ true) × IsNoteOf id_of x n
    entry_there h xs n [] e k = absurd (let no : ◌≡◌ {A = Option Note} (Some n) None = k in cc)
    entry_there h xs n (x ∷ y ∷ ys) e k = absurd k
    entry_there h xs n (x ∷ []) e k =
        let m : IsIn x (filter (is_htlc (key_of id_of h)) xs) = subst (IsIn x) (sym e) (inl refl) in (
          x,
          of_picked (is_htlc (key_of id_of h)) x xs m,
          sym (key_is (key_of id_of h) x.key (passes (is_htlc (key_of id_of h)) x xs m)),
          k.0,
          k.1,
        )

    noted_offer : (c i : ℕ) (v : BookOutgoing) (w : OutgoingLeg) → w ≡ Offered c i → IsOutgoingOf id_of v w
        → v ≡ outgoing.Offered (key_at id_of c i)
    noted_offer c i v w e is = cases v (subst (IsOutgoingOf id_of v) e is)
      where
        cases : (v : BookOutgoing) → IsOutgoingOf id_of v (Offered c i) → v ≡ outgoing.Offered (key_at id_of c i)
        cases outgoing.Absent k = absurd k
        cases outgoing.Refused k = absurd k
        cases (outgoing.Offered j) k = ap outgoing.Offered k
        cases (outgoing.Resolved j how) k = absurd k

    pub past_there : (s : Scene) (c next : ℕ) (x : Side) → s.links.sides c ≡ Some x → s.links.halted c ≡ true
        → next ≤ next_id x.log.own → IsPast s → (h : Incoming) (k : HasPayment id_of h s) (n : Note) (i : ℕ)
        → k.0.note ≡ Some n → n.outgoing ≡ Offered c i → nat_le next i ≡ false → Among (IsAt c i) k.0.outs
    past_there s c next x at halted le past h k n i is to near =
        let e = entry_there h s.book n (filter (is_htlc (key_of id_of h)) s.book) refl
        (subst (AreEntries id_of (filter (is_htlc (key_of id_of h)) s.book)) is k.1.note) in
        let offer : IsOffer s.book h c i e.0 = record {
          there = e.1;
          key = e.2;
          decided = e.3;
          outgoing = noted_offer c i e.0.outgoing n.outgoing to e.4.outgoing;
        } in
        cases (subst (IsPastAt (origin id_of h) i) at (past h c i e.0 offer halted))
      where
        cases : HasAdd (origin id_of h) i x.log ⊎ (next_id x.log.own ≤ i) → Among (IsAt c i) k.0.outs
        cases (inl a) = there_out h s.links c i k.0.outs k.1.of_links.outs
            (subst (HasAddAt (origin id_of h) i) (sym at) a)
        cases (inr past_it) = absurd (below next i near (omega (arith, le, past_it)))
