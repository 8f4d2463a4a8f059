-- What a book has of an HTLC that came in, and what each entry makes of that.
use Rattle.std.proofs.Common.{◌≡◌, ◌⊎◌, inl, inr, ℕ, List, [], ◌∷◌, ◌++◌, filter, map, refl, sym, ap, ◌∙◌, subst}
use Rattle.std.proofs.Common.{Bool, true, false, cond, not, ◌==◌, ◌&&◌, ◌||◌, nat_le, Option, Some, None}
use Rattle.std.specs.List.{list_any}
use Rattle.std.specs.Cmp.Lexicographic.{bytes_decides}
use Rattle.std.proofs.Common.{append-nil}
use Rattle.std.proofs.lemmas.Bool.{eqb-true, eq-eqb, and_parts}
use Rattle.std.proofs.lemmas.List.Elements.{filter-append}
use Rattle.ln_hooks.specs.declared.event.How.{How}
use Rattle.ln_hooks.specs.declared.event.How.TheVariants as how
use Rattle.ln_book_tables.specs.declared.htlc.Key.{Key}
use Rattle.ln_book_tables.specs.declared.htlc.OutgoingLeg.{OutgoingLeg as BookOutgoing}
use Rattle.ln_book_tables.specs.declared.htlc.OutgoingLeg.TheVariants as outgoing
use Rattle.ln_book_tables.specs.declared.htlc.IncomingLeg.{IncomingLeg as BookIncoming}
use Rattle.ln_book_tables.specs.declared.htlc.IncomingLeg.TheVariants as incoming
use Rattle.ln_book_tables.specs.declared.htlc.Htlc.{Htlc}
use Rattle.ln_book_tables.specs.declared.entry.KeptState.{KeptState}
use Rattle.ln_book_tables.specs.Replay.{same, same_key, goes_by, is_htlc, is_offered, is_decided, changed_first}
use Rattle.ln_book_tables.specs.Replay.{left_out}
use Rattle.ln_book_tables.specs.Replay.{joined, put_outgoing, put_incoming, with_outgoing, with_incoming}
use Rattle.ln_book_tables.specs.Replay.{is_settled, has_no_outgoing}
use Rattle.ln_book_tables.specs.Replay.{is_finished, is_outgoing_lost, is_among, incoming_kept, htlc_kept}
use Rattle.ln_log.specs.Mark.{is_held}
use Rattle.ln_payment.specs.Parts.{Kind, Fulfils, Fails, Mark, Forward, Hold, Answer, OutgoingLeg, Absent, Refused}
use Rattle.ln_payment.specs.Parts.{Offered}
use Rattle.ln_payment.specs.Parts.{Resolved}
use Rattle.ln_payment.specs.Parts.{IncomingLeg, Open, RemovalSent, RemovalRefused, Settled, Note}
use Rattle.ln_payment.specs.Rebuild.{settled_note}
use Rattle.ln_payment.specs.Moves as move
use Rattle.ln_payment_circuits.specs.Snapshot.{Incoming, IsIn}
use Rattle.ln_payment_circuits.proofs.Links.{mark_as, is_hold, held_as}
use Rattle.ln_payment_circuits.proofs.Lists.{filter_map, left_turn, changes_so, changed_turn, others_stay, none_changes}
use Rattle.ln_payment_circuits.proofs.Lists.{one_changes, Changes, first_passes}
use Rattle.ln_payment_circuits.proofs.Lists.{either}
use Rattle.ln_payment_circuits.specs.Snapshot.{key_at, key_of}

-- ---- keys

pub same_is : (a b : List ℕ) → same a b ≡ true → a ≡ b
same_is a b e = (bytes_decides a b).0 e

pub is_same : (a b : List ℕ) → a ≡ b → same a b ≡ true
is_same a b e = (bytes_decides a b).1 e

pub key_is : (k j : Key) → same_key k j ≡ true → k ≡ j
key_is k j e =
    let p = and_parts (k.id == j.id) (same k.channel j.channel) e in
    ap (λ n. record { channel = k.channel; id = n }) (eqb-true k.id j.id p.0)
    ∙ ap (λ c. record { channel = c; id = j.id }) (same_is k.channel j.channel p.1)

pub is_key : (k : Key) → same_key k k ≡ true
is_key k = ap (λ b. b && same k.channel k.channel) (eq-eqb k.id k.id refl) ∙ is_same k.channel k.channel refl

-- ---- as a payment has them

abbrev pub kind_of : How → Kind
kind_of (how.Fulfilled preimage) = Fulfils
kind_of (how.Failed reason) = Fails
kind_of (how.Malformed sha code) = Fails

abbrev pub incoming_as : BookIncoming → IncomingLeg
incoming_as incoming.Open = Open
incoming_as incoming.RemovalSent = RemovalSent
incoming_as incoming.RemovalRefused = RemovalRefused
incoming_as incoming.Settled = Settled

-- by the ids of channels
module _ (id_of : ℕ → List ℕ) where
  abbrev pub IsOutgoingOf : BookOutgoing → OutgoingLeg → Type 0
  IsOutgoingOf outgoing.Absent Absent = Unit {0}
  IsOutgoingOf outgoing.Absent Refused = ⊥
  IsOutgoingOf outgoing.Absent (Offered c i) = ⊥
  IsOutgoingOf outgoing.Absent (Resolved c i m) = ⊥
  IsOutgoingOf outgoing.Refused Absent = ⊥
  IsOutgoingOf outgoing.Refused Refused = Unit {0}
  IsOutgoingOf outgoing.Refused (Offered c i) = ⊥
  IsOutgoingOf outgoing.Refused (Resolved c i m) = ⊥
  IsOutgoingOf (outgoing.Offered k) Absent = ⊥
  IsOutgoingOf (outgoing.Offered k) Refused = ⊥
  IsOutgoingOf (outgoing.Offered k) (Offered c i) = k ≡ key_at id_of c i
  IsOutgoingOf (outgoing.Offered k) (Resolved c i m) = ⊥
  IsOutgoingOf (outgoing.Resolved k how) Absent = ⊥
  IsOutgoingOf (outgoing.Resolved k how) Refused = ⊥
  IsOutgoingOf (outgoing.Resolved k how) (Offered c i) = ⊥
  IsOutgoingOf (outgoing.Resolved k how) (Resolved c i m) = (k ≡ key_at id_of c i) × (kind_of how ≡ m)

  pub record IsNoteOf (x : Htlc) (n : Note) : Type 0 where
    pub mark : mark_as x.mark ≡ Some n.mark
    pub outgoing : IsOutgoingOf x.outgoing n.outgoing
    pub incoming : incoming_as x.incoming ≡ n.incoming

  -- a channel that hasn't taken the decision may yet take it, so nothing is done about it
  abbrev pub IsEntry : Htlc → Option Note → Type 0
  IsEntry x None = x.decided ≡ false
  IsEntry x (Some n) = (x.decided ≡ true) × IsNoteOf x n

  -- of those with this key there is one at most
  abbrev pub AreEntries : List Htlc → Option Note → Type 0
  AreEntries [] o = o ≡ None
  AreEntries (x ∷ []) o = IsEntry x o
  AreEntries (x ∷ y ∷ xs) o = ⊥

  abbrev pub HasEntry : Incoming → List Htlc → Option Note → Type 0
  HasEntry h xs o = AreEntries (filter (is_htlc (key_of id_of h)) xs) o

  -- ---- the HTLC goes there, or its removal is so

  outgoing_one : (x : Htlc) (o : Option Note) (w : BookOutgoing) (v : OutgoingLeg) → IsOutgoingOf w v
      → IsEntry x o
      → IsEntry (put_outgoing w x) (move.with_outgoing v o)
  outgoing_one x None w v is h = h
  outgoing_one x (Some n) w v is h = (h.0, record { mark = h.1.mark; outgoing = is; incoming = h.1.incoming })

  back_one : (x : Htlc) (o : Option Note) (w : BookIncoming) → IsEntry x o
      → IsEntry (put_incoming w x) (move.with_incoming (incoming_as w) o)
  back_one x None w h = h
  back_one x (Some n) w h = (h.0, record { mark = h.1.mark; outgoing = h.1.outgoing; incoming = refl })

  none_outgoing : (o : Option Note) (v : OutgoingLeg) → o ≡ None → move.with_outgoing v o ≡ None
  none_outgoing None v e = refl
  none_outgoing (Some n) v e = absurd (cc)

  none_back : (o : Option Note) (v : IncomingLeg) → o ≡ None → move.with_incoming v o ≡ None
  none_back None v e = refl
  none_back (Some n) v e = absurd (cc)

  first_by : (k : Key) (f : Htlc → Htlc) (xs : List Htlc) (o p : Option Note)
      → (o ≡ None → p ≡ None) → ((x : Htlc) → IsEntry x o → IsEntry (f x) p)
      → (ys : List Htlc) → filter (is_htlc k) xs ≡ ys → AreEntries ys o
      → AreEntries (changed_first (is_htlc k) f ys) p
  first_by k f xs o p none one [] e h = none h
  first_by k f xs o p none one (x ∷ []) e h =
      subst (λ ys. AreEntries ys p) (sym (ap (λ t. cond t (f x ∷ []) (x ∷ []))
      (first_passes (is_htlc k) xs x [] e))) (one x h)
  first_by k f xs o p none one (x ∷ y ∷ ys) e h = absurd h

  -- of this HTLC
  pub outgoing_here : (h : Incoming) (xs : List Htlc) (o : Option Note) (w : BookOutgoing)
      (v : OutgoingLeg) → IsOutgoingOf w v
      → HasEntry h xs o → HasEntry h (with_outgoing (key_of id_of h) w xs) (move.with_outgoing v o)
  outgoing_here h xs o w v is k =
      let q = is_htlc (key_of id_of h) in
      subst (λ ys. AreEntries ys (move.with_outgoing v o)) (sym (changed_turn (put_outgoing w) q (λ x. refl) xs))
      (first_by (key_of id_of h) (put_outgoing w) xs o (move.with_outgoing v o) (none_outgoing o v)
      (λ x e. outgoing_one x o w v is e)
      (filter q xs) refl k)

  pub back_here : (h : Incoming) (xs : List Htlc) (o : Option Note) (w : BookIncoming)
      → HasEntry h xs o → HasEntry h (with_incoming (key_of id_of h) w xs) (move.with_incoming (incoming_as w) o)
  back_here h xs o w k =
      let q = is_htlc (key_of id_of h) in
      subst (λ ys. AreEntries ys (move.with_incoming (incoming_as w) o)) (sym (changed_turn (put_incoming w) q
      (λ x. refl) xs))
      (first_by (key_of id_of h) (put_incoming w) xs o (move.with_incoming (incoming_as w) o) (none_back o
      (incoming_as w))
      (λ x e. back_one x o w e) (filter q xs) refl k)

  -- of another one
  apart : (k j : Key) → same_key k j ≡ false → (x : Htlc) → is_htlc j x ≡ true → is_htlc k x ≡ false
  apart k j e x is = ap (same_key k) (sym (key_is j x.key is)) ∙ e

  pub outgoing_there : (h : Incoming) (k : Key) → same_key k (key_of id_of h) ≡ false
      → (xs : List Htlc) (o : Option Note)
      (w : BookOutgoing) → HasEntry h xs o → HasEntry h (with_outgoing k w xs) o
  outgoing_there h k e xs o w =
      subst (λ ys. AreEntries ys o) (sym (others_stay (is_htlc k) (put_outgoing w) (is_htlc
      (key_of id_of h)) (λ x. refl)
      (apart k (key_of id_of h) e) xs))

  pub back_there : (h : Incoming) (k : Key) → same_key k (key_of id_of h) ≡ false
      → (xs : List Htlc) (o : Option Note)
      (w : BookIncoming) → HasEntry h xs o → HasEntry h (with_incoming k w xs) o
  back_there h k e xs o w =
      subst (λ ys. AreEntries ys o) (sym (others_stay (is_htlc k) (put_incoming w) (is_htlc
      (key_of id_of h)) (λ x. refl)
      (apart k (key_of id_of h) e) xs))

  -- ---- it leaves the book

  left_none : (q : Htlc → Bool) (xs : List Htlc) → left_out q (filter q xs) ≡ []
  left_none q [] = refl
  left_none q (x ∷ xs) = cases (q x) refl (left_none q xs)
    where
      cases : (b : Bool) → q x ≡ b → left_out q (filter q xs) ≡ []
          → left_out q (cond b (x ∷ filter q xs) (filter q xs)) ≡ []
      cases true e h = ap (λ t. cond (not t) (x ∷ left_out q (filter q xs)) (left_out q (filter q xs))) e ∙ h
      cases false e h = h

  pub left_here : (h : Incoming) (xs : List Htlc) → HasEntry h
      (left_out (is_htlc (key_of id_of h)) xs) None
  left_here h xs =
      let q = is_htlc (key_of id_of h) in
      subst (λ ys. AreEntries ys None) (sym (left_turn q q xs ∙ left_none q xs)) refl

  left_others : (p q : Htlc → Bool) → ((x : Htlc) → q x ≡ true → p x ≡ false) → (xs : List Htlc)
      → left_out p (filter q xs) ≡ filter q xs
  left_others p q none [] = refl
  left_others p q none (x ∷ xs) = cases (q x) refl (left_others p q none xs)
    where
      cases : (b : Bool) → q x ≡ b → left_out p (filter q xs) ≡ filter q xs
          → left_out p (cond b (x ∷ filter q xs) (filter q xs)) ≡ cond b (x ∷ filter q xs) (filter q xs)
      cases true e h = ap (λ t. cond (not t) (x ∷ left_out p (filter q xs)) (left_out p (filter q xs))) (none x e)
          ∙ ap (λ ys. x ∷ ys) h
      cases false e h = h

  pub left_there : (h : Incoming) (k : Key) → same_key k (key_of id_of h) ≡ false
      → (xs : List Htlc) (o : Option Note)
      → HasEntry h xs o → HasEntry h (left_out (is_htlc k) xs) o
  left_there h k e xs o =
      let q = is_htlc (key_of id_of h) in
      subst (λ ys. AreEntries ys o) (sym (left_turn (is_htlc k) q xs
      ∙ left_others (is_htlc k) q (apart k (key_of id_of h) e) xs))

  -- ---- its removal is held; one that waits stays

  nothing_offered_so : (v : BookOutgoing) → IsOutgoingOf v Absent → has_no_outgoing v ≡ true
  nothing_offered_so outgoing.Absent is = refl
  nothing_offered_so outgoing.Refused is = refl
  nothing_offered_so (outgoing.Offered k) is = absurd is
  nothing_offered_so (outgoing.Resolved k how) is = absurd is

  refused_so : (v : BookOutgoing) → IsOutgoingOf v Refused → has_no_outgoing v ≡ true
  refused_so outgoing.Absent is = refl
  refused_so outgoing.Refused is = refl
  refused_so (outgoing.Offered k) is = absurd is
  refused_so (outgoing.Resolved k how) is = absurd is

  offered_so : (v : BookOutgoing) (c i : ℕ) → IsOutgoingOf v (Offered c i) → has_no_outgoing v ≡ false
  offered_so outgoing.Absent c i is = absurd is
  offered_so outgoing.Refused c i is = absurd is
  offered_so (outgoing.Offered k) c i is = refl
  offered_so (outgoing.Resolved k how) c i is = refl

  over_so : (v : BookOutgoing) (c i : ℕ) (m : Kind) → IsOutgoingOf v (Resolved c i m) → has_no_outgoing v ≡ false
  over_so outgoing.Absent c i m is = absurd is
  over_so outgoing.Refused c i m is = absurd is
  over_so (outgoing.Offered k) c i m is = refl
  over_so (outgoing.Resolved k how) c i m is = refl

  pub settled_some : (x : Htlc) (m : Mark) (w : OutgoingLeg) → x.decided ≡ true → mark_as x.mark ≡ Some m
      → IsOutgoingOf x.outgoing w
      → AreEntries (cond (not (has_no_outgoing x.outgoing && not (is_held x.mark)))
      (put_incoming incoming.Settled x ∷ []) [])
      (settled_note m w)
  settled_some x m w d e is =
      subst (λ c. AreEntries (cond (not (has_no_outgoing x.outgoing && not c))
      (put_incoming incoming.Settled x ∷ []) [])
      (settled_note m w))
      (sym (held_as x.mark m e)) (cases m w e is)
    where
      none : (v : Bool) → has_no_outgoing x.outgoing ≡ v → v ≡ true
          → AreEntries (cond (not (has_no_outgoing x.outgoing && true))
          (put_incoming incoming.Settled x ∷ []) []) None
      none true f g = subst (λ t. AreEntries (cond (not (t && true)) (put_incoming incoming.Settled x ∷ []) []) None)
          (sym f) refl
      none false f g = absurd (cc)

      some : (m : Mark) (w : OutgoingLeg) → has_no_outgoing x.outgoing ≡ false → mark_as x.mark ≡ Some m
          → IsOutgoingOf x.outgoing w
          → AreEntries (cond (not (has_no_outgoing x.outgoing && true)) (put_incoming incoming.Settled x ∷ []) [])
          (Some (record { mark = m; outgoing = w; incoming = Settled }))
      some m w f e is = subst (λ t. AreEntries (cond (not (t && true)) (put_incoming incoming.Settled x ∷ []) [])
          (Some (record { mark = m; outgoing = w; incoming = Settled }))) (sym f)
          (d, record { mark = e; outgoing = is; incoming = refl })

      cases : (m : Mark) (w : OutgoingLeg) → mark_as x.mark ≡ Some m → IsOutgoingOf x.outgoing w
          → AreEntries (cond (not (has_no_outgoing x.outgoing && not (is_hold m)))
          (put_incoming incoming.Settled x ∷ []) [])
          (settled_note m w)
      cases Hold w e is = waits (has_no_outgoing x.outgoing)
        where
          waits : (t : Bool) → AreEntries (cond (not (t && false)) (put_incoming incoming.Settled x ∷ []) [])
              (Some (record { mark = Hold; outgoing = w; incoming = Settled }))
          waits true = (d, record { mark = e; outgoing = is; incoming = refl })
          waits false = (d, record { mark = e; outgoing = is; incoming = refl })
      cases Forward Absent e is = none true (nothing_offered_so x.outgoing is) refl
      cases Forward Refused e is = none true (refused_so x.outgoing is) refl
      cases Forward (Offered c i) e is = some Forward (Offered c i) (offered_so x.outgoing c i is) e is
      cases Forward (Resolved c i k) e is = some Forward (Resolved c i k) (over_so x.outgoing c i k is) e is
      cases (Answer j) Absent e is = none true (nothing_offered_so x.outgoing is) refl
      cases (Answer j) Refused e is = none true (refused_so x.outgoing is) refl
      cases (Answer j) (Offered c i) e is = some (Answer j) (Offered c i) (offered_so x.outgoing c i is) e is
      cases (Answer j) (Resolved c i k) e is = some (Answer j) (Resolved c i k) (over_so x.outgoing c i k is) e is

  settled_by : (k : Key) (x : Htlc) (o : Option Note) → is_htlc k x ≡ true → IsEntry x o
      → AreEntries (left_out (is_finished k) (put_incoming incoming.Settled x ∷ [])) (move.settled o)
  settled_by k x o is h =
      subst (λ t. AreEntries (cond (not t) (put_incoming incoming.Settled x ∷ []) []) (move.settled o))
      (sym (ap (λ t. t && (has_no_outgoing x.outgoing && not (is_held x.mark))) is)) (cases o h)
    where
      none : (t : Bool) → x.decided ≡ false → AreEntries (cond (not t) (put_incoming incoming.Settled x ∷ []) []) None
      none true h = refl
      none false h = h

      cases : (o : Option Note) → IsEntry x o
          → AreEntries (cond (not (has_no_outgoing x.outgoing && not (is_held x.mark)))
          (put_incoming incoming.Settled x ∷ []) [])
          (move.settled o)
      cases None h = none (has_no_outgoing x.outgoing && not (is_held x.mark)) h
      cases (Some n) h = settled_some x n.mark n.outgoing h.0 h.1.mark h.1.outgoing

  finished_apart : (h : Incoming) (k : Key) → same_key k (key_of id_of h) ≡ false → (x : Htlc)
      → is_htlc (key_of id_of h) x ≡ true
      → is_finished k x ≡ false
  finished_apart h k e x is = ap (λ t. t && (is_settled x.incoming && (has_no_outgoing x.outgoing && not
      (is_held x.mark))))
      (apart k (key_of id_of h) e x is)

  pub settled_here : (h : Incoming) (xs : List Htlc) (o : Option Note) → HasEntry h xs o
      → HasEntry h (left_out (is_finished (key_of id_of h)) (with_incoming (key_of id_of h) incoming.Settled xs))
      (move.settled o)
  settled_here h xs o k =
      let q = is_htlc (key_of id_of h) in
      let f = put_incoming incoming.Settled in
      subst (λ ys. AreEntries ys (move.settled o))
      (sym (left_turn (is_finished (key_of id_of h)) q (with_incoming (key_of id_of h) incoming.Settled xs)
      ∙ ap (left_out (is_finished (key_of id_of h))) (changed_turn f q (λ x. refl) xs)))
      (cases (filter q xs) refl k)
    where
      cases : (ys : List Htlc) → filter (is_htlc (key_of id_of h)) xs ≡ ys → AreEntries ys o
          → AreEntries (left_out (is_finished (key_of id_of h))
          (changed_first (is_htlc (key_of id_of h)) (put_incoming incoming.Settled) ys))
          (move.settled o)
      cases [] e k = none o k
        where
          none : (o : Option Note) → o ≡ None → move.settled o ≡ None
          none None e = refl
          none (Some n) e = absurd (cc)
      cases (x ∷ []) e k =
          let is = first_passes (is_htlc (key_of id_of h)) xs x [] e in
          subst (λ ys. AreEntries (left_out (is_finished (key_of id_of h)) ys) (move.settled o))
          (sym (ap (λ t. cond t (put_incoming incoming.Settled x ∷ []) (x ∷ [])) is)) (settled_by
          (key_of id_of h) x o is k)
      cases (x ∷ y ∷ ys) e k = absurd k

  pub settled_there : (h : Incoming) (k : Key) → same_key k (key_of id_of h) ≡ false → (xs : List Htlc)
      (o : Option Note) → HasEntry h xs o
      → HasEntry h (left_out (is_finished k) (with_incoming k incoming.Settled xs)) o
  settled_there h k e xs o a =
      let q = is_htlc (key_of id_of h) in
      subst (λ ys. AreEntries ys o)
      (sym (left_turn (is_finished k) q (with_incoming k incoming.Settled xs)
      ∙ left_others (is_finished k) q (finished_apart h k e) (with_incoming k incoming.Settled xs)))
      (back_there h k e xs o incoming.Settled a)

  -- ---- what became of its outgoing HTLC is held

  module _ (one : (c d : ℕ) → id_of c ≡ id_of d → c ≡ d) where
    same_at : (c i d j : ℕ) → key_at id_of c i ≡ key_at id_of d j → (d ≡ c) × (j ≡ i)
    same_at c i d j e = (sym (one c d (ap (λ (k : Key). k.channel) e)), sym (ap (λ (k : Key). k.id) e))

    -- a way that goes by this key is there
    is_there : (c i : ℕ) (v : BookOutgoing) (w : OutgoingLeg) → IsOutgoingOf v w → goes_by (key_at id_of c i) v ≡ true
        → move.OutgoingIsAt c i w
    is_there c i outgoing.Absent w is e = absurd (cc)
    is_there c i outgoing.Refused w is e = absurd (cc)
    is_there c i (outgoing.Offered k) Absent is e = absurd is
    is_there c i (outgoing.Offered k) Refused is e = absurd is
    is_there c i (outgoing.Offered k) (Offered d j) is e = same_at c i d j (key_is (key_at id_of c i) k e ∙ is)
    is_there c i (outgoing.Offered k) (Resolved d j m) is e = absurd is
    is_there c i (outgoing.Resolved k how) Absent is e = absurd is
    is_there c i (outgoing.Resolved k how) Refused is e = absurd is
    is_there c i (outgoing.Resolved k how) (Offered d j) is e = absurd is
    is_there c i (outgoing.Resolved k how) (Resolved d j m) is e = same_at c i d j (key_is
        (key_at id_of c i) k e ∙ is.0)

    -- it stays as it is, or is over there
    pub over_so_far : (h : Incoming) (c i : ℕ) (w : How) (xs : List Htlc) (o : Option Note)
        → HasEntry h xs o
        → HasEntry h (changed_first (is_offered (key_at id_of c i)) (put_outgoing (outgoing.Resolved
        (key_at id_of c i) w)) xs) o
        ⊎ (move.NoteIsAt c i o × HasEntry h (changed_first (is_offered (key_at id_of c i))
        (put_outgoing (outgoing.Resolved (key_at id_of c i) w)) xs)
        (move.with_outgoing (Resolved c i (kind_of w)) o))
    over_so_far h c i w xs o k =
        cases (filter q xs) k (changes_so p f q (λ x. refl) xs)
      where
        p : Htlc → Bool
        p = is_offered (key_at id_of c i)

        f : Htlc → Htlc
        f = put_outgoing (outgoing.Resolved (key_at id_of c i) w)

        q : Htlc → Bool
        q = is_htlc (key_of id_of h)

        now : List Htlc
        now = filter q (changed_first p f xs)

        hit : (o : Option Note) (x : Htlc) → p x ≡ true → IsEntry x o
            → IsEntry x o ⊎ (move.NoteIsAt c i o × IsEntry (f x) (move.with_outgoing (Resolved c i (kind_of w)) o))
        hit None x e h = inl h
        hit (Some n) x e h = inr (
          is_there c i x.outgoing n.outgoing h.1.outgoing e,
          (h.0, record { mark = h.1.mark; outgoing = (refl, refl); incoming = h.1.incoming }),
        )

        either_way : (x : Htlc) → now ≡ f x ∷ [] → p x ≡ true → (o : Option Note) → IsEntry x o
            → AreEntries now o ⊎ (move.NoteIsAt c i o
            × AreEntries now (move.with_outgoing (Resolved c i (kind_of w)) o))
        either_way x is e None h = inl (subst (λ ys. AreEntries ys None) (sym is) h)
        either_way x is e (Some n) h = inr (
          is_there c i x.outgoing n.outgoing h.1.outgoing e,
          subst (λ ys. AreEntries ys (Some (record n { outgoing = Resolved c i (kind_of w) }))) (sym is)
              (h.0, record { mark = h.1.mark; outgoing = (refl, refl); incoming = h.1.incoming }),
        )

        cases : (ys : List Htlc) → AreEntries ys o → Changes p f ys now
            → AreEntries now o ⊎ (move.NoteIsAt c i o
            × AreEntries now (move.with_outgoing (Resolved c i (kind_of w)) o))
        cases [] k e = inl (subst (λ ys. AreEntries ys o) (sym (none_changes p f now e)) k)
        cases (x ∷ []) k e = elim (one_changes p f x now e) [
          | inl same ↦ inl (subst (λ ys. AreEntries ys o) (sym same) k)
          | inr new ↦ either_way x new.1 new.0 o k
        ]
        cases (x ∷ y ∷ ys) k e = absurd k

    -- ---- a lost connection

    -- what it makes of a note: the way is lost where no such id is kept, and a removal where it isn't among those kept
    abbrev pub lost_outgoing : Bool → Option Note → Option Note
    lost_outgoing lost o = cond lost (move.with_outgoing Absent o) o

    abbrev pub lost_back : Bool → Option Note → Option Note
    lost_back lost o = cond lost (move.with_incoming Open o) o

    pub record Loses (h : Incoming) (c : ℕ) (told : KeptState) (ys : List Htlc)
        (o : Option Note) : Type 0 where
      pub outgoing : Bool
      pub incoming : Bool
      pub there : AreEntries (map (htlc_kept (id_of c) told) ys) (lost_back incoming (lost_outgoing outgoing o))
      -- the way is lost of what is offered there, with no id below the next one
      pub is_lost : outgoing ≡ true → (i : ℕ) × (move.NoteIsAt c i o × (nat_le told.next i ≡ true))
      pub is_kept : outgoing ≡ false → (n : Note) (i : ℕ) → o ≡ Some n → n.outgoing ≡ Offered c i
          → nat_le told.next i ≡ false
      -- and a removal of this channel that isn't kept
      pub is_open : incoming ≡ true → (h.channel ≡ c) × (is_among h.id told.removes ≡ false)
      pub is_there : incoming ≡ true → (x : Htlc) × IsIn x ys × (x.key ≡ key_of id_of h)

    abbrev is_sent : BookIncoming → Bool
    is_sent incoming.Open = false
    is_sent incoming.RemovalSent = true
    is_sent incoming.RemovalRefused = false
    is_sent incoming.Settled = false

    back_so : (w : BookIncoming) (kept : Bool)
        → incoming_as (incoming_kept kept w) ≡ cond (is_sent w && not kept) Open (incoming_as w)
    back_so incoming.Open kept = refl
    back_so incoming.RemovalSent true = refl
    back_so incoming.RemovalSent false = refl
    back_so incoming.RemovalRefused kept = refl
    back_so incoming.Settled kept = refl

    open_so : (h : Incoming) (c : ℕ) (told : KeptState) (x : Htlc) → x.key ≡ key_of id_of h
        → (is_sent x.incoming && not (not (same (id_of c) x.key.channel) || is_among x.key.id told.removes)) ≡ true
        → (h.channel ≡ c) × (is_among h.id told.removes ≡ false)
    open_so h c told x key e =
        let p = and_parts (is_sent x.incoming)
        (not (not (same (id_of c) x.key.channel) || is_among x.key.id told.removes)) e in
        let q = neither (same (id_of c) x.key.channel) (is_among x.key.id told.removes) p.1 in (
          sym (one c h.channel (same_is (id_of c) x.key.channel q.0 ∙ ap (λ (k : Key). k.channel) key)),
          ap (λ n. is_among n told.removes) (sym (ap (λ (k : Key). k.id) key)) ∙ q.1,
        )
      where
        neither : (a b : Bool) → not (not a || b) ≡ true → (a ≡ true) × (b ≡ false)
        neither true true e = absurd (cc)
        neither true false e = (refl, refl)
        neither false b e = absurd (cc)

    lost_at : (c : ℕ) (next : ℕ) (v : BookOutgoing) (w : OutgoingLeg) → IsOutgoingOf v w
        → is_outgoing_lost (id_of c) next v ≡ true
        → (i : ℕ) × (move.OutgoingIsAt c i w × (nat_le next i ≡ true))
    lost_at c next outgoing.Absent w is e = absurd (cc)
    lost_at c next outgoing.Refused w is e = absurd (cc)
    lost_at c next (outgoing.Offered k) Absent is e = absurd is
    lost_at c next (outgoing.Offered k) Refused is e = absurd is
    lost_at c next (outgoing.Offered k) (Offered d j) is e =
        let p = and_parts (same (id_of c) k.channel) (nat_le next k.id) e in (
          j,
          (
            (sym (one c d (same_is (id_of c) k.channel p.0 ∙ ap (λ (z : Key). z.channel) is)), refl),
            ap (nat_le next) (sym (ap (λ (z : Key). z.id) is)) ∙ p.1,
          ),
        )
    lost_at c next (outgoing.Offered k) (Resolved d j m) is e = absurd is
    lost_at c next (outgoing.Resolved k how) w is e = absurd (cc)

    kept_at : (c next i : ℕ) (v : BookOutgoing) (w : OutgoingLeg) → IsOutgoingOf v w
        → is_outgoing_lost (id_of c) next v ≡ false
        → w ≡ Offered c i
        → nat_le next i ≡ false
    kept_at c next i v Absent is e f = absurd (cc)
    kept_at c next i v Refused is e f = absurd (cc)
    kept_at c next i v (Resolved d j m) is e f = absurd (cc)
    kept_at c next i outgoing.Absent (Offered d j) is e f = absurd is
    kept_at c next i outgoing.Refused (Offered d j) is e f = absurd is
    kept_at c next i (outgoing.Resolved k how) (Offered d j) is e f = absurd is
    kept_at c next i (outgoing.Offered k) (Offered d j) is e f =
        let at : d ≡ c = cc in
        let id : j ≡ i = cc in
        let key : k ≡ key_at id_of c i = is ∙ ap (λ n. key_at id_of n j) at ∙ ap (key_at id_of c) id in
        sym (ap (λ b. b && nat_le next i) (is_same (id_of c) (id_of c) refl))
        ∙ sym (ap (λ (z : Key). same (id_of c) z.channel && nat_le next z.id) key) ∙ e

    lost_one : (x : Htlc) (n : Note) (lost kept : Bool) → x.decided ≡ true → IsNoteOf x n
        → IsEntry (record x {
          outgoing = cond lost outgoing.Absent x.outgoing;
          incoming = incoming_kept kept
              x.incoming;
        })
        (lost_back (is_sent x.incoming && not kept) (lost_outgoing lost (Some n)))
    lost_one x n lost kept d note = cases lost (is_sent x.incoming && not kept) refl
      where
        cases : (l r : Bool) → (is_sent x.incoming && not kept) ≡ r
            → IsEntry (record x {
              outgoing = cond l outgoing.Absent x.outgoing;
              incoming = incoming_kept kept
                  x.incoming;
            })
            (lost_back r (lost_outgoing l (Some n)))
        cases true true e = (
          d,
          record {
            mark = note.mark;
            outgoing = tt;
            incoming = back_so x.incoming kept ∙ ap (λ t. cond t Open (incoming_as x.incoming)) e;
          },
        )
        cases true false e = (
          d,
          record {
            mark = note.mark;
            outgoing = tt;
            incoming = back_so x.incoming kept ∙ ap (λ t. cond t Open (incoming_as x.incoming)) e ∙ note.incoming;
          },
        )
        cases false true e = (
          d,
          record {
            mark = note.mark;
            outgoing = note.outgoing;
            incoming = back_so x.incoming kept ∙ ap (λ t. cond t Open (incoming_as x.incoming)) e;
          },
        )
        cases false false e = (
          d,
          record {
            mark = note.mark;
            outgoing = note.outgoing;
            incoming = back_so x.incoming kept ∙ ap (λ t. cond t Open (incoming_as x.incoming)) e ∙ note.incoming;
          },
        )

    loses_by : (h : Incoming) (c : ℕ) (told : KeptState) (ys : List Htlc) (o : Option Note)
        → ((x : Htlc) → (xs : List Htlc) → ys ≡ x ∷ xs → x.key ≡ key_of id_of h) → AreEntries ys o
        → Loses h c told ys o
    loses_by h c told [] o key k = record {
      outgoing = false;
      incoming = false;
      there = k;
      is_lost = λ e. absurd (cc);
      is_kept = λ e n i is at. absurd (let no : None ≡ Some n = sym k ∙ is in cc);
      is_open = λ e. absurd (cc);
      is_there = λ e. absurd (cc);
    }
    loses_by h c told (x ∷ []) None key k = record {
      outgoing = false;
      incoming = false;
      there = k;
      is_lost = λ e. absurd (cc);
      is_kept = λ e n i is at. absurd (cc);
      is_open = λ e. absurd (cc);
      is_there = λ e. absurd (cc);
    }
    loses_by h c told (x ∷ []) (Some n) key k =
        let kept = not (same (id_of c) x.key.channel) || is_among x.key.id told.removes in
        record {
          outgoing = is_outgoing_lost (id_of c) told.next x.outgoing;
          incoming = is_sent x.incoming && not kept;
          there = lost_one x n (is_outgoing_lost (id_of c) told.next x.outgoing) kept k.0 k.1;
          is_lost = λ e. lost_at c told.next x.outgoing n.outgoing k.1.outgoing e;
          is_kept = λ e m i is at. kept_at c told.next i x.outgoing n.outgoing k.1.outgoing e
              (ap (λ (z : Note). z.outgoing) (let same_note : n ≡ m = cc in same_note) ∙ at);
          is_open = open_so h c told x (key x [] refl);
          is_there = λ e. (x, inl refl, key x [] refl);
        }
    loses_by h c told (x ∷ y ∷ ys) o key k = absurd k

    pub loses : (h : Incoming) (c : ℕ) (told : KeptState) (xs : List Htlc) (o : Option Note)
        → HasEntry h xs o
        → Loses h c told (filter (is_htlc (key_of id_of h)) xs) o
    loses h c told xs o k = loses_by h c told (filter (is_htlc (key_of id_of h)) xs) o
        (λ x ys e. sym (key_is (key_of id_of h) x.key (first_passes (is_htlc (key_of id_of h)) xs x ys e))) k

    -- of the list of all HTLCs
    pub kept_turn : (h : Incoming) (c : ℕ) (told : KeptState) (xs : List Htlc)
        → filter (is_htlc (key_of id_of h)) (map (htlc_kept (id_of c) told) xs)
        ≡ map (htlc_kept (id_of c) told) (filter (is_htlc (key_of id_of h)) xs)
    kept_turn h c told xs = filter_map (is_htlc (key_of id_of h)) (htlc_kept (id_of c) told) (λ x. refl) xs

    -- ---- a decision joins

    any_of : (k : Key) (xs : List Htlc) → list_any (is_decided k) xs ≡ list_any (λ x. x.decided) (filter (is_htlc k) xs)
    any_of k [] = refl
    any_of k (x ∷ xs) = cases (is_htlc k x) x.decided (any_of k xs)
      where
        cases : (a d : Bool) → list_any (is_decided k) xs ≡ list_any (λ x. x.decided) (filter (is_htlc k) xs)
            → ((a && x.decided) || list_any (is_decided k) xs)
            ≡ list_any (λ x. x.decided) (cond a (x ∷ filter (is_htlc k) xs) (filter (is_htlc k) xs))
        cases true d e = ap (λ t. x.decided || t) e
        cases false d e = e

    -- none of this HTLC is decided
    none_decided : (ys : List Htlc) → AreEntries ys None → list_any (λ x. x.decided) ys ≡ false
    none_decided [] k = refl
    none_decided (x ∷ []) k = ap (λ t. t || false) k
    none_decided (x ∷ y ∷ ys) k = absurd k

    pub joins_so : (h : Incoming) (x : Htlc) (xs : List Htlc) → x.key ≡ key_of id_of h → HasEntry h xs None
        → joined x xs ≡ left_out (is_htlc (key_of id_of h)) xs ++ x ∷ []
    joins_so h x xs key k =
        ap (λ z. cond (list_any (is_decided z) xs) xs (left_out (is_htlc z) xs ++ x ∷ [])) key
        ∙ ap (λ t. cond t xs (left_out (is_htlc (key_of id_of h)) xs ++ x ∷ []))
        (any_of (key_of id_of h) xs ∙ none_decided (filter (is_htlc (key_of id_of h)) xs) k)

    -- it stands alone
    pub joins_here : (h : Incoming) (x : Htlc) (xs : List Htlc) → x.key ≡ key_of id_of h
        → filter (is_htlc (key_of id_of h)) (left_out (is_htlc (key_of id_of h)) xs ++ x ∷ []) ≡ x ∷ []
    joins_here h x xs key =
        let q = is_htlc (key_of id_of h) in
        filter-append q (left_out q xs) (x ∷ [])
        ∙ ap (λ ys. ys ++ filter q (x ∷ [])) (left_turn q q xs ∙ left_none q xs)
        ∙ ap (λ t. cond t (x ∷ []) []) (ap (same_key (key_of id_of h)) key ∙ is_key (key_of id_of h))

    pub joins_there : (h : Incoming) (x : Htlc) (xs : List Htlc) (o : Option Note)
        → same_key x.key (key_of id_of h) ≡ false → HasEntry h xs o → HasEntry h (joined x xs) o
    joins_there h x xs o e k = cases (list_any (is_decided x.key) xs)
      where
        q : Htlc → Bool
        q = is_htlc (key_of id_of h)

        other : q x ≡ false
        other = elim (either (q x)) [
          | inl is ↦ absurd (let no : same_key x.key (key_of id_of h) ≡ true =
              ap (same_key x.key) (key_is (key_of id_of h) x.key is) ∙ is_key x.key in
              let twice : true ≡ false = sym no ∙ e in cc)
          | inr isnt ↦ isnt
        ]

        cases : (t : Bool) → HasEntry h (cond t xs (left_out (is_htlc x.key) xs ++ x ∷ [])) o
        cases true = k
        cases false = subst (λ ys. AreEntries ys o)
            (sym (filter-append q (left_out (is_htlc x.key) xs) (x ∷ [])
            ∙ ap (λ ys. ys ++ filter q (x ∷ [])) (left_turn (is_htlc x.key) q xs
            ∙ left_others (is_htlc x.key) q (apart x.key (key_of id_of h) e) xs)
            ∙ ap (λ t. filter q xs ++ cond t (x ∷ []) []) other ∙ append-nil (filter q xs))) k
