-- What is left of a payment where a channel resumes what it holds.
use Rattle.std.proofs.Common.{◌≡◌, ◌⊎◌, inl, inr, ℕ, List, [], ◌∷◌, ◌++◌, take, filter, refl, sym, ap, ◌∙◌, subst}
use Rattle.std.proofs.Common.{Bool, true, false, cond, not, ◌==◌, ◌&&◌, Option, Some, None}
use Rattle.std.specs.List.{find}
use Rattle.std.proofs.lemmas.Bool.{eqb-true, eq-eqb, and_parts}
use Rattle.ln_log.specs.declared.mark.Decision.{Decision as LogDecision}
use Rattle.ln_log.specs.declared.mark.Mark.{Mark as LogMark}
use Rattle.ln_log.specs.declared.mark.Mark.TheVariants as mark
use Rattle.ln_log.specs.Mark.{is_held, is_held_by}
use Rattle.ln_channel.specs.Ledger.{is_answer, is_held_at}
use Rattle.ln_channel.specs.Ledger as ledger
use Rattle.ln_book_tables.specs.declared.htlc.Key.{Key}
use Rattle.ln_book_tables.specs.declared.htlc.Htlc.{Htlc}
use Rattle.ln_book_tables.specs.declared.htlc.IncomingLeg.{IncomingLeg as BookIncoming}
use Rattle.ln_book_tables.specs.declared.htlc.IncomingLeg.TheVariants as incoming
use Rattle.ln_book_tables.specs.Replay.{same, same_key, is_htlc, is_over, is_settled, is_held_in, has_no_outgoing}
use Rattle.ln_book_tables.specs.Replay.{put_mark}
use Rattle.ln_book_tables.specs.Replay.{with_mark}
use Rattle.ln_book_tables.specs.Replay.{changed_first, left_out}
use Rattle.ln_payment.specs.Parts.{Mark, Hold, Decision, Undecided, Decided, Past}
use Rattle.ln_payment.specs.Parts.{Settled, Note, Payment, IsHeld}
use Rattle.ln_payment.specs.Moves.{Move, AreMade, after, moved, IsSettled, IsDecided}
use Rattle.ln_payment.specs.Moves as move
use Rattle.ln_payment.proofs.Invariant.{ForNote, MarkIs}
use Rattle.ln_payment_circuits.specs.Snapshot.{is_gone, Incoming, IsIn, key_at, key_of, origin}
use Rattle.ln_payment_circuits.proofs.Links.{Side, IsOfLinks, Changed, mark_as, decided_as, decision_at, decision_by}
use Rattle.ln_payment_circuits.proofs.Ledgers.{resumes, resumes_other}
use Rattle.ln_payment_circuits.proofs.Lists.{left_turn, only_picked, none_of_them, picked, of_picked, passes}
use Rattle.ln_payment_circuits.proofs.Lists.{among_changed}
use Rattle.ln_payment_circuits.proofs.Held.{marked_find, marked_as, marked_of, found_among, answer_unheld}
use Rattle.ln_payment_circuits.proofs.Entries.{key_is, is_key, same_is, is_same, incoming_as, IsEntry, AreEntries}
use Rattle.ln_payment_circuits.proofs.Entries.{HasEntry}
use Rattle.ln_payment_circuits.proofs.Shifts.{made_both, after_both}
use Rattle.ln_payment_circuits.proofs.Holding.{IsHoldOf, held_waits}
use Rattle.ln_payment_circuits.proofs.Scenes.{Scene, HasPayment, HavePayments, by_moves, note_of}
use Rattle.ln_payment_circuits.proofs.Lists.{either}

held_hold : (n : ℕ) (m : LogMark) → is_held_by n m ≡ true → mark_as m ≡ Some Hold
held_hold n mark.None e = absurd (cc)
held_hold n (mark.Forward channel amount expiry) e = absurd (cc)
held_hold n (mark.Fail reason) e = absurd (cc)
held_hold n (mark.Malformed code) e = absurd (cc)
held_hold n (mark.Fulfil preimage) e = absurd (cc)
held_hold n (mark.Held k) e = refl

hold_held : (m : LogMark) → mark_as m ≡ Some Hold → (n : ℕ) × (is_held_by n m ≡ true) ×
    ((k : ℕ) → is_held_by k m ≡ true → k ≡ n)
hold_held mark.None e = absurd (cc)
hold_held (mark.Forward channel amount expiry) e = absurd (cc)
hold_held (mark.Fail reason) e = absurd (cc)
hold_held (mark.Malformed code) e = absurd (cc)
hold_held (mark.Fulfil preimage) e = absurd (cc)
hold_held (mark.Held n) e = (n, eq-eqb n n refl, λ k f. eqb-true k n f)

answer_mark : (m : LogMark) → is_answer m ≡ true → (k : Mark) × (mark_as m ≡ Some k)
answer_mark mark.None e = absurd (cc)
answer_mark (mark.Forward channel amount expiry) e = (_, refl)
answer_mark (mark.Fail reason) e = (_, refl)
answer_mark (mark.Malformed code) e = (_, refl)
answer_mark (mark.Fulfil preimage) e = (_, refl)
answer_mark (mark.Held n) e = absurd (cc)

module _ (id_of : ℕ → List ℕ) where
  -- book and ledgers hold an HTLC by the same number
  abbrev pub HoldAlike : Scene → Type 0
  HoldAlike s = (c : ℕ) (X : Side) → s.links.sides c ≡ Some X → (d : LogDecision) → IsIn d X.decisions → (x : Htlc)
      → IsIn x s.book
      → x.key ≡ key_at id_of c d.id → x.decided ≡ true → (n : ℕ) → is_held_by n x.mark ≡ true
      → is_held_by n d.mark ≡ true

  -- ---- those about which nothing is left to be done go

  closes_by : (x : Htlc) (o : Option Note) → IsEntry id_of x o → (t : Bool) → is_over x ≡ t
      → AreEntries id_of (cond (not t) (x ∷ []) []) o ⊎ (IsSettled o × AreEntries id_of
      (cond (not t) (x ∷ []) []) None)
  closes_by x o k false e = inl k
  closes_by x None k true e = inl refl
  closes_by x (Some n) k true e = inr (
    sym k.1.incoming ∙ settled_as x (and_parts (is_settled x.incoming) (has_no_outgoing x.outgoing && not
        (is_held x.mark)) e).0,
    refl,
  )
    where
      settled_as : (x : Htlc) → is_settled x.incoming ≡ true → incoming_as x.incoming ≡ Settled
      settled_as x e = cases x.incoming e
        where
          cases : (w : BookIncoming) → is_settled w ≡ true → incoming_as w ≡ Settled
          cases incoming.Open f = absurd (cc)
          cases incoming.RemovalSent f = absurd (cc)
          cases incoming.RemovalRefused f = absurd (cc)
          cases incoming.Settled f = refl

  closes : (ys : List Htlc) (o : Option Note) → AreEntries id_of ys o
      → AreEntries id_of (left_out is_over ys) o ⊎ (IsSettled o × AreEntries id_of (left_out is_over ys) None)
  closes [] o k = inl k
  closes (x ∷ []) o k = closes_by x o k (is_over x) refl
  closes (x ∷ y ∷ ys) o k = absurd k

  module _ (one : (c d : ℕ) → id_of c ≡ id_of d → c ≡ d) (s t : Scene) (c : ℕ) (X Y : Side)
      (g : Changed (origin id_of) c X Y s.links t.links) (l : Y.log ≡ X.log) (r : Y.results ≡ X.results)
      (n : ℕ) (m : LogMark) (answers : is_answer m ≡ true) (ds : Y.decisions ≡ ledger.with_mark n m X.decisions)
      (apart : (d e : LogDecision) → IsIn d X.decisions → IsIn e X.decisions → is_held_at n d ≡ true
      → is_held_at n e ≡ true
      → d.id ≡ e.id)
      (d0 : LogDecision) (in_it : IsIn d0 X.decisions) (held : is_held_at n d0 ≡ true)
      (found : find (λ z. z.id == d0.id) X.decisions ≡ Some d0) (agrees : HoldAlike s)
      (book : t.book ≡ with_mark (id_of c) n m s.book) where
    abbrev p : Htlc → Bool
    p = is_held_in (id_of c) n

    abbrev k0 : Mark
    k0 = (answer_mark m answers).0

    abbrev h0 : Incoming
    h0 = record { channel = c; id = d0.id }

    -- where it ends: as it is, or closed
    ends : (h : Incoming) → (k : HasPayment id_of h s) → (ms : List Move) → AreMade ms k.0
        → IsOfLinks (origin id_of) h t.links (after ms k.0) → (ys : List Htlc)
        → filter (is_htlc (key_of id_of h)) t.book ≡ left_out is_over ys
        → AreEntries id_of ys (after ms k.0).note → HasPayment id_of h t
    ends h k ms made of_links ys is entry = elim (closes ys (after ms k.0).note entry) [
      | inl same_note ↦ by_moves id_of h t k.0 (k.1.kept, k.1.holds) ms made of_links
          (subst (λ zs. AreEntries id_of zs (after ms k.0).note) (sym is) same_note)
      | inr closed ↦ by_moves id_of h t k.0 (k.1.kept, k.1.holds) (ms ++ move.Close ∷ [])
          (made_both ms (move.Close ∷ []) k.0 made (closed.0, tt))
          (subst (IsOfLinks (origin id_of) h t.links) (sym (after_both ms (move.Close ∷ []) k.0)) (record {
            decision = of_links.decision;
            removal = of_links.removal;
            outs = of_links.outs;
            halted = of_links.halted;
          }))
          (subst (λ (q : Payment). HasEntry id_of h t.book q.note)
          (sym (after_both ms (move.Close ∷ []) k.0))
          (subst (λ zs. AreEntries id_of zs None) (sym is) closed.1))
    ]

    decided_hold : (o : Option LogDecision) (b : Bool) → decision_by o b ≡ Decided Hold
        → (d : LogDecision) × (o ≡ Some d) × (mark_as d.mark ≡ Some Hold)
    decided_hold None true e = absurd (cc)
    decided_hold None false e = absurd (cc)
    decided_hold (Some d) b e = (d, refl, cases (mark_as d.mark) e)
      where
        cases : (o : Option Mark) → decided_as o ≡ Decided Hold → o ≡ Some Hold
        cases None f = absurd (cc)
        cases (Some k) f = let is : k ≡ Hold = cc in ap Some is

    -- what the book holds by this number
    hits : HavePayments id_of s → (y : Htlc) → IsIn y s.book → p y ≡ true → y.key ≡ key_of id_of h0
    hits k y in_book e =
        let a = and_parts y.decided (is_held_by n y.mark && same (id_of c) y.key.channel) e in
        let b = and_parts (is_held_by n y.mark) (same (id_of c) y.key.channel) a.1 in
        let hy : Incoming = record { channel = c; id = y.key.id } in
        let key : y.key ≡ key_of id_of hy =
        ap (λ z. record { channel = z; id = y.key.id }) (sym (same_is (id_of c) y.key.channel b.1)) in
        let nt = note_of id_of hy s (k hy) y in_book a.0 key in
        let some_hold : Some nt.0.mark ≡ Some Hold = sym nt.2.mark ∙ held_hold n y.mark b.0 in
        let hold : nt.0.mark ≡ Hold = cc in
        let waiting : (k hy).0.decision ≡ Decided Hold =
        subst (ForNote (IsHoldOf (k hy).0.decision)) nt.1 (k hy).1.holds hold in
        let f = decided_hold (find (λ z. z.id == y.key.id) X.decisions)
        (is_gone y.key.id (take X.log.first.own X.log.own))
        (sym ((k hy).1.of_links.decision ∙ ap (decision_at y.key.id) g.before) ∙ waiting) in
        let r = found_among (λ (z : LogDecision). z.id == y.key.id) X.decisions f.0 f.1 in
        let id : f.0.id ≡ y.key.id = eqb-true f.0.id y.key.id r.1 in
        let held_too = agrees c X g.before f.0 r.0 y in_book (key ∙ ap (key_at id_of c) (sym id)) a.0 n b.0 in
        key ∙ ap (key_at id_of c) (sym id ∙ apart f.0 d0 r.0 in_it held_too held)

    now_of : (i : ℕ) → find (λ z. z.id == i) Y.decisions ≡ marked_as n m (find (λ z. z.id == i) X.decisions)
    now_of i = ap (find (λ z. z.id == i)) ds ∙ marked_find n m i X.decisions apart

    -- ---- of the HTLC itself

    module _ (h : Incoming) (k : HasPayment id_of h s) (keys : key_of id_of h0 ≡ key_of id_of h) where
      chan : h.channel ≡ c
      chan = sym (one c h.channel (ap (λ (z : Key). z.channel) keys))

      same_id : h.id ≡ d0.id
      same_id = sym (ap (λ (z : Key). z.id) keys)

      there : find (λ z. z.id == h.id) X.decisions ≡ Some d0
      there = ap (λ i. find (λ z. z.id == i) X.decisions) same_id ∙ found

      abbrev d1 : LogDecision
      d1 = record { id = d0.id; mark = m }

      now : find (λ z. z.id == h.id) Y.decisions ≡ Some d1
      now = now_of h.id ∙ ap (marked_as n m) there ∙ ap (λ b. cond b (Some d1) (Some d0)) held

      was : k.0.decision ≡ Decided Hold
      was = k.1.of_links.decision ∙ ap (λ i. decision_at h.id (s.links.sides i)) chan ∙ ap (decision_at h.id) g.before
          ∙ ap (λ o. decision_by o (is_gone h.id (take X.log.first.own X.log.own))) there
          ∙ ap decided_as (held_hold n d0.mark held)

      none_removed : IsHeld k.0.removal → ⊥
      none_removed e = held_waits k.0.decision k.0.removal was k.1.kept.waits e

      note_holds : (nt : Note) → k.0.note ≡ Some nt → nt.mark ≡ Hold
      note_holds nt e = elim k.1.kept.marks [
        | inl gone ↦ absurd (none_removed gone)
        | inr marks ↦ cases k.0.decision was (subst (ForNote (λ f. MarkIs k.0.decision f.mark)) e marks)
      ]
        where
          cases : (d : Decision) → d ≡ Decided Hold → MarkIs d nt.mark → nt.mark ≡ Hold
          cases Undecided e w = absurd (cc)
          cases Past e w = absurd (cc)
          cases (Decided j) e w = let is : j ≡ Hold = cc in sym w ∙ is

      -- the book holds it too
      hit : (x : Htlc) → IsIn x s.book → x.key ≡ key_of id_of h → x.decided ≡ true → mark_as x.mark ≡ Some Hold
          → p x ≡ true
      hit x in_book key dec hold =
          let a = hold_held x.mark hold in
          let b = hold_held d0.mark (held_hold n d0.mark held) in
          let by_book = agrees c X g.before d0 in_it x in_book (key ∙ sym keys) dec a.0 a.1 in
          let number : n ≡ a.0 = b.2 n held ∙ sym (b.2 a.0 by_book) in
          let held_x : is_held_by n x.mark ≡ true = ap (λ i. is_held_by i x.mark) number ∙ a.1 in
          ap (λ t. t && (is_held_by n x.mark && same (id_of c) x.key.channel)) dec
          ∙ ap (λ t. t && same (id_of c) x.key.channel) held_x
          ∙ is_same (id_of c) x.key.channel (sym (ap (λ (z : Key). z.channel) (key ∙ sym keys)))

      marked_so : (ys : List Htlc) → ((x : Htlc) → IsIn x ys → IsIn x s.book × (x.key ≡ key_of id_of h))
          → AreEntries id_of ys k.0.note → AreEntries id_of (changed_first p (put_mark m) ys)
          (move.with_mark k0 k.0.note)
      marked_so [] from e = none k.0.note e
        where
          none : (o : Option Note) → o ≡ None → move.with_mark k0 o ≡ None
          none None f = refl
          none (Some nt) f = absurd (cc)
      marked_so (x ∷ []) from e = cases k.0.note refl e
        where
          cases : (o : Option Note) → k.0.note ≡ o → IsEntry id_of x o
              → AreEntries id_of (cond (p x) (put_mark m x ∷ []) (x ∷ [])) (move.with_mark k0 o)
          cases None f q = subst (λ t. AreEntries id_of (cond
              (t && (is_held_by n x.mark && same (id_of c) x.key.channel))
              (put_mark m x ∷ []) (x ∷ [])) None) (sym q) q
          cases (Some nt) f q =
              let f0 = from x (inl refl) in
              let hold = note_holds nt f in
              subst (λ t. AreEntries id_of (cond t (put_mark m x ∷ []) (x ∷ [])) (Some (record nt { mark = k0 })))
              (sym (hit x f0.0 f0.1 q.0 (q.1.mark ∙ ap Some hold)))
              (q.0, record { mark = (answer_mark m answers).1; outgoing = q.1.outgoing; incoming = q.1.incoming })
      marked_so (x ∷ y ∷ ys) from e = absurd e

      itself : HavePayments id_of s → HasPayment id_of h t
      itself all =
          let q = is_htlc (key_of id_of h) in
          let picks : (y : Htlc) → IsIn y s.book → p y ≡ true → q y ≡ true =
          λ y a e. ap (same_key (key_of id_of h)) (hits all y a e ∙ keys) ∙ is_key (key_of id_of h) in
          ends h k (move.Resume k0 ∷ []) (subst (IsDecided Hold) (sym was) refl, tt)
          (resumes (origin id_of) h c X Y s.links t.links g d1 k0 l r (eq-eqb h.channel c chan)
          (answer_mark m answers).1 now k.0 k.1.of_links)
          (changed_first p (put_mark m) (filter q s.book))
          (ap (filter q) book ∙ left_turn is_over q (changed_first p (put_mark m) s.book)
          ∙ ap (left_out is_over) (only_picked p (put_mark m) q (λ x. refl) s.book picks))
          (marked_so (filter q s.book) (λ x a. (
            of_picked q x s.book a,
            sym (key_is (key_of id_of h) x.key (passes q x s.book a)),
          )) k.1.note)

    -- ---- of another one

    module _ (h : Incoming) (k : HasPayment id_of h s) (isnt : same_key (key_of id_of h0) (key_of id_of h) ≡ false)
      where
        other_keys : key_of id_of h0 ≡ key_of id_of h → ⊥
        other_keys e = absurd (let no : true ≡ false = sym (ap (same_key (key_of id_of h0)) (sym e)
            ∙ is_key (key_of id_of h0)) ∙ isnt in cc)

        same_found : (h.channel == c) ≡ true
            → find (λ z. z.id == h.id) Y.decisions ≡ find (λ z. z.id == h.id) X.decisions
        same_found is = now_of h.id ∙ cases (find (λ z. z.id == h.id) X.decisions) refl
          where
            cases : (o : Option LogDecision) → find (λ z. z.id == h.id) X.decisions ≡ o → marked_as n m o ≡ o
            cases None e = refl
            cases (Some d) e = either_way (is_held_at n d) refl
              where
                either_way : (b : Bool) → is_held_at n d ≡ b
                    → cond (is_held_at n d) (Some (record { id = d.id; mark = m })) (Some d) ≡ Some d
                either_way false f = ap (λ b. cond b (Some (record { id = d.id; mark = m })) (Some d)) f
                either_way true f =
                    let q = found_among (λ (z : LogDecision). z.id == h.id) X.decisions d e in
                    let id : d0.id ≡ h.id = sym (apart d d0 q.0 in_it f held) ∙ eqb-true d.id h.id q.1 in
                    absurd (other_keys (ap (key_at id_of c) id ∙ ap (λ i. key_at id_of i h.id)
                    (sym (eqb-true h.channel c is))))

        other : HavePayments id_of s → HasPayment id_of h t
        other all =
            let q = is_htlc (key_of id_of h) in
            let none : (y : Htlc) → IsIn y s.book → q y ≡ true → p y ≡ false = λ y a e. elim (either (p y)) [
              | inl is ↦ absurd (other_keys (sym (hits all y a is) ∙ sym (key_is (key_of id_of h) y.key e)))
              | inr it_isnt ↦ it_isnt
            ] in
            ends h k [] tt
            (resumes_other (origin id_of) h c X Y s.links t.links g l r same_found k.0 k.1.of_links)
            (filter q s.book)
            (ap (filter q) book ∙ left_turn is_over q (changed_first p (put_mark m) s.book)
            ∙ ap (left_out is_over) (none_of_them p (put_mark m) q (λ x. refl) s.book none))
            k.1.note

    pub resumed : HavePayments id_of s → HavePayments id_of t
    resumed k h = elim (either (same_key (key_of id_of h0) (key_of id_of h))) [
      | inl is ↦ itself h (k h) (key_is (key_of id_of h0) (key_of id_of h) is) k
      | inr isnt ↦ other h (k h) isnt k
    ]

    -- ---- and the numbers agree after it

    -- what was held by it is no longer there
    gone : HavePayments id_of s → (x : Htlc) → IsIn x t.book → IsIn x s.book → p x ≡ true → ⊥
    gone k x now_in was_in is = cases (filter q s.book) from_book (k h0).0.note (k h0).1.note
      where
        key : x.key ≡ key_of id_of h0
        key = hits k x was_in is

        q : Htlc → Bool
        q = is_htlc (key_of id_of h0)

        q_is : q x ≡ true
        q_is = ap (same_key (key_of id_of h0)) key ∙ is_key (key_of id_of h0)

        picks : (y : Htlc) → IsIn y s.book → p y ≡ true → q y ≡ true
        picks y a e = ap (same_key (key_of id_of h0)) (hits k y a e) ∙ is_key (key_of id_of h0)

        from_book : IsIn x (changed_first p (put_mark m) (filter q s.book))
        from_book = of_picked (λ z. not (is_over z)) x (changed_first p (put_mark m) (filter q s.book))
            (subst (IsIn x) (ap (filter q) book ∙ left_turn is_over q (changed_first p (put_mark m) s.book)
            ∙ ap (left_out is_over) (only_picked p (put_mark m) q (λ z. refl) s.book picks))
            (picked q x t.book now_in q_is))

        marked_not : (y : Htlc) → put_mark m y ≡ x → ⊥
        marked_not y e =
            let a = and_parts x.decided (is_held_by n x.mark && same (id_of c) x.key.channel) is in
            let b = and_parts (is_held_by n x.mark) (same (id_of c) x.key.channel) a.1 in
            absurd (let twice : true ≡ false = sym b.0 ∙ ap (λ (z : Htlc). is_held_by n z.mark) (sym e)
            ∙ answer_unheld n m answers in cc)

        cases : (ys : List Htlc) → IsIn x (changed_first p (put_mark m) ys) → (o : Option Note)
            → AreEntries id_of ys o → ⊥
        cases [] a o e = absurd a
        cases (z ∷ []) a o e = one_there (p z) refl a
          where
            one_there : (b : Bool) → p z ≡ b → IsIn x (cond b (put_mark m z ∷ []) (z ∷ [])) → ⊥
            one_there true f (inl is_it) = marked_not z is_it
            one_there true f (inr none) = absurd none
            one_there false f (inl is_it) = absurd (let twice : true ≡ false = sym is ∙ ap p (sym is_it) ∙ f in cc)
            one_there false f (inr none) = absurd none
        cases (z ∷ w ∷ ys) a o e = absurd e

    pub agrees_resumed : HavePayments id_of s → HoldAlike t
    agrees_resumed k b Z side d d_in x x_in key dec i held_x =
        elim (among_changed p (put_mark m) x s.book (of_picked (λ z. not (is_over z)) x
        (changed_first p (put_mark m) s.book)
        (subst (IsIn x) book x_in))) [
          | inr new ↦ absurd (let twice : true ≡ false = sym held_x ∙ ap (λ (z : Htlc). is_held_by i z.mark) (sym new.3)
              ∙ answer_unheld i m answers in cc)
          | inl old ↦ elim (either (b == c)) [
            | inr isnt ↦ agrees b Z (sym (g.others b isnt) ∙ side) d d_in x old key dec i held_x
            | inl is ↦ here old (eqb-true b c is)
          ]
        ]
      where
        here : IsIn x s.book → b ≡ c → is_held_by i d.mark ≡ true
        here old is =
            let some : Some Y ≡ Some Z = sym g.behind ∙ ap t.links.sides (sym is) ∙ side in
            let same_side : Y ≡ Z = cc in
            let at : x.key ≡ key_at id_of c d.id = key ∙ ap (λ j. key_at id_of j d.id) is in
            let inside : IsIn d (ledger.with_mark n m X.decisions) =
            subst (IsIn d) ds (subst (λ (w : Side). IsIn d w.decisions) (sym same_side) d_in) in
            elim (marked_of n m X.decisions d inside) [
              | inl there_before ↦ agrees c X g.before d there_before x old at dec i held_x
              | inr new ↦ absurd (again old at new.1 new.2 new.3 new.4)
            ]
          where
            again : IsIn x s.book → x.key ≡ key_at id_of c d.id → (e : LogDecision) → IsIn e X.decisions
                → is_held_at n e ≡ true
                → e.id ≡ d.id → ⊥
            again old at e e_in e_held id =
                let by_book = agrees c X g.before e e_in x old (at ∙ ap (key_at id_of c) (sym id)) dec i held_x in
                let u = hold_held e.mark (held_hold n e.mark e_held) in
                let number : n ≡ i = u.2 n e_held ∙ sym (u.2 i by_book) in
                gone k x x_in old (ap (λ t. t && (is_held_by n x.mark && same (id_of c) x.key.channel)) dec
                ∙ ap (λ j. is_held_by j x.mark && same (id_of c) x.key.channel) number
                ∙ ap (λ t. t && same (id_of c) x.key.channel) held_x
                ∙ is_same (id_of c) x.key.channel (sym (ap (λ (z : Key). z.channel) at)))
