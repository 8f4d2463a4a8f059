-- Book and ledgers hold an HTLC by the same number: what keeps that.
use Rattle.std.proofs.Common.{◌≡◌, ◌⊎◌, inl, inr, ℕ, List, [], ◌∷◌, ◌++◌, refl, sym, ap, ◌∙◌, subst}
use Rattle.std.proofs.Common.{Bool, true, false, cond, not, ◌==◌, Option, Some, None}
use Rattle.std.specs.List.{find, cons_option}
use Rattle.ln_log.specs.declared.mark.Decision.{Decision as LogDecision}
use Rattle.ln_log.specs.declared.update.Add.{Add}
use Rattle.ln_log.specs.Log.{Log}
use Rattle.ln_log.specs.Mark.{is_held_by}
use Rattle.ln_log.specs.Updates.{add_with}
use Rattle.ln_channel.specs.End.{End}
use Rattle.ln_book_tables.specs.declared.htlc.Key.{Key}
use Rattle.ln_book_tables.specs.declared.htlc.Htlc.{Htlc}
use Rattle.ln_book_tables.specs.Replay.{same_key, is_htlc, left_out, decide, is_over}
use Rattle.ln_book.specs.declared.recovery.leg.Leg.{Leg}
use Rattle.ln_book.specs.Rebuild.{ChannelSnapshot, channel_snapshot_of, led, unfinished, all_unfinished}
use Rattle.ln_book.specs.Rebuild.{htlc_left, left, all_left}
use Rattle.ln_book.specs.Rebuild.{is_read}
use Rattle.ln_book.specs.Rebuild.{rebuilt_htlcs, decided_in, decided_by, incoming_in, peer_updates}
use Rattle.ln_payment_circuits.specs.Snapshot.{IsIn, key_at, snapshots}
use Rattle.ln_payment_circuits.proofs.Links.{Side}
use Rattle.ln_payment_circuits.proofs.Lists.{of_picked, passes}
use Rattle.ln_payment_circuits.proofs.Held.{among_last, found_of}
use Rattle.ln_payment_circuits.proofs.Shifts.{side_of}
use Rattle.ln_payment_circuits.proofs.Waiting.{waiting_ids}
use Rattle.ln_payment_circuits.proofs.Entries.{is_key}
use Rattle.ln_payment_circuits.proofs.OutgoingLegs.{IsIncoming, AreBack, of_member}
use Rattle.ln_payment_circuits.proofs.IncomingLegs.{add_id}
use Rattle.ln_payment_circuits.proofs.Scenes.{Scene}
use Rattle.ln_payment_circuits.proofs.Resumed.{HoldAlike}
use Rattle.ln_log.specs.Updates.{next_id}
use Rattle.std.proofs.Common.{take}

-- ---- an HTLC of the book as it was, but for where it goes and its removal

pub record IsStill (x y : Htlc) : Type 0 where
  pub key : y.key ≡ x.key
  pub mark : y.mark ≡ x.mark
  pub decided : x.decided ≡ true → y.decided ≡ true

pub was_same : (x : Htlc) → IsStill x x
was_same x = record { key = refl; mark = refl; decided = λ e. e }

-- each of the book was there, and each decision
pub record HasFewer (s t : Scene) : Type 0 where
  pub links : (c : ℕ) (Y : Side) → t.links.sides c ≡ Some Y → (d : LogDecision) → IsIn d Y.decisions
      → (X : Side) × (s.links.sides c ≡ Some X) × IsIn d X.decisions
  pub book : (x : Htlc) → IsIn x t.book → (y : Htlc) × IsIn y s.book × IsStill x y

module _ (id_of : ℕ → List ℕ) where
  pub agrees_fewer : (s t : Scene) → HasFewer s t → HoldAlike id_of s → HoldAlike id_of t
  agrees_fewer s t f a c Y is d in_it x in_book key dec n held =
      let l = f.links c Y is d in_it in
      let b = f.book x in_book in
      a c l.0 l.1 d l.2 b.0 b.1 (b.2.key ∙ key) (b.2.decided dec) n (ap (is_held_by n) b.2.mark ∙ held)

  -- ---- a decision is taken

  pub agrees_taken : ((c d : ℕ) → id_of c ≡ id_of d → c ≡ d)
      → (s t : Scene) (c : ℕ) (X : Side) (d : LogDecision) (x : Htlc)
      → s.links.sides c ≡ Some X → x.key ≡ key_at id_of c d.id → x.mark ≡ d.mark
      → ((e : LogDecision) → IsIn e X.decisions → e.id ≡ d.id → ⊥)
      → ((b : ℕ) (Y : Side) → t.links.sides b ≡ Some Y → (e : LogDecision) → IsIn e Y.decisions
      → ((b ≡ c) × (d ≡ e)) ⊎ ((Z : Side) × (s.links.sides b ≡ Some Z) × IsIn e Z.decisions))
      → ((y : Htlc) → IsIn y t.book
      → (IsIn y s.book × (y.key ≡ key_at id_of c d.id → y.decided ≡ true → ⊥)) ⊎ (decide x ≡ y))
      → HoldAlike id_of s → HoldAlike id_of t
  agrees_taken one s t c X d x at key marked fresh decisions books a b Y is e in_it y in_book y_key dec n held =
      cases (decisions b Y is e in_it) (books y in_book)
    where
      cases : ((b ≡ c) × (d ≡ e)) ⊎ ((Z : Side) × (s.links.sides b ≡ Some Z) × IsIn e Z.decisions)
          → (IsIn y s.book × (y.key ≡ key_at id_of c d.id → y.decided ≡ true → ⊥)) ⊎ (decide x ≡ y)
          → is_held_by n e.mark ≡ true
      cases (inl new) (inl old) = absurd (old.1 (y_key ∙ ap (λ k. key_at id_of k e.id) new.0
          ∙ ap (λ (z : LogDecision). key_at id_of c z.id) (sym new.1)) dec)
      cases (inl new) (inr now) = ap (λ (z : LogDecision). is_held_by n z.mark) (sym new.1)
          ∙ ap (is_held_by n) (sym marked)
          ∙ ap (λ (z : Htlc). is_held_by n z.mark) now ∙ held
      cases (inr z) (inl old) = a b z.0 z.1 e z.2 y old.0 y_key dec n held
      cases (inr z) (inr now) =
          let keys : key_at id_of c d.id ≡ key_at id_of b e.id = sym key ∙ ap (λ (w : Htlc). w.key) now ∙ y_key in
          let chan : c ≡ b = one c b (ap (λ (w : Key). w.channel) keys) in
          let some : Some z.0 ≡ Some X = sym z.1 ∙ ap s.links.sides (sym chan) ∙ at in
          let side : z.0 ≡ X = cc in
          absurd (fresh e (subst (λ (w : Side). IsIn e w.decisions) side z.2) (sym (ap (λ (w : Key). w.id) keys)))

  -- where it joins the book
  pub agrees_decided : ((c d : ℕ) → id_of c ≡ id_of d → c ≡ d)
      → (s t : Scene) (c : ℕ) (X : Side) (d : LogDecision) (x : Htlc)
      → s.links.sides c ≡ Some X → x.key ≡ key_at id_of c d.id → x.mark ≡ d.mark
      → ((e : LogDecision) → IsIn e X.decisions → e.id ≡ d.id → ⊥)
      → ((b : ℕ) (Y : Side) → t.links.sides b ≡ Some Y → (e : LogDecision) → IsIn e Y.decisions
      → ((b ≡ c) × (d ≡ e)) ⊎ ((Z : Side) × (s.links.sides b ≡ Some Z) × IsIn e Z.decisions))
      → t.book ≡ left_out (is_htlc (key_at id_of c d.id)) s.book ++ decide x ∷ [] → HoldAlike id_of s
      → HoldAlike id_of t
  agrees_decided one s t c X d x at key marked fresh decisions book =
      agrees_taken one s t c X d x at key marked fresh decisions books
    where
      others : Htlc → Bool
      others z = not (is_htlc (key_at id_of c d.id) z)

      books : (y : Htlc) → IsIn y t.book
          → (IsIn y s.book × (y.key ≡ key_at id_of c d.id → y.decided ≡ true → ⊥)) ⊎ (decide x ≡ y)
      books y m = elim (among_last y (decide x) (left_out (is_htlc (key_at id_of c d.id)) s.book)
          (subst (IsIn y) book m)) [
            | inr now ↦ inr now
            | inl old ↦ inl (
              of_picked others y s.book old,
              λ at dec. absurd (let no : false ≡ true =
                  sym (ap not (ap (same_key (key_at id_of c d.id)) at ∙ is_key (key_at id_of c d.id)))
                  ∙ passes others y s.book old in cc),
            )
          ]

  -- ---- a restart

  -- one that is read is of a decision of its end
  abbrev IsOf : List (ℕ × End) → Htlc → Type 0
  IsOf es y = (x : ℕ × End) × IsIn x es × (d : LogDecision) × IsIn d x.1.ledger.decisions
      × (y.mark ≡ d.mark) × (y.key ≡ record { channel = x.1.dance.channel; id = d.id })

  among_append : {A : Type 0} (x : A) (xs ys : List A) → IsIn x (xs ++ ys) → IsIn x xs ⊎ IsIn x ys
  among_append x [] ys m = inr m
  among_append x (z ∷ xs) ys (inl e) = inl (inl e)
  among_append x (z ∷ xs) ys (inr m) = elim (among_append x xs ys m) [
    | inl k ↦ inl (inr k)
    | inr k ↦ inr k
  ]

  of_decided : (ch : List ℕ) (l : Log) (ds : List LogDecision) (y : Htlc) → IsIn y (decided_in ch l ds)
      → (d : LogDecision) × IsIn d ds × (y.mark ≡ d.mark) × (y.key ≡ record { channel = ch; id = d.id })
  of_decided ch l [] y m = absurd m
  of_decided ch l (d ∷ ds) y m = cases (add_with d.id (peer_updates l)) refl m (λ k. of_decided ch l ds y k)
    where
      cases : (o : Option Add) → add_with d.id (peer_updates l) ≡ o
          → IsIn y (cons_option (decided_by ch d.mark (incoming_in d.id l) o) (decided_in ch l ds))
          → (IsIn y (decided_in ch l ds)
          → (e : LogDecision) × IsIn e ds × (y.mark ≡ e.mark) × (y.key ≡ record { channel = ch; id = e.id }))
          → (e : LogDecision) × IsIn e (d ∷ ds) × (y.mark ≡ e.mark) × (y.key ≡ record { channel = ch; id = e.id })
      cases None is k rest = let r = rest k in (r.0, inr r.1, r.2, r.3)
      cases (Some a) is (inl e) rest = (
        d,
        inl refl,
        ap (λ (z : Htlc). z.mark) (sym e),
        ap (λ (z : Htlc). z.key) (sym e) ∙ ap (λ i. record { channel = ch; id = i })
            (add_id d.id (peer_updates l) a is),
      )
      cases (Some a) is (inr k) rest = let r = rest k in (r.0, inr r.1, r.2, r.3)

  of_unfinished : (all : List ChannelSnapshot) (xs : List Htlc) (y : Htlc) → IsIn y (unfinished all xs)
      → (z : Htlc) × IsIn z xs × (y.mark ≡ z.mark) × (y.key ≡ z.key)
  of_unfinished all [] y m = absurd m
  of_unfinished all (x ∷ xs) y m = cases (is_over (led all x)) m (λ k. of_unfinished all xs y k)
    where
      cases : (b : Bool) → IsIn y (cond b (unfinished all xs) (led all x ∷ unfinished all xs))
          → (IsIn y (unfinished all xs) → (z : Htlc) × IsIn z xs × (y.mark ≡ z.mark) × (y.key ≡ z.key))
          → (z : Htlc) × IsIn z (x ∷ xs) × (y.mark ≡ z.mark) × (y.key ≡ z.key)
      cases true k rest = let r = rest k in (r.0, inr r.1, r.2, r.3)
      cases false (inl e) rest = (x, inl refl, ap (λ (z : Htlc). z.mark) (sym e), ap (λ (z : Htlc). z.key) (sym e))
      cases false (inr k) rest = let r = rest k in (r.0, inr r.1, r.2, r.3)

  of_all : (all : List ChannelSnapshot) (es : List (ℕ × End)) (y : Htlc)
      → IsIn y (all_unfinished all (snapshots es)) → IsOf es y
  of_all all [] y m = absurd m
  of_all all (x ∷ es) y m = cases (among_append y (unfinished all (channel_snapshot_of x.1).decided)
      (all_unfinished all (snapshots es)) m)
      (λ k. of_all all es y k)
    where
      cases : IsIn y (unfinished all (channel_snapshot_of x.1).decided) ⊎ IsIn y (all_unfinished all (snapshots es))
          → (IsIn y (all_unfinished all (snapshots es)) → IsOf es y) → IsOf (x ∷ es) y
      cases (inl k) rest =
          let u = of_unfinished all (channel_snapshot_of x.1).decided y k in
          let d = of_decided x.1.dance.channel x.1.dance.log x.1.ledger.decisions u.0 u.1 in
          (x, inl refl, d.0, d.1, u.2 ∙ d.2, u.3 ∙ d.3)
      cases (inr k) rest = let r = rest k in (r.0, inr r.1, r.2, r.3, r.4, r.5)

  -- of a result no mark holds
  left_unheld : (all : List ChannelSnapshot) (ls : List Leg) (y : Htlc) (n : ℕ) → IsIn y (left all ls)
      → is_held_by n y.mark ≡ false
  left_unheld all [] y n m = absurd m
  left_unheld all (l ∷ ls) y n m = cases (is_read l.origin all) m (λ k. left_unheld all ls y n k)
    where
      cases : (b : Bool) → IsIn y (cond b (left all ls) (htlc_left l ∷ left all ls))
          → (IsIn y (left all ls) → is_held_by n y.mark ≡ false) → is_held_by n y.mark ≡ false
      cases true k rest = rest k
      cases false (inl e) rest = ap (λ (z : Htlc). is_held_by n z.mark) (sym e)
      cases false (inr k) rest = rest k

  all_left_unheld : (all rs : List ChannelSnapshot) (y : Htlc) (n : ℕ) → IsIn y (all_left all rs)
      → is_held_by n y.mark ≡ false
  all_left_unheld all [] y n m = absurd m
  all_left_unheld all (r ∷ rs) y n m = cases (among_append y (left all r.results) (all_left all rs) m)
      (λ k. all_left_unheld all rs y n k)
    where
      cases : IsIn y (left all r.results) ⊎ IsIn y (all_left all rs)
          → (IsIn y (all_left all rs) → is_held_by n y.mark ≡ false) → is_held_by n y.mark ≡ false
      cases (inl k) rest = left_unheld all r.results y n k
      cases (inr k) rest = rest k

  pub agrees_rebuilt : ((c d : ℕ) → id_of c ≡ id_of d → c ≡ d) → (t : Scene) (es : List (ℕ × End))
      → AreBack id_of t.links es
      → t.book ≡ rebuilt_htlcs (snapshots es) → HoldAlike id_of t
  agrees_rebuilt one t es b book c X is d in_it x in_book key dec n held =
      elim (among_append x (all_unfinished (snapshots es) (snapshots es)) (all_left (snapshots es) (snapshots es))
      (subst (IsIn x) book in_book)) [
        | inr k ↦ absurd (let twice : true ≡ false = sym held
            ∙ all_left_unheld (snapshots es) (snapshots es) x n k in cc)
        | inl k ↦ cases (of_all (snapshots es) es x k)
      ]
    where
      cases : IsOf es x → is_held_by n d.mark ≡ true
      cases o =
          let incoming = of_member (IsIncoming id_of t.links) es o.0 b.each o.1 in
          let keys : key_at id_of c d.id ≡ record { channel = o.0.1.dance.channel; id = o.2.id } = sym key ∙ o.5 in
          let chan : c ≡ o.0.0 = one c o.0.0 (ap (λ (w : Key). w.channel) keys ∙ incoming.channel) in
          let same_side : Some X ≡ Some (side_of o.0.1) = sym is ∙ ap t.links.sides chan ∙ incoming.side in
          let side : X ≡ side_of o.0.1 = cc in
          let l = o.0.1.dance.log in
          let ds = o.0.1.ledger.decisions in
          let ws = waiting_ids l.received o.0.1.ledger.undecided in
          let hi = next_id (take l.acknowledged.peer l.received) in
          let mine : IsIn d ds = subst (λ (w : Side). IsIn d w.decisions) side in_it in
          let first = found_of 0 ds ws hi d incoming.tidy.ids mine in
          let second = found_of 0 ds ws hi o.2 incoming.tidy.ids o.3 in
          let twice : Some d ≡ Some o.2 =
          sym first ∙ ap (λ i. find (λ z. z.id == i) ds) (ap (λ (w : Key). w.id) keys) ∙ second in
          let one_decision : d ≡ o.2 = cc in
          ap (λ (z : LogDecision). is_held_by n z.mark) one_decision ∙ ap (is_held_by n) (sym o.4) ∙ held
