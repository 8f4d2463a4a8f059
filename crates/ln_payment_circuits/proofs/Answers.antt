-- What a decision that a channel takes, a result that it forgets, and commands that it refuses leave of a payment.
use Rattle.std.proofs.Common.{◌≡◌, ◌⊎◌, inl, inr, ℕ, List, [], ◌∷◌, ◌++◌, take, filter, refl, sym, ap, ◌∙◌, subst}
use Rattle.std.proofs.Common.{Bool, true, false, cond, not, ◌==◌, ◌&&◌, Option, Some, None}
use Rattle.std.proofs.Math.Bool.{and-true}
use Rattle.std.specs.List.{find}
use Rattle.std.proofs.lemmas.Bool.{eqb-true, eq-eqb}
use Rattle.ln_log.specs.declared.mark.Decision.{Decision as LogDecision}
use Rattle.ln_log.specs.Updates.{add_with}
use Rattle.ln_channel.specs.declared.command.Command.{Command}
use Rattle.ln_channel.specs.declared.command.Command.TheVariants as command
use Rattle.ln_book_tables.specs.declared.htlc.Key.{Key}
use Rattle.ln_book_tables.specs.declared.htlc.OutgoingLeg.TheVariants as outgoing
use Rattle.ln_book_tables.specs.declared.htlc.IncomingLeg.TheVariants as incoming
use Rattle.ln_book_tables.specs.declared.htlc.Htlc.{Htlc}
use Rattle.ln_book_tables.specs.Replay.{same_key, is_htlc, changed_first, left_out, joined, decide, with_outgoing}
use Rattle.ln_book_tables.specs.Replay.{with_incoming}
use Rattle.ln_book_tables.specs.Replay.{is_settled, has_nothing_offered, is_open}
use Rattle.ln_keys.specs.Services.{Services}
use Rattle.ln_book.specs.Commands.{forwards_in, removal_by, is_resolved_in, forget_by}
use Rattle.ln_payment.specs.Parts.{Kind, Mark, Decision, Undecided, Decided, Past, NoRemoval, Out, Absent, Refused}
use Rattle.ln_payment.specs.Parts.{RemovalRefused, Note, Payment, Among, IsAt, HasEnded}
use Rattle.ln_payment.specs.Moves.{Move, Offers, Removes, IsSettled, IsDecided, begun_note, moved}
use Rattle.ln_payment.specs.Moves as move
use Rattle.ln_payment.proofs.Invariant.{IsEarly, ForNote, IsOver}
use Rattle.ln_payment_circuits.specs.Snapshot.{is_gone, Incoming, IsIn, key_at, key_of, origin}
use Rattle.ln_payment_circuits.specs.Circuit.{Forwards}
use Rattle.ln_payment_circuits.proofs.Parts.{HasAdd}
use Rattle.ln_payment_circuits.proofs.Links.{Side, HasAddAt, AreOuts, IsOfLinks, Changed, mark_as, decision_at}
use Rattle.ln_payment_circuits.proofs.Links.{decision_by, removal_at}
use Rattle.ln_payment_circuits.proofs.Ledgers.{decides, decides_other, forgets, forgets_other}
use Rattle.ln_payment_circuits.proofs.Entries.{key_is, is_key, AreEntries, HasEntry, outgoing_here, outgoing_there}
use Rattle.ln_payment_circuits.proofs.Entries.{back_here, back_there}
use Rattle.ln_payment_circuits.proofs.Entries.{left_here, left_there, joins_so, joins_here, joins_there, IsOutgoingOf}
use Rattle.ln_payment_circuits.proofs.Entries.{incoming_as}
use Rattle.ln_payment_circuits.proofs.Due.{asks_to_offer, asks_to_remove, asks_to_forget, asks_of}
use Rattle.ln_payment_circuits.proofs.Scenes.{Scene, HasPayment, HavePayments, by_moves, note_of}
use Rattle.ln_payment_circuits.proofs.Lists.{either, picked, only_picked, none_of_them, among_changed}
use Rattle.ln_payment_circuits.specs.Snapshot.{NonePasses}

pub none_left : (p q : Htlc → Bool) (xs : List Htlc) → NonePasses p xs → NonePasses p (left_out q xs)
none_left p q [] n = tt
none_left p q (x ∷ xs) n = cases (q x) (none_left p q xs n.1)
  where
    cases : (b : Bool) → NonePasses p (left_out q xs) → NonePasses p (cond (not b) (x ∷ left_out q xs) (left_out q xs))
    cases true m = m
    cases false m = (n.0, m)

-- those that pass, but for these
pub others_left : (p q : Htlc → Bool) (xs : List Htlc) → NonePasses (λ x. p x && not (q x)) xs
    → NonePasses p (left_out q xs)
others_left p q [] n = tt
others_left p q (x ∷ xs) n = cases (q x) n.0 (others_left p q xs n.1)
  where
    cases : (b : Bool) → (p x && not b) ≡ false → NonePasses p (left_out q xs)
        → NonePasses p (cond (not b) (x ∷ left_out q xs) (left_out q xs))
    cases true e m = m
    cases false e m = (sym (and-true (p x)) ∙ e, m)

pub others_of : (p q : Htlc → Bool) (xs : List Htlc) → NonePasses p xs → NonePasses (λ x. p x && not (q x)) xs
others_of p q [] n = tt
others_of p q (x ∷ xs) n = (ap (λ b. b && not (q x)) n.0, others_of p q xs n.1)

pub no_other : (p q : Htlc → Bool) (xs : List Htlc) → NonePasses (λ x. p x && not (q x)) xs → (x : Htlc) → IsIn x xs
    → p x ≡ true → q x ≡ true
no_other p q [] n x m e = absurd m
no_other p q (y ∷ xs) n x (inr m) e = no_other p q xs n.1 x m e
no_other p q (y ∷ xs) n x (inl is) e = cases (q x) refl
  where
    cases : (b : Bool) → q x ≡ b → q x ≡ true
    cases true f = f
    cases false f = absurd (let no : true ≡ false = sym (ap (λ b. b && not (q x)) e ∙ ap not f)
        ∙ ap (λ z. p z && not (q z)) (sym is) ∙ n.0 in cc)

-- the last one is the first that passes
pub last_one : (p : Htlc → Bool) (f : Htlc → Htlc) (xs : List Htlc) (x : Htlc) → NonePasses p xs → p x ≡ true
    → changed_first p f (xs ++ x ∷ []) ≡ xs ++ f x ∷ []
last_one p f [] x n is = ap (λ b. cond b (f x ∷ []) (x ∷ [])) is
last_one p f (y ∷ xs) x n is =
    ap (λ b. cond b (f y ∷ xs ++ x ∷ []) (y ∷ changed_first p f (xs ++ x ∷ []))) n.0
    ∙ ap (λ zs. y ∷ zs) (last_one p f xs x n.1 is)

module _ (id_of : ℕ → List ℕ) (one : (c d : ℕ) → id_of c ≡ id_of d → c ≡ d) where
  same_origin : (a b : Incoming) → origin id_of a ≡ origin id_of b → key_of id_of a ≡ key_of id_of b
  same_origin a b e = ap (λ (z : List ℕ × ℕ). record { channel = z.0; id = z.1 }) e

  -- ---- a decision of the book's that waits: the first that passes is the HTLC's own

  -- it stands alone, and has no note
  waits_alone : (x : Htlc) (ys : List Htlc) (o : Option Note) → IsIn x ys → x.decided ≡ false → AreEntries id_of ys o
      → (o ≡ None) × (ys ≡ x ∷ [])
  waits_alone x [] o m dec k = absurd m
  waits_alone x (y ∷ z ∷ ys) o m dec k = absurd k
  waits_alone x (y ∷ []) o (inr m) dec k = absurd m
  waits_alone x (y ∷ []) None (inl e) dec k = (refl, ap (λ z. z ∷ []) e)
  waits_alone x (y ∷ []) (Some n) (inl e) dec k =
      absurd (let no : true ≡ false = sym k.0 ∙ ap (λ (z : Htlc). z.decided) e ∙ dec in cc)

  pub waiting_entry : (xs : List Htlc) (h : Incoming) (x : Htlc) (o : Option Note) → IsIn x xs → x.decided ≡ false
      → x.key ≡ key_of id_of h → HasEntry id_of h xs o
      → (o ≡ None) × (filter (is_htlc (key_of id_of h)) xs ≡ x ∷ [])
  waiting_entry xs h x o m dec key k = waits_alone x (filter (is_htlc (key_of id_of h)) xs) o
      (picked (is_htlc (key_of id_of h)) x xs m (ap (same_key (key_of id_of h)) key ∙ is_key (key_of id_of h))) dec k

  waiting_itself : (xs : List Htlc) (h : Incoming) (x : Htlc) → filter (is_htlc (key_of id_of h)) xs ≡ x ∷ []
      → (z : Htlc) → IsIn z xs → z.key ≡ key_of id_of h → x ≡ z
  waiting_itself xs h x alone z z_in at = elim (subst (IsIn z) alone
      (picked (is_htlc (key_of id_of h)) z xs z_in (ap (same_key (key_of id_of h)) at ∙ is_key (key_of id_of h)))) [
        | inl e ↦ e
        | inr f ↦ absurd f
      ]

  pub waiting_undecided : (xs : List Htlc) (h : Incoming) (x : Htlc) → filter (is_htlc (key_of id_of h)) xs ≡ x ∷ []
      → x.decided ≡ false → (z : Htlc) → IsIn z xs → z.key ≡ key_of id_of h → z.decided ≡ true → ⊥
  waiting_undecided xs h x alone undecided z z_in at dec =
      absurd (let no : true ≡ false = sym dec
      ∙ sym (ap (λ (y : Htlc). y.decided) (waiting_itself xs h x alone z z_in at)) ∙ undecided in cc)

  module _ (xs ys : List Htlc) (h0 : Incoming) (x : Htlc) (p : Htlc → Bool) (key : x.key ≡ key_of id_of h0)
      (others : NonePasses (λ z. p z && not (is_htlc (key_of id_of h0) z)) xs) (book : ys ≡ changed_first p decide xs)
    where
      decides_it : p x ≡ true → filter (is_htlc (key_of id_of h0)) xs ≡ x ∷ []
          → filter (is_htlc (key_of id_of h0)) ys ≡ decide x ∷ []
      decides_it hit alone =
          let q = is_htlc (key_of id_of h0) in
          ap (filter q) book ∙ only_picked p decide q (λ z. refl) xs (no_other p q xs others)
          ∙ ap (changed_first p decide) alone ∙ ap (λ b. cond b (decide x ∷ []) (x ∷ [])) hit

      decides_no_other : (h : Incoming) (o : Option Note) → same_key x.key (key_of id_of h) ≡ false
          → HasEntry id_of h xs o → HasEntry id_of h ys o
      decides_no_other h o isnt e = subst (λ zs. AreEntries id_of zs o)
          (sym (ap (filter q) book ∙ none_of_them p decide q (λ z. refl) xs none_here)) e
        where
          q : Htlc → Bool
          q = is_htlc (key_of id_of h)

          none_here : (z : Htlc) → IsIn z xs → q z ≡ true → p z ≡ false
          none_here z z_in is = elim (either (p z)) [
            | inr it_isnt ↦ it_isnt
            | inl it_is ↦
                let here : key_of id_of h0 ≡ z.key =
                key_is (key_of id_of h0) z.key (no_other p (is_htlc (key_of id_of h0)) xs others z z_in it_is) in
                let there : key_of id_of h ≡ z.key = key_is (key_of id_of h) z.key is in
                absurd (let no : true ≡ false = sym (ap (same_key x.key) (there ∙ sym here ∙ sym key)
                ∙ is_key x.key) ∙ isnt in cc)
          ]

      -- each of the book then was there, or is the one that was decided
      pub decided_or_old : x.decided ≡ false → filter (is_htlc (key_of id_of h0)) xs ≡ x ∷ [] → (y : Htlc) → IsIn y ys
          → (IsIn y xs × (y.key ≡ key_of id_of h0 → y.decided ≡ true → ⊥)) ⊎ (decide x ≡ y)
      decided_or_old undecided alone y m = elim (among_changed p decide y xs (subst (IsIn y) book m)) [
        | inl old ↦ inl (old, waiting_undecided xs h0 x alone undecided y old)
        | inr new ↦ inr (ap decide (waiting_itself xs h0 x alone new.0 new.1
            (sym (key_is (key_of id_of h0) new.0.key
            (no_other p (is_htlc (key_of id_of h0)) xs others new.0 new.1 new.2)))) ∙ new.3)
      ]

  module _ (s t : Scene) (c : ℕ) (X Y : Side) (g : Changed (origin id_of) c X Y s.links t.links)
      (l : Y.log ≡ X.log) where
    -- ---- a decision is taken

    -- the book has none of an HTLC that isn't decided
    none_entered : (d : LogDecision) → find (λ e. e.id == d.id) X.decisions ≡ None
        → is_gone d.id (take X.log.first.own X.log.own) ≡ false → HavePayments id_of s
        → HasEntry id_of (record { channel = c; id = d.id }) s.book None
    none_entered d none base k =
        subst (λ o. HasEntry id_of h0 s.book o)
        (cases (k h0).0.decision undecided (k h0).1.kept.early) (k h0).1.note
      where
        h0 : Incoming
        h0 = record { channel = c; id = d.id }

        undecided : (k h0).0.decision ≡ Undecided
        undecided = (k h0).1.of_links.decision ∙ ap (decision_at d.id) g.before
            ∙ ap (λ o. decision_by o (is_gone d.id (take X.log.first.own X.log.own))) none
            ∙ ap (decision_by None) base

        cases : (z : Decision) → z ≡ Undecided → IsEarly z (k h0).0.removal (k h0).0.outs (k h0).0.note
            → (k h0).0.note ≡ None
        cases Undecided e f = f.2
        cases (Decided n) e f = absurd (cc)
        cases Past e f = absurd (cc)

    -- so what is decided is its last
    pub decided_book : (d : LogDecision) (x : Htlc) (p : Htlc → Bool) → find (λ e. e.id == d.id) X.decisions ≡ None
        → is_gone d.id (take X.log.first.own X.log.own) ≡ false → x.key ≡ key_at id_of c d.id
        → p x ≡ true → NonePasses (λ z. p z && not (is_htlc (key_at id_of c d.id) z)) s.book
        → t.book ≡ changed_first p decide (joined x s.book) → HavePayments id_of s
        → t.book ≡ left_out (is_htlc (key_at id_of c d.id)) s.book ++ decide x ∷ []
    decided_book d x p none base key hit others book k =
        let h0 : Incoming = record { channel = c; id = d.id } in
        book ∙ ap (changed_first p decide) (joins_so id_of one h0 x s.book key
        (none_entered d none base k))
        ∙ last_one p decide (left_out (is_htlc (key_of id_of h0)) s.book) x
        (others_left p (is_htlc (key_of id_of h0)) s.book others) hit

    -- its payment goes on, and of others the book has what it had
    decided_so : (d : LogDecision) (m : Mark) (x : Htlc) → Y.results ≡ X.results
        → Y.decisions ≡ X.decisions ++ d ∷ [] → mark_as d.mark ≡ Some m → find (λ e. e.id == d.id) X.decisions ≡ None
        → is_gone d.id (take X.log.first.own X.log.own) ≡ false → x.key ≡ key_at id_of c d.id
        → ((h : Incoming) → x.key ≡ key_of id_of h → (q : HasPayment id_of h s) → q.0.decision ≡ Undecided
        → IsOfLinks (origin id_of) h t.links (moved (move.Decide m) q.0) → HasPayment id_of h t)
        → ((h : Incoming) (o : Option Note) → same_key x.key (key_of id_of h) ≡ false → HasEntry id_of h s.book o
        → HasEntry id_of h t.book o) → HavePayments id_of s → HavePayments id_of t
    decided_so d m x r ds mark none base key mine theirs k h =
        elim (either (same_key x.key (key_of id_of h))) [
          | inl is ↦ here (key_is x.key (key_of id_of h) is)
          | inr isnt ↦ there isnt
        ]
      where
        here : x.key ≡ key_of id_of h → HasPayment id_of h t
        here at =
            let keys : key_at id_of c d.id ≡ key_of id_of h = sym key ∙ at in
            let chan : h.channel ≡ c = sym (one c h.channel (ap (λ (z : Key). z.channel) keys)) in
            let id : d.id ≡ h.id = ap (λ (z : Key). z.id) keys in
            let undecided_h : (k h).0.decision ≡ Undecided = (k h).1.of_links.decision
            ∙ ap (λ n. decision_at h.id (s.links.sides n)) chan ∙ ap (decision_at h.id) g.before
            ∙ sym (ap (λ i. decision_by (find (λ e. e.id == i) X.decisions)
            (is_gone i (take X.log.first.own X.log.own))) id)
            ∙ ap (λ o. decision_by o (is_gone d.id (take X.log.first.own X.log.own))) none
            ∙ ap (decision_by None) base in
            mine h at (k h) undecided_h
            (decides (origin id_of) h c X Y s.links t.links g d m l r ds (eq-eqb h.channel c chan) id mark
            (sym (ap (λ i. find (λ e. e.id == i) X.decisions) id) ∙ none) (k h).0 (k h).1.of_links)

        there : same_key x.key (key_of id_of h) ≡ false → HasPayment id_of h t
        there isnt = by_moves id_of h t (k h).0 ((k h).1.kept, (k h).1.holds) [] tt
            (decides_other (origin id_of) h c X Y s.links t.links g d l r ds (λ is. other is (d.id == h.id) refl)
            (k h).0
            (k h).1.of_links)
            (theirs h (k h).0.note isnt (k h).1.note)
          where
            other : (h.channel == c) ≡ true → (b : Bool) → (d.id == h.id) ≡ b → (d.id == h.id) ≡ false
            other is false e = e
            other is true e =
                let at : x.key ≡ key_of id_of h = key ∙ ap (key_at id_of c) (eqb-true d.id h.id e)
                ∙ ap (λ n. key_at id_of n h.id) (sym (eqb-true h.channel c is)) in
                let no : true ≡ false = sym (ap (same_key x.key) (sym at) ∙ is_key x.key) ∙ isnt in
                absurd (cc)

    -- the book has it as decided
    decided_noted : (d : LogDecision) (m : Mark) (x : Htlc) → mark_as d.mark ≡ Some m → x.key ≡ key_at id_of c d.id
        → x.mark ≡ d.mark → x.outgoing ≡ outgoing.Absent → x.incoming ≡ incoming.Open
        → filter (is_htlc (key_at id_of c d.id)) t.book ≡ decide x ∷ [] → (h : Incoming) → x.key ≡ key_of id_of h
        → (q : HasPayment id_of h s) → q.0.decision ≡ Undecided
        → IsOfLinks (origin id_of) h t.links (moved (move.Decide m) q.0) → HasPayment id_of h t
    decided_noted d m x mark key marked nowhere open_so here h at q undecided f =
        by_moves id_of h t q.0 (q.1.kept, q.1.holds) (move.Decide m ∷ []) (undecided, tt) f
        (subst (λ ys. AreEntries id_of ys (Some (begun_note m)))
        (sym (ap (λ z. filter (is_htlc z) t.book) (sym at ∙ key) ∙ here)) (
          refl,
          record {
            mark = ap mark_as marked ∙ mark;
            outgoing = subst (λ w. IsOutgoingOf id_of w Absent) (sym nowhere) tt;
            incoming = ap incoming_as open_so;
          },
        ))

    -- it joins
    pub decided : (d : LogDecision) (m : Mark) (x : Htlc) (p : Htlc → Bool) → Y.results ≡ X.results
        → Y.decisions ≡ X.decisions ++ d ∷ [] → mark_as d.mark ≡ Some m → find (λ e. e.id == d.id) X.decisions ≡ None
        → is_gone d.id (take X.log.first.own X.log.own) ≡ false
        → x.key ≡ key_at id_of c d.id → x.mark ≡ d.mark → x.outgoing ≡ outgoing.Absent → x.incoming ≡ incoming.Open
        → p x ≡ true → NonePasses (λ z. p z && not (is_htlc (key_at id_of c d.id) z)) s.book
        → t.book ≡ changed_first p decide (joined x s.book) → HavePayments id_of s → HavePayments id_of t
    decided d m x p r ds mark none base key marked nowhere open_so hit others book k =
        decided_so d m x r ds mark none base key
        (decided_noted d m x mark key marked nowhere open_so
        (ap (filter (is_htlc (key_at id_of c d.id))) book_now ∙ joins_here id_of one h0 (decide x) s.book key))
        (λ h o isnt e. subst (λ xs. HasEntry id_of h xs o)
        (joins_so id_of one h0 (decide x) s.book key (none_entered d none base k) ∙ sym book_now)
        (joins_there id_of one h (decide x) s.book o isnt e)) k
      where
        h0 : Incoming
        h0 = record { channel = c; id = d.id }

        book_now : t.book ≡ left_out (is_htlc (key_of id_of h0)) s.book ++ decide x ∷ []
        book_now = decided_book d x p none base key hit others book k

    -- or it was there, and waited
    pub waited : (d : LogDecision) (x : Htlc) → x.key ≡ key_at id_of c d.id → x.decided ≡ false → IsIn x s.book
        → HavePayments id_of s → filter (is_htlc (key_at id_of c d.id)) s.book ≡ x ∷ []
    waited d x key undecided waits k =
        let h0 : Incoming = record { channel = c; id = d.id } in
        (waiting_entry s.book h0 x (k h0).0.note waits undecided key (k h0).1.note).1

    pub decided_waiting : (d : LogDecision) (m : Mark) (x : Htlc) (p : Htlc → Bool) → Y.results ≡ X.results
        → Y.decisions ≡ X.decisions ++ d ∷ [] → mark_as d.mark ≡ Some m → find (λ e. e.id == d.id) X.decisions ≡ None
        → is_gone d.id (take X.log.first.own X.log.own) ≡ false
        → x.key ≡ key_at id_of c d.id → x.mark ≡ d.mark → x.outgoing ≡ outgoing.Absent → x.incoming ≡ incoming.Open
        → x.decided ≡ false → p x ≡ true → NonePasses (λ z. p z && not (is_htlc (key_at id_of c d.id) z)) s.book
        → IsIn x s.book → t.book ≡ changed_first p decide s.book → HavePayments id_of s → HavePayments id_of t
    decided_waiting d m x p r ds mark none base key marked nowhere open_so undecided hit others waits book k =
        decided_so d m x r ds mark none base key
        (decided_noted d m x mark key marked nowhere open_so
        (decides_it s.book t.book h0 x p key others book hit (waited d x key undecided waits k)))
        (decides_no_other s.book t.book h0 x p key others book) k
      where
        h0 : Incoming
        h0 = record { channel = c; id = d.id }

    -- and the book doesn't hear of it yet
    pub taken_unheard : (d : LogDecision) (m : Mark) (x : Htlc) → Y.results ≡ X.results
        → Y.decisions ≡ X.decisions ++ d ∷ [] → mark_as d.mark ≡ Some m → find (λ e. e.id == d.id) X.decisions ≡ None
        → is_gone d.id (take X.log.first.own X.log.own) ≡ false → x.key ≡ key_at id_of c d.id → t.book ≡ s.book
        → HavePayments id_of s → HavePayments id_of t
    taken_unheard d m x r ds mark none base key book k =
        decided_so d m x r ds mark none base key
        (λ h at q undecided f. by_moves id_of h t q.0 (q.1.kept, q.1.holds) (move.Take m ∷ []) (undecided, tt)
        (record { decision = f.decision; removal = f.removal; outs = f.outs; halted = f.halted })
        (subst (λ xs. HasEntry id_of h xs q.0.note) (sym book) q.1.note))
        (λ h o isnt e. subst (λ xs. HasEntry id_of h xs o) (sym book) e) k

    -- ---- a result is forgotten

    pub forgotten : (v : Services) (x : Htlc) (h0 : Incoming) (y : Command) (j : ℕ) → IsIn x s.book → x.decided ≡ true
        → x.key ≡ key_of id_of h0 → is_settled x.incoming ≡ true → is_resolved_in (id_of c) x.outgoing ≡ true
        → forget_by x.outgoing ≡ Some y → y ≡ command.Forget j → Y.results ≡ filter (λ z. not (z.id == j)) X.results
        → Y.decisions ≡ X.decisions → t.book ≡ left_out (is_htlc x.key) s.book → HavePayments id_of s
        → HavePayments id_of t
    forgotten v x h0 y j m dec key0 settled over asked so r ds book k h =
        elim (either (same_key x.key (key_of id_of h))) [
          | inl is ↦ here (key_is x.key (key_of id_of h) is)
          | inr isnt ↦ there isnt
        ]
      where
        -- its outgoing HTLC is there
        has_at : (f : Incoming) → x.key ≡ key_of id_of f → HasAdd (origin id_of f) j X.log
        has_at f key =
            let n = note_of id_of f s (k f) x m dec key in
            let a = asks_of id_of v x n.0 n.2 (id_of c) over y asked in
            let id : a.1 ≡ j = (let e : ◌≡◌ {A = Command} (command.Forget a.1) (command.Forget j) = sym a.5
            ∙ so in cc) in
            let kept : IsOver n.0.outgoing (k f).0.outs =
            subst (λ o. ForNote (λ z. IsOver z.outgoing (k f).0.outs) o) n.1 (k f).1.kept.over in
            subst (HasAddAt (origin id_of f) j) g.before
            (found f (k f).0.outs (k f).1.of_links.outs a.0 a.1 a.2 (sym (one c a.0 a.4)) id
            (subst (λ w. IsOver w (k f).0.outs) a.3 kept))
          where
            found : (f : Incoming) (os : List Out) → AreOuts (origin id_of) f s.links os → (e i : ℕ) (n : Kind)
                → e ≡ c → i ≡ j
                → Among (λ o. IsAt e i o × HasEnded n o) os → HasAddAt (origin id_of f) j (s.links.sides c)
            found f [] o e i n at id a = absurd a
            found f (q ∷ r ∷ os) o e i n at id a = absurd o
            found f (q ∷ []) o e i n at id (inr a) = absurd a
            found f (q ∷ []) o e i n at id (inl a) =
                subst (λ z. HasAddAt (origin id_of f) z (s.links.sides c)) (a.0.1 ∙ id)
                (subst (λ z. HasAddAt (origin id_of f) q.id (s.links.sides z)) (a.0.0 ∙ at) o.0)

        here : x.key ≡ key_of id_of h → HasPayment id_of h t
        here key =
            let n = note_of id_of h s (k h) x m dec key in
            let may : IsSettled (k h).0.note = subst IsSettled (sym n.1) (asks_to_forget id_of x n.0 n.2 settled) in
            let f = forgets (origin id_of) h c X Y s.links t.links g j l r ds (has_at h key) (k h).0 (k h).1.of_links in
            by_moves id_of h t (k h).0 ((k h).1.kept, (k h).1.holds) (move.Forget c j ∷ move.Close ∷ [])
            (may, (may, tt))
            (record { decision = f.decision; removal = f.removal; outs = f.outs; halted = f.halted })
            (subst (λ xs. HasEntry id_of h xs None)
            (sym (book ∙ ap (λ z. left_out (is_htlc z) s.book) key))
            (left_here id_of h s.book))

        there : same_key x.key (key_of id_of h) ≡ false → HasPayment id_of h t
        there isnt = by_moves id_of h t (k h).0 ((k h).1.kept, (k h).1.holds) [] tt
            (forgets_other (origin id_of) h c X Y s.links t.links g j l r ds
            (λ a. none (alike (add_with j X.log.own) a (has_at h0 key0))) (k h).0 (k h).1.of_links)
            (subst (λ xs. HasEntry id_of h xs (k h).0.note) (sym book)
            (left_there id_of h x.key isnt s.book (k h).0.note (k h).1.note))
          where
            alike : (o : Option _) → Forwards (origin id_of h) o → Forwards (origin id_of h0) o
                → origin id_of h ≡ origin id_of h0
            alike None a b = absurd a
            alike (Some z) a b =
                let e : ◌≡◌ {A = Option (List ℕ × ℕ)} (Some (origin id_of h)) (Some (origin id_of h0)) = sym a ∙ b in
                let is : ◌≡◌ {A = List ℕ × ℕ} (origin id_of h) (origin id_of h0) = cc in is

            none : origin id_of h ≡ origin id_of h0 → ⊥
            none e =
                let at : x.key ≡ key_of id_of h = key0 ∙ sym (same_origin h h0 e) in
                let no : true ≡ false = sym (ap (same_key x.key) (sym at) ∙ is_key x.key) ∙ isnt in
                absurd (cc)

  -- ---- the book hears of a decision that was taken

  pub heard : (s t : Scene) → t.links ≡ s.links → (c i : ℕ) (x : Htlc) (m : Mark) (p : Htlc → Bool)
      → x.key ≡ key_at id_of c i → mark_as x.mark ≡ Some m → x.decided ≡ false → x.outgoing ≡ outgoing.Absent
      → x.incoming ≡ incoming.Open → decision_at i (s.links.sides c) ≡ Decided m
      → removal_at i (s.links.sides c) ≡ NoRemoval → p x ≡ true
      → NonePasses (λ z. p z && not (is_htlc (key_at id_of c i) z)) s.book → IsIn x s.book
      → t.book ≡ changed_first p decide s.book → HavePayments id_of s → HavePayments id_of t
  heard s t same_links c i x m p key marked undecided nowhere open_so decided none hit others waits book k h =
      elim (either (same_key x.key (key_of id_of h))) [
        | inl is ↦ here (key_is x.key (key_of id_of h) is)
        | inr isnt ↦ by_moves id_of h t (k h).0 ((k h).1.kept, (k h).1.holds) [] tt links_now
            (decides_no_other s.book t.book h0 x p key others book h (k h).0.note isnt (k h).1.note)
      ]
    where
      h0 : Incoming
      h0 = record { channel = c; id = i }

      links_now : IsOfLinks (origin id_of) h t.links (k h).0
      links_now = subst (λ n. IsOfLinks (origin id_of) h n (k h).0) (sym same_links) (k h).1.of_links

      here : x.key ≡ key_of id_of h → HasPayment id_of h t
      here at =
          let keys : key_at id_of c i ≡ key_of id_of h = sym key ∙ at in
          let chan : h.channel ≡ c = sym (one c h.channel (ap (λ (z : Key). z.channel) keys)) in
          let id : h.id ≡ i = sym (ap (λ (z : Key). z.id) keys) in
          let alone = waiting_entry s.book h x (k h).0.note waits undecided at (k h).1.note in
          let is_decided_so : (k h).0.decision ≡ Decided m = (k h).1.of_links.decision
          ∙ ap (λ n. decision_at h.id (s.links.sides n)) chan ∙ ap (λ n. decision_at n (s.links.sides c)) id
          ∙ decided in
          let nothing : (k h).0.removal ≡ NoRemoval = (k h).1.of_links.removal
          ∙ ap (λ n. removal_at h.id (s.links.sides n)) chan ∙ ap (λ n. removal_at n (s.links.sides c)) id ∙ none in
          by_moves id_of h t (k h).0 ((k h).1.kept, (k h).1.holds) (move.Hear m ∷ [])
          ((subst (IsDecided m) (sym is_decided_so) refl, alone.0, nothing), tt)
          (record {
            decision = links_now.decision;
            removal = links_now.removal;
            outs = links_now.outs;
            halted = links_now.halted;
          })
          (subst (λ ys. AreEntries id_of ys (Some (begun_note m)))
          (sym (decides_it s.book t.book h x p at
          (subst (λ z. NonePasses (λ y. p y && not (is_htlc z y)) s.book) keys others) book hit alone.1)) (
            refl,
            record {
              mark = marked;
              outgoing = subst (λ w. IsOutgoingOf id_of w Absent) (sym nowhere) tt;
              incoming = ap incoming_as open_so;
            },
          ))

  -- ---- a command is refused

  module _ (s t : Scene) (same_links : t.links ≡ s.links) (x : Htlc) (m : IsIn x s.book) (dec : x.decided ≡ true) where
    links_so : (h : Incoming) (p : Payment) → IsOfLinks (origin id_of) h s.links p
        → IsOfLinks (origin id_of) h t.links p
    links_so h p k = subst (λ n. IsOfLinks (origin id_of) h n p) (sym same_links) k

    book_so : (h : Incoming) (xs : List Htlc) (o : Option Note) → t.book ≡ xs
        → HasEntry id_of h xs o → HasEntry id_of h t.book o
    book_so h xs o is k = subst (λ ys. HasEntry id_of h ys o) (sym is) k

    -- the payment goes on, and what the book has of others stays
    goes_on : (f : Key → List Htlc → List Htlc) → t.book ≡ f x.key s.book
        → ((h : Incoming) (o : Option Note) → same_key x.key (key_of id_of h) ≡ false
        → HasEntry id_of h s.book o → HasEntry id_of h (f x.key s.book) o)
        → ((h : Incoming) → HasPayment id_of h s → x.key ≡ key_of id_of h → HasPayment id_of h t)
        → HavePayments id_of s → HavePayments id_of t
    goes_on f book others here k h = elim (either (same_key x.key (key_of id_of h))) [
      | inl is ↦ here h (k h) (key_is x.key (key_of id_of h) is)
      | inr isnt ↦ by_moves id_of h t (k h).0 ((k h).1.kept, (k h).1.holds) [] tt (links_so h (k h).0 (k h).1.of_links)
          (book_so h (f x.key s.book) (k h).0.note book
          (others h (k h).0.note isnt (k h).1.note))
    ]

    -- an add: the HTLC that came in is to be failed
    pub add_refused : is_settled x.incoming ≡ false → has_nothing_offered x.outgoing ≡ true → (d : List ℕ)
        → forwards_in d x.mark ≡ true
        → t.book ≡ with_outgoing x.key outgoing.Refused s.book → HavePayments id_of s → HavePayments id_of t
    add_refused uns now d fwd book = goes_on (λ key. with_outgoing key outgoing.Refused) book
        (λ h o isnt. outgoing_there id_of h x.key isnt s.book o outgoing.Refused) here
      where
        here : (h : Incoming) → HasPayment id_of h s → x.key ≡ key_of id_of h → HasPayment id_of h t
        here h k key =
            let n = note_of id_of h s k x m dec key in
            let f = links_so h k.0 k.1.of_links in
            by_moves id_of h t k.0 (k.1.kept, k.1.holds) (move.Refuse ∷ [])
            (subst Offers (sym n.1) (asks_to_offer id_of x n.0 n.2 d uns now fwd), tt)
            (record { decision = f.decision; removal = f.removal; outs = f.outs; halted = f.halted })
            (book_so h (with_outgoing (key_of id_of h) outgoing.Refused s.book) (move.with_outgoing Refused k.0.note)
            (book ∙ ap (λ z. with_outgoing z outgoing.Refused s.book) key)
            (outgoing_here id_of h s.book k.0.note outgoing.Refused Refused tt k.1.note))

    -- an add, where the book lets go of it
    pub add_left : is_settled x.incoming ≡ false → has_nothing_offered x.outgoing ≡ true → (d : List ℕ)
        → forwards_in d x.mark ≡ true
        → t.book ≡ left_out (is_htlc x.key) s.book → HavePayments id_of s → HavePayments id_of t
    add_left uns now d fwd book = goes_on (λ key. left_out (is_htlc key)) book
        (λ h o isnt. left_there id_of h x.key isnt s.book o) here
      where
        here : (h : Incoming) → HasPayment id_of h s → x.key ≡ key_of id_of h → HasPayment id_of h t
        here h k key =
            let n = note_of id_of h s k x m dec key in
            let f = links_so h k.0 k.1.of_links in
            by_moves id_of h t k.0 (k.1.kept, k.1.holds) (move.Leave ∷ [])
            (subst Offers (sym n.1) (asks_to_offer id_of x n.0 n.2 d uns now fwd), tt)
            (record { decision = f.decision; removal = f.removal; outs = f.outs; halted = f.halted })
            (book_so h (left_out (is_htlc (key_of id_of h)) s.book) None
            (book ∙ ap (λ z. left_out (is_htlc z) s.book) key)
            (left_here id_of h s.book))

    -- a removal: another one is not asked for
    pub removal_refused : (v : Services) (y : Command) → is_open x.incoming ≡ true → removal_by v x x.mark ≡ Some y
        → t.book ≡ with_incoming x.key incoming.RemovalRefused s.book → HavePayments id_of s → HavePayments id_of t
    removal_refused v y unsent asked book = goes_on (λ key. with_incoming key incoming.RemovalRefused) book
        (λ h o isnt. back_there id_of h x.key isnt s.book o incoming.RemovalRefused) here
      where
        here : (h : Incoming) → HasPayment id_of h s → x.key ≡ key_of id_of h → HasPayment id_of h t
        here h k key =
            let n = note_of id_of h s k x m dec key in
            let asks = asks_to_remove id_of v x n.0 n.2 y unsent asked in
            let f = links_so h k.0 k.1.of_links in
            by_moves id_of h t k.0 (k.1.kept, k.1.holds) (move.GiveUp asks.0 ∷ [])
            (subst (Removes asks.0) (sym n.1) asks.2, tt)
            (record { decision = f.decision; removal = f.removal; outs = f.outs; halted = f.halted })
            (book_so h (with_incoming (key_of id_of h) incoming.RemovalRefused s.book)
            (move.with_incoming RemovalRefused k.0.note)
            (book ∙ ap (λ z. with_incoming z incoming.RemovalRefused s.book) key)
            (back_here id_of h s.book k.0.note incoming.RemovalRefused k.1.note))

    -- a result that isn't there: the book lets go
    pub forget_refused : is_settled x.incoming ≡ true → t.book ≡ left_out (is_htlc x.key) s.book → HavePayments id_of s
        → HavePayments id_of t
    forget_refused settled book = goes_on (λ key. left_out (is_htlc key)) book
        (λ h o isnt. left_there id_of h x.key isnt s.book o) here
      where
        here : (h : Incoming) → HasPayment id_of h s → x.key ≡ key_of id_of h → HasPayment id_of h t
        here h k key =
            let n = note_of id_of h s k x m dec key in
            let f = links_so h k.0 k.1.of_links in
            by_moves id_of h t k.0 (k.1.kept, k.1.holds) (move.Close ∷ [])
            (subst IsSettled (sym n.1) (asks_to_forget id_of x n.0 n.2 settled), tt)
            (record { decision = f.decision; removal = f.removal; outs = f.outs; halted = f.halted })
            (book_so h (left_out (is_htlc (key_of id_of h)) s.book) None
            (book ∙ ap (λ z. left_out (is_htlc z) s.book) key)
            (left_here id_of h s.book))
