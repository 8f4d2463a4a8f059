-- What an end that halts leaves of a payment; and a decision that it doesn't take.
use Rattle.std.proofs.Common.{◌≡◌, inl, inr, ℕ, List, [], ◌∷◌, ◌++◌, filter, sym, ap, ◌∙◌, subst}
use Rattle.std.proofs.Common.{Bool, true, false, cond, not, ◌==◌, ◌&&◌, ◌||◌, None}
use Rattle.ln_book_tables.specs.declared.htlc.Key.{Key}
use Rattle.ln_book_tables.specs.declared.htlc.Htlc.{Htlc}
use Rattle.ln_book_tables.specs.Replay.{same_key, is_htlc, left_out, joined}
use Rattle.ln_payment.specs.Parts.{Decision, Undecided, Decided, Past, Payment}
use Rattle.ln_payment.specs.Moves.{Move, is_of}
use Rattle.ln_payment.specs.Moves as move
use Rattle.ln_payment.proofs.Invariant.{IsKept, IsEarly}
use Rattle.ln_payment_circuits.specs.Snapshot.{Incoming, key_at, key_of, origin, NonePasses}
use Rattle.ln_payment_circuits.proofs.Links.{IsOfLinks, decision_at}
use Rattle.ln_payment_circuits.proofs.Losses.{Drops, halts_here, halts_elsewhere}
use Rattle.ln_payment_circuits.proofs.Entries.{key_is, IsEntry, AreEntries, HasEntry, joins_so, joins_here, joins_there}
use Rattle.ln_payment_circuits.proofs.Entries.{left_here, left_there}
use Rattle.ln_payment_circuits.proofs.Scenes.{Scene, HasPayment, HavePayments, by_moves}
use Rattle.ln_payment_circuits.proofs.Answers.{others_left}
use Rattle.ln_payment_circuits.proofs.Lists.{either}

pub no_note : (p : Payment) → IsKept p → p.decision ≡ Undecided → p.note ≡ None
no_note p k is = cases p.decision is k.early
  where
    cases : (z : Decision) → z ≡ Undecided → IsEarly z p.removal p.outs p.note → p.note ≡ None
    cases Undecided e f = f.2
    cases (Decided n) e f = absurd (cc)
    cases Past e f = absurd (cc)

module _ (id_of : ℕ → List ℕ) (one : (c d : ℕ) → id_of c ≡ id_of d → c ≡ d) where
  -- a decision that the end hasn't taken enters the book
  pub enters_undecided : (s : Scene) (c i : ℕ) (x : Htlc) → x.key ≡ key_at id_of c i → x.decided ≡ false
      → decision_at i (s.links.sides c) ≡ Undecided → (k : HavePayments id_of s) (h : Incoming)
      → HasEntry id_of h (joined x s.book) (k h).0.note
  enters_undecided s c i x key dec none k h = elim (either (same_key x.key (key_of id_of h))) [
    | inl is ↦ here (key_is x.key (key_of id_of h) is)
    | inr isnt ↦ joins_there id_of one h x s.book (k h).0.note isnt (k h).1.note
  ]
    where
      here : x.key ≡ key_of id_of h → HasEntry id_of h (joined x s.book) (k h).0.note
      here at =
          let keys : key_at id_of c i ≡ key_of id_of h = sym key ∙ at in
          let chan : h.channel ≡ c = sym (one c h.channel (ap (λ (z : Key). z.channel) keys)) in
          let id : h.id ≡ i = sym (ap (λ (z : Key). z.id) keys) in
          let is_none : (k h).0.note ≡ None = no_note (k h).0 (k h).1.kept ((k h).1.of_links.decision
          ∙ ap (λ n. decision_at h.id (s.links.sides n)) chan ∙ ap (λ n. decision_at n (s.links.sides c)) id ∙ none) in
          let had : HasEntry id_of h s.book None = subst (λ o. HasEntry id_of h s.book o) is_none (k h).1.note in
          subst (λ ys. AreEntries id_of ys (k h).0.note)
          (sym (ap (filter (is_htlc (key_of id_of h))) (joins_so id_of one h x s.book at had)
          ∙ joins_here id_of one h x s.book at))
          (subst (λ o. IsEntry id_of x o) (sym is_none) dec)

  module _ (s t : Scene) (c : ℕ) (g : Drops (is_of c) s.links t.links)
      (now : (d : ℕ) → t.links.halted d ≡ ((d == c) || s.links.halted d)) where
    goes : (h : Incoming) (k : HasPayment id_of h s) → HasEntry id_of h t.book k.0.note → HasPayment id_of h t
    goes h k note = elim (either (h.channel == c)) [
      | inl is ↦ by_moves id_of h t k.0 (k.1.kept, k.1.holds) (move.Halt c ∷ move.DropRemoval ∷ []) (tt, (tt, tt))
          (halts_here (origin id_of) h s.links t.links c g now is k.0 k.1.of_links) note
      | inr isnt ↦ by_moves id_of h t k.0 (k.1.kept, k.1.holds) (move.Halt c ∷ []) (tt, tt)
          (halts_elsewhere (origin id_of) h s.links t.links c g now isnt k.0 k.1.of_links) note
    ]

    -- the book hears of nothing
    pub halts : t.book ≡ s.book → HavePayments id_of s → HavePayments id_of t
    halts book k h = goes h (k h) (subst (λ xs. HasEntry id_of h xs (k h).0.note) (sym book) (k h).1.note)

    -- a decision is in the book, and the end hasn't taken it
    pub halts_undecided : (i : ℕ) (x : Htlc) → x.key ≡ key_at id_of c i → x.decided ≡ false
        → decision_at i (s.links.sides c) ≡ Undecided → t.book ≡ joined x s.book → HavePayments id_of s
        → HavePayments id_of t
    halts_undecided i x key dec none book k h = goes h (k h)
        (subst (λ xs. HasEntry id_of h xs (k h).0.note) (sym book) (enters_undecided s c i x key dec none k h))

-- ---- a decision is refused for good

left-last : (p : Htlc → Bool) (xs : List Htlc) (x : Htlc) → NonePasses p xs → p x ≡ true
    → left_out p (xs ++ x ∷ []) ≡ xs
left-last p [] x n is = ap (λ b. cond (not b) (x ∷ []) []) is
left-last p (y ∷ xs) x n is = ap (λ b. cond (not b) (y ∷ left_out p (xs ++ x ∷ [])) (left_out p (xs ++ x ∷ []))) n.0
    ∙ ap (λ ys. y ∷ ys) (left-last p xs x n.1 is)

module _ (id_of : ℕ → List ℕ) (one : (c d : ℕ) → id_of c ≡ id_of d → c ≡ d) (s t : Scene)
    (same_links : t.links ≡ s.links)
    (c i : ℕ) (x : Htlc) (key : x.key ≡ key_at id_of c i) (none : decision_at i (s.links.sides c) ≡ Undecided)
    (p : Htlc → Bool) (hit : p x ≡ true) (others : NonePasses (λ z. p z && not (is_htlc (key_at id_of c i) z)) s.book)
    (book : t.book ≡ left_out p (joined x s.book)) where
  abbrev h0 : Incoming
  h0 = record { channel = c; id = i }

  pub decision_refused : HavePayments id_of s → HavePayments id_of t
  decision_refused k h = by_moves id_of h t (k h).0 ((k h).1.kept, (k h).1.holds) [] tt
      (subst (λ n. IsOfLinks (origin id_of) h n (k h).0) (sym same_links) (k h).1.of_links)
      (subst (λ xs. HasEntry id_of h xs (k h).0.note) (sym book_now)
      (elim (either (same_key (key_of id_of h0) (key_of id_of h))) [
        | inl is ↦ here (key_is (key_of id_of h0) (key_of id_of h) is)
        | inr isnt ↦ left_there id_of h (key_of id_of h0) isnt s.book (k h).0.note (k h).1.note
      ]))
    where
      is_none : (k h0).0.note ≡ None
      is_none = no_note (k h0).0 (k h0).1.kept ((k h0).1.of_links.decision ∙ none)

      had : HasEntry id_of h0 s.book None
      had = subst (λ o. HasEntry id_of h0 s.book o) is_none (k h0).1.note

      book_now : t.book ≡ left_out (is_htlc (key_of id_of h0)) s.book
      book_now = book ∙ ap (left_out p) (joins_so id_of one h0 x s.book key had)
          ∙ left-last p (left_out (is_htlc (key_of id_of h0)) s.book) x
          (others_left p (is_htlc (key_of id_of h0)) s.book others) hit

      here : key_of id_of h0 ≡ key_of id_of h
          → HasEntry id_of h (left_out (is_htlc (key_of id_of h0)) s.book) (k h).0.note
      here at =
          let chan : h.channel ≡ c = sym (one c h.channel (ap (λ (z : Key). z.channel) at)) in
          let id : h.id ≡ i = sym (ap (λ (z : Key). z.id) at) in
          let gone : (k h).0.note ≡ None = no_note (k h).0 (k h).1.kept ((k h).1.of_links.decision
          ∙ ap (λ n. decision_at h.id (s.links.sides n)) chan ∙ ap (λ n. decision_at n (s.links.sides c)) id ∙ none) in
          subst (λ o. HasEntry id_of h (left_out (is_htlc (key_of id_of h0)) s.book) o) (sym gone)
          (subst (λ z. HasEntry id_of h (left_out (is_htlc z) s.book) None) (sym at) (left_here id_of h s.book))
