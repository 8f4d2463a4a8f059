-- What an end holds, by the numbers of its events: each was decided, and stands for one HTLC.
use Rattle.std.proofs.Common.{◌≡◌, ◌⊎◌, inl, inr, ℕ, suc, ◌+◌, ◌≤◌, ◌<◌, List, [], ◌∷◌, ◌++◌, filter, map, refl, sym}
use Rattle.std.proofs.Common.{ap, ◌∙◌}
use Rattle.std.proofs.Common.{arith, Bool, true, false, cond, ◌==◌, ◌||◌, Option, Some, None}
use Rattle.std.specs.List.{find, list_any}
use Rattle.std.proofs.lemmas.Bool.{eqb-true, eq-eqb}
use Rattle.ln_log.specs.declared.mark.Decision.{Decision}
use Rattle.ln_log.specs.declared.mark.Mark.{Mark}
use Rattle.ln_log.specs.declared.mark.Mark.TheVariants as mark
use Rattle.ln_log.specs.Mark.{is_held_by}
use Rattle.ln_channel.specs.Ledger.{is_of_event, is_held_at, is_answer, with_mark}
use Rattle.ln_payment_circuits.specs.Snapshot.{IsIn}
use Rattle.ln_payment_circuits.proofs.Lists.{of_picked}
use Rattle.ln_payment_circuits.proofs.Rising.{IsRising}

pub record AreHeld (decided : ℕ) (ds : List Decision) : Type 0 where
  pub below : (n : ℕ) (d : Decision) → IsIn d ds → is_held_by n d.mark ≡ true → n < decided
  pub one : (n : ℕ) (d e : Decision) → IsIn d ds → IsIn e ds → is_held_by n d.mark ≡ true
      → is_held_by n e.mark ≡ true → d.id ≡ e.id

pub held_begun : (n : ℕ) → AreHeld n []
held_begun n = record { below = λ k d m h. absurd m; one = λ k d e m l h i. absurd m }

pub held_later : (n m : ℕ) (ds : List Decision) → n ≤ m → AreHeld n ds → AreHeld m ds
held_later n m ds le h = record {
  below = λ k d a b. let lt = h.below k d a b in omega (arith, le, lt);
  one = h.one;
}

-- where fewer are
pub held_fewer : (n : ℕ) (ds es : List Decision)
    → ((d : Decision) (k : ℕ) → IsIn d es → is_held_by k d.mark ≡ true → IsIn d ds) → AreHeld n ds → AreHeld n es
held_fewer n ds es from h = record {
  below = λ k d a b. h.below k d (from d k a b) b;
  one = λ k d e a b x y. h.one k d e (from d k a x) (from e k b y) x y;
}

pub held_filter : (n : ℕ) (f : Decision → Bool) (ds : List Decision) → AreHeld n ds → AreHeld n (filter f ds)
held_filter n f ds h = held_fewer n ds (filter f ds) (λ d k a b. of_picked f d ds a) h

-- ---- one joins them

pub among_last : {A : Type 0} (d x : A) (ds : List A) → IsIn d (ds ++ x ∷ []) → IsIn d ds ⊎ (x ≡ d)
among_last d x [] (inl e) = inr e
among_last d x [] (inr e) = absurd e
among_last d x (y ∷ ds) (inl e) = inl (inl e)
among_last d x (y ∷ ds) (inr m) = elim (among_last d x ds m) [
  | inl k ↦ inl (inr k)
  | inr e ↦ inr e
]

of_event : (n k : ℕ) (m : Mark) → is_of_event n m ≡ true → is_held_by k m ≡ true → k ≡ n
of_event n k mark.None e f = absurd (cc)
of_event n k (mark.Forward channel amount expiry) e f = absurd (cc)
of_event n k (mark.Fail reason) e f = absurd (cc)
of_event n k (mark.Malformed code) e f = absurd (cc)
of_event n k (mark.Fulfil preimage) e f = absurd (cc)
of_event n k (mark.Held j) e f = eqb-true k j f ∙ sym (eqb-true n j e)

pub held_joins : (n : ℕ) (ds : List Decision) (x : Decision) → is_of_event n x.mark ≡ true → AreHeld n ds
    → AreHeld (n + 1) (ds ++ x ∷ [])
held_joins n ds x own h = record {
  below = λ k d a b. elim (among_last d x ds a) [
    | inl old ↦ let lt = h.below k d old b in omega (arith, lt)
    | inr new ↦ let is = of_event n k x.mark own (ap (λ (z : Decision). is_held_by k z.mark) new ∙ b) in
        omega (arith, is)
  ];
  one = λ k d e a b u v. elim (among_last d x ds a) [
    | inl old ↦ elim (among_last e x ds b) [
      | inl also ↦ h.one k d e old also u v
      | inr new ↦ let lt = h.below k d old u in
          let is = of_event n k x.mark own (ap (λ (z : Decision). is_held_by k z.mark) new ∙ v) in
          absurd (omega (arith, lt, is))
    ]
    | inr new ↦ elim (among_last e x ds b) [
      | inl old ↦ let lt = h.below k e old v in
          let is = of_event n k x.mark own (ap (λ (z : Decision). is_held_by k z.mark) new ∙ u) in
          absurd (omega (arith, lt, is))
      | inr also ↦ ap (λ (z : Decision). z.id) (sym new ∙ also)
    ]
  ];
}

-- ---- one is resumed

pub answer_unheld : (k : ℕ) (m : Mark) → is_answer m ≡ true → is_held_by k m ≡ false
answer_unheld k mark.None e = refl
answer_unheld k (mark.Forward channel amount expiry) e = refl
answer_unheld k (mark.Fail reason) e = refl
answer_unheld k (mark.Malformed code) e = refl
answer_unheld k (mark.Fulfil preimage) e = refl
answer_unheld k (mark.Held j) e = absurd (cc)

pub among_marked : (n : ℕ) (m : Mark) (ds : List Decision) (d : Decision) → IsIn d (with_mark n m ds)
    → IsIn d ds ⊎ (d.mark ≡ m)
among_marked n m [] d a = absurd a
among_marked n m (x ∷ xs) d a = cases (is_held_at n x) a (λ r. among_marked n m xs d r)
  where
    cases : (b : Bool) → IsIn d (cond b (record { id = x.id; mark = m } ∷ xs) (x ∷ with_mark n m xs))
        → (IsIn d (with_mark n m xs) → IsIn d xs ⊎ (d.mark ≡ m)) → IsIn d (x ∷ xs) ⊎ (d.mark ≡ m)
    cases true (inl e) rest = inr (ap (λ (z : Decision). z.mark) (sym e))
    cases true (inr k) rest = inl (inr k)
    cases false (inl e) rest = inl (inl e)
    cases false (inr k) rest = elim (rest k) [
      | inl old ↦ inl (inr old)
      | inr e ↦ inr e
    ]

-- of which it was one
pub marked_of : (n : ℕ) (m : Mark) (ds : List Decision) (d : Decision) → IsIn d (with_mark n m ds)
    → IsIn d ds ⊎ ((d.mark ≡ m) × (e : Decision) × IsIn e ds × (is_held_at n e ≡ true) × (e.id ≡ d.id))
marked_of n m [] d a = absurd a
marked_of n m (x ∷ xs) d a = cases (is_held_at n x) refl a (λ r. marked_of n m xs d r)
  where
    cases : (b : Bool) → is_held_at n x ≡ b
        → IsIn d (cond b (record { id = x.id; mark = m } ∷ xs) (x ∷ with_mark n m xs))
        → (IsIn d (with_mark n m xs)
        → IsIn d xs ⊎ ((d.mark ≡ m) × (e : Decision) × IsIn e xs × (is_held_at n e ≡ true) × (e.id ≡ d.id)))
        → IsIn d (x ∷ xs) ⊎ ((d.mark ≡ m) × (e : Decision) × IsIn e (x ∷ xs) × (is_held_at n e ≡ true) × (e.id ≡ d.id))
    cases true is (inl e) rest = inr (
      ap (λ (z : Decision). z.mark) (sym e),
      x,
      inl refl,
      is,
      ap (λ (z : Decision). z.id) e,
    )
    cases true is (inr k) rest = inl (inr k)
    cases false is (inl e) rest = inl (inl e)
    cases false is (inr k) rest = elim (rest k) [
      | inl old ↦ inl (inr old)
      | inr r ↦ inr (r.0, r.1, inr r.2, r.3, r.4)
    ]

pub held_resumes : (n event : ℕ) (m : Mark) (ds : List Decision) → is_answer m ≡ true → AreHeld n ds
    → AreHeld n (with_mark event m ds)
held_resumes n event m ds answers h = held_fewer n ds (with_mark event m ds)
    (λ d k a b. elim (among_marked event m ds d a) [
      | inl old ↦ old
      | inr is ↦ absurd (let no : true ≡ false = sym b ∙ ap (is_held_by k) is ∙ answer_unheld k m answers in cc)
    ]) h

-- one of each id is found
abbrev pub marked_as : ℕ → Mark → Option Decision → Option Decision
marked_as n m None = None
marked_as n m (Some d) = cond (is_held_at n d) (Some (record { id = d.id; mark = m })) (Some d)

pub found_among : {A : Type 0} (f : A → Bool) (xs : List A) (x : A) → find f xs ≡ Some x → IsIn x xs × (f x ≡ true)
found_among f [] x e = absurd (cc)
found_among f (y ∷ ys) x e = cases (f y) refl e (λ r. found_among f ys x r)
  where
    cases : (b : Bool) → f y ≡ b → cond b (Some y) (find f ys) ≡ Some x
        → (find f ys ≡ Some x → IsIn x ys × (f x ≡ true))
        → IsIn x (y ∷ ys) × (f x ≡ true)
    cases true is g rest = let same : y ≡ x = cc in (inl same, ap f (sym same) ∙ is)
    cases false is g rest = let r = rest g in (inr r.0, r.1)

pub marked_find : (n : ℕ) (m : Mark) (i : ℕ) (ds : List Decision)
    → ((d e : Decision) → IsIn d ds → IsIn e ds → is_held_at n d ≡ true → is_held_at n e ≡ true → d.id ≡ e.id)
    → find (λ z. z.id == i) (with_mark n m ds) ≡ marked_as n m (find (λ z. z.id == i) ds)
marked_find n m i [] one = refl
marked_find n m i (x ∷ xs) one =
    cases (is_held_at n x) refl (x.id == i) refl (marked_find n m i xs (λ d e a b. one d e (inr a) (inr b)))
  where
    rest_stays : is_held_at n x ≡ true → (x.id == i) ≡ false → (o : Option Decision)
        → find (λ z. z.id == i) xs ≡ o → o ≡ marked_as n m o
    rest_stays h isnt None e = refl
    rest_stays h isnt (Some d) e =
        let r = found_among (λ (z : Decision). z.id == i) xs d e in
        other (is_held_at n d) refl r.0 r.1
      where
        other : (b : Bool) → is_held_at n d ≡ b → IsIn d xs → (d.id == i) ≡ true
            → Some d ≡ cond (is_held_at n d) (Some (record { id = d.id; mark = m })) (Some d)
        other false f a is = sym (ap (λ b. cond b (Some (record { id = d.id; mark = m })) (Some d)) f)
        other true f a is = absurd (let no : true ≡ false =
            sym is ∙ ap (λ k. k == i) (sym (one x d (inl refl) (inr a) h f)) ∙ isnt in cc)

    cases : (b : Bool) → is_held_at n x ≡ b → (c : Bool) → (x.id == i) ≡ c
        → find (λ z. z.id == i) (with_mark n m xs) ≡ marked_as n m (find (λ z. z.id == i) xs)
        → find (λ z. z.id == i) (cond b (record { id = x.id; mark = m } ∷ xs) (x ∷ with_mark n m xs))
        ≡ marked_as n m (cond c (Some x) (find (λ z. z.id == i) xs))
    cases true h true is rest =
        ap (λ c. cond c (Some (record { id = x.id; mark = m })) (find (λ z. z.id == i) xs)) is
        ∙ sym (ap (λ b. cond b (Some (record { id = x.id; mark = m })) (Some x)) h)
    cases true h false is rest =
        ap (λ c. cond c (Some (record { id = x.id; mark = m })) (find (λ z. z.id == i) xs)) is
        ∙ rest_stays h is (find (λ z. z.id == i) xs) refl
    cases false h true is rest =
        ap (λ c. cond c (Some x) (find (λ z. z.id == i) (with_mark n m xs))) is
        ∙ sym (ap (λ b. cond b (Some (record { id = x.id; mark = m })) (Some x)) h)
    cases false h false is rest =
        ap (λ c. cond c (Some x) (find (λ z. z.id == i) (with_mark n m xs))) is ∙ rest

-- one of them is there
pub some_held : (n : ℕ) (ds : List Decision) → list_any (is_held_at n) ds ≡ true
    → (d : Decision) × IsIn d ds × (is_held_at n d ≡ true)
some_held n [] e = absurd (cc)
some_held n (x ∷ xs) e = cases (is_held_at n x) refl e (λ r. some_held n xs r)
  where
    cases : (b : Bool) → is_held_at n x ≡ b → (b || list_any (is_held_at n) xs) ≡ true
        → (list_any (is_held_at n) xs ≡ true → (d : Decision) × IsIn d xs × (is_held_at n d ≡ true))
        → (d : Decision) × IsIn d (x ∷ xs) × (is_held_at n d ≡ true)
    cases true is f rest = (x, inl refl, is)
    cases false is f rest = let r = rest f in (r.0, inr r.1, r.2)

-- where ids rise, what is there is found
pub found_of : (lo : ℕ) (ds : List Decision) (ys : List ℕ) (hi : ℕ) (d : Decision)
    → IsRising lo (map (λ (z : Decision). z.id) ds ++ ys) hi → IsIn d ds → find (λ z. z.id == d.id) ds ≡ Some d
found_of lo [] ys hi d h a = absurd a
found_of lo (x ∷ xs) ys hi d h (inl e) =
    ap (λ c. cond c (Some x) (find (λ z. z.id == d.id) xs)) (eq-eqb x.id d.id (ap (λ (z : Decision). z.id) e))
    ∙ ap Some e
found_of lo (x ∷ xs) ys hi d h (inr a) = cases (x.id == d.id) refl (found_of (suc x.id) xs ys hi d h.1 a)
  where
    above : (n : ℕ) (zs : List Decision) → IsRising n (map (λ (z : Decision). z.id) zs ++ ys) hi → IsIn d zs → n ≤ d.id
    above n [] k b = absurd b
    above n (z ∷ zs) k (inl e) = let le = k.0 in let same = ap (λ (w : Decision). w.id) e in omega (arith, le, same)
    above n (z ∷ zs) k (inr b) = let le = k.0 in let far = above (suc z.id) zs k.1 b in omega (arith, le, far)

    cases : (c : Bool) → (x.id == d.id) ≡ c → find (λ z. z.id == d.id) xs ≡ Some d
        → cond (x.id == d.id) (Some x) (find (λ z. z.id == d.id) xs) ≡ Some d
    cases true e rest = absurd (let same = eqb-true x.id d.id e in let far = above (suc x.id) xs h.1 a in
        omega (arith, same, far))
    cases false e rest = ap (λ c. cond c (Some x) (find (λ z. z.id == d.id) xs)) e ∙ rest
