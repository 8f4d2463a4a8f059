-- What is left of the part of a list that a test picks, where the list changes.
use Rattle.std.proofs.Common.{◌≡◌, ◌⊎◌, inl, inr, List, [], ◌∷◌, Bool, true, false, cond, not, refl}
use Rattle.std.proofs.Common.{◌++◌, sym, ap, ◌∙◌, subst, map}
use Rattle.std.specs.Prelude.{filter}
use Rattle.ln_book_tables.specs.Replay.{changed_first, left_out}
use Rattle.ln_payment_circuits.specs.Snapshot.{IsIn}

pub either : (b : Bool) → (b ≡ true) ⊎ (b ≡ false)
either true = inl refl
either false = inr refl

module _ {A : Type 0} where
  pub among_more : (x : A) (xs ys : List A) → IsIn x ys → IsIn x (xs ++ ys)
  among_more x [] ys k = k
  among_more x (y ∷ xs) ys k = inr (among_more x xs ys k)

  -- ---- by the first one

  pub picks_first : (q : A → Bool) (x : A) (xs : List A) → q x ≡ true → filter q (x ∷ xs) ≡ x ∷ filter q xs
  picks_first q x xs e = ap (λ b. cond b (x ∷ filter q xs) (filter q xs)) e

  pub passes_first : (q : A → Bool) (x : A) (xs : List A) → q x ≡ false → filter q (x ∷ xs) ≡ filter q xs
  passes_first q x xs e = ap (λ b. cond b (x ∷ filter q xs) (filter q xs)) e

  -- ---- all of them change

  pub filter_map : (q : A → Bool) (f : A → A) → ((x : A) → q (f x) ≡ q x) → (xs : List A)
      → filter q (map f xs) ≡ map f (filter q xs)
  filter_map q f same [] = refl
  filter_map q f same (x ∷ xs) =
      ap (λ b. cond b (f x ∷ filter q (map f xs)) (filter q (map f xs))) (same x)
      ∙ ap (λ ys. cond (q x) (f x ∷ ys) ys) (filter_map q f same xs) ∙ cases (q x)
    where
      cases : (b : Bool) → cond b (f x ∷ map f (filter q xs)) (map f (filter q xs))
          ≡ map f (cond b (x ∷ filter q xs) (filter q xs))
      cases true = refl
      cases false = refl

  -- ---- some are left out

  left_one : (b c : Bool) (x : A) (ys zs : List A) → ys ≡ zs
      → cond b (cond c (x ∷ ys) ys) ys ≡ cond c (cond b (x ∷ zs) zs) zs
  left_one true true x ys zs e = ap (λ l. x ∷ l) e
  left_one true false x ys zs e = e
  left_one false true x ys zs e = e
  left_one false false x ys zs e = e

  -- two filters, one after the other
  pub filters_turn : (p q : A → Bool) (xs : List A) → filter q (filter p xs) ≡ filter p (filter q xs)
  filters_turn p q [] = refl
  filters_turn p q (x ∷ xs) = cases (p x) (q x) refl refl (filters_turn p q xs)
    where
      cases : (b c : Bool) → p x ≡ b → q x ≡ c → filter q (filter p xs) ≡ filter p (filter q xs)
          → filter q (filter p (x ∷ xs)) ≡ filter p (filter q (x ∷ xs))
      cases true true e f h =
          ap (filter q) (picks_first p x xs e) ∙ picks_first q x (filter p xs) f ∙ ap (λ l. x ∷ l) h
          ∙ sym (ap (filter p) (picks_first q x xs f) ∙ picks_first p x (filter q xs) e)
      cases true false e f h =
          ap (filter q) (picks_first p x xs e) ∙ passes_first q x (filter p xs) f ∙ h
          ∙ sym (ap (filter p) (passes_first q x xs f))
      cases false true e f h =
          ap (filter q) (passes_first p x xs e) ∙ h
          ∙ sym (ap (filter p) (picks_first q x xs f) ∙ passes_first p x (filter q xs) e)
      cases false false e f h =
          ap (filter q) (passes_first p x xs e) ∙ h ∙ sym (ap (filter p) (passes_first q x xs f))

  pub left_turn : (p q : A → Bool) (xs : List A) → filter q (left_out p xs) ≡ left_out p (filter q xs)
  left_turn p q xs = filters_turn (λ x. not (p x)) q xs

  -- ---- the first one that passes p changes

  -- one of these, which passes p, has changed
  abbrev pub Hits : (A → Bool) → (A → A) → List A → List A → Type 0
  Hits p f [] ys = ⊥
  Hits p f (x ∷ xs) ys =
      ((p x ≡ true) × (ys ≡ f x ∷ xs)) ⊎ ((zs : List A) × (ys ≡ x ∷ zs) × Hits p f xs zs)

  abbrev pub Changes : (A → Bool) → (A → A) → List A → List A → Type 0
  Changes p f xs ys = (ys ≡ xs) ⊎ Hits p f xs ys

  one_more : (p : A → Bool) (f : A → A) (b : Bool) (x : A) (xs ys : List A) → Changes p f xs ys
      → Changes p f (cond b (x ∷ xs) xs) (cond b (x ∷ ys) ys)
  one_more p f true x xs ys (inl e) = inl (ap (λ l. x ∷ l) e)
  one_more p f true x xs ys (inr h) = inr (inr (ys, refl, h))
  one_more p f false x xs ys h = h

  pub changes_so : (p : A → Bool) (f : A → A) (q : A → Bool) → ((x : A) → q (f x) ≡ q x) → (xs : List A)
      → Changes p f (filter q xs) (filter q (changed_first p f xs))
  changes_so p f q same [] = inl refl
  changes_so p f q same (x ∷ xs) = cases (p x) (q x) refl refl (changes_so p f q same xs)
    where
      cases : (b c : Bool) → p x ≡ b → q x ≡ c → Changes p f (filter q xs) (filter q (changed_first p f xs))
          → Changes p f (filter q (x ∷ xs)) (filter q (changed_first p f (x ∷ xs)))
      cases true true e g h =
          subst (λ l. Changes p f l (filter q (changed_first p f (x ∷ xs)))) (sym (picks_first q x xs g))
          (inr (inl (
            e,
            ap (filter q) (ap (λ b. cond b (f x ∷ xs) (x ∷ changed_first p f xs)) e)
                ∙ picks_first q (f x) xs (same x ∙ g),
          )))
      cases true false e g h =
          inl (ap (filter q) (ap (λ b. cond b (f x ∷ xs) (x ∷ changed_first p f xs)) e)
          ∙ passes_first q (f x) xs (same x ∙ g) ∙ sym (passes_first q x xs g))
      cases false c e g h =
          subst (λ l. Changes p f (filter q (x ∷ xs)) (filter q l))
          (sym (ap (λ b. cond b (f x ∷ xs) (x ∷ changed_first p f xs)) e))
          (one_more p f (q x) x (filter q xs) (filter q (changed_first p f xs)) h)

  -- where they are none, or one
  pub none_changes : (p : A → Bool) (f : A → A) (ys : List A) → Changes p f [] ys → ys ≡ []
  none_changes p f ys (inl e) = e
  none_changes p f ys (inr h) = absurd h

  pub one_changes : (p : A → Bool) (f : A → A) (x : A) (ys : List A) → Changes p f (x ∷ []) ys
      → (ys ≡ x ∷ []) ⊎ ((p x ≡ true) × (ys ≡ f x ∷ []))
  one_changes p f x ys (inl e) = inl e
  one_changes p f x ys (inr (inl h)) = inr h
  one_changes p f x ys (inr (inr h)) = absurd (h.2)

  -- where it is q itself
  pub changed_turn : (f : A → A) (q : A → Bool) → ((x : A) → q (f x) ≡ q x) → (xs : List A)
      → filter q (changed_first q f xs) ≡ changed_first q f (filter q xs)
  changed_turn f q same [] = refl
  changed_turn f q same (x ∷ xs) = cases (q x) refl (changed_turn f q same xs)
    where
      cases : (b : Bool) → q x ≡ b → filter q (changed_first q f xs) ≡ changed_first q f (filter q xs)
          → filter q (changed_first q f (x ∷ xs)) ≡ changed_first q f (filter q (x ∷ xs))
      cases true e h =
          ap (filter q) (ap (λ b. cond b (f x ∷ xs) (x ∷ changed_first q f xs)) e)
          ∙ picks_first q (f x) xs (same x ∙ e)
          ∙ sym (ap (λ b. cond b (f x ∷ filter q xs) (x ∷ changed_first q f (filter q xs))) e)
          ∙ sym (ap (changed_first q f) (picks_first q x xs e))
      cases false e h =
          ap (filter q) (ap (λ b. cond b (f x ∷ xs) (x ∷ changed_first q f xs)) e)
          ∙ passes_first q x (changed_first q f xs) e ∙ h
          ∙ sym (ap (changed_first q f) (passes_first q x xs e))

  -- where none of them passes p
  pub others_stay : (p : A → Bool) (f : A → A) (q : A → Bool) → ((x : A) → q (f x) ≡ q x)
      → ((x : A) → q x ≡ true → p x ≡ false) → (xs : List A) → filter q (changed_first p f xs) ≡ filter q xs
  others_stay p f q same apart [] = refl
  others_stay p f q same apart (x ∷ xs) = cases (p x) (q x) refl refl (others_stay p f q same apart xs)
    where
      cases : (b c : Bool) → p x ≡ b → q x ≡ c → filter q (changed_first p f xs) ≡ filter q xs
          → filter q (changed_first p f (x ∷ xs)) ≡ filter q (x ∷ xs)
      cases true true e g h = absurd (let no : true ≡ false = sym e ∙ apart x g in cc)
      cases true false e g h =
          ap (filter q) (ap (λ b. cond b (f x ∷ xs) (x ∷ changed_first p f xs)) e)
          ∙ passes_first q (f x) xs (same x ∙ g) ∙ sym (passes_first q x xs g)
      cases false c e g h =
          ap (filter q) (ap (λ b. cond b (f x ∷ xs) (x ∷ changed_first p f xs)) e)
          ∙ ap (λ l. cond (q x) (x ∷ l) l) h

  -- ---- what is there

  pub picked : (q : A → Bool) (x : A) (xs : List A) → IsIn x xs → q x ≡ true → IsIn x (filter q xs)
  picked q x [] h e = h
  picked q x (y ∷ ys) (inl is) e =
      subst (IsIn x) (sym (picks_first q y ys (ap q is ∙ e))) (inl is)
  picked q x (y ∷ ys) (inr h) e = cases (q y) (picked q x ys h e)
    where
      cases : (b : Bool) → IsIn x (filter q ys) → IsIn x (cond b (y ∷ filter q ys) (filter q ys))
      cases true k = inr k
      cases false k = k

  pub of_picked : (q : A → Bool) (x : A) (xs : List A) → IsIn x (filter q xs) → IsIn x xs
  of_picked q x [] h = h
  of_picked q x (y ∷ ys) h = cases (q y) h (λ k. of_picked q x ys k)
    where
      cases : (b : Bool) → IsIn x (cond b (y ∷ filter q ys) (filter q ys)) → (IsIn x (filter q ys) → IsIn x ys)
          → IsIn x (y ∷ ys)
      cases true (inl e) rest = inl e
      cases true (inr k) rest = inr (rest k)
      cases false k rest = inr (rest k)

  pub passes : (q : A → Bool) (x : A) (xs : List A) → IsIn x (filter q xs) → q x ≡ true
  passes q x [] h = absurd h
  passes q x (y ∷ ys) h = cases (q y) refl h (λ k. passes q x ys k)
    where
      cases : (b : Bool) → q y ≡ b → IsIn x (cond b (y ∷ filter q ys) (filter q ys))
          → (IsIn x (filter q ys) → q x ≡ true) → q x ≡ true
      cases true e (inl is) rest = sym (ap q is) ∙ e
      cases true e (inr k) rest = rest k
      cases false e k rest = rest k

  -- the first of a filtered list passes
  pub first_passes : (q : A → Bool) (xs : List A) (x : A) (ys : List A) → filter q xs ≡ x ∷ ys → q x ≡ true
  first_passes q xs x ys e = passes q x xs (subst (IsIn x) (sym e) (inl refl))

  -- none does of those that pass p
  pub none_picked : (p q : A → Bool) → ((x : A) → p x ≡ true → q x ≡ false) → (xs : List A)
      → filter q (filter p xs) ≡ []
  none_picked p q apart [] = refl
  none_picked p q apart (x ∷ xs) = cases (p x) refl (none_picked p q apart xs)
    where
      cases : (b : Bool) → p x ≡ b → filter q (filter p xs) ≡ []
          → filter q (cond b (x ∷ filter p xs) (filter p xs)) ≡ []
      cases true e rest = passes_first q x (filter p xs) (apart x e) ∙ rest
      cases false e rest = rest

  -- where only what q picks passes p
  pub only_picked : (p : A → Bool) (f : A → A) (q : A → Bool) → ((x : A) → q (f x) ≡ q x) → (xs : List A)
      → ((x : A) → IsIn x xs → p x ≡ true → q x ≡ true)
      → filter q (changed_first p f xs) ≡ changed_first p f (filter q xs)
  only_picked p f q same [] only = refl
  only_picked p f q same (x ∷ xs) only =
      cases (p x) refl (only_picked p f q same xs (λ y m. only y (inr m)))
    where
      turn : (b : Bool) → q x ≡ b → p x ≡ false → filter q (changed_first p f xs) ≡ changed_first p f (filter q xs)
          → filter q (x ∷ changed_first p f xs) ≡ changed_first p f (filter q (x ∷ xs))
      turn true e g h = picks_first q x (changed_first p f xs) e ∙ ap (λ l. x ∷ l) h
          ∙ sym (ap (λ b. cond b (f x ∷ filter q xs) (x ∷ changed_first p f (filter q xs))) g)
          ∙ sym (ap (changed_first p f) (picks_first q x xs e))
      turn false e g h = passes_first q x (changed_first p f xs) e ∙ h
          ∙ sym (ap (changed_first p f) (passes_first q x xs e))

      cases : (b : Bool) → p x ≡ b → filter q (changed_first p f xs) ≡ changed_first p f (filter q xs)
          → filter q (cond b (f x ∷ xs) (x ∷ changed_first p f xs)) ≡ changed_first p f (filter q (x ∷ xs))
      cases true e h =
          let is = only x (inl refl) e in
          picks_first q (f x) xs (same x ∙ is) ∙ sym (ap (λ b. cond b (f x ∷ filter q xs)
          (x ∷ changed_first p f (filter q xs))) e)
          ∙ sym (ap (changed_first p f) (picks_first q x xs is))
      cases false e h = turn (q x) refl e h

  -- where none of those does
  pub none_of_them : (p : A → Bool) (f : A → A) (q : A → Bool) → ((x : A) → q (f x) ≡ q x) → (xs : List A)
      → ((x : A) → IsIn x xs → q x ≡ true → p x ≡ false) → filter q (changed_first p f xs) ≡ filter q xs
  none_of_them p f q same [] none = refl
  none_of_them p f q same (x ∷ xs) none = cases (p x) refl (q x) refl
      (none_of_them p f q same xs (λ y m. none y (inr m)))
    where
      cases : (b : Bool) → p x ≡ b → (c : Bool) → q x ≡ c → filter q (changed_first p f xs) ≡ filter q xs
          → filter q (cond b (f x ∷ xs) (x ∷ changed_first p f xs)) ≡ filter q (x ∷ xs)
      cases true e true g h = absurd (let no : true ≡ false = sym e ∙ none x (inl refl) g in cc)
      cases true e false g h = passes_first q (f x) xs (same x ∙ g) ∙ sym (passes_first q x xs g)
      cases false e c g h = ap (λ l. cond (q x) (x ∷ l) l) h

  -- the first changes, all others stay
  pub among_changed : (p : A → Bool) (f : A → A) (x : A) (xs : List A) → IsIn x (changed_first p f xs)
      → IsIn x xs ⊎ ((y : A) × IsIn y xs × (p y ≡ true) × (f y ≡ x))
  among_changed p f x [] m = absurd m
  among_changed p f x (y ∷ ys) m = cases (p y) refl m (λ k. among_changed p f x ys k)
    where
      cases : (b : Bool) → p y ≡ b → IsIn x (cond b (f y ∷ ys) (y ∷ changed_first p f ys))
          → (IsIn x (changed_first p f ys) → IsIn x ys ⊎ ((z : A) × IsIn z ys × (p z ≡ true) × (f z ≡ x)))
          → IsIn x (y ∷ ys) ⊎ ((z : A) × IsIn z (y ∷ ys) × (p z ≡ true) × (f z ≡ x))
      cases true is (inl e) rest = inr (y, inl refl, is, e)
      cases true is (inr k) rest = inl (inr k)
      cases false is (inl e) rest = inl (inl e)
      cases false is (inr k) rest = elim (rest k) [
        | inl old ↦ inl (inr old)
        | inr r ↦ inr (r.0, inr r.1, r.2, r.3)
      ]
