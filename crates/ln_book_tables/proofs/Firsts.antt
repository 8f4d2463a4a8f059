-- The first one of a list that passes a test, by its place.
use Rattle.std.proofs.Common.{◌≡◌, ℕ, ◌<◌, List, [], ◌∷◌, zero, suc, ◌++◌, length, get_or, set, refl, sym, ap, ◌∙◌}
use Rattle.std.proofs.Common.{arith, Bool, true, false, cond, Some, None, inl, inr}
use Rattle.std.proofs.lemmas.Bool.Decides.{leb_tells}
use Rattle.std.proofs.lemmas.List.Sums.{fails_before_first}
use Rattle.std.proofs.lemmas.List.Quantifiers.{position-Some}
use Rattle.std.specs.List.{list_any, position, position_or_len, find}
use Rattle.std.specs.Prelude.{not, ◌||◌, remove, nat_lt}
use Rattle.std.specs.List.{insert}
use Rattle.ln_book_tables.specs.Replay.{changed_first, left_out, without_first}
use Rattle.ln_book_tables.specs.Places.{with_place}

abbrev pub Fails : {A : Type 0} → (A → Bool) → List A → Type 0
Fails {A} p xs = (k : ℕ) (d : A) → k < length xs → p (get_or xs k d) ≡ false

unchanged : {A : Type 0} (p : A → Bool) (f : A → A) (xs : List A) → Fails p xs → changed_first p f xs ≡ xs
unchanged p f [] out = refl
unchanged p f (x ∷ xs) out = ap (λ b. cond b (f x ∷ xs) (x ∷ changed_first p f xs)) (out zero x (omega arith))
    ∙ ap (λ ys. x ∷ ys) (unchanged p f xs (λ k d lt. out (suc k) d (omega (arith, lt))))

pub all_kept : {A : Type 0} (p : A → Bool) (xs : List A) → Fails p xs → left_out p xs ≡ xs
all_kept p [] out = refl
all_kept p (x ∷ xs) out = ap (λ b. cond (not b) (x ∷ left_out p xs) (left_out p xs)) (out zero x (omega arith))
    ∙ ap (λ ys. x ∷ ys) (all_kept p xs (λ k d lt. out (suc k) d (omega (arith, lt))))

pub no_any : {A : Type 0} (p : A → Bool) (xs : List A) → Fails p xs → list_any p xs ≡ false
no_any p [] out = refl
no_any p (x ∷ xs) out = ap (λ b. b || list_any p xs) (out zero x (omega arith))
    ∙ no_any p xs (λ k d lt. out (suc k) d (omega (arith, lt)))

pub all_fail : {A : Type 0} (p : A → Bool) (xs : List A) → position p xs ≡ None → Fails p xs
all_fail p xs e = elim (leb_tells (suc (position_or_len p xs)) (length xs)) [
  | inl g ↦ absurd (let is : Some (position_or_len p xs) ≡ None =
      sym (ap (λ t. cond t (Some (position_or_len p xs)) None) g.0) ∙ e in cc)
  | inr g ↦ λ k d lt. fails_before_first p xs k d (omega (arith, lt, g.1))
]

-- where none passes
pub changed_none : {A : Type 0} (p : A → Bool) (f : A → A) (xs : List A) → position p xs ≡ None
    → xs ≡ changed_first p f xs
changed_none p f xs e = sym (unchanged p f xs (all_fail p xs e))

-- and then none is left out
pub none_left_out : {A : Type 0} (p : A → Bool) (xs : List A) → position p xs ≡ None → xs ≡ left_out p xs
none_left_out p xs e = sym (all_kept p xs (all_fail p xs e))

at_place : {A : Type 0} (p : A → Bool) (f : A → A) (xs : List A) (i : ℕ) (d : A) → i < length xs
    → p (get_or xs i d) ≡ true → ((k : ℕ) → k < i → p (get_or xs k d) ≡ false)
    → set xs i (f (get_or xs i d)) ≡ changed_first p f xs
at_place p f [] i d lt is out = absurd (omega (arith, lt))
at_place p f (x ∷ xs) zero d lt is out = sym (ap (λ b. cond b (f x ∷ xs) (x ∷ changed_first p f xs)) is)
at_place p f (x ∷ xs) (suc i) d lt is out =
    ap (λ ys. x ∷ ys) (at_place p f xs i d (omega (arith, lt)) is (λ k l. out (suc k) (omega (arith, l))))
    ∙ sym (ap (λ b. cond b (f x ∷ xs) (x ∷ changed_first p f xs)) (out zero (omega arith)))

-- where the one at this place is the first
pub changed_at : {A : Type 0} (p : A → Bool) (f : A → A) (xs : List A) (i : ℕ) (d : A) → position p xs ≡ Some i
    → set xs i (f (get_or xs i d)) ≡ changed_first p f xs
changed_at p f xs i d e = let h = position-Some p xs i d e in at_place p f xs i d h.0 h.1 h.2

none_there : {A : Type 0} (p : A → Bool) (xs : List A) → Fails p xs → find p xs ≡ None
none_there p [] out = refl
none_there p (x ∷ xs) out = ap (λ b. cond b (Some x) (find p xs)) (out zero x (omega arith))
    ∙ none_there p xs (λ k d lt. out (suc k) d (omega (arith, lt)))

none_less : {A : Type 0} (p : A → Bool) (xs : List A) → Fails p xs → without_first p xs ≡ xs
none_less p [] out = refl
none_less p (x ∷ xs) out = ap (λ b. cond b xs (x ∷ without_first p xs)) (out zero x (omega arith))
    ∙ ap (λ ys. x ∷ ys) (none_less p xs (λ k d lt. out (suc k) d (omega (arith, lt))))

-- where none passes none is found, and none goes
pub not_found : {A : Type 0} (p : A → Bool) (xs : List A) → position p xs ≡ None → find p xs ≡ None
not_found p xs e = none_there p xs (all_fail p xs e)

pub none_gone : {A : Type 0} (p : A → Bool) (xs : List A) → position p xs ≡ None → without_first p xs ≡ xs
none_gone p xs e = none_less p xs (all_fail p xs e)

there_at : {A : Type 0} (p : A → Bool) (xs : List A) (i : ℕ) (d : A) → i < length xs
    → p (get_or xs i d) ≡ true → ((k : ℕ) → k < i → p (get_or xs k d) ≡ false) → find p xs ≡ Some (get_or xs i d)
there_at p [] i d lt is out = absurd (omega (arith, lt))
there_at p (x ∷ xs) zero d lt is out = ap (λ b. cond b (Some x) (find p xs)) is
there_at p (x ∷ xs) (suc i) d lt is out =
    ap (λ b. cond b (Some x) (find p xs)) (out zero (omega arith))
    ∙ there_at p xs i d (omega (arith, lt)) is (λ k l. out (suc k) (omega (arith, l)))

gone_at : {A : Type 0} (p : A → Bool) (xs : List A) (i : ℕ) (d : A) → i < length xs
    → p (get_or xs i d) ≡ true → ((k : ℕ) → k < i → p (get_or xs k d) ≡ false) → remove xs i ≡ without_first p xs
gone_at p [] i d lt is out = absurd (omega (arith, lt))
gone_at p (x ∷ xs) zero d lt is out = sym (ap (λ b. cond b xs (x ∷ without_first p xs)) is)
gone_at p (x ∷ xs) (suc i) d lt is out =
    ap (λ ys. x ∷ ys) (gone_at p xs i d (omega (arith, lt)) is (λ k l. out (suc k) (omega (arith, l))))
    ∙ sym (ap (λ b. cond b xs (x ∷ without_first p xs)) (out zero (omega arith)))

-- where the one at this place is the first
pub found_at : {A : Type 0} (p : A → Bool) (xs : List A) (i : ℕ) (d : A) → position p xs ≡ Some i
    → find p xs ≡ Some (get_or xs i d)
found_at p xs i d e = let h = position-Some p xs i d e in there_at p xs i d h.0 h.1 h.2

pub removed_at : {A : Type 0} (p : A → Bool) (xs : List A) (i : ℕ) (d : A) → position p xs ≡ Some i
    → remove xs i ≡ without_first p xs
removed_at p xs i d e = let h = position-Some p xs i d e in gone_at p xs i d h.0 h.1 h.2

-- ---- a place among others

placed_last : (n : ℕ) (ps : List ℕ) → Fails (nat_lt n) ps → ps ++ n ∷ [] ≡ with_place n ps
placed_last n [] out = refl
placed_last n (p ∷ ps) out = ap (λ qs. p ∷ qs) (placed_last n ps (λ k d lt. out (suc k) d (omega (arith, lt))))
    ∙ sym (ap (λ b. cond b (n ∷ p ∷ ps) (p ∷ with_place n ps)) (out zero p (omega arith)))

placed_there : (n : ℕ) (ps : List ℕ) (i d : ℕ) → i < length ps → nat_lt n (get_or ps i d) ≡ true
    → ((k : ℕ) → k < i → nat_lt n (get_or ps k d) ≡ false) → insert ps i n ≡ with_place n ps
placed_there n [] i d lt is out = absurd (omega (arith, lt))
placed_there n (p ∷ ps) zero d lt is out = sym (ap (λ b. cond b (n ∷ p ∷ ps) (p ∷ with_place n ps)) is)
placed_there n (p ∷ ps) (suc i) d lt is out =
    ap (λ qs. p ∷ qs) (placed_there n ps i d (omega (arith, lt)) is (λ k l. out (suc k) (omega (arith, l))))
    ∙ sym (ap (λ b. cond b (n ∷ p ∷ ps) (p ∷ with_place n ps)) (out zero (omega arith)))

-- after all others, or before the first that is after it
pub placed_none : (n : ℕ) (ps : List ℕ) → position (nat_lt n) ps ≡ None → ps ++ n ∷ [] ≡ with_place n ps
placed_none n ps e = placed_last n ps (all_fail (nat_lt n) ps e)

pub placed_at : (n : ℕ) (ps : List ℕ) (i : ℕ) → position (nat_lt n) ps ≡ Some i → insert ps i n ≡ with_place n ps
placed_at n ps i e = let h = position-Some (nat_lt n) ps i 0 e in placed_there n ps i 0 h.0 h.1 h.2
