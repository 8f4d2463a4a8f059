-- The first decision that is held by the number of an event, by its place.
use Rattle.std.proofs.Common.{◌≡◌, ℕ, ◌<◌, List, [], ◌∷◌, zero, suc, length, get_or, set, refl, sym, ap, ◌∙◌}
use Rattle.std.proofs.Common.{arith, Bool, true, false, cond, Some, None, inl, inr}
use Rattle.std.proofs.lemmas.Bool.Decides.{leb_tells}
use Rattle.std.proofs.lemmas.List.Sums.{fails_before_first}
use Rattle.std.proofs.lemmas.List.Quantifiers.{position-Some}
use Rattle.std.specs.List.{list_any, position, position_or_len}
use Rattle.std.specs.Prelude.{◌||◌}
use Rattle.ln_log.specs.declared.mark.Decision.{Decision}
use Rattle.ln_log.specs.declared.mark.Mark.{Mark}
use Rattle.ln_channel.specs.Ledger.{is_held_at, with_mark}

abbrev Fails : {A : Type 0} → (A → Bool) → List A → Type 0
Fails {A} p xs = (k : ℕ) (d : A) → k < length xs → p (get_or xs k d) ≡ false

all_fail : {A : Type 0} (p : A → Bool) (xs : List A) → position p xs ≡ None → Fails p xs
all_fail p xs e = elim (leb_tells (suc (position_or_len p xs)) (length xs)) [
  | inl g ↦ absurd (let is : Some (position_or_len p xs) ≡ None =
      sym (ap (λ t. cond t (Some (position_or_len p xs)) None) g.0) ∙ e in cc)
  | inr g ↦ λ k d lt. fails_before_first p xs k d (omega (arith, lt, g.1))
]

none : {A : Type 0} (p : A → Bool) (xs : List A) → Fails p xs → list_any p xs ≡ false
none p [] out = refl
none p (x ∷ xs) out = ap (λ b. b || list_any p xs) (out zero x (omega arith))
    ∙ none p xs (λ k d lt. out (suc k) d (omega (arith, lt)))

pub none_held : {A : Type 0} (p : A → Bool) (xs : List A) → position p xs ≡ None → list_any p xs ≡ false
none_held p xs e = none p xs (all_fail p xs e)

or_true : (b : Bool) → b || true ≡ true
or_true true = refl
or_true false = refl

some : {A : Type 0} (p : A → Bool) (xs : List A) (i : ℕ) (d : A) → i < length xs → p (get_or xs i d) ≡ true
    → list_any p xs ≡ true
some p [] i d lt is = absurd (omega (arith, lt))
some p (x ∷ xs) zero d lt is = ap (λ b. b || list_any p xs) is
some p (x ∷ xs) (suc i) d lt is = ap (λ b. p x || b) (some p xs i d (omega (arith, lt)) is) ∙ or_true (p x)

pub some_held : {A : Type 0} (p : A → Bool) (xs : List A) (i : ℕ) (d : A) → position p xs ≡ Some i
    → list_any p xs ≡ true
some_held p xs i d e = let h = position-Some p xs i d e in some p xs i d h.0 h.1

pub marked_at : (event : ℕ) (m : Mark) (ds : List Decision) (i : ℕ) (d : Decision)
    → position (is_held_at event) ds ≡ Some i
    → set ds i (record { id = (get_or ds i d).id; mark = m }) ≡ with_mark event m ds
marked_at event m ds i d e = let h = position-Some (is_held_at event) ds i d e in at ds i h.0 h.1 h.2
  where
    at : (ds : List Decision) (i : ℕ) → i < length ds → is_held_at event (get_or ds i d) ≡ true
        → ((k : ℕ) → k < i → is_held_at event (get_or ds k d) ≡ false)
        → set ds i (record { id = (get_or ds i d).id; mark = m }) ≡ with_mark event m ds
    at [] i lt is out = absurd (omega (arith, lt))
    at (x ∷ ds) zero lt is out =
        sym (ap (λ b. cond b (record { id = x.id; mark = m } ∷ ds) (x ∷ with_mark event m ds)) is)
    at (x ∷ ds) (suc i) lt is out =
        ap (λ ys. x ∷ ys) (at ds i (omega (arith, lt)) is (λ k l. out (suc k) (omega (arith, l))))
        ∙ sym (ap (λ b. cond b (record { id = x.id; mark = m } ∷ ds) (x ∷ with_mark event m ds))
        (out zero (omega arith)))
