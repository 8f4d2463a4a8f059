-- What is so of a number below another one.
use Rattle.std.proofs.Common.{◌≡◌, ◌⊎◌, inl, inr, ℕ, zero, suc, ◌<◌, Bool, true, false, ◌||◌, refl, sym, ap, ◌∙◌, arith}
use Rattle.ln_library.specs.Greetings.{any_below}

or_true : (b : Bool) → b || true ≡ true
or_true true = refl
or_true false = refl

below_or_last : (n m : ℕ) → n < suc m → (n < m) ⊎ (n ≡ m)
below_or_last zero zero l = inr refl
below_or_last zero (suc m) l = inl (omega arith)
below_or_last (suc n) zero l = absurd (omega (arith, l))
below_or_last (suc n) (suc m) l = elim (below_or_last n m (omega (arith, l))) [
  | inl b ↦ inl (omega (arith, b))
  | inr e ↦ inr (ap suc e)
]

pub found_below : (p : ℕ → Bool) (m n : ℕ) → n < m → p n ≡ true → any_below p m ≡ true
found_below p zero n l is = absurd (omega (arith, l))
found_below p (suc m) n l is = elim (below_or_last n m l) [
  | inl b ↦ ap (λ (x : Bool). x || p m) (found_below p m n b is)
  | inr e ↦ ap (λ (x : Bool). any_below p m || x) (ap p (sym e) ∙ is) ∙ or_true (any_below p m)
]
