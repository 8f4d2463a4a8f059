-- What tests that pass, or don't, say of what they test.
use Rattle.std.proofs.Common.{◌≡◌, ◌∙◌, refl, ap, Bool, true, false, cond, not, ◌&&◌, ◌||◌, Option, Some, None}
use Rattle.std.proofs.Common.{Result, Ok, Err}
use Rattle.ln_refusals.specs.declared.refusal.Refusal.{Refusal}
use Rattle.ln_log.specs.Limits.{first_fault}
use Rattle.ln_channel.specs.Opening.{unless}

pub parts : (p q : Bool) → (p && q) ≡ true → (p ≡ true) × (q ≡ true)
parts true q e = (refl, e)
parts false q e = absurd (cc)

pub and_left : (a b : Bool) → (a && b) ≡ true → a ≡ true
and_left true b h = refl
and_left false b h = absurd (cc)

pub and_right : (a b : Bool) → (a && b) ≡ true → b ≡ true
and_right true b h = h
and_right false b h = absurd (cc)

pub both_true : (p q : Bool) → p ≡ true → q ≡ true → (p && q) ≡ true
both_true p q e f = ap (λ b. b && q) e ∙ f

pub either_false : (p q : Bool) → (p || q) ≡ false → p ≡ false
either_false true q e = absurd (cc)
either_false false q e = refl

pub negated : (c : Bool) → not c ≡ false → c ≡ true
negated true e = refl
negated false e = absurd (cc)

pub unnegated : (c : Bool) → not c ≡ true → c ≡ false
unnegated true e = absurd (cc)
unnegated false e = refl

pub first_none : (f g : Option Refusal) → first_fault f g ≡ None → (f ≡ None) × (g ≡ None)
first_none None g e = (refl, e)
first_none (Some r) g e = absurd (cc)

pub no_fault : (b : Bool) (r : Refusal) → cond b (Some r) None ≡ None → b ≡ false
no_fault true r e = absurd (cc)
no_fault false r e = refl

pub otherwise : {A : Type 0} (c : Bool) (z : A) (o : Option A) → cond c (Some z) o ≡ None → (c ≡ false) × (o ≡ None)
otherwise true z o e = absurd (cc)
otherwise false z o e = (refl, e)

pub where_true : {A : Type 0} (c : Bool) (o : Option A) (z : A) → cond c o (Some z) ≡ None → (c ≡ true) × (o ≡ None)
where_true true o z e = (refl, e)
where_true false o z e = absurd (cc)

pub unless_none : {A : Type 0} (f : Option Refusal) (x : A) → f ≡ None → unless f x ≡ Ok x
unless_none f x e = ap (λ o. unless o x) e

pub was_none : {A : Type 0} (f : Option Refusal) (x y : A) → unless f x ≡ Ok y → f ≡ None
was_none None x y e = refl
was_none (Some z) x y e = absurd (cc)

abbrev ok_or : {A : Type 0} → A → Result A Refusal → A
ok_or x (Ok y) = y
ok_or x (Err r) = x

pub was_given : {A : Type 0} (f : Option Refusal) (x y : A) → unless f x ≡ Ok y → x ≡ y
was_given None x y e = ap (ok_or x) e
was_given (Some r) x y e = absurd (cc)
