-- Numbers of a script are what the library parses, where nothing stands in front of them.
use Rattle.std.proofs.Common.{◌≡◌, ◌≢◌, ℕ, ◌^◌, ◌<◌, List, [], ◌∷◌, length, Option, Some, None, Result, Ok}
use Rattle.std.proofs.Common.{Err, true, false, not, ◌==◌, ◌+◌, nat_lt, refl, sym, ap}
use Rattle.std.proofs.Common.{subst, ◌∙◌, ◌%◌, arith, inl, inr, mod-eq_of_lt}
use Rattle.std.specs.Coded.{le_prop}
use Rattle.std.specs.Result.{result_ok}
use Rattle.std.specs.Char.{is_ascii_digit}
use Rattle.std.specs.Str.{all_ascii_digits}
use Rattle.std.specs.Str.Parse.{digits_value, ParsesUnsigned}
use Rattle.std.proofs.lemmas.Str.Parse.{IsNumeralModel, numerals_by_value, tells_all_ascii_digits, parse_plain}
use Rattle.std.proofs.lemmas.Bool.{cases_Bool, and_parts, and_from}
use Rattle.std.proofs.lemmas.Bool.Decides.{nat_tests}
use Rattle.ln_bytes.specs.ShortId.{IsPlain}
use Rattle.std.specs.List.{position_or_len}
use Rattle.std.proofs.lemmas.List.{drop_all}
use Rattle.ln_bytes.specs.declared.short_id.ShortId.{ShortId}
use Rattle.ln_script.specs.Word.{◌>>=◌, is_decimal, decimal_at, number_at, cut_below, id_of, before_x}
use Rattle.ln_script.specs.Word.{after_x, short_id_at}

own : IsNumeralModel (λ ds. all_ascii_digits ds ≡ true) (digits_value 10)
own = numerals_by_value (λ ds. all_ascii_digits ds ≡ true) tells_all_ascii_digits

decimal_true : (w : List ℕ) → IsPlain w → all_ascii_digits w ≡ true → 0 < length w → is_decimal w ≡ true
decimal_true [] p d l = absurd (omega arith)
decimal_true (b ∷ []) p d l = d
decimal_true (b ∷ c ∷ bs) p d l =
    let other : b ≢ 48 = λ e. let one = p.1 e in absurd (omega arith) in
    and_from (not (b == 48)) _ (grind (arith, nat_tests)) d

decimal_digits : (w : List ℕ) → is_decimal w ≡ true → (all_ascii_digits w ≡ true) × (0 < length w)
decimal_digits [] e = absurd cc
decimal_digits (b ∷ []) e = (e, omega arith)
decimal_digits (b ∷ c ∷ bs) e = ((and_parts (not (b == 48)) _ e).1, omega arith)

no_plus : (b : ℕ) (bs : List ℕ) → all_ascii_digits (b ∷ bs) ≡ true → b ≢ 43
no_plus b bs h plus =
    let digit : is_ascii_digit b ≡ true = (and_parts (is_ascii_digit b) (all_ascii_digits bs) h).0 in
    let bad : is_ascii_digit 43 ≡ true = subst (λ (x : ℕ). is_ascii_digit x ≡ true) plus digit in
    absurd cc

no_zero : (b : ℕ) → not (b == 48) ≡ true → b ≢ 48
no_zero b h zero =
    let bad : not (48 == 48) ≡ true = subst (λ (x : ℕ). not (x == 48) ≡ true) zero h in
    absurd cc

decimal_plain : (w : List ℕ) → is_decimal w ≡ true → IsPlain w
decimal_plain [] e = absurd cc
decimal_plain (b ∷ []) e = (no_plus b [] e, λ zero. refl)
decimal_plain (b ∷ c ∷ bs) e =
    let parts = and_parts (not (b == 48)) (all_ascii_digits (b ∷ c ∷ bs)) e in
    (no_plus b (c ∷ bs) parts.1, λ zero. absurd (no_zero b parts.0 zero))

from_test : (w : List ℕ) → is_decimal w ≡ true → nat_lt (digits_value 10 w) (2 ^ 64) ≡ true
    → decimal_at w ≡ Some (digits_value 10 w)
unfolding decimal_at
from_test w e f = rw (e, f) refl

from_digits : (w : List ℕ) → is_decimal w ≡ false → decimal_at w ≡ None
unfolding decimal_at
from_digits w e = rw e refl

from_size : (w : List ℕ) → nat_lt (digits_value 10 w) (2 ^ 64) ≡ false → decimal_at w ≡ None
unfolding decimal_at
from_size w e =
    elim (cases_Bool (is_decimal w)) [
      | inl digits ↦ rw (digits, e) refl
      | inr other_text ↦ rw other_text refl
    ]

pub not_plain : (w : List ℕ) → (IsPlain w → ⊥) → decimal_at w ≡ None
not_plain w other =
    elim (cases_Bool (is_decimal w)) [
      | inl digits ↦ absurd (other (decimal_plain w digits))
      | inr other_text ↦ from_digits w other_text
    ]

below : (n : ℕ) → nat_lt n (2 ^ 64) ≡ true → n < 2 ^ 64
below n e = grind (arith, nat_tests)

below_true : (n : ℕ) → n < 2 ^ 64 → nat_lt n (2 ^ 64) ≡ true
below_true n e = grind (arith, nat_tests)

pub number_is : {E : Type 0} (w : List ℕ) (r : Result ℕ E) (o : Option ℕ) → o ≡ result_ok r → ParsesUnsigned 64 10 w r
    → IsPlain w → o ≡ decimal_at w
number_is {E = E} w (Ok n) o is h plain =
    let p = parse_plain own {E = E} 64 w (Ok n) h plain.0 in
    is ∙ ap (λ (x : ℕ). let y : Option ℕ = Some x in y) p.1
    ∙ sym (from_test w (decimal_true w plain p.0.0 p.0.1) (below_true _ p.0.2))
number_is {E = E} w (Err e) o is h plain =
    let p = parse_plain own {E = E} 64 w (Err e) h plain.0 in
    is ∙ sym (elim (cases_Bool (is_decimal w)) as (λ _. decimal_at w ≡ None) [
      | inl digits ↦
          let d = decimal_digits w digits in
          elim (cases_Bool (nat_lt (digits_value 10 w) (2 ^ 64))) as (λ _. decimal_at w ≡ None) [
            | inl small ↦ absurd (p (d.0, d.1, below _ small))
            | inr large ↦ from_size w large
          ]
      | inr other_text ↦ from_digits w other_text
    ])

-- ---- short channel ids

no_number : (w : List ℕ) → w ≡ [] → number_at 65535 w ≡ None
unfolding decimal_at
no_number w e = rw e refl

nothing_after : (w : List ℕ) → position_or_len (λ b. b == 120) w ≡ length w → after_x w ≡ []
nothing_after w e = drop_all (position_or_len (λ b. b == 120) w + 1) w (omega (arith, e))

-- an id whose last number is missing
abbrev third_of : Option ℕ → Option ℕ → Option ℕ → Option ShortId
third_of a b c = do
  block ← a
  tx ← b
  output ← c
  Some (id_of block tx output)

no_third : (a b : Option ℕ) → third_of a b None ≡ None
no_third None b = refl
no_third (Some x) None = refl
no_third (Some x) (Some y) = refl

as_third : (w : List ℕ) → number_at 65535 (after_x (after_x w)) ≡ None → short_id_at w ≡ None
unfolding short_id_at
as_third w e =
    ap (third_of (number_at 16777215 (before_x w)) (number_at 16777215 (before_x (after_x w)))) e
    ∙ no_third (number_at 16777215 (before_x w)) (number_at 16777215 (before_x (after_x w)))

after_nothing : (w : List ℕ) → w ≡ [] → after_x w ≡ []
after_nothing w e = rw e refl

pub no_first_x : (w : List ℕ) → position_or_len (λ b. b == 120) w ≡ length w → short_id_at w ≡ None
no_first_x w e = as_third w (no_number (after_x (after_x w)) (after_nothing (after_x w) (nothing_after w e)))

pub no_second_x : (w rest : List ℕ) → rest ≡ after_x w → position_or_len (λ b. b == 120) rest ≡ length rest
    → short_id_at w ≡ None
no_second_x w rest is e =
    as_third w (no_number (after_x (after_x w)) (ap (λ (r : List ℕ). after_x r) (sym is) ∙ nothing_after rest e))

-- ---- numbers that fit

abbrev as_id : (b t o : ℕ) → b < 2 ^ 24 → t < 2 ^ 24 → ShortId
as_id b t o p q = record { block = b; tx = t; output = o; block_fits = p; tx_fits = q }

-- ids of the same numbers are the same: that numbers fit is shown in one way
from_block : (b c t o : ℕ) (p : b < 2 ^ 24) (q : t < 2 ^ 24) → b ≡ c → (r : c < 2 ^ 24)
    → as_id b t o p q ≡ as_id c t o r q
from_block b c t o p q e = subst (λ (x : ℕ). (r : x < 2 ^ 24) → as_id b t o p q ≡ as_id x t o r q) e
    (λ r. ap (λ (s : b < 2 ^ 24). as_id b t o s q) (le_prop p r))

from_tx : (b t u o : ℕ) (p : b < 2 ^ 24) (q : t < 2 ^ 24) → t ≡ u → (r : u < 2 ^ 24)
    → as_id b t o p q ≡ as_id b u o p r
from_tx b t u o p q e = subst (λ (x : ℕ). (r : x < 2 ^ 24) → as_id b t o p q ≡ as_id b x o p r) e
    (λ r. ap (λ (s : t < 2 ^ 24). as_id b t o p s) (le_prop q r))

pub id_is : (b t o : ℕ) (p : b < 2 ^ 24) (q : t < 2 ^ 24) → as_id b t o p q ≡ id_of b t o
unfolding id_of
id_is b t o p q =
    from_block b (b % 2 ^ 24) t o p q (sym (mod-eq_of_lt p)) (cut_below 24 b)
    ∙ from_tx (b % 2 ^ 24) t (t % 2 ^ 24) o (cut_below 24 b) q (sym (mod-eq_of_lt q)) (cut_below 24 t)
