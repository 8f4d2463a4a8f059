-- The hooks of a script: their codes, their places, and that each is registered by a step.
use Rattle.std.proofs.Common.{◌≡◌, ℕ, List, [], ◌∷◌, Bool, true, false, cond, ◌||◌, ◌==◌}
use Rattle.std.proofs.Common.{inl, inr, Option, Some, None, IfSome, IsSome, IsTrue, ◌↔◌, refl, sym, ap, ◌∙◌}
use Rattle.std.proofs.Common.{map}
use Rattle.std.specs.List.{list_any}
use Rattle.std.proofs.lemmas.Bool.{cases_Bool}
use Rattle.ln_hooks.specs.declared.verdict.FailureCode.{FailureCode}
use Rattle.ln_hooks.specs.declared.verdict.FailureCode.TheVariants as code
use Rattle.ln_hooks.specs.Verdict.{code_number, is_lawful}
use Rattle.ln_script.specs.Hook.{all_codes, code_among, lawful}

-- ---- codes

its_own : (c : FailureCode) → code_among all_codes (code_number c) ≡ Some c
its_own code.TemporaryChannelFailure = refl
its_own code.UnknownNextPeer = refl
its_own code.AmountBelowMinimum = refl
its_own code.FeeInsufficient = refl
its_own code.IncorrectCltvExpiry = refl
its_own code.ExpiryTooSoon = refl
its_own code.IncorrectOrUnknownPaymentDetails = refl
its_own code.FinalIncorrectCltvExpiry = refl
its_own code.FinalIncorrectHtlcAmount = refl
its_own code.ExpiryTooFar = refl
its_own code.InvalidOnionPayload = refl

is_lawful_code : (c : FailureCode) (n : ℕ) → code_number c ≡ n → Some c ≡ lawful n
unfolding lawful
is_lawful_code c n is = sym (its_own c) ∙ ap (λ m. code_among all_codes m) is

none_among : (cs : List FailureCode) (n : ℕ) → list_any (λ c. c == n) (map code_number cs) ≡ false
    → code_among cs n ≡ None
none_among [] n h = refl
none_among (c ∷ cs) n h = by (code_number c == n) refl (λ rest. none_among cs n rest)
  where
    by : (b : Bool) → (code_number c == n) ≡ b
        → (list_any (λ d. d == n) (map code_number cs) ≡ false → code_among cs n ≡ None)
        → code_among (c ∷ cs) n ≡ None
    by true is rest =
        let it : true ≡ false = sym (ap (λ x. x || list_any (λ d. d == n) (map code_number cs)) is) ∙ h in
        absurd cc
    by false is rest =
        ap (λ x. cond x (Some c) (code_among cs n)) is
        ∙ rest (sym (ap (λ x. x || list_any (λ d. d == n) (map code_number cs)) is) ∙ h)

is_no_code : (n : ℕ) → (IsTrue (is_lawful n) → ⊥) → None ≡ lawful n
unfolding lawful
is_no_code n other =
    elim (cases_Bool (is_lawful n)) as (λ _. None ≡ code_among all_codes n) [
      | inl told ↦ absurd (other told)
      | inr untold ↦ sym (none_among all_codes n untold)
    ]

pub code_told : (o : Option FailureCode) (n : ℕ) → IfSome o (λ c. code_number c ≡ n)
    → (IsSome o ↔ IsTrue (is_lawful n)) → o ≡ lawful n
code_told (Some c) n h iff = is_lawful_code c n h
code_told None n h iff = is_no_code n (λ t. absurd (let some = iff.1 t in cc))
