-- Bytes that are no text, and what holds of each text.
use Rattle.std.proofs.Common.{◌≡◌, ℕ, List, false, Option, Some, None, IfSome, inl, inr}
use Rattle.std.specs.Str.{is_utf8, IsUtf8}
use Rattle.std.proofs.lemmas.Bool.{cases_Bool}
use Rattle.std.proofs.lemmas.Str.{IsUtf8-from_is_utf8}

pub no_utf8 : (bytes : List ℕ) → (IsUtf8 bytes → ⊥) → is_utf8 bytes ≡ false
no_utf8 bytes other =
    elim (cases_Bool (is_utf8 bytes)) as (λ _. is_utf8 bytes ≡ false) [
      | inl valid ↦ absurd (other (IsUtf8-from_is_utf8 bytes valid))
      | inr invalid ↦ invalid
    ]

pub if_some_all : {A : Type 0} (o : Option A) (P : A → Type 0) → ((x : A) → P x) → IfSome o P
if_some_all None P h = tt
if_some_all (Some x) P h = h x
