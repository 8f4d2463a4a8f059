-- What an end keeps as its dance moves on.
use Rattle.std.proofs.Common.{refl, ap, sym, ◌∙◌, inl, inr, Option, Some, None, ◌≡◌, Result, Ok, Err, OnOk}
use Rattle.std.proofs.Common.{Bool, true, false, IsTrue, IsErrOf, ◌↔◌, if◌then◌else◌}
use Rattle.ln_refusals.specs.declared.refusal.Refusal.{Refusal}
use Rattle.ln_log.specs.Limits.{Answers}
use Rattle.ln_log.specs.Log.{Log, at_opening}
use Rattle.ln_dance.specs.Dance as dance
use Rattle.ln_dance.specs.Dance.{Dancer, AnswersWithin}
use Rattle.ln_refusals.specs.declared.refusal.Refusal.TheVariants as refusal
use Rattle.ln_channel.specs.Opening.{AnswersFault, AnswersSignature}
use Rattle.ln_channel.specs.End.{End, StandsFor, IsSound, with_dance}

pub on_ok : {A : Type 0} (r : Result A Refusal) {P Q : Type 0} → (P → Q) → OnOk r P → OnOk r Q
on_ok (Ok x) f p = f p
on_ok (Err x) f p = tt

-- a dance that keeps its role and opening
pub sound : (e : End) (new : Dancer) → at_opening new.log ≡ at_opening e.dance.log → IsSound e
    → IsSound (with_dance new e)
sound e new same s = record {
  one_role = ap (λ (l : Log). l.role) same ∙ s.one_role;
  opening = ap (λ (l : Log). l.opening) same ∙ s.opening;
  fees = s.fees;
  scripts = s.scripts;
}

-- the dance of an end that is stood for
pub dance_stands : (kept e : End) → StandsFor kept e → dance.StandsFor kept.dance e.dance
dance_stands kept e s = ap (λ (x : End). x.dance) s

-- with another dance
pub stands_with_dance : (kept e : End) (d' d : Dancer) → StandsFor kept e → dance.StandsFor d' d
    → StandsFor (with_dance d' kept) (with_dance d e)
stands_with_dance kept e d' d s by =
    ap (λ (x : End). with_dance d' x) s ∙ ap (λ (x : Dancer). with_dance x e) by

abbrev pub unless_last : Bool → Bool → Option Refusal
unless_last last right = if last then Some refusal.OutOfPlace else (if right then None else Some refusal.SignatureWrong)

pub within : {A : Type 0} (fault : Option Refusal) (r : Result A Refusal) → Answers fault r → AnswersFault fault r
within fault (Ok x) a = a
within fault (Err e) (inl m) = inl (m.0, inl m.1)
within fault (Err e) (inr n) = inr n

-- the same, after a test that passed
pub within_if : {A : Type 0} (b : Bool) (other : Refusal) (fault : Option Refusal) (r : Result A Refusal) → b ≡ true
    → Answers fault r → AnswersFault (if b then fault else Some other) r
within_if true other fault r e a = within fault r a
within_if false other fault r e a = absurd (cc)

-- where a view is made before a signature is looked at
pub viewed : {A : Type 0} (last right : Bool) (r : Result A Refusal) → AnswersWithin (unless_last last right) r
    → (IsErrOf r refusal.OutOfPlace ↔ IsTrue last) → AnswersSignature (unless_last last right) r
viewed last right (Ok x) a h = a
viewed true right (Err e) a h =
    let q : Err e ≡ Err refusal.OutOfPlace = h.1 refl in let p : e ≡ refusal.OutOfPlace = cc in inr (ap Some (sym p))
viewed false true (Err e) (inl m) h = inl (m, inl refl)
viewed false true (Err e) (inr n) h = inr n
viewed false false (Err e) (inl m) h = inl (m, inr (inr (refl, refl)))
viewed false false (Err e) (inr n) h = inr n
