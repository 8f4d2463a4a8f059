-- What is noted of HTLCs after one more update.
use Rattle.std.proofs.Common.{◌≡◌, ℕ, List, [], ◌∷◌, ◌++◌, refl, sym, ap, ◌∙◌, subst, false, cond, Option, Some, None}
use Rattle.std.proofs.Common.{inl, inr, true}
use Rattle.std.specs.Prelude.{is_some}
use Rattle.std.proofs.lemmas.Bool.Decides.{eqb_tells}
use Rattle.ln_log.specs.declared.update.Removal.{Removal}
use Rattle.ln_log.specs.declared.update.Update.{Update}
use Rattle.ln_log.specs.declared.outcome.Outcome.{Outcome}
use Rattle.ln_log.specs.declared.outcome.Outcome.TheVariants.{Live, Fulfilled, Failed}
use Rattle.ln_log.specs.Updates.{removed, outcome, is_live}
use Rattle.ln_log.specs.Outcomes.{noted_as}
use Rattle.ln_log.proofs.Fated.{Changes, changed_here, changed_not}
use Rattle.ln_log.proofs.Removing.{IsDone, done, outcome-append, outcome-none, outcome-other, outcome-hit}

abbrev Notes : (ℕ → Option Outcome) → List Update → Type 0
Notes f us = (id : ℕ) → f id ≡ noted_as (outcome id us)

-- one that removes nothing
pub notes_none : (f : ℕ → Option Outcome) (us : List Update) (u : Update) → removed u ≡ None → Notes f us
    → Notes f (us ++ u ∷ [])
notes_none f us u e h = λ id. h id ∙ ap noted_as (sym (outcome-none id us u e))

is_gone : (o : Option Outcome) (p : Outcome) → is_some o ≡ true → o ≡ noted_as p → is_live p ≡ false
is_gone o Live h e = absurd (let k : false ≡ true = ap is_some (sym e) ∙ h in cc)
is_gone o Fulfilled h e = refl
is_gone o Failed h e = refl

pub none_so : (o : Option Outcome) → is_some o ≡ false → o ≡ None
none_so None e = refl
none_so (Some o) e = absurd (cc)

is_there : (p : Outcome) → None ≡ noted_as p → p ≡ Live
is_there Live e = refl
is_there Fulfilled e = absurd (cc)
is_there Failed e = absurd (cc)

done_stays : (id : ℕ) (us : List Update) (u : Update) → is_live (outcome id us) ≡ false
    → outcome id us ≡ outcome id (us ++ u ∷ [])
done_stays id us u gone = sym (outcome-append id us (u ∷ [])
    ∙ ap (λ b. cond b (outcome id (u ∷ [])) (outcome id us)) gone)

-- one that removes an HTLC that is gone
pub notes_done : (f : ℕ → Option Outcome) (us : List Update) (u : Update) (x : Removal) → removed u ≡ Some x
    → is_some (f x.id) ≡ true → Notes f us → Notes f (us ++ u ∷ [])
notes_done f us u x e was h = λ id.
    elim (eqb_tells x.id id) [
      | inl g ↦ h id ∙ ap noted_as (done_stays id us u (subst (λ i. is_live (outcome i us) ≡ false) g.1
          (is_gone (f x.id) (outcome x.id us) was (h x.id))))
      | inr g ↦ h id ∙ ap noted_as (sym (outcome-other id us u x e g.0))
    ]

noted_done : (o : Outcome) → is_live o ≡ false → Some o ≡ noted_as o
noted_done o gone = ap (λ b. cond b None (Some o)) (sym gone)

-- one that removes a live HTLC
pub notes_one : (f g : ℕ → Option Outcome) (us : List Update) (u : Update) (x : Removal) → removed u ≡ Some x
    → f x.id ≡ None → Changes f g x.id x.outcome → Notes f us → Notes g (us ++ u ∷ [])
notes_one f g us u x e was c h = λ id.
    elim (eqb_tells x.id id) [
      | inl t ↦ changed_here f g x.id id x.outcome c t.0 ∙ noted_done x.outcome (subst IsDone e (done u))
          ∙ ap noted_as (sym (outcome-hit id us u x e t.0 (subst (λ i. outcome i us ≡ Live) t.1
          (is_there (outcome x.id us) (sym was ∙ h x.id)))))
      | inr t ↦ changed_not f g x.id id x.outcome c t.0 ∙ h id
          ∙ ap noted_as (sym (outcome-other id us u x e t.0))
    ]

-- what is noted tells what becomes of an HTLC
pub none_told : (p : Outcome) → None ≡ noted_as p → Live ≡ p
none_told p e = sym (is_there p e)

pub some_told : (q p : Outcome) → Some q ≡ noted_as p → q ≡ p
some_told q Live e = absurd (cc)
some_told q Fulfilled e = cc
some_told q Failed e = cc
