-- A table of HTLCs after one more update.
use Rattle.std.proofs.Common.{◌≡◌, ℕ, List, [], ◌∷◌, ◌++◌, refl, sym, ap, ◌∙◌, subst, arith, Bool, true, false}
use Rattle.std.proofs.Common.{cond, Option, Some, None, ◌==◌, inl, inr, ◌+◌, ◌<◌, take, length, get_or, append_assoc}
use Rattle.std.proofs.lemmas.Bool.Decides.{eqb_tells, nat_tests}
use Rattle.std.specs.Ordering.{nat_cmp, is_eq}
use Rattle.ln_log.specs.declared.update.Add.{Add}
use Rattle.ln_log.specs.declared.update.Removal.{Removal}
use Rattle.ln_log.specs.declared.update.Update.{Update}
use Rattle.ln_log.specs.declared.outcome.Outcome.{Outcome}
use Rattle.ln_log.specs.declared.outcome.Outcome.TheVariants.{Live}
use Rattle.ln_log.specs.Updates.{offered, removed, is_some, found_or, add_with, outcome}
use Rattle.ln_log.specs.Log.{RemovesLive}
use Rattle.ln_log.specs.Outcomes.{fate_of}
use Rattle.ln_log.proofs.Readable.{joined}
use Rattle.ln_log.proofs.Removing.{or_else, add_with-append, outcome-none, outcome-other, outcome-hit}

abbrev Tells : (ℕ → Option Outcome) → List Update → List Update → Type 0
Tells f adds us = (id : ℕ) → f id ≡ fate_of id adds us

-- g tells of one HTLC what is given, and of all others what f tells
abbrev pub Changes : (ℕ → Option Outcome) → (ℕ → Option Outcome) → ℕ → Outcome → Type 0
Changes f g k o = (id : ℕ) → g id ≡ cond (is_eq (nat_cmp k id)) (Some o) (f id)

same_id : (k q : ℕ) → is_eq (nat_cmp k q) ≡ (k == q)
same_id k q = grind (arith, nat_tests)

pub changed_here : (f g : ℕ → Option Outcome) (k id : ℕ) (o : Outcome) → Changes f g k o → (k == id) ≡ true
    → g id ≡ Some o
changed_here f g k id o h e = h id ∙ ap (λ b. cond b (Some o) (f id)) (same_id k id ∙ e)

pub changed_not : (f g : ℕ → Option Outcome) (k id : ℕ) (o : Outcome) → Changes f g k o → (k == id) ≡ false
    → g id ≡ f id
changed_not f g k id o h e = h id ∙ ap (λ b. cond b (Some o) (f id)) (same_id k id ∙ e)

-- ---- one more that is offered

with_none : (x : Option Add) → or_else x None ≡ x
with_none None = refl
with_none (Some a) = refl

with_some : (x : Option Add) (a : Add) → is_some (or_else x (Some a)) ≡ true
with_some None a = refl
with_some (Some b) a = refl

found_behind : (id : ℕ) (adds : List Update) (u : Update) (o : Option Add) → offered u ≡ o
    → add_with id (adds ++ u ∷ []) ≡ or_else (add_with id adds) (found_or id o None)
found_behind id adds u o e = add_with-append id adds (u ∷ [])
    ∙ ap (λ x. or_else (add_with id adds) (found_or id x None)) e

pub offers_none : (f : ℕ → Option Outcome) (adds : List Update) (u : Update) → offered u ≡ None → Tells f adds []
    → Tells f (adds ++ u ∷ []) []
offers_none f adds u e h = λ id. h id
    ∙ ap (λ x. cond (is_some x) (Some Live) None) (sym (found_behind id adds u None e ∙ with_none (add_with id adds)))

pub offers_one : (f g : ℕ → Option Outcome) (adds : List Update) (u : Update) (a : Add) → offered u ≡ Some a
    → Changes f g a.id Live → Tells f adds [] → Tells g (adds ++ u ∷ []) []
offers_one f g adds u a e c h = λ id.
    elim (eqb_tells a.id id) [
      | inl t ↦ changed_here f g a.id id Live c t.0
          ∙ ap (λ b. cond b (Some Live) None) (sym (ap is_some (found_behind id adds u (Some a) e
          ∙ ap (λ b. or_else (add_with id adds) (cond b (Some a) None)) t.0) ∙ with_some (add_with id adds) a))
      | inr t ↦ changed_not f g a.id id Live c t.0 ∙ h id
          ∙ ap (λ x. cond (is_some x) (Some Live) None) (sym (found_behind id adds u (Some a) e
          ∙ ap (λ b. or_else (add_with id adds) (cond b (Some a) None)) t.0 ∙ with_none (add_with id adds)))
    ]

-- of a list its updates one by one
pub tells_next : (f : ℕ → Option Outcome) (adds us : List Update) (i : ℕ) (u : Update) → u ≡ get_or us i u
    → i < length us → Tells f ((adds ++ take i us) ++ u ∷ []) [] → Tells f (adds ++ take (i + 1) us) []
tells_next f adds us i u e lt = subst (λ x. Tells f x [])
    (append_assoc adds (take i us) (u ∷ []) ∙ ap (λ x. adds ++ x) (sym (joined us i u e lt)))

-- ---- one more that removes

pub removes_none : (f : ℕ → Option Outcome) (adds us : List Update) (u : Update) → removed u ≡ None → Tells f adds us
    → Tells f adds (us ++ u ∷ [])
removes_none f adds us u e h = λ id. h id
    ∙ ap (λ o. cond (is_some (add_with id adds)) (Some o) None) (sym (outcome-none id us u e))

is_told : (found : Bool) (o p : Outcome) → Some p ≡ cond found (Some o) None → (found ≡ true) × (p ≡ o)
is_told true o p e = (refl, cc)
is_told false o p e = absurd (cc)

-- what is told to be live was offered and is live
live_told : (f : ℕ → Option Outcome) (adds us : List Update) (id : ℕ) → Tells f adds us → f id ≡ Some Live
    → (is_some (add_with id adds) ≡ true) × (outcome id us ≡ Live)
live_told f adds us id h e =
    let k = is_told (is_some (add_with id adds)) (outcome id us) Live (sym e ∙ h id) in (k.0, sym k.1)

told_live : (f : ℕ → Option Outcome) (adds us : List Update) (id : ℕ) → Tells f adds us
    → is_some (add_with id adds) ≡ true → outcome id us ≡ Live → f id ≡ Some Live
told_live f adds us id h e o = h id ∙ ap (λ b. cond b (Some (outcome id us)) None) e ∙ ap Some o

pub removes_one : (f g : ℕ → Option Outcome) (adds us : List Update) (u : Update) (x : Removal) → removed u ≡ Some x
    → f x.id ≡ Some Live → Changes f g x.id x.outcome → Tells f adds us → Tells g adds (us ++ u ∷ [])
removes_one f g adds us u x e live c h = λ id.
    let k = live_told f adds us x.id h live in
    elim (eqb_tells x.id id) [
      | inl t ↦ changed_here f g x.id id x.outcome c t.0
          ∙ sym (ap (λ b. cond b (Some (outcome id (us ++ u ∷ []))) None)
          (ap (λ i. is_some (add_with i adds)) (sym t.1) ∙ k.0)
          ∙ ap Some (outcome-hit id us u x e t.0 (ap (λ i. outcome i us) (sym t.1) ∙ k.1)))
      | inr t ↦ changed_not f g x.id id x.outcome c t.0 ∙ h id
          ∙ ap (λ o. cond (is_some (add_with id adds)) (Some o) None) (sym (outcome-other id us u x e t.0))
    ]

pub removes_live : (f : ℕ → Option Outcome) (adds us : List Update) (u : Update) (x : Removal) → removed u ≡ Some x
    → Tells f adds us → f x.id ≡ Some Live → RemovesLive adds us (removed u)
removes_live f adds us u x e h live =
    subst (RemovesLive adds us) (sym e) (live_told f adds us x.id h live)

pub removes_told : (f : ℕ → Option Outcome) (adds us : List Update) (u : Update) (x : Removal) → removed u ≡ Some x
    → Tells f adds us → RemovesLive adds us (removed u) → f x.id ≡ Some Live
removes_told f adds us u x e h r =
    let k : RemovesLive adds us (Some x) = subst (RemovesLive adds us) e r in told_live f adds us x.id h k.0 k.1

pub removes_nothing : (adds us : List Update) (u : Update) → removed u ≡ None → RemovesLive adds us (removed u)
removes_nothing adds us u e = subst (RemovesLive adds us) (sym e) tt
