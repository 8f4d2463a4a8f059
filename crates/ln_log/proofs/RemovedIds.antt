-- The ids of HTLCs that updates remove, one update after the other.
use Rattle.std.proofs.Common.{◌≡◌, ◌≢◌, ℕ, List, [], ◌∷◌, ◌++◌, refl, sym, ap, ◌∙◌, subst, inl, inr, Bool, true, false}
use Rattle.std.proofs.Common.{cond, not, eqb, Some, None, Ordering, Less, Equal, Greater}
use Rattle.std.proofs.lemmas.Bool.Decides.{eqb_tells}
use Rattle.std.proofs.lemmas.Map.Lookups.{exact_unsigned}
use Rattle.std.specs.Cmp.{nat_cmp_is}
use Rattle.std.specs.List.{list_any}
use Rattle.std.specs.Ordering.{nat_cmp, is_eq}
use Rattle.std.specs.BTreeMap.{is_at}
use Rattle.std.specs.BTreeSet.{BTreeSet, contains}
use Rattle.ln_log.specs.declared.update.Removal.{Removal}
use Rattle.ln_log.specs.declared.update.Update.{Update}
use Rattle.ln_log.specs.declared.outcome.Outcome.{Outcome}
use Rattle.ln_log.specs.declared.outcome.Outcome.TheVariants.{Live, Fulfilled, Failed}
use Rattle.ln_log.specs.Outcomes.{AreRemoved}
use Rattle.ln_log.specs.Updates.{removed, outcome, is_live}
use Rattle.ln_log.proofs.Removing.{IsDone, done, outcome-append, outcome-none, outcome-other, outcome-hit}

at_same : (a b : ℕ) → a ≡ b → is_eq (nat_cmp a b) ≡ true
at_same a b e = ap is_eq (sym (nat_cmp_is a b Equal e))

not_equal : (o : Ordering) → (o ≡ Equal → ⊥) → is_eq o ≡ false
not_equal Less h = refl
not_equal Equal h = absurd (h refl)
not_equal Greater h = refl

at_other : (a b : ℕ) → a ≢ b → is_eq (nat_cmp a b) ≡ false
at_other a b h = not_equal (nat_cmp a b) (λ e. h (exact_unsigned a b e))

pub no_keys : (s : BTreeSet ℕ) → s.keys ≡ [] → AreRemoved s []
no_keys s e id = ap (list_any (is_at (nat_cmp id))) e

pub noted_none : (s : BTreeSet ℕ) (us : List Update) (u : Update) → removed u ≡ None → AreRemoved s us
    → AreRemoved s (us ++ u ∷ [])
noted_none s us u e h id = h id ∙ ap (λ o. not (is_live o)) (sym (outcome-none id us u e))

live_is : (o : Outcome) → is_live o ≡ true → o ≡ Live
live_is Live e = refl
live_is Fulfilled e = absurd (cc)
live_is Failed e = absurd (cc)

-- after an update that removes it an HTLC isn't live
gone_by : (id : ℕ) (us : List Update) (u : Update) (r : Removal) → removed u ≡ Some r → eqb r.id id ≡ true
    → (b : Bool) → is_live (outcome id us) ≡ b → is_live (outcome id (us ++ u ∷ [])) ≡ false
gone_by id us u r e same true live =
    ap is_live (outcome-hit id us u r e same (live_is (outcome id us) live)) ∙ subst IsDone e (done u)
gone_by id us u r e same false dead =
    ap is_live (outcome-append id us (u ∷ []) ∙ ap (λ b. cond b (outcome id (u ∷ [])) (outcome id us)) dead) ∙ dead

-- with the id of what an update removes they are those of one more
pub noted : (s n : BTreeSet ℕ) (us : List Update) (u : Update) (r : Removal) → removed u ≡ Some r
    → ((id : ℕ) → contains nat_cmp n id ≡ cond (is_at (nat_cmp r.id) id) true (contains nat_cmp s id))
    → AreRemoved s us → AreRemoved n (us ++ u ∷ [])
noted s n us u r e put h id =
    elim (eqb_tells r.id id) [
      | inl g ↦
          put id ∙ ap (λ b. cond b true (contains nat_cmp s id)) (at_same r.id id g.1)
          ∙ ap not (sym (gone_by id us u r e g.0 (is_live (outcome id us)) refl))
      | inr g ↦
          put id ∙ ap (λ b. cond b true (contains nat_cmp s id)) (at_other r.id id g.1) ∙ h id
          ∙ ap (λ o. not (is_live o)) (sym (outcome-other id us u r e g.0))
    ]
