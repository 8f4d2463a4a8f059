-- What is told of is so: an own removal that comes to be held is held, and an own HTLC whose removal does has ended so.
use Rattle.std.proofs.Common.{◌≡◌, inl, inr, ℕ, ◌-◌, ◌≤◌, List, [], ◌∷◌, ◌++◌, take, drop, refl, sym, ap, ◌∙◌, subst}
use Rattle.std.proofs.Common.{arith}
use Rattle.std.proofs.Common.{Bool, true, false, cond, not, ◌==◌, Option, Some, None}
use Rattle.std.proofs.lemmas.Bool.{eq-eqb}
use Rattle.ln_log.specs.declared.update.Removal.{Removal as Removing}
use Rattle.ln_log.specs.declared.update.Update.{Update}
use Rattle.ln_log.specs.declared.mark.Settlement.{Settlement}
use Rattle.ln_log.specs.declared.outcome.Outcome.{Outcome}
use Rattle.ln_log.specs.declared.outcome.Outcome.TheVariants.{Live, Fulfilled, Failed}
use Rattle.ln_log.specs.Updates.{removed, is_some, add_with, outcome, outcome_by, is_live}
use Rattle.ln_log.specs.Log.{Log, AreRemovals, RemovesLive, between}
use Rattle.ln_log.specs.Log as log
use Rattle.ln_log.proofs.Removing.{removals-take, add_with-more}
use Rattle.ln_payment.specs.Parts.{Kind, Fulfils, Fails, Proposed, By, IsHeld, IsEnd}
use Rattle.ln_payment_circuits.specs.Snapshot.{is_gone, IsSoundLog, IsIn}
use Rattle.ln_payment_circuits.proofs.Updates.{front_tells}
use Rattle.ln_payment_circuits.proofs.Parts.{ended_by, course_by, has_result, course_of, removal_of, removal_by}
use Rattle.ln_payment_circuits.proofs.Parts.{stage_by}
use Rattle.ln_payment_circuits.proofs.Removals.{gone_by, fate_told, split_front, newly}
use Rattle.ln_payment_circuits.proofs.Lists.{among_more}

-- what is removed is gone
pub gone_among : (us : List Update) (u : Update) (r : Removing) → IsIn u us → removed u ≡ Some r
    → is_gone r.id us ≡ true
gone_among [] u r k e = absurd k
gone_among (v ∷ us) u r (inl is) e =
    ap (λ z. not (is_live (outcome_by r.id z (outcome r.id us)))) (ap removed is ∙ e)
    ∙ ap (λ b. not (is_live (cond b r.outcome (outcome r.id us)))) (eq-eqb r.id r.id refl) ∙ gone_by u r e
gone_among (v ∷ us) u r (inr k) e = cases (removed v) refl (gone_among us u r k e)
  where
    cases : (o : Option Removing) → removed v ≡ o → is_gone r.id us ≡ true
        → not (is_live (outcome_by r.id o (outcome r.id us))) ≡ true
    cases None is h = h
    cases (Some q) is h = hit (q.id == r.id)
      where
        hit : (b : Bool) → not (is_live (cond b q.outcome (outcome r.id us))) ≡ true
        hit true = gone_by v q is
        hit false = h

-- ---- a removal of its own

held_by : (o : Outcome) (b : Bool) → not (is_live o) ≡ true → IsHeld (removal_by o (stage_by true b))
held_by Live b e = absurd (cc)
held_by Fulfilled b e = tt
held_by Failed b e = tt

pub removal_is_held : (l : Log) (id : ℕ) → is_gone id (take l.current.own l.own) ≡ true → IsHeld (removal_of id l)
removal_is_held l id gone =
    subst (λ b. IsHeld (removal_by (outcome id l.own) (stage_by b (is_gone id (take l.signed.own l.own))))) (sym gone)
    (held_by (outcome id l.own) (is_gone id (take l.signed.own l.own))
    (ap (λ o. not (is_live o)) (front_tells id l.current.own l.own gone) ∙ gone))

pub accepted_is_held : (l : Log) (u : Update) (r : Removing) → l.current.own ≤ l.acknowledged.own
    → IsIn u (between l.current.own l.acknowledged.own l.own) → removed u ≡ Some r
    → IsHeld (removal_of r.id (log.after_accept l))
accepted_is_held l u r le k e =
    removal_is_held (log.after_accept l) r.id (gone_among (take l.acknowledged.own l.own) u r
    (subst (IsIn u) (sym (split_front l.current.own l.acknowledged.own l.own le))
    (among_more u (take l.current.own l.own) (between l.current.own l.acknowledged.own l.own) k)) e)

-- ---- an own HTLC

offered_among : (adds before us : List Update) (u : Update) (r : Removing) → AreRemovals adds before us → IsIn u us
    → removed u ≡ Some r → is_some (add_with r.id adds) ≡ true
offered_among adds before [] u r h k e = absurd k
offered_among adds before (v ∷ us) u r h (inl is) e =
    (let one : RemovesLive adds before (Some r) = subst (RemovesLive adds before) (ap removed is ∙ e) h.0 in one.0)
offered_among adds before (v ∷ us) u r h (inr k) e = offered_among adds (before ++ v ∷ []) us u r h.1 k e

ends_by : (o : Outcome) (k : Kind) (r : Bool) → removal_by o Proposed ≡ By k Proposed → IsEnd k (ended_by o r)
ends_by Live k r e = absurd (cc)
ends_by Fulfilled k r e = let is : Fulfils ≡ k = cc in is
ends_by Failed k r e = let is : Fails ≡ k = cc in is

pub learned_is_ended : (l : Log) (ss : List Settlement) (u : Update) (r : Removing) (k : Kind) → IsSoundLog l
    → IsIn u (newly l) → removed u ≡ Some r → removal_by r.outcome Proposed ≡ By k Proposed
    → IsEnd k (course_of r.id (log.after_learn l) ss)
learned_is_ended l ss u r k s m e kind =
    let us = take l.signed.peer l.received in
    let among : IsIn u us = subst (IsIn u) (sym (split_front l.acknowledged.peer l.signed.peer l.received
    s.within.peer_acknowledged))
    (among_more u (take l.acknowledged.peer l.received) (newly l) m) in
    let all : AreRemovals (take l.current.own l.own) [] us =
    removals-take (take l.current.own l.own) [] l.received l.signed.peer s.peer_removals in
    let fate : outcome r.id us ≡ r.outcome = fate_told (take l.current.own l.own) [] us u r all among e in
    let a = s.within.own_current in
    let b = s.within.own_acknowledged in
    let there = offered_among (take l.current.own l.own) [] us u r all among e in
    let front = split_front l.current.own l.signed.own l.own (omega (arith, a, b)) in
    let covered : is_some (add_with r.id (take l.signed.own l.own)) ≡ true =
    ap (λ vs. is_some (add_with r.id vs)) front
    ∙ ap is_some (add_with-more r.id (take l.current.own l.own)
    (take (l.signed.own - l.current.own) (drop l.current.own l.own)) there)
    ∙ there in
    subst (λ c. IsEnd k (course_by c (ended_by (outcome r.id us) (has_result r.id ss)))) (sym covered)
    (subst (λ o. IsEnd k (ended_by o (has_result r.id ss))) (sym fate) (ends_by r.outcome k (has_result r.id ss) kind))
