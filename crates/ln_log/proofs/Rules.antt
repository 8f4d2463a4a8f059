-- What is wrong with an update is a rule's of its receiver.
use Rattle.std.proofs.Common.{◌≡◌, ℕ, ◌+◌, ◌*◌, Bool, true, false, cond, ◌||◌, ◌==◌, nat_lt, nat_le, nat_eq, List}
use Rattle.std.proofs.Common.{Option, Some, None, refl, subst}
use Rattle.std.specs.Cmp.Lexicographic.{pointwise}
use Rattle.ln_keys.specs.Hash.{payment_hash}
use Rattle.ln_refusals.specs.declared.refusal.Refusal.TheVariants as refusal
use Rattle.ln_keys.specs.declared.role.Role.{Role}
use Rattle.ln_keys.specs.declared.role.Role.TheVariants.{Funder, Fundee}
use Rattle.ln_refusals.specs.declared.refusal.Refusal.{Refusal}
use Rattle.ln_refusals.specs.PeerRule.{refusal_by, rule_of}
use Rattle.ln_log.specs.declared.opening.Opening.{Opening}
use Rattle.ln_log.specs.declared.update.Add.{Add}
use Rattle.ln_log.specs.declared.update.Update.{Update}
use Rattle.ln_log.specs.declared.update.Update.TheVariants as update
use Rattle.ln_log.specs.declared.opening.Limits.{Limits}
use Rattle.ln_log.specs.declared.standing.Standing.{Standing}
use Rattle.ln_log.specs.Limits.{add_fault, fulfil_fault, fail_fault, malformed_fault, fee_fault}
use Rattle.ln_log.specs.Limits.{removable, fault_at, update_fault, standing_of}
use Rattle.ln_log.specs.Opening.{limits_of, first_balance}

-- where it refuses, it is by the refusal of a rule
record IsRule (o : Option Refusal) : Type 0 where
  pub is : (r : Refusal) → o ≡ Some r → refusal_by (rule_of r) ≡ r

none : IsRule None
none = record { is = λ r e. absurd cc }

record_form : (q : Refusal) → refusal_by (rule_of q) ≡ q → IsRule (Some q)
record_form q h = record { is = λ r e. let same : q ≡ r = cc in subst (λ x. refusal_by (rule_of x) ≡ x) same h }

if_so : (b : Bool) (q : Refusal) {next : Option Refusal} → refusal_by (rule_of q) ≡ q → IsRule next
    → IsRule (cond b (Some q) next)
if_so true q h p = record_form q h
if_so false q h p = p

if_not : (b : Bool) (q : Refusal) → refusal_by (rule_of q) ≡ q → IsRule (cond b None (Some q))
if_not true q h = none
if_not false q h = record_form q h

add_rules : (l : Limits) (s : Standing) (a : Add) → IsRule (add_fault l s a)
add_rules l s a =
    if_so ((a.amount == 0) || nat_lt a.amount l.minimum) refusal.AmountBelowMinimum refl
    (if_so (nat_lt 499999999 a.expiry) refusal.ExpiryRange refl
    (if_so (nat_lt l.accepted (s.live + 1)) refusal.TooManyHtlcs refl
    (if_so (nat_lt l.in_flight (s.in_flight + a.amount)) refusal.InFlightOver refl
    (if_so (nat_lt s.balance (a.amount + 1000 * l.reserve)) refusal.CannotAfford refl none))))

fulfil_rules : (preimage : List ℕ) (found : Option Add) → IsRule (fulfil_fault preimage found)
fulfil_rules preimage None = record_form refusal.NoSuchHtlc refl
fulfil_rules preimage (Some a) = if_not (pointwise nat_eq (payment_hash preimage) a.hash) refusal.PreimageWrong refl

fail_rules : (found : Option Add) → IsRule (fail_fault found)
fail_rules None = record_form refusal.NoSuchHtlc refl
fail_rules (Some a) = none

malformed_rules : (code : ℕ) (found : Option Add) → IsRule (malformed_fault code found)
malformed_rules code None = record_form refusal.NoSuchHtlc refl
malformed_rules code (Some a) = if_not (nat_le 32768 code) refusal.OutOfPlace refl

fee_rules : (side : Role) → IsRule (fee_fault side)
fee_rules Funder = none
fee_rules Fundee = record_form refusal.NotFunder refl

fault_rules : (l : Limits) (s : Standing) (side : Role) (own held : List Update) (u : Update)
    → IsRule (fault_at l s side own held u)
fault_rules l s side own held (update.Add a) = add_rules l s a
fault_rules l s side own held (update.Fulfil f) = fulfil_rules f.preimage (removable f.id own held)
fault_rules l s side own held (update.Fail f) = fail_rules (removable f.id own held)
fault_rules l s side own held (update.Malformed m) = malformed_rules m.failure_code (removable m.id own held)
fault_rules l s side own held (update.Fee f) = fee_rules side

pub limits_rule : (o : Opening) (side : Role) (own seen held : List Update) (u : Update) (r : Refusal)
    → update_fault o side own seen held u ≡ Some r → refusal_by (rule_of r) ≡ r
limits_rule o side own seen held u =
    (fault_rules (limits_of o side) (standing_of (first_balance o side) own seen) side own held u).is
