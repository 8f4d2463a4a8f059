-- An update that is within the limits stays so where more of the other side's updates stand with it, and where
-- its side holds more of them.
use Rattle.std.proofs.Common.{◌≡◌, ℕ, ◌+◌, ◌*◌, ◌≤◌, List, [], ◌∷◌, ◌++◌, length, refl, sym, ap, ◌∙◌, subst, arith}
use Rattle.std.proofs.Common.{Bool, true, false, cond, ◌||◌, ◌==◌, Option, Some, None, nat_lt}
use Rattle.std.proofs.lemmas.Bool.{ltb-false, le-ltb}
use Rattle.ln_keys.specs.declared.role.Role.{Role}
use Rattle.ln_log.specs.declared.opening.Limits.{Limits}
use Rattle.ln_log.specs.declared.opening.Opening.{Opening}
use Rattle.ln_log.specs.declared.standing.Standing.{Standing}
use Rattle.ln_log.specs.declared.update.Add.{Add}
use Rattle.ln_log.specs.declared.update.Update.{Update}
use Rattle.ln_log.specs.declared.update.Update.TheVariants as update
use Rattle.ln_log.specs.declared.outcome.Outcome.{Outcome}
use Rattle.ln_log.specs.declared.outcome.Outcome.TheVariants.{Live, Fulfilled, Failed}
use Rattle.ln_log.specs.Opening.{limits_of, first_balance}
use Rattle.ln_log.specs.Updates.{offered, outcome, is_live, is_some, total, add_with}
use Rattle.ln_log.specs.View.{live_adds}
use Rattle.ln_log.specs.Limits.{standing_of, add_fault, removable, fulfil_fault, fail_fault, malformed_fault}
use Rattle.ln_log.specs.Limits.{update_fault}
use Rattle.ln_log.proofs.Removing.{outcome-append, add_with-more}
use Rattle.ln_log.proofs.Tallies.{amount, one, weight, tally, total_is, live_is}
use Rattle.ln_log.proofs.Totals.{balance_more}

falls_one : (o n : Outcome) (w : ℕ) → cond (is_live (cond (is_live o) n o)) w 0 ≤ cond (is_live o) w 0
falls_one Live Live w = omega arith
falls_one Live Fulfilled w = omega arith
falls_one Live Failed w = omega arith
falls_one Fulfilled n w = omega arith
falls_one Failed n w = omega arith

weight_falls : (w : Add → ℕ) (p q : List Update) (o : Option Add) → weight w is_live (p ++ q) o ≤ weight w is_live p o
weight_falls w p q None = omega arith
weight_falls w p q (Some a) = subst (λ x. cond (is_live x) (w a) 0 ≤ cond (is_live (outcome a.id p)) (w a) 0)
    (sym (outcome-append a.id p q)) (falls_one (outcome a.id p) (outcome a.id q) (w a))

live_falls : (w : Add → ℕ) (us p q : List Update) → tally w is_live us (p ++ q) ≤ tally w is_live us p
live_falls w [] p q = omega arith
live_falls w (u ∷ us) p q = omega (arith, weight_falls w p q (offered u), live_falls w us p q)

passes : {A : Type 0} (b : Bool) (x : A) (o : Option A) → cond b (Some x) o ≡ None → (b ≡ false) × (o ≡ None)
passes true x o e = absurd (cc)
passes false x o e = (refl, e)

goes_on : {A : Type 0} (b : Bool) (x : A) (o : Option A) → b ≡ false → o ≡ None → cond b (Some x) o ≡ None
goes_on true x o e f = absurd (cc)
goes_on false x o e f = f

-- of a standing that is at least as good
add_more : (l : Limits) (s t : Standing) (a : Add) → t.live ≤ s.live → t.in_flight ≤ s.in_flight → s.balance ≤ t.balance
    → add_fault l s a ≡ None → add_fault l t a ≡ None
add_more l s t a few small rich e =
    let p1 = passes ((a.amount == 0) || nat_lt a.amount l.minimum) _ _ e in
    let p2 = passes (nat_lt 499999999 a.expiry) _ _ p1.1 in
    let p3 = passes (nat_lt l.accepted (s.live + 1)) _ _ p2.1 in
    let p4 = passes (nat_lt l.in_flight (s.in_flight + a.amount)) _ _ p3.1 in
    let p5 = passes (nat_lt s.balance (a.amount + 1000 * l.reserve)) _ _ p4.1 in
    let h3 : s.live + 1 ≤ l.accepted = ltb-false l.accepted (s.live + 1) p3.0 in
    let h4 : s.in_flight + a.amount ≤ l.in_flight = ltb-false l.in_flight (s.in_flight + a.amount) p4.0 in
    let h5 : a.amount + 1000 * l.reserve ≤ s.balance = ltb-false s.balance (a.amount + 1000 * l.reserve) p5.0 in
    let le5 : a.amount + 1000 * l.reserve ≤ t.balance = omega (arith, h5, rich) in
    goes_on ((a.amount == 0) || nat_lt a.amount l.minimum) _ _ p1.0
    (goes_on (nat_lt 499999999 a.expiry) _ _ p2.0
    (goes_on (nat_lt l.accepted (t.live + 1)) _ _ (le-ltb l.accepted (t.live + 1) (omega (arith, h3, few)))
    (goes_on (nat_lt l.in_flight (t.in_flight + a.amount)) _ _
    (le-ltb l.in_flight (t.in_flight + a.amount) (omega (arith, h4, small)))
    (goes_on (nat_lt t.balance (a.amount + 1000 * l.reserve)) _ _
    (le-ltb t.balance (a.amount + 1000 * l.reserve) le5) refl))))

-- ---- what may be removed

some_or : (b : Bool) (x y : Option Add) → (is_some x ≡ true → y ≡ x) → is_some (cond b x None) ≡ true
    → cond b y None ≡ cond b x None
some_or true x y f e = f e
some_or false x y f e = refl

removable_more : (id : ℕ) (own h k : List Update) → is_some (removable id own h) ≡ true
    → removable id own (h ++ k) ≡ removable id own h
removable_more id own h k e = some_or (is_live (outcome id own)) (add_with id h) (add_with id (h ++ k))
    (λ d. add_with-more id h k d) e

fulfil_some : (preimage : List ℕ) (x : Option Add) → fulfil_fault preimage x ≡ None → is_some x ≡ true
fulfil_some preimage None e = absurd (cc)
fulfil_some preimage (Some a) e = refl

fail_some : (x : Option Add) → fail_fault x ≡ None → is_some x ≡ true
fail_some None e = absurd (cc)
fail_some (Some a) e = refl

malformed_some : (code : ℕ) (x : Option Add) → malformed_fault code x ≡ None → is_some x ≡ true
malformed_some code None e = absurd (cc)
malformed_some code (Some a) e = refl

pub fault_more : (o : Opening) (side : Role) (own p q h k : List Update) (u : Update)
    → update_fault o side own p h u ≡ None → update_fault o side own (p ++ q) (h ++ k) u ≡ None
fault_more o side own p q h k (update.Add a) e =
    let first = first_balance o side in
    let few : length (live_adds own (p ++ q)) ≤ length (live_adds own p) =
    omega (arith, live_is own p, live_is own (p ++ q), live_falls one own p q) in
    let small : total is_live own (p ++ q) ≤ total is_live own p =
    omega (arith, total_is is_live own p, total_is is_live own (p ++ q), live_falls amount own p q) in
    add_more (limits_of o side) (standing_of first own p) (standing_of first own (p ++ q)) a few small
    (balance_more first own p q) e
fault_more o side own p q h k (update.Fulfil f) e =
    ap (fulfil_fault f.preimage) (removable_more f.id own h k (fulfil_some f.preimage (removable f.id own h) e)) ∙ e
fault_more o side own p q h k (update.Fail f) e =
    ap fail_fault (removable_more f.id own h k (fail_some (removable f.id own h) e)) ∙ e
fault_more o side own p q h k (update.Malformed m) e =
    ap (malformed_fault m.failure_code) (removable_more m.id own h k
    (malformed_some m.failure_code (removable m.id own h) e)) ∙ e
fault_more o side own p q h k (update.Fee f) e = e
