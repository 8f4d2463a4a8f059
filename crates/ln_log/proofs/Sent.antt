-- Where an add came from changes nothing of what lists are worth.
use Rattle.std.proofs.Common.{◌≡◌, ℕ, suc, ◌+◌, ◌==◌, List, [], ◌∷◌, ◌++◌, length, map, refl, sym, ap, ◌∙◌, arith, Bool}
use Rattle.std.proofs.Common.{true, false, cond, Option, Some, None}
use Rattle.std.proofs.lemmas.List.Sums.{sum_by-cons}
use Rattle.std.specs.List.{cons_option}
use Rattle.ln_keys.specs.declared.role.Role.{Role}
use Rattle.ln_keys.specs.declared.role.Role.TheVariants.{Funder, Fundee}
use Rattle.ln_log.specs.declared.opening.Limits.{Limits}
use Rattle.ln_log.specs.declared.opening.Opening.{Opening}
use Rattle.ln_log.specs.declared.standing.Standing.{Standing}
use Rattle.ln_log.specs.declared.update.Add.{Add}
use Rattle.ln_log.specs.declared.update.Update.{Update}
use Rattle.ln_log.specs.declared.update.Update.TheVariants as update
use Rattle.ln_log.specs.declared.outcome.Outcome.{Outcome}
use Rattle.ln_log.specs.Opening.{limits_of, first_balance}
use Rattle.ln_log.specs.Updates.{offered, removed, as_sent, all_sent, is_some, is_add, next_id, found_or, add_with}
use Rattle.ln_log.specs.Updates.{outcome_by, outcome, is_live, is_any, is_failed, is_fulfilled, total, rate_after}
use Rattle.ln_log.specs.Updates.{last_feerate}
use Rattle.ln_log.specs.View.{balance, live_of, live_adds, htlc_of, view_of}
use Rattle.ln_keys.specs.Role.{other_role}
use Rattle.ln_log.specs.Machine.{Covered, turned}
use Rattle.ln_log.specs.Log.{sent_pair, view_for}
use Rattle.ln_log.specs.Limits.{standing_of, removable, fulfil_fault, fail_fault, malformed_fault, fault_at}
use Rattle.ln_log.specs.Limits.{update_fault}
use Rattle.ln_log.proofs.Standings.{standing_is}
use Rattle.ln_log.proofs.Tallies.{amount, weight, tally, total_is}
use Rattle.ln_log.proofs.Signs.{view_is}

same_removal : (u : Update) → removed (as_sent u) ≡ removed u
same_removal (update.Add a) = refl
same_removal (update.Fulfil f) = refl
same_removal (update.Fail f) = refl
same_removal (update.Malformed m) = refl
same_removal (update.Fee f) = refl

pub outcome_sent : (id : ℕ) (us : List Update) → outcome id (all_sent us) ≡ outcome id us
outcome_sent id [] = refl
outcome_sent id (u ∷ us) = ap (λ r. outcome_by id r (outcome id (all_sent us))) (same_removal u)
    ∙ ap (outcome_by id (removed u)) (outcome_sent id us)

same_weight : (test : Outcome → Bool) (rs : List Update) (u : Update)
    → weight amount test (all_sent rs) (offered (as_sent u)) ≡ weight amount test rs (offered u)
same_weight test rs (update.Add a) = ap (λ o. cond (test o) a.amount 0) (outcome_sent a.id rs)
same_weight test rs (update.Fulfil f) = refl
same_weight test rs (update.Fail f) = refl
same_weight test rs (update.Malformed m) = refl
same_weight test rs (update.Fee f) = refl

tally_sent : (test : Outcome → Bool) (us rs : List Update)
    → tally amount test (all_sent us) (all_sent rs) ≡ tally amount test us rs
tally_sent test [] rs = refl
tally_sent test (u ∷ us) rs = omega (arith, same_weight test rs u, tally_sent test us rs)

total_sent : (test : Outcome → Bool) (us rs : List Update) → total test (all_sent us) (all_sent rs) ≡ total test us rs
total_sent test us rs = total_is test (all_sent us) (all_sent rs) ∙ tally_sent test us rs ∙ sym (total_is test us rs)

balance_sent : (first : ℕ) (us rs : List Update) → balance first (all_sent us) (all_sent rs) ≡ balance first us rs
balance_sent first us rs = omega (
  arith,
  total_sent is_failed us rs,
  total_sent is_fulfilled rs us,
  total_sent is_any us rs,
)

same_rate : (rate : ℕ) (u : Update) → rate_after rate (as_sent u) ≡ rate_after rate u
same_rate rate (update.Add a) = refl
same_rate rate (update.Fulfil f) = refl
same_rate rate (update.Fail f) = refl
same_rate rate (update.Malformed m) = refl
same_rate rate (update.Fee f) = refl

feerate_sent : (rate : ℕ) (us : List Update) → last_feerate rate (all_sent us) ≡ last_feerate rate us
feerate_sent rate [] = refl
feerate_sent rate (u ∷ us) = ap (λ n. last_feerate n (all_sent us)) (same_rate rate u)
    ∙ feerate_sent (rate_after rate u) us

one_htlc : (r : Role) (b : Bool) (a : Add) (xs ys : List Add) → map (htlc_of r) xs ≡ map (htlc_of r) ys
    → map (htlc_of r) (cons_option (cond b (Some (record a { origin = None })) None) xs)
    ≡ map (htlc_of r) (cons_option (cond b (Some a) None) ys)
one_htlc r true a xs ys e = ap (λ hs. htlc_of r a ∷ hs) e
one_htlc r false a xs ys e = e

same_htlcs : (r : Role) (rs : List Update) (u : Update) (xs ys : List Add) → map (htlc_of r) xs ≡ map (htlc_of r) ys
    → map (htlc_of r) (cons_option (live_of (offered (as_sent u)) (all_sent rs)) xs)
    ≡ map (htlc_of r) (cons_option (live_of (offered u) rs) ys)
same_htlcs r rs (update.Add a) xs ys e =
    ap (λ o. map (htlc_of r) (cons_option (cond (is_live o) (Some (record a { origin = None })) None) xs))
    (outcome_sent a.id rs) ∙ one_htlc r (is_live (outcome a.id rs)) a xs ys e
same_htlcs r rs (update.Fulfil f) xs ys e = e
same_htlcs r rs (update.Fail f) xs ys e = e
same_htlcs r rs (update.Malformed m) xs ys e = e
same_htlcs r rs (update.Fee f) xs ys e = e

htlcs_sent : (r : Role) (us rs : List Update)
    → map (htlc_of r) (live_adds (all_sent us) (all_sent rs)) ≡ map (htlc_of r) (live_adds us rs)
htlcs_sent r [] rs = refl
htlcs_sent r (u ∷ us) rs = same_htlcs r rs u (live_adds (all_sent us) (all_sent rs))
    (live_adds us rs) (htlcs_sent r us rs)

pub view_sent : (o : Opening) (f g : List Update) → view_of o (all_sent f) (all_sent g) ≡ view_of o f g
view_sent o f g =
    view_is o f g (view_of o (all_sent f) (all_sent g)) (balance_sent (first_balance o Funder) f g)
    (balance_sent (first_balance o Fundee) g f) (feerate_sent o.feerate f)
    (ap (λ hs. hs ++ map (htlc_of Fundee) (live_adds (all_sent g) (all_sent f))) (htlcs_sent Funder f g)
    ∙ ap (λ hs. map (htlc_of Funder) (live_adds f g) ++ hs) (htlcs_sent Fundee g f))

-- lists that are the same as sent are worth the same
pub view_same : (o : Opening) (f g f' g' : List Update) → all_sent f ≡ all_sent f' → all_sent g ≡ all_sent g'
    → view_of o f g ≡ view_of o f' g'
view_same o f g f' g' ef eg = sym (view_sent o f g) ∙ ap (λ us. view_of o us (all_sent g)) ef
    ∙ ap (view_of o (all_sent f')) eg ∙ view_sent o f' g'

pub same_views : (o : Opening) (x : Role) (c d : Covered) → sent_pair c ≡ sent_pair d → view_for o x c ≡ view_for o x d
same_views o Funder c d e = view_same o c.own c.peer d.own d.peer (ap (λ (p : Covered). p.own) e)
    (ap (λ (p : Covered). p.peer) e)
same_views o Fundee c d e = view_same o c.peer c.own d.peer d.own (ap (λ (p : Covered). p.peer) e)
    (ap (λ (p : Covered). p.own) e)

pub turned_views : (o : Opening) (x : Role) (c d : Covered) → sent_pair c ≡ sent_pair (turned d)
    → view_for o x c ≡ view_for o (other_role x) d
turned_views o Funder c d e = same_views o Funder c (turned d) e
turned_views o Fundee c d e = same_views o Fundee c (turned d) e

-- ---- nor of what may follow them

same_offer : (u : Update) → is_some (offered (as_sent u)) ≡ is_some (offered u)
same_offer (update.Add a) = refl
same_offer (update.Fulfil f) = refl
same_offer (update.Fail f) = refl
same_offer (update.Malformed m) = refl
same_offer (update.Fee f) = refl

pub next_sent : (us : List Update) → next_id (all_sent us) ≡ next_id us
next_sent [] = refl
next_sent (u ∷ us) =
    sum_by-cons (λ v. cond (is_add v) 1 0) (as_sent u) (all_sent us)
    ∙ ap (λ b. cond b 1 0 + next_id (all_sent us)) (same_offer u)
    ∙ ap (λ n. cond (is_some (offered u)) 1 0 + n) (next_sent us)
    ∙ sym (sum_by-cons (λ v. cond (is_add v) 1 0) u us)

one_live : (b : Bool) (a : Add) (xs ys : List Add) → length xs ≡ length ys
    → length (cons_option (cond b (Some (record a { origin = None })) None) xs)
    ≡ length (cons_option (cond b (Some a) None) ys)
one_live true a xs ys e = ap (λ n. suc n) e
one_live false a xs ys e = e

live_one : (rs : List Update) (u : Update) (xs ys : List Add) → length xs ≡ length ys
    → length (cons_option (live_of (offered (as_sent u)) (all_sent rs)) xs)
    ≡ length (cons_option (live_of (offered u) rs) ys)
live_one rs (update.Add a) xs ys e =
    ap (λ o. length (cons_option (cond (is_live o) (Some (record a { origin = None })) None) xs)) (outcome_sent a.id rs)
    ∙ one_live (is_live (outcome a.id rs)) a xs ys e
live_one rs (update.Fulfil f) xs ys e = e
live_one rs (update.Fail f) xs ys e = e
live_one rs (update.Malformed m) xs ys e = e
live_one rs (update.Fee f) xs ys e = e

live_sent : (us rs : List Update) → length (live_adds (all_sent us) (all_sent rs)) ≡ length (live_adds us rs)
live_sent [] rs = refl
live_sent (u ∷ us) rs = live_one rs u (live_adds (all_sent us) (all_sent rs)) (live_adds us rs) (live_sent us rs)

pub standing_sent : (first : ℕ) (us rs : List Update)
    → standing_of first (all_sent us) (all_sent rs) ≡ standing_of first us rs
standing_sent first us rs = standing_is _ _ (next_sent us) (live_sent us rs) (total_sent is_live us rs)
    (balance_sent first us rs)

-- an add without where it came from
abbrev cleared : Option Add → Option Add
cleared None = None
cleared (Some a) = Some (record a { origin = None })

found_cleared : (b : Bool) (a : Add) (rest : Option Add)
    → cond b (Some (record a { origin = None })) (cleared rest) ≡ cleared (cond b (Some a) rest)
found_cleared true a rest = refl
found_cleared false a rest = refl

found_one : (id : ℕ) (u : Update) (rest : Option Add)
    → found_or id (offered (as_sent u)) (cleared rest) ≡ cleared (found_or id (offered u) rest)
found_one id (update.Add a) rest = found_cleared (a.id == id) a rest
found_one id (update.Fulfil f) rest = refl
found_one id (update.Fail f) rest = refl
found_one id (update.Malformed m) rest = refl
found_one id (update.Fee f) rest = refl

add_with_sent : (id : ℕ) (us : List Update) → add_with id (all_sent us) ≡ cleared (add_with id us)
add_with_sent id [] = refl
add_with_sent id (u ∷ us) = ap (found_or id (offered (as_sent u))) (add_with_sent id us)
    ∙ found_one id u (add_with id us)

cleared_if : (b : Bool) (x : Option Add) → cond b (cleared x) None ≡ cleared (cond b x None)
cleared_if true x = refl
cleared_if false x = refl

removable_sent : (id : ℕ) (own held : List Update)
    → removable id (all_sent own) (all_sent held) ≡ cleared (removable id own held)
removable_sent id own held =
    ap (λ o. cond (is_live o) (add_with id (all_sent held)) None) (outcome_sent id own)
    ∙ ap (λ x. cond (is_live (outcome id own)) x None) (add_with_sent id held)
    ∙ cleared_if (is_live (outcome id own)) (add_with id held)

fulfil_cleared : (preimage : List ℕ) (x : Option Add) → fulfil_fault preimage (cleared x) ≡ fulfil_fault preimage x
fulfil_cleared preimage None = refl
fulfil_cleared preimage (Some a) = refl

fail_cleared : (x : Option Add) → fail_fault (cleared x) ≡ fail_fault x
fail_cleared None = refl
fail_cleared (Some a) = refl

malformed_cleared : (code : ℕ) (x : Option Add) → malformed_fault code (cleared x) ≡ malformed_fault code x
malformed_cleared code None = refl
malformed_cleared code (Some a) = refl

fault_sent : (lim : Limits) (s : Standing) (side : Role) (own held : List Update) (u : Update)
    → fault_at lim s side (all_sent own) (all_sent held) (as_sent u) ≡ fault_at lim s side own held u
fault_sent lim s side own held (update.Add a) = refl
fault_sent lim s side own held (update.Fulfil f) = ap (fulfil_fault f.preimage) (removable_sent f.id own held)
    ∙ fulfil_cleared f.preimage (removable f.id own held)
fault_sent lim s side own held (update.Fail f) = ap fail_fault (removable_sent f.id own held)
    ∙ fail_cleared (removable f.id own held)
fault_sent lim s side own held (update.Malformed m) = ap (malformed_fault m.failure_code) (removable_sent m.id own held)
    ∙ malformed_cleared m.failure_code (removable m.id own held)
fault_sent lim s side own held (update.Fee f) = refl

pub update_fault_sent : (o : Opening) (side : Role) (own seen held : List Update) (u : Update)
    → update_fault o side (all_sent own) (all_sent seen) (all_sent held) (as_sent u)
    ≡ update_fault o side own seen held u
update_fault_sent o side own seen held u =
    ap (λ s. fault_at (limits_of o side) s side (all_sent own) (all_sent held) (as_sent u))
    (standing_sent (first_balance o side) own seen)
    ∙ fault_sent (limits_of o side) (standing_of (first_balance o side) own seen) side own held u
