-- What two lists say is what their beginnings are worth, the HTLCs live in these, and the rest of the lists.
use Rattle.std.proofs.Common.{◌≡◌, ◌↔◌, ℕ, ◌+◌, ◌≤◌, ◌<◌, List, [], ◌∷◌, ◌++◌, map, refl, sym}
use Rattle.std.proofs.Common.{ap, ◌∙◌, subst, arith, Bool, true, false, cond, Option, Some, None, inl, inr}
use Rattle.std.proofs.lemmas.Bool.Decides.{eqb_tells, leb_tells}
use Rattle.std.proofs.lemmas.List.Sums.{sum_by-append}
use Rattle.std.specs.List.{cons_option}
use Rattle.ln_keys.specs.declared.role.Role.{Role}
use Rattle.ln_keys.specs.declared.role.Role.TheVariants.{Funder, Fundee}
use Rattle.ln_keys.specs.Role.{other_role}
use Rattle.ln_log.specs.declared.opening.Opening.{Opening}
use Rattle.ln_log.specs.declared.update.Add.{Add}
use Rattle.ln_log.specs.declared.update.Update.{Update}
use Rattle.ln_log.specs.declared.update.Update.TheVariants as update
use Rattle.ln_log.specs.declared.outcome.Outcome.{Outcome}
use Rattle.ln_log.specs.declared.outcome.Outcome.TheVariants.{Live, Fulfilled, Failed}
use Rattle.ln_log.specs.Opening.{first_balance}
use Rattle.ln_log.specs.Updates.{offered, is_some, next_id, found_or, add_with, outcome, is_live, is_fulfilled}
use Rattle.ln_log.specs.Updates.{is_failed, is_any, total, last_feerate, rate_after, is_add}
use Rattle.ln_log.specs.View.{balance, live_of, live_adds, Pays}
use Rattle.ln_log.specs.Log.{number_after, HasId, AreNumbered, BothPay}
use Rattle.ln_log.specs.Window.{live_htlcs, feerate_of, Balances, balances_of, balances_behind, balance_behind}
use Rattle.ln_log.specs.Window.{PaysBehind}
use Rattle.ln_log.specs.Window.{BothPayBehind, GoesOn}
use Rattle.ln_log.proofs.Removing.{outcome-append, next-cons, number_is, above}
use Rattle.ln_log.proofs.Tallies.{amount, weight, tally, total_is, tally-append}
use Rattle.ln_log.proofs.Totals.{any_same}

-- ---- HTLCs that were offered after a beginning

abbrev pub IsLiveIn : Option Add → List Update → Type 0
IsLiveIn None q = Unit {0}
IsLiveIn (Some a) q = outcome a.id q ≡ Live

abbrev pub AreLiveIn : List Update → List Update → Type 0
AreLiveIn [] q = Unit {0}
AreLiveIn (u ∷ us) q = IsLiveIn (offered u) q × AreLiveIn us q

one_live_in : (n : ℕ) (o : Option Add) (q : List Update) → HasId n o → ((id : ℕ) → n ≤ id → outcome id q ≡ Live)
    → IsLiveIn o q
one_live_in n None q h new = tt
one_live_in n (Some a) q h new = new a.id (omega (arith, h))

pub live_in : (n : ℕ) (us q : List Update) → AreNumbered n us → ((id : ℕ) → n ≤ id → outcome id q ≡ Live)
    → AreLiveIn us q
live_in n [] q h new = tt
live_in n (u ∷ us) q h new = (
  one_live_in n (offered u) q h.0 new,
  live_in (number_after n (offered u)) us q h.1 (λ id le. new id (omega (arith, le, number_is n (offered u)))),
)

pub outcome_behind : (id : ℕ) (q v : List Update) → outcome id q ≡ Live → outcome id (q ++ v) ≡ outcome id v
outcome_behind id q v live = outcome-append id q v ∙ ap (λ o. cond (is_live o) (outcome id v) o) live

weight_new : (test : Outcome → Bool) (q v : List Update) (o : Option Add) → IsLiveIn o q
    → weight amount test (q ++ v) o ≡ weight amount test v o
weight_new test q v None h = refl
weight_new test q v (Some a) h = ap (λ o. cond (test o) a.amount 0) (outcome_behind a.id q v h)

pub tally_new : (test : Outcome → Bool) (w q v : List Update) → AreLiveIn w q
    → tally amount test w (q ++ v) ≡ tally amount test w v
tally_new test [] q v h = refl
tally_new test (u ∷ us) q v h = omega (arith, weight_new test q v (offered u) h.0, tally_new test us q v h.1)

-- ---- HTLCs of a beginning

abbrev pub as_updates : List Add → List Update
as_updates adds = map (λ a. update.Add a) adds

live_htlcs_one : (test : Outcome → Bool) (v : List Update) (a : Add) (o : Outcome) (rest : List Add)
    → tally amount test (as_updates (cons_option (cond (is_live o) (Some a) None) rest)) v
    ≡ cond (is_live o) (cond (test (outcome a.id v)) a.amount 0) 0 + tally amount test (as_updates rest) v
live_htlcs_one test v a Live rest = refl
live_htlcs_one test v a Fulfilled rest = omega arith
live_htlcs_one test v a Failed rest = omega arith

split_by : (test : Outcome → Bool) (o n : Outcome) (k : ℕ) → test Live ≡ false
    → cond (test (cond (is_live o) n o)) k 0 ≡ cond (test o) k 0 + cond (is_live o) (cond (test n) k 0) 0
split_by test Live n k e = omega (arith, ap {B = ℕ} (λ b. cond b k 0) e)
split_by test Fulfilled n k e = omega arith
split_by test Failed n k e = omega arith

split_one : (test : Outcome → Bool) (o : Option Add) (us q v : List Update) → test Live ≡ false
    → tally amount test us (q ++ v) ≡ tally amount test us q + tally amount test (live_htlcs us q) v
    → weight amount test (q ++ v) o + tally amount test us (q ++ v)
    ≡ (weight amount test q o + tally amount test us q)
    + tally amount test (as_updates (cons_option (live_of o q) (live_adds us q))) v
split_one test None us q v e h = omega (arith, h)
split_one test (Some a) us q v e h = omega (
  arith,
  h,
  ap (λ o. cond (test o) a.amount 0) (outcome-append a.id q v),
  split_by test (outcome a.id q) (outcome a.id v) a.amount e,
  live_htlcs_one test v a (outcome a.id q) (live_adds us q),
)

-- what is removed by then stays so, and the rest is live
pub split : (test : Outcome → Bool) (p q v : List Update) → test Live ≡ false
    → tally amount test p (q ++ v) ≡ tally amount test p q + tally amount test (live_htlcs p q) v
split test [] q v e = refl
split test (u ∷ us) q v e = split_one test (offered u) us q v e (split test us q v e)

-- ---- balances

pub got_behind : (test : Outcome → Bool) (p w q v : List Update) → test Live ≡ false → AreLiveIn w q
    → total test (p ++ w) (q ++ v) ≡ total test p q + total test (live_htlcs p q ++ w) v
got_behind test p w q v e new = omega (
  arith,
  total_is test (p ++ w) (q ++ v),
  total_is test p q,
  total_is test (live_htlcs p q ++ w) v,
  tally-append amount test p w (q ++ v),
  tally-append amount test (live_htlcs p q) w v,
  split test p q v e,
  tally_new test w q v new,
)

pub spent_behind : (p w q v : List Update) → total is_any (p ++ w) (q ++ v) ≡ total is_any p q + total is_any w v
spent_behind p w q v = omega (
  arith,
  total_is is_any (p ++ w) (q ++ v),
  total_is is_any p q,
  total_is is_any w v,
  tally-append amount is_any p w (q ++ v),
  any_same p (q ++ v) q,
  any_same w (q ++ v) v,
)

-- what a side has after its balance by then, beside the HTLCs that were live
pub balance_is : (first : ℕ) (p w q v : List Update) → AreLiveIn w q → AreLiveIn v p → Pays first p q
    → balance first (p ++ w) (q ++ v)
    ≡ balance_behind (balance first p q) (live_htlcs p q) w (live_htlcs q p) v
balance_is first p w q v new back pays = omega (
  arith,
  pays,
  got_behind is_failed p w q v refl new,
  got_behind is_fulfilled q v p w refl back,
  spent_behind p w q v,
)

pub pays_so : (first : ℕ) (p w q v : List Update) → AreLiveIn w q → AreLiveIn v p → Pays first p q
    → PaysBehind (balance first p q) (live_htlcs p q) w (live_htlcs q p) v
    → Pays first (p ++ w) (q ++ v)
pays_so first p w q v new back pays le = omega (
  arith,
  pays,
  le,
  got_behind is_failed p w q v refl new,
  got_behind is_fulfilled q v p w refl back,
  spent_behind p w q v,
)

pub pays_back : (first : ℕ) (p w q v : List Update) → AreLiveIn w q → AreLiveIn v p → Pays first p q
    → Pays first (p ++ w) (q ++ v) → PaysBehind (balance first p q) (live_htlcs p q) w (live_htlcs q p) v
pays_back first p w q v new back pays le = omega (
  arith,
  pays,
  le,
  got_behind is_failed p w q v refl new,
  got_behind is_fulfilled q v p w refl back,
  spent_behind p w q v,
)

-- ---- live HTLCs

cons_append : (o : Option Add) (xs ys : List Add) → cons_option o (xs ++ ys) ≡ cons_option o xs ++ ys
cons_append None xs ys = refl
cons_append (Some a) xs ys = refl

pub live-append : (p w r : List Update) → live_adds (p ++ w) r ≡ live_adds p r ++ live_adds w r
live-append [] w r = refl
live-append (u ∷ us) w r = ap (cons_option (live_of (offered u) r)) (live-append us w r)
    ∙ cons_append (live_of (offered u) r) (live_adds us r) (live_adds w r)

live_new_one : (q v : List Update) (o : Option Add) → IsLiveIn o q → live_of o (q ++ v) ≡ live_of o v
live_new_one q v None h = refl
live_new_one q v (Some a) h = ap (λ o. cond (is_live o) (Some a) None) (outcome_behind a.id q v h)

live_new : (w q v : List Update) → AreLiveIn w q → live_adds w (q ++ v) ≡ live_adds w v
live_new [] q v h = refl
live_new (u ∷ us) q v h = ap (λ o. cons_option o (live_adds us (q ++ v))) (live_new_one q v (offered u) h.0)
    ∙ ap (cons_option (live_of (offered u) v)) (live_new us q v h.1)

live_old_by : (v : List Update) (a : Add) (o : Outcome) (rest : List Add)
    → live_adds (as_updates (cons_option (cond (is_live o) (Some a) None) rest)) v
    ≡ cons_option (cond (is_live (cond (is_live o) (outcome a.id v) o)) (Some a) None) (live_adds (as_updates rest) v)
live_old_by v a Live rest = refl
live_old_by v a Fulfilled rest = refl
live_old_by v a Failed rest = refl

live_old_one : (o : Option Add) (us q v : List Update) → live_adds us (q ++ v) ≡ live_adds (live_htlcs us q) v
    → cons_option (live_of o (q ++ v)) (live_adds us (q ++ v))
    ≡ live_adds (as_updates (cons_option (live_of o q) (live_adds us q))) v
live_old_one None us q v h = h
live_old_one (Some a) us q v h =
    ap (λ o. cons_option (cond (is_live o) (Some a) None) (live_adds us (q ++ v))) (outcome-append a.id q v)
    ∙ ap (cons_option (cond (is_live (cond (is_live (outcome a.id q)) (outcome a.id v) (outcome a.id q))) (Some a)
    None)) h
    ∙ sym (live_old_by v a (outcome a.id q) (live_adds us q))

live_old : (p q v : List Update) → live_adds p (q ++ v) ≡ live_adds (live_htlcs p q) v
live_old [] q v = refl
live_old (u ∷ us) q v = live_old_one (offered u) us q v (live_old us q v)

-- those of both lists are those of the live ones by then, and of the rest
pub live_behind : (p w q v : List Update) → AreLiveIn w q
    → live_adds (p ++ w) (q ++ v) ≡ live_adds (live_htlcs p q ++ w) v
live_behind p w q v new =
    live-append p w (q ++ v)
    ∙ ap (λ xs. xs ++ live_adds w (q ++ v)) (live_old p q v)
    ∙ ap (λ xs. live_adds (live_htlcs p q) v ++ xs) (live_new w q v new)
    ∙ sym (live-append (live_htlcs p q) w v)

pub live_htlcs_behind : (p w q v : List Update) → AreLiveIn w q
    → live_htlcs (p ++ w) (q ++ v) ≡ live_htlcs (live_htlcs p q ++ w) v
live_htlcs_behind p w q v new = ap as_updates (live_behind p w q v new)

-- ---- single HTLCs

pub none_removed : (id : ℕ) (adds : List Add) → outcome id (as_updates adds) ≡ Live
none_removed id [] = refl
none_removed id (a ∷ adds) = none_removed id adds

-- live HTLCs remove nothing
pub outcome_kept : (id : ℕ) (p q w : List Update) → outcome id (live_htlcs p q ++ w) ≡ outcome id w
outcome_kept id p q w = outcome_behind id (live_htlcs p q) w (none_removed id (live_adds p q))

found_by : (id : ℕ) (a : Add) (o : Outcome) (rest : List Add)
    → add_with id (as_updates (cons_option (cond (is_live o) (Some a) None) rest))
    ≡ cond (is_live o) (found_or id (Some a) (add_with id (as_updates rest))) (add_with id (as_updates rest))
found_by id a Live rest = refl
found_by id a Fulfilled rest = refl
found_by id a Failed rest = refl

found_hit : (o : Outcome) (a : Add) (x y : Option Add) → x ≡ cond (is_live o) y None
    → cond (is_live o) (Some a) x ≡ cond (is_live o) (Some a) None
found_hit Live a x y e = refl
found_hit Fulfilled a x y e = e
found_hit Failed a x y e = e

both_ways : (b : Bool) (x : Option Add) → cond b x x ≡ x
both_ways true x = refl
both_ways false x = refl

found_one : (id : ℕ) (o : Option Add) (us p : List Update)
    → add_with id (live_htlcs us p) ≡ cond (is_live (outcome id p)) (add_with id us) None
    → add_with id (as_updates (cons_option (live_of o p) (live_adds us p)))
    ≡ cond (is_live (outcome id p)) (found_or id o (add_with id us)) None
found_one id None us p h = h
found_one id (Some a) us p h = found_by id a (outcome a.id p) (live_adds us p) ∙ (elim (eqb_tells a.id id) [
  | inl g ↦ (
      ap (λ t. cond (is_live (outcome a.id p)) (cond t (Some a) (add_with id (live_htlcs us p)))
      (add_with id (live_htlcs us p))) g.0
      ∙ found_hit (outcome a.id p) a (add_with id (live_htlcs us p)) (add_with id us)
      (subst (λ i. add_with id (live_htlcs us p) ≡ cond (is_live (outcome i p)) (add_with id us) None) (sym g.1) h)
      ∙ ap (λ i. cond (is_live (outcome i p)) (Some a) None) g.1
      ∙ ap (λ t. cond (is_live (outcome id p)) (cond t (Some a) (add_with id us)) None) (sym g.0))
  | inr g ↦ (
      ap (λ t. cond (is_live (outcome a.id p)) (cond t (Some a) (add_with id (live_htlcs us p)))
      (add_with id (live_htlcs us p))) g.0
      ∙ both_ways (is_live (outcome a.id p)) (add_with id (live_htlcs us p)) ∙ h
      ∙ ap (λ t. cond (is_live (outcome id p)) (cond t (Some a) (add_with id us)) None) (sym g.0))
])

-- a live HTLC is found among the live ones, and no other
pub found : (id : ℕ) (us p : List Update)
    → add_with id (live_htlcs us p) ≡ cond (is_live (outcome id p)) (add_with id us) None
found id [] p = sym (both_ways (is_live (outcome id p)) None)
found id (u ∷ us) p = found_one id (offered u) us p (found id us p)

there_one : (n id : ℕ) (o : Option Add) (k : ℕ) (rest : Option Add) → HasId n o → n ≤ id
    → id < n + (number_after 0 o + k)
    → (number_after n o ≤ id → id < number_after n o + k → is_some rest ≡ true) → is_some (found_or id o rest) ≡ true
there_one n id None k rest h le lt e = e le (omega (arith, lt))
there_one n id (Some a) k rest h le lt e = elim (eqb_tells a.id id) [
  | inl g ↦ ap (λ t. is_some (cond t (Some a) rest)) g.0
  | inr g ↦ ap (λ t. is_some (cond t (Some a) rest)) g.0
      ∙ e (omega (arith, le, h, g.1)) (omega (arith, lt))
]

-- each id below the next one was offered
pub there : (n id : ℕ) (us : List Update) → AreNumbered n us → n ≤ id → id < n + next_id us
    → is_some (add_with id us) ≡ true
there n id [] h le lt = absurd (omega (arith, le, lt))
there n id (u ∷ us) h le lt = there_one n id (offered u) (next_id us) (add_with id us) h.0 le
    (subst (λ k. id < n + k) (next-cons u us) lt) (there (number_after n (offered u)) id us h.1)

not_there : (o : Option Add) → o ≡ None → is_some o ≡ true → ⊥
not_there None e h = absurd (cc)
not_there (Some a) e h = absurd (cc)

-- and no other
pub offered_below : (id : ℕ) (us : List Update) → AreNumbered 0 us
    → ((is_some (add_with id us) ≡ true) ↔ (id < next_id us))
offered_below id us h = (
  (λ t. elim (leb_tells (next_id us) id) [
    | inl g ↦ absurd (not_there (add_with id us) (above 0 id us h (let le = g.1 in omega (arith, le))) t)
    | inr g ↦ g.1
  ]),
  (λ lt. there 0 id us h (omega arith) (omega (arith, lt))),
)

-- ---- all together

pub next-append : (p q : List Update) → next_id (p ++ q) ≡ next_id p + next_id q
next-append p q = sum_by-append (λ v. cond (is_add v) 1 0) p q

pub own_live : (o : Opening) (x : Role) (p w q v : List Update) → GoesOn o x p w q v → AreLiveIn w q
own_live o x p w q v h = live_in (next_id p) w q h.own_ids h.base.own_new

pub peer_live : (o : Opening) (x : Role) (p w q v : List Update) → GoesOn o x p w q v → AreLiveIn v p
peer_live o x p w q v h = live_in (next_id q) v p h.peer_ids h.base.peer_new

pub both_live_htlcs : (o : Opening) (x : Role) (p w q v : List Update) → GoesOn o x p w q v
    → (live_htlcs (p ++ w) (q ++ v) ≡ live_htlcs (live_htlcs p q ++ w) v)
    × (live_htlcs (q ++ v) (p ++ w) ≡ live_htlcs (live_htlcs q p ++ v) w)
both_live_htlcs o x p w q v h =
    (live_htlcs_behind p w q v (own_live o x p w q v h), live_htlcs_behind q v p w (peer_live o x p w q v h))

pub rate_behind : (rate : ℕ) (p w : List Update) → last_feerate rate (p ++ w) ≡ last_feerate (last_feerate rate p) w
rate_behind rate [] w = refl
rate_behind rate (u ∷ us) w = rate_behind (rate_after rate u) us w

feerate_behind : (rate : ℕ) (x : Role) (p w q v : List Update)
    → feerate_of rate x (p ++ w) (q ++ v) ≡ feerate_of (feerate_of rate x p q) x w v
feerate_behind rate Funder p w q v = rate_behind rate p w
feerate_behind rate Fundee p w q v = rate_behind rate q v

abbrev balances_at : ℕ → ℕ → ℕ → ℕ → ℕ → Balances
balances_at m n a b r = record { next_own = m; next_peer = n; own = a; peer = b; feerate = r }

same_balances : (m n a b r m' n' a' b' r' : ℕ) → m ≡ m' → n ≡ n' → a ≡ a' → b ≡ b' → r ≡ r'
    → balances_at m n a b r ≡ balances_at m' n' a' b' r'
same_balances m n a b r m' n' a' b' r' em en ea eb er =
    ap (λ i. balances_at i n a b r) em ∙ ap (λ i. balances_at m' i a b r) en ∙ ap (λ i. balances_at m' n' i b r) ea
    ∙ ap (λ i. balances_at m' n' a' i r) eb ∙ ap (balances_at m' n' a' b') er

pub balances_is : (o : Opening) (x : Role) (p w q v : List Update) → GoesOn o x p w q v
    → balances_of o x (p ++ w) (q ++ v) ≡ balances_behind x (balances_of o x p q) (live_htlcs p q) w (live_htlcs q p) v
balances_is o x p w q v h = same_balances _ _ _ _ _ _ _ _ _ _ (next-append p w) (next-append q v)
    (balance_is (first_balance o x) p w q v (own_live o x p w q v h) (peer_live o x p w q v h) h.base.paid.0)
    (balance_is (first_balance o (other_role x)) q v p w (peer_live o x p w q v h) (own_live o x p w q v h)
    h.base.paid.1)
    (feerate_behind o.feerate x p w q v)

pub both_pay : (o : Opening) (x : Role) (p w q v : List Update) → GoesOn o x p w q v
    → BothPayBehind (balances_of o x p q) (live_htlcs p q) w (live_htlcs q p) v
    → BothPay o x (record { own = p ++ w; peer = q ++ v })
both_pay o x p w q v h b = (
  pays_so (first_balance o x) p w q v (own_live o x p w q v h) (peer_live o x p w q v h) h.base.paid.0 b.0,
  pays_so (first_balance o (other_role x)) q v p w (peer_live o x p w q v h) (own_live o x p w q v h) h.base.paid.1
      b.1,
)
