-- Each add is live, failed or fulfilled, and so a view adds up; and what a side can pay it can pay after
-- more of the other side's updates.
use Rattle.std.proofs.Common.{◌≡◌, ℕ, ◌+◌, ◌*◌, ◌≤◌, List, [], ◌∷◌, ◌++◌, map, sum_by, refl, sym, ap, ◌∙◌, arith, cond}
use Rattle.std.proofs.Common.{Option, Some, None, take, drop, subst}
use Rattle.std.proofs.lemmas.List.{take-append-drop, take-take}
use Rattle.std.proofs.lemmas.List.Sums.{sum_by-cons, sum_by-append}
use Rattle.std.specs.List.{cons_option}
use Rattle.ln_keys.specs.declared.role.Role.{Role}
use Rattle.ln_keys.specs.declared.role.Role.TheVariants.{Funder, Fundee}
use Rattle.ln_keys.specs.Role.{other_role}
use Rattle.ln_log.specs.declared.opening.Opening.{Opening}
use Rattle.ln_log.specs.declared.update.Add.{Add}
use Rattle.ln_log.specs.declared.update.Update.{Update}
use Rattle.ln_log.specs.declared.outcome.Outcome.{Outcome}
use Rattle.ln_log.specs.declared.outcome.Outcome.TheVariants.{Live, Fulfilled, Failed}
use Rattle.ln_log.specs.Opening.{HasFunds, first_balance}
use Rattle.ln_log.specs.Updates.{offered, outcome, is_live, is_fulfilled, is_failed, is_any, total}
use Rattle.ln_log.specs.View.{live_of, live_adds, balance, htlc_of, htlc_amount, view_of, Pays, IsFunded, AddsUp}
use Rattle.ln_log.proofs.Removing.{outcome-append}
use Rattle.ln_log.proofs.Tallies.{amount, weight, tally, total_is, tally-append}

one : (o : Outcome) (n : ℕ) → n ≡ cond (is_live o) n 0 + cond (is_failed o) n 0 + cond (is_fulfilled o) n 0
one Live n = omega arith
one Fulfilled n = omega arith
one Failed n = omega arith

weight_splits : (r : List Update) (o : Option Add)
    → weight amount is_any r o ≡ weight amount is_live r o + weight amount is_failed r o
    + weight amount is_fulfilled r o
weight_splits r None = refl
weight_splits r (Some a) = one (outcome a.id r) a.amount

tally_splits : (us r : List Update) → tally amount is_any us r ≡ tally amount is_live us r + tally amount is_failed us r
    + tally amount is_fulfilled us r
tally_splits [] r = refl
tally_splits (u ∷ us) r = omega (arith, weight_splits r (offered u), tally_splits us r)

pub total_splits : (us r : List Update) → total is_any us r ≡ total is_live us r + total is_failed us r
    + total is_fulfilled us r
total_splits us r = omega (
  arith,
  tally_splits us r,
  total_is is_any us r,
  total_is is_live us r,
  total_is is_failed us r,
  total_is is_fulfilled us r,
)

-- what a live add counts among the HTLCs
live_one : (r : Role) (o : Outcome) (a : Add) (adds : List Add)
    → sum_by htlc_amount (map (htlc_of r) (cons_option (cond (is_live o) (Some a) None) adds))
    ≡ cond (is_live o) a.amount 0 + sum_by htlc_amount (map (htlc_of r) adds)
live_one r Live a adds = sum_by-cons htlc_amount (htlc_of r a) (map (htlc_of r) adds)
live_one r Fulfilled a adds = omega arith
live_one r Failed a adds = omega arith

live_weight : (r : Role) (o : Option Add) (removals : List Update) (adds : List Add)
    → sum_by htlc_amount (map (htlc_of r) (cons_option (live_of o removals) adds)) ≡ weight amount is_live removals o
    + sum_by htlc_amount (map (htlc_of r) adds)
live_weight r None removals adds = omega arith
live_weight r (Some a) removals adds = live_one r (outcome a.id removals) a adds

live_tally : (r : Role) (us removals : List Update)
    → sum_by htlc_amount (map (htlc_of r) (live_adds us removals)) ≡ tally amount is_live us removals
live_tally r [] removals = refl
live_tally r (u ∷ us) removals = live_weight r (offered u) removals (live_adds us removals)
    ∙ ap (λ n. weight amount is_live removals (offered u) + n) (live_tally r us removals)

pub live_amounts : (r : Role) (us removals : List Update)
    → sum_by htlc_amount (map (htlc_of r) (live_adds us removals)) ≡ total is_live us removals
live_amounts r us removals = live_tally r us removals ∙ sym (total_is is_live us removals)

-- balances and live HTLCs are together what both had
pub sums : (f g : ℕ) (us vs : List Update) → Pays f us vs → Pays g vs us
    → balance f us vs + balance g vs us + (total is_live us vs + total is_live vs us) ≡ f + g
sums f g us vs p q = omega (arith, total_splits us vs, total_splits vs us, p, q)

pub adds_up : (o : Opening) (funder fundee : List Update) → HasFunds o → IsFunded o funder fundee
    → AddsUp o (view_of o funder fundee)
adds_up o funder fundee funds h =
    let both : sum_by htlc_amount (map (htlc_of Funder) (live_adds funder fundee)
    ++ map (htlc_of Fundee) (live_adds fundee funder)) ≡ total is_live funder fundee + total is_live fundee funder
    = sum_by-append htlc_amount (map (htlc_of Funder) (live_adds funder fundee))
    (map (htlc_of Fundee) (live_adds fundee funder))
    ∙ ap (λ n. n + sum_by htlc_amount (map (htlc_of Fundee) (live_adds fundee funder)))
    (live_amounts Funder funder fundee) ∙ ap (λ n. total is_live funder fundee + n)
    (live_amounts Fundee fundee funder) in
    omega (
      arith,
      both,
      sums (first_balance o Funder) (first_balance o Fundee) funder fundee h.funder_pays
          h.fundee_pays,
      funds.push,
    )

-- what both sides have together at the opening
pub first_sum : (o : Opening) (r : Role) → HasFunds o
    → first_balance o r + first_balance o (other_role r) ≡ 1000 * o.satoshis
first_sum o Funder funds = omega (arith, funds.push)
first_sum o Fundee funds = omega (arith, funds.push)

-- ---- after more of the other side's updates

grows_one : (o n : Outcome) (w : ℕ) → cond (is_failed o) w 0 ≤ cond (is_failed (cond (is_live o) n o)) w 0
grows_one Live n w = omega arith
grows_one Fulfilled n w = omega arith
grows_one Failed n w = omega arith

weight_grows : (p q : List Update) (o : Option Add) → weight amount is_failed p o ≤ weight amount is_failed (p ++ q) o
weight_grows p q None = omega arith
weight_grows p q (Some a) = subst (λ x. cond (is_failed (outcome a.id p)) a.amount 0 ≤ cond (is_failed x) a.amount 0)
    (sym (outcome-append a.id p q)) (grows_one (outcome a.id p) (outcome a.id q) a.amount)

failed_grows : (us p q : List Update) → tally amount is_failed us p ≤ tally amount is_failed us (p ++ q)
failed_grows [] p q = omega arith
failed_grows (u ∷ us) p q = omega (arith, weight_grows p q (offered u), failed_grows us p q)

any_one : (p q : List Update) (o : Option Add) → weight amount is_any p o ≡ weight amount is_any q o
any_one p q None = refl
any_one p q (Some a) = refl

pub any_same : (us p q : List Update) → tally amount is_any us p ≡ tally amount is_any us q
any_same [] p q = refl
any_same (u ∷ us) p q = omega (arith, any_one p q (offered u), any_same us p q)

gets_more : (own p q : List Update) → total is_failed own p + total is_fulfilled p own
    ≤ total is_failed own (p ++ q) + total is_fulfilled (p ++ q) own
gets_more own p q =
    omega (
      arith,
      failed_grows own p q,
      tally-append amount is_fulfilled p q own,
      total_is is_failed own p,
      total_is is_failed own (p ++ q),
      total_is is_fulfilled p own,
      total_is is_fulfilled (p ++ q) own,
    )

spends_same : (own p q : List Update) → total is_any own p ≡ total is_any own q
spends_same own p q = total_is is_any own p ∙ any_same own p q ∙ sym (total_is is_any own q)

pub pays_more : (first : ℕ) (own p q : List Update) → Pays first own p → Pays first own (p ++ q)
pays_more first own p q h = omega (arith, h, gets_more own p q, spends_same own p (p ++ q))

pub balance_more : (first : ℕ) (own p q : List Update) → balance first own p ≤ balance first own (p ++ q)
balance_more first own p q = omega (arith, gets_more own p q, spends_same own p (p ++ q))

-- a longer front
pub longer : (m n : ℕ) (us : List Update) → m ≤ n → take n us ≡ take m us ++ drop m (take n us)
longer m n us le = sym (take-append-drop m (take n us)) ∙ ap (λ p. p ++ drop m (take n us)) (take-take m n us le)

pub pays_longer : (first : ℕ) (own peer : List Update) (m n : ℕ) → m ≤ n → Pays first own (take m peer)
    → Pays first own (take n peer)
pays_longer first own peer m n le h = subst (Pays first own) (sym (longer m n peer le))
    (pays_more first own (take m peer) (drop m (take n peer)) h)

pub pays_all : (first : ℕ) (own peer : List Update) (m : ℕ) → Pays first own (take m peer) → Pays first own peer
pays_all first own peer m h = subst (Pays first own) (take-append-drop m peer)
    (pays_more first own (take m peer) (drop m peer) h)
