-- Which bases updates lead to: what beginnings of two lists are worth is such a base.
use Rattle.std.proofs.Common.{◌≡◌, ℕ, ◌+◌, ◌≤◌, ◌<◌, List, [], ◌∷◌, length, take, refl, sym, ap, ◌∙◌}
use Rattle.std.proofs.Common.{subst, arith, cond, Option, Some, None, inl, inr}
use Rattle.std.proofs.lemmas.Bool.Decides.{leb_tells}
use Rattle.std.proofs.lemmas.List.{length-take-le}
use Rattle.std.proofs.lemmas.List.Sums.{sum_by-cons}
use Rattle.std.specs.List.{cons_option}
use Rattle.ln_keys.specs.declared.role.Role.{Role}
use Rattle.ln_keys.specs.declared.role.Role.TheVariants.{Funder, Fundee}
use Rattle.ln_keys.specs.Role.{other_role}
use Rattle.ln_log.specs.declared.opening.Opening.{Opening}
use Rattle.ln_log.specs.declared.standing.Standing.{Standing}
use Rattle.ln_log.specs.declared.update.Add.{Add}
use Rattle.ln_log.specs.declared.update.Update.{Update}
use Rattle.ln_log.specs.declared.update.Update.TheVariants as update
use Rattle.ln_log.specs.declared.outcome.Outcome.{Outcome}
use Rattle.ln_log.specs.declared.outcome.Outcome.TheVariants.{Live, Fulfilled, Failed}
use Rattle.ln_log.specs.Opening.{HasFunds, first_balance}
use Rattle.ln_log.specs.Updates.{offered, next_id, outcome, is_live, is_fulfilled, total, last_feerate, rate_after}
use Rattle.ln_log.specs.Outcomes.{is_removal, removals_in}
use Rattle.ln_log.specs.View.{balance, live_of, live_adds, Pays}
use Rattle.ln_log.specs.Log.{Log, Counts, number_after, HasId, AreNumbered, AreRemovals, BothPay, IsKept}
use Rattle.ln_log.specs.Window.{feerate_of, balances_of, IsClosed}
use Rattle.ln_log.specs.Explained.{AreBetween, add_amount, in_flight, gone, lost, fee_changes, MayBeLedTo}
use Rattle.ln_log.proofs.Removing.{next-cons, number_is, numbered-take, removals-take}
use Rattle.ln_log.proofs.Tallies.{amount, one, weight, tally, total_is, live_is}
use Rattle.ln_log.proofs.Totals.{total_splits, sums, first_sum}
use Rattle.ln_log.proofs.Live.{counted}
use Rattle.ln_log.proofs.Viewed.{narrow}

-- ---- ids of live HTLCs

sooner : (from to : ℕ) (adds : List Add) → AreBetween (from + 1) to adds → AreBetween from to adds
sooner from to [] h = omega (arith, h)
sooner from to (a ∷ adds) h = (omega (arith, h.0), h.1, h.2)

alive_one : (n to : ℕ) (a : Add) (o : Outcome) (rest : List Add) → a.id ≡ n → n < to → AreBetween (n + 1) to rest
    → AreBetween n to (cons_option (cond (is_live o) (Some a) None) rest)
alive_one n to a Live rest e lt h = (
  omega (arith, e),
  omega (arith, e, lt),
  subst (λ i. AreBetween (i + 1) to rest) (sym e) h,
)
alive_one n to a Fulfilled rest e lt h = sooner n to rest h
alive_one n to a Failed rest e lt h = sooner n to rest h

alive_by : (n to : ℕ) (o : Option Add) (r : List Update) (rest : List Add) → HasId n o → number_after n o ≤ to
    → AreBetween (number_after n o) to rest → AreBetween n to (cons_option (live_of o r) rest)
alive_by n to None r rest id le h = h
alive_by n to (Some a) r rest id le h = alive_one n to a (outcome a.id r) rest id (omega (arith, le)) h

alive : (n : ℕ) (us r : List Update) → AreNumbered n us → AreBetween n (n + next_id us) (live_adds us r)
alive n [] r ids = omega arith
alive n (u ∷ us) r ids =
    let all : number_after n (offered u) + next_id us ≡ n + next_id (u ∷ us) =
    omega (arith, next-cons u us, number_is n (offered u)) in
    alive_by n (n + next_id (u ∷ us)) (offered u) r (live_adds us r) ids.0 (omega (arith, all))
    (subst (λ t. AreBetween (number_after n (offered u)) t (live_adds us r)) all
    (alive (number_after n (offered u)) us r ids.1))

alive_all : (us r : List Update) → AreNumbered 0 us → AreBetween 0 (next_id us) (live_adds us r)
alive_all us r ids = subst (λ t. AreBetween 0 t (live_adds us r)) (omega arith) (alive 0 us r ids)

-- ---- what is in flight

flies_live : (o : Outcome) (a : Add) (rest : List Add) → in_flight (cons_option (cond (is_live o) (Some a) None) rest)
    ≡ cond (is_live o) a.amount 0 + in_flight rest
flies_live Live a rest = sum_by-cons add_amount a rest
flies_live Fulfilled a rest = omega arith
flies_live Failed a rest = omega arith

flies_one : (o : Option Add) (r : List Update) (rest : List Add)
    → in_flight (cons_option (live_of o r) rest) ≡ weight amount is_live r o + in_flight rest
flies_one None r rest = omega arith
flies_one (Some a) r rest = flies_live (outcome a.id r) a rest

flies : (us r : List Update) → in_flight (live_adds us r) ≡ tally amount is_live us r
flies [] r = refl
flies (u ∷ us) r = flies_one (offered u) r (live_adds us r)
    ∙ ap (λ n. weight amount is_live r (offered u) + n) (flies us r)

pub flies_all : (us r : List Update) → in_flight (live_adds us r) ≡ total is_live us r
flies_all us r = flies us r ∙ sym (total_is is_live us r)

-- ---- how many updates there are

-- an update offers an HTLC, removes one, or changes the fee
one_of : (u : Update) → number_after 0 (offered u) + cond (is_removal u) 1 0 ≤ 1
one_of (update.Add a) = omega arith
one_of (update.Fulfil f) = omega arith
one_of (update.Fail f) = omega arith
one_of (update.Malformed m) = omega arith
one_of (update.Fee f) = omega arith

no_fee : (u : Update) (rate : ℕ) → number_after 0 (offered u) + cond (is_removal u) 1 0 ≡ 1 → rate_after rate u ≡ rate
no_fee (update.Add a) rate e = refl
no_fee (update.Fulfil f) rate e = refl
no_fee (update.Fail f) rate e = refl
no_fee (update.Malformed m) rate e = refl
no_fee (update.Fee f) rate e = absurd (omega (arith, e))

removals-cons : (u : Update) (us : List Update) → removals_in (u ∷ us) ≡ cond (is_removal u) 1 0 + removals_in us
removals-cons u us = sum_by-cons (λ v. cond (is_removal v) 1 0) u us

pub at_most : (us : List Update) → next_id us + removals_in us ≤ length us
at_most [] = omega arith
at_most (u ∷ us) = omega (arith, one_of u, at_most us, next-cons u us, removals-cons u us)

-- with no update left for it the fee is the same
rate_kept : (rate : ℕ) (us : List Update) → next_id us + removals_in us ≡ length us → last_feerate rate us ≡ rate
rate_kept rate [] e = refl
rate_kept rate (u ∷ us) e =
    let first : number_after 0 (offered u) + cond (is_removal u) 1 0 ≡ 1 =
    omega (arith, e, one_of u, at_most us, next-cons u us, removals-cons u us) in
    ap (λ r. last_feerate r us) (no_fee u rate first)
    ∙ rate_kept rate us (omega (arith, e, first, next-cons u us, removals-cons u us))

-- ---- what is lost

none_by : (o : Outcome) (n : ℕ) → cond (is_fulfilled o) 1 0 ≤ 0 → cond (is_fulfilled o) n 0 ≡ 0
none_by Live n e = refl
none_by Fulfilled n e = absurd (omega (arith, e))
none_by Failed n e = refl

none_one : (r : List Update) (o : Option Add) → weight one is_fulfilled r o ≡ 0 → weight amount is_fulfilled r o ≡ 0
none_one r None e = refl
none_one r (Some a) e = none_by (outcome a.id r) a.amount (omega (arith, e))

none_paid : (us r : List Update) → tally one is_fulfilled us r ≡ 0 → tally amount is_fulfilled us r ≡ 0
none_paid [] r e = refl
none_paid (u ∷ us) r e =
    omega (arith, none_one r (offered u) (omega (arith, e)), none_paid us r (omega (arith, e)))

either : (o : Outcome) → cond (is_live o) 1 0 + cond (is_fulfilled o) 1 0 ≤ 1
either Live = omega arith
either Fulfilled = omega arith
either Failed = omega arith

few_one : (r : List Update) (o : Option Add) → weight one is_live r o + weight one is_fulfilled r o ≤ number_after 0 o
few_one r None = omega arith
few_one r (Some a) = omega (arith, either (outcome a.id r))

few : (us r : List Update) → tally one is_live us r + tally one is_fulfilled us r ≤ next_id us
few [] r = omega arith
few (u ∷ us) r = omega (arith, few_one r (offered u), few us r, next-cons u us)

-- where something was paid, an HTLC isn't live
some_gone : (us r : List Update) → 1 ≤ tally amount is_fulfilled us r → 1 ≤ gone (next_id us) (live_adds us r)
some_gone us r le = elim (leb_tells 1 (tally one is_fulfilled us r)) [
  | inl g ↦ (let some = g.1 in omega (arith, some, few us r, live_is us r))
  | inr g ↦ (let none = g.1 in absurd (omega (arith, le, none_paid us r (omega (arith, none)))))
]

lost_by : (first : ℕ) (p q : List Update) → Pays first p q
    → 1 ≤ lost first (live_adds p q) (balance first p q) → 1 ≤ gone (next_id p) (live_adds p q)
lost_by first p q pays h =
    some_gone p q (omega (arith, h, pays, total_splits p q, flies_all p q, total_is is_fulfilled p q))

-- ---- all together

rate_so : (o : Opening) (x : Role) (p q : List Update) (c : Counts) → c.own ≡ length p → c.peer ≡ length q
    → length (live_adds q p) + removals_in p ≡ next_id q → length (live_adds p q) + removals_in q ≡ next_id p
    → fee_changes x c (balances_of o x p q) (live_adds p q) (live_adds q p) ≡ 0 → feerate_of o.feerate x p q ≡ o.feerate
rate_so o Funder p q c eo ep own peer e = rate_kept o.feerate p (omega (arith, e, eo, own, at_most p))
rate_so o Fundee p q c eo ep own peer e = rate_kept o.feerate q (omega (arith, e, ep, peer, at_most q))

-- lists whose ids rise by one, of which each removes HTLCs of the other, each once, and in which both sides can pay
pub lists_lead : (o : Opening) (x : Role) (p q : List Update) (c : Counts) → HasFunds o → AreNumbered 0 p
    → AreNumbered 0 q → AreRemovals q [] p → AreRemovals p [] q → BothPay o x (record { own = p; peer = q })
    → c.own ≡ length p → c.peer ≡ length q → MayBeLedTo o x c (balances_of o x p q) (live_adds p q) (live_adds q p)
lists_lead o x p q c funds ids got removals back paid eo ep =
    let own = counted q p got removals in
    let peer = counted p q ids back in
    record {
      own_live = alive_all p q ids;
      peer_live = alive_all q p got;
      own_count = omega (arith, own, eo, at_most p);
      peer_count = omega (arith, peer, ep, at_most q);
      feerate = rate_so o x p q c eo ep own peer;
      all_funds = omega (
        arith,
        flies_all p q,
        flies_all q p,
        first_sum o x funds,
        sums (first_balance o x) (first_balance o (other_role x)) p q paid.0 paid.1,
      );
      own_lost = lost_by (first_balance o x) p q paid.0;
      peer_lost = lost_by (first_balance o (other_role x)) q p paid.1;
    }

-- of the lists of a log any base
pub is_led : (l : Log) (s t u v : Standing) (c : Counts) → IsKept l s t u v → c.own ≤ l.current.own
    → c.peer ≤ l.acknowledged.peer → IsClosed l.opening l.role (take c.own l.own) (take c.peer l.received)
    → MayBeLedTo l.opening l.role c (balances_of l.opening l.role (take c.own l.own) (take c.peer l.received))
    (live_adds (take c.own l.own) (take c.peer l.received)) (live_adds (take c.peer l.received) (take c.own l.own))
is_led l s t u v c k own peer closed =
    let w = k.within in
    let p = take c.own l.own in
    let q = take c.peer l.received in
    let ids = numbered-take 0 c.own l.own k.own_ids in
    let got = numbered-take 0 c.peer l.received k.peer_ids in
    lists_lead l.opening l.role p q c k.funds ids got
    (narrow q (take l.signed.peer l.received) [] p p got refl closed.peer_new
    (removals-take (take l.signed.peer l.received) [] l.own c.own k.own_removals))
    (narrow p (take l.current.own l.own) [] q q ids refl closed.own_new
    (removals-take (take l.current.own l.own) [] l.received c.peer k.peer_removals)) closed.paid
    (sym (length-take-le c.own l.own (omega (arith, own, w.own_current, w.own_acknowledged, w.own_signed))))
    (sym (length-take-le c.peer l.received
    (omega (arith, peer, w.peer_acknowledged, w.peer_signed, w.peer_current))))
