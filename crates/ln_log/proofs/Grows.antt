-- A log with a further update.
use Rattle.std.proofs.Common.{◌≡◌, ℕ, ◌+◌, ◌*◌, ◌≤◌, ◌<◌, List, [], ◌∷◌, length, take, refl, sym, ap, ◌∙◌, subst}
use Rattle.std.proofs.Common.{arith, Bool, true, false, cond, eqb, Option, Some, None, length-append}
use Rattle.std.proofs.Common.{nat_le, option_map}
use Rattle.std.proofs.lemmas.List.{take-append-le}
use Rattle.std.proofs.lemmas.Bool.{leb-false, lt-leb, eqb-true}
use Rattle.ln_refusals.specs.PeerRule.{rule_of}
use Rattle.ln_refusals.specs.declared.peer_rule.PeerRule.{PeerRule}
use Rattle.ln_refusals.specs.declared.refusal.Refusal.{Refusal}
use Rattle.ln_refusals.specs.declared.refusal.Refusal.TheVariants as refusal
use Rattle.ln_keys.specs.declared.role.Role.{Role}
use Rattle.ln_keys.specs.Role.{other_role}
use Rattle.ln_log.specs.declared.opening.Opening.{Opening}
use Rattle.ln_log.specs.declared.standing.Standing.{Standing}
use Rattle.ln_log.specs.declared.update.Update.{Update}
use Rattle.ln_log.specs.declared.update.Update.TheVariants as update
use Rattle.ln_log.specs.declared.outcome.Outcome.TheVariants.{Live}
use Rattle.ln_log.specs.Opening.{HasFunds, limits_of, first_balance}
use Rattle.ln_log.specs.Updates.{offered, removed, next_id, outcome}
use Rattle.ln_log.specs.View.{Pays}
use Rattle.ln_log.specs.Limits.{standing_of, update_fault, HasNextId, id_fault, is_at_update_limit}
use Rattle.ln_log.specs.Limits.{first_fault, most_updates}
use Rattle.ln_log.specs.Standing.{with_own, OwnFits}
use Rattle.ln_log.specs.Log.{Log, IsKept, HasId, AreRemovals, peer_limit, removal_fault, length_fault, proposal_fault}
use Rattle.ln_log.specs.Log.{taken_fault, after_propose, after_receive, HasAmount}
use Rattle.ln_log.proofs.Removing.{above, next-front, numbered-take, numbered-push, removals-push, removals-take}
use Rattle.ln_log.proofs.Removing.{untouched}
use Rattle.ln_log.proofs.Totals.{pays_all, first_sum}
use Rattle.ln_log.proofs.Kept.{small, small_back, found_in, both_same, Growing, Grown, grown, seen_removes, within-push}
use Rattle.ln_log.proofs.Kept.{has_amount, amount_is}

-- ---- what an answer of no fault says

first_none : (a b : Option Refusal) → first_fault a b ≡ None → (a ≡ None) × (b ≡ None)
first_none None b e = (refl, e)
first_none (Some r) b e = absurd (cc)

not_spent : (b : Bool) (r : Refusal) → cond b (Some r) None ≡ None → b ≡ false
not_spent true r e = absurd (cc)
not_spent false r e = refl

unmapped : (o : Option Refusal) → option_map peer_limit o ≡ None → o ≡ None
unmapped None e = refl
unmapped (Some r) e = absurd (cc)

few_updates : (us : List Update) (r : Refusal) → cond (is_at_update_limit us) (Some r) None ≡ None
    → length us < most_updates
few_updates us r e =
    let h = leb-false most_updates (length us) (not_spent (is_at_update_limit us) r e) in
    omega (arith, h)

pub record MayGrow (l : Log) (u : Update) : Type 0 where
  pub few : length l.own < most_updates
  pub none : update_fault l.opening l.role l.own (take l.current.peer l.received)
      (take l.acknowledged.peer l.received) u ≡ None

pub may_propose : (l : Log) (u : Update) → proposal_fault l u ≡ None → MayGrow l u
may_propose l u e =
    let a = first_none _ _ e in
    let b = first_none _ _ a.1 in
    let c = first_none _ _ b.1 in
    record { few = few_updates l.own refusal.NumbersSpent a.0; none = unmapped _ c.0 }

pub record MayTake (l : Log) (u : Update) : Type 0 where
  pub few : length l.received < most_updates
  pub id : id_fault l.received u ≡ None
  pub none : update_fault l.opening (other_role l.role) l.received (take l.acknowledged.own l.own)
      (take l.current.own l.own) u ≡ None

pub may_take : (l : Log) (u : Update) → taken_fault l u ≡ None → MayTake l u
may_take l u e =
    let a = first_none _ _ e in
    let b = first_none _ _ a.1 in
    record { few = few_updates l.received refusal.OutOfPlace a.0; id = b.0; none = b.1 }

pub has_id : (us : List Update) (u : Update) → HasNextId us u → HasId (next_id us) (offered u)
has_id us (update.Add a) h = h
has_id us (update.Fulfil f) h = tt
has_id us (update.Fail f) h = tt
has_id us (update.Malformed m) h = tt
has_id us (update.Fee f) h = tt

same_id : (b : Bool) (r : Refusal) → cond b None (Some r) ≡ None → b ≡ true
same_id true r e = refl
same_id false r e = absurd (cc)

id_taken : (us : List Update) (u : Update) → id_fault us u ≡ None → HasId (next_id us) (offered u)
id_taken us (update.Add a) e = eqb-true a.id (next_id us) (same_id (eqb a.id (next_id us)) refusal.BadId e)
id_taken us (update.Fulfil f) e = tt
id_taken us (update.Fail f) e = tt
id_taken us (update.Malformed m) e = tt
id_taken us (update.Fee f) e = tt

-- ---- who grows

front_counts : (n : ℕ) (us : List Update) → 0 + next_id (take n us) ≤ next_id us
front_counts n us = omega (arith, next-front n us)

-- the id that is due isn't touched
due_live : (l : Log) (s t p q : Standing) → IsKept l s t p q → (n : ℕ)
    → outcome (next_id l.own) (take n l.received) ≡ Live
due_live l s t p q k n =
    untouched (next_id l.own) (take l.current.own l.own) [] (take n l.received)
    (removals-take (take l.current.own l.own) [] l.received n k.peer_removals)
    (above 0 (next_id l.own) (take l.current.own l.own) (numbered-take 0 l.current.own l.own k.own_ids)
    (front_counts l.current.own l.own))

due_live_back : (l : Log) (s t p q : Standing) → IsKept l s t p q → (n : ℕ)
    → outcome (next_id l.received) (take n l.own) ≡ Live
due_live_back l s t p q k n =
    untouched (next_id l.received) (take l.signed.peer l.received) [] (take n l.own)
    (removals-take (take l.signed.peer l.received) [] l.own n k.own_removals)
    (above 0 (next_id l.received) (take l.signed.peer l.received) (numbered-take 0 l.signed.peer l.received k.peer_ids)
    (front_counts l.signed.peer l.received))

pub growing : (l : Log) (s t p q : Standing) → IsKept l s t p q → length l.own < most_updates
    → Growing (limits_of l.opening l.role) (first_balance l.opening l.role)
    (first_balance l.opening (other_role l.role)) l.own (take l.current.peer l.received)
    (take l.acknowledged.peer l.received)
growing l s t p q k few =
    let w = k.within in
    record {
      own_ids = k.own_ids;
      seen_ids = numbered-take 0 l.current.peer l.received k.peer_ids;
      found = found_in l.acknowledged.peer l.current.peer l.received
          (omega (arith, w.peer_acknowledged, w.peer_signed));
      new = due_live l s t p q k l.current.peer;
      pays = k.own_pays;
      back = pays_all (first_balance l.opening (other_role l.role)) (take l.current.peer l.received) l.own
          l.current.own k.current_pays.1;
      small = small l k.funds;
      few = few;
    }

pub growing_back : (l : Log) (s t p q : Standing) → IsKept l s t p q → length l.received < most_updates
    → Growing (limits_of l.opening (other_role l.role)) (first_balance l.opening (other_role l.role))
    (first_balance l.opening l.role) l.received (take l.acknowledged.own l.own) (take l.current.own l.own)
growing_back l s t p q k few =
    let w = k.within in
    record {
      own_ids = k.peer_ids;
      seen_ids = numbered-take 0 l.acknowledged.own l.own k.own_ids;
      found = found_in l.current.own l.acknowledged.own l.own w.own_current;
      new = due_live_back l s t p q k l.acknowledged.own;
      pays = k.peer_pays;
      back = pays_all (first_balance l.opening l.role) (take l.acknowledged.own l.own) l.received
          l.acknowledged.peer k.acknowledged_pays.0;
      small = small_back l k.funds;
      few = few;
    }

pub grown_own : (l : Log) (s t p q : Standing) (u : Update) → IsKept l s t p q → MayGrow l u
    → HasId (next_id l.own) (offered u)
    → Grown (limits_of l.opening l.role) (first_balance l.opening l.role) (first_balance l.opening (other_role l.role))
    l.own (take l.current.peer l.received) (take l.acknowledged.peer l.received) u
grown_own l s t p q u k m id = grown (limits_of l.opening l.role) (first_balance l.opening l.role)
    (first_balance l.opening (other_role l.role)) l.role l.own (take l.current.peer l.received)
    (take l.acknowledged.peer l.received) u (growing l s t p q k m.few) id m.none

pub grown_got : (l : Log) (s t p q : Standing) (u : Update) → IsKept l s t p q → MayTake l u
    → Grown (limits_of l.opening (other_role l.role)) (first_balance l.opening (other_role l.role))
    (first_balance l.opening l.role) l.received (take l.acknowledged.own l.own) (take l.current.own l.own) u
grown_got l s t p q u k m = grown (limits_of l.opening (other_role l.role))
    (first_balance l.opening (other_role l.role)) (first_balance l.opening l.role) (other_role l.role) l.received
    (take l.acknowledged.own l.own) (take l.current.own l.own) u (growing_back l s t p q k m.few)
    (id_taken l.received u m.id) m.none

-- the call fits, by the lists that it is handed
pub own_call : (l : Log) (s t p q : Standing) (u : Update) (vs : List Update) → IsKept l s t p q
    → proposal_fault l u ≡ None → HasNextId l.own u → vs ≡ take l.current.peer l.received → OwnFits s vs u
own_call l s t p q u vs k none next e =
    let g = grown_own l s t p q u k (may_propose l u none) (has_id l.own u next) in
    subst (λ x. OwnFits x vs u) (sym k.own_stands)
    (subst (λ x. OwnFits (standing_of (first_balance l.opening l.role) l.own (take l.current.peer l.received)) x u)
    (sym e) g.fits)

pub got_call : (l : Log) (s t p q : Standing) (u : Update) (vs : List Update) → IsKept l s t p q
    → taken_fault l u ≡ None → vs ≡ take l.acknowledged.own l.own → OwnFits p vs u
got_call l s t p q u vs k none e =
    let g = grown_got l s t p q u k (may_take l u none) in
    subst (λ x. OwnFits x vs u) (sym k.peer_stands)
    (subst (λ x. OwnFits (standing_of (first_balance l.opening (other_role l.role)) l.received
    (take l.acknowledged.own l.own)) x u) (sym e) g.fits)

first_sum_back : (o : Opening) (r : Role) → HasFunds o
    → first_balance o (other_role r) + first_balance o r ≡ 1000 * o.satoshis
first_sum_back o r funds = omega (arith, first_sum o r funds)

pub kept_proposed : (l : Log) (s t p q a : Standing) (u : Update) (vs : List Update) → IsKept l s t p q
    → proposal_fault l u ≡ None → HasNextId l.own u → vs ≡ take l.current.peer l.received → a ≡ with_own s vs u
    → IsKept (after_propose u l) a t p q
kept_proposed l s t p q a u vs k none next ev ea =
    let w = k.within in
    let f = first_balance l.opening l.role in
    let h = first_balance l.opening (other_role l.role) in
    let g = grown_own l s t p q u k (may_propose l u none) (has_id l.own u next) in
    let more = length-append l.own (u ∷ []) in
    let front = λ (n : ℕ) (le : n ≤ length l.own). take-append-le n l.own (u ∷ []) le in
    let signed = front l.signed.own w.own_signed in
    let acked = front l.acknowledged.own (omega (arith, w.own_acknowledged, w.own_signed)) in
    let current = front l.current.own (omega (arith, w.own_current, w.own_acknowledged, w.own_signed)) in
    record {
      funds = k.funds;
      within = record {
        own_current = w.own_current;
        own_acknowledged = w.own_acknowledged;
        own_signed = omega (arith, w.own_signed, more);
        peer_acknowledged = w.peer_acknowledged;
        peer_signed =
            w.peer_signed;
        peer_current = w.peer_current;
      };
      own_ids = numbered-push 0 l.own u k.own_ids (subst (λ n. HasId n (offered u))
          (omega arith) (has_id l.own u next));
      peer_ids = k.peer_ids;
      own_removals = removals-push (take l.signed.peer l.received) [] l.own u k.own_removals
          (seen_removes (take l.acknowledged.peer l.received) (take l.signed.peer l.received) l.own (removed u)
          (found_in l.acknowledged.peer l.signed.peer l.received w.peer_acknowledged) g.removes);
      acknowledged_removals = subst (λ us. AreRemovals (take l.acknowledged.peer l.received) [] us) (sym acked)
          k.acknowledged_removals;
      peer_removals = subst (λ adds. AreRemovals adds [] l.received) (sym current) k.peer_removals;
      own_amounts = within-push (1000 * l.opening.satoshis) l.own u k.own_amounts
          (has_amount _ _ (offered u) (first_sum l.opening l.role k.funds) g.amount);
      peer_amounts = k.peer_amounts;
      own_stands = ea ∙ ap (λ x. with_own x vs u) k.own_stands
          ∙ ap (λ x. with_own (standing_of f l.own (take l.current.peer l.received)) x u) ev ∙ g.stands;
      own_signed_stands = k.own_signed_stands ∙ ap (λ x. standing_of f x (take l.current.peer l.received)) (sym signed);
      peer_stands = k.peer_stands ∙ ap (standing_of h l.received) (sym acked);
      peer_current_stands = k.peer_current_stands ∙ ap (standing_of h (take l.current.peer l.received)) (sym acked);
      own_pays = g.pays;
      peer_pays = subst (Pays h l.received) (sym acked) k.peer_pays;
      signed_pays = both_same l.opening l.role _ (take l.signed.peer l.received) _ (take l.signed.peer l.received)
          (sym signed) refl k.signed_pays;
      acknowledged_pays = both_same l.opening l.role _ (take l.acknowledged.peer l.received) _
          (take l.acknowledged.peer l.received) (sym acked) refl k.acknowledged_pays;
      current_pays = both_same l.opening l.role _ (take l.current.peer l.received) _ (take l.current.peer l.received)
          (sym current) refl k.current_pays;
    }

pub kept_received : (l : Log) (s t p q b : Standing) (u : Update) (vs : List Update) → IsKept l s t p q
    → taken_fault l u ≡ None → vs ≡ take l.acknowledged.own l.own → b ≡ with_own p vs u
    → IsKept (after_receive u l) s t b q
kept_received l s t p q b u vs k none ev eb =
    let w = k.within in
    let f = first_balance l.opening l.role in
    let h = first_balance l.opening (other_role l.role) in
    let m = may_take l u none in
    let g = grown_got l s t p q u k m in
    let more = length-append l.received (u ∷ []) in
    let front = λ (n : ℕ) (le : n ≤ length l.received). take-append-le n l.received (u ∷ []) le in
    let current = front l.current.peer w.peer_current in
    let signed = front l.signed.peer (omega (arith, w.peer_signed, w.peer_current)) in
    let acked = front l.acknowledged.peer (omega (arith, w.peer_acknowledged, w.peer_signed, w.peer_current)) in
    record {
      funds = k.funds;
      within = record {
        own_current = w.own_current;
        own_acknowledged = w.own_acknowledged;
        own_signed = w.own_signed;
        peer_acknowledged = w.peer_acknowledged;
        peer_signed = w.peer_signed;
        peer_current =
            omega (arith, w.peer_current, more);
      };
      own_ids = k.own_ids;
      peer_ids = numbered-push 0 l.received u k.peer_ids
          (subst (λ n. HasId n (offered u)) (omega arith) (id_taken l.received u m.id));
      own_removals = subst (λ adds. AreRemovals adds [] l.own) (sym signed) k.own_removals;
      acknowledged_removals = subst (λ adds. AreRemovals adds [] (take l.acknowledged.own l.own)) (sym acked)
          k.acknowledged_removals;
      peer_removals = removals-push (take l.current.own l.own) [] l.received u k.peer_removals g.removes;
      own_amounts = k.own_amounts;
      peer_amounts = within-push (1000 * l.opening.satoshis) l.received u k.peer_amounts
          (has_amount _ _ (offered u) (first_sum_back l.opening l.role k.funds) g.amount);
      own_stands = k.own_stands ∙ ap (standing_of f l.own) (sym current);
      own_signed_stands = k.own_signed_stands ∙ ap (standing_of f (take l.signed.own l.own)) (sym current);
      peer_stands = eb ∙ ap (λ x. with_own x vs u) k.peer_stands
          ∙ ap (λ x. with_own (standing_of h l.received (take l.acknowledged.own l.own)) x u) ev ∙ g.stands;
      peer_current_stands = k.peer_current_stands ∙ ap
          (λ x. standing_of h x (take l.acknowledged.own l.own)) (sym current);
      own_pays = subst (Pays f l.own) (sym current) k.own_pays;
      peer_pays = g.pays;
      signed_pays = both_same l.opening l.role (take l.signed.own l.own) _ (take l.signed.own l.own) _ refl
          (sym signed) k.signed_pays;
      acknowledged_pays = both_same l.opening l.role (take l.acknowledged.own l.own) _ (take l.acknowledged.own l.own) _
          refl (sym acked) k.acknowledged_pays;
      current_pays = both_same l.opening l.role (take l.current.own l.own) _ (take l.current.own l.own) _ refl
          (sym current) k.current_pays;
    }

-- ---- what the code found is the fault by the lists

few_is : (us : List Update) (n : ℕ) (r : Refusal) → n ≡ length us → n < most_updates
    → cond (is_at_update_limit us) (Some r) None ≡ None
few_is us n r e lt =
    let not_ : nat_le most_updates (length us) ≡ false =
    lt-leb most_updates (length us) (subst (λ m. m < most_updates) e lt) in
    ap (λ b. cond b (Some r) None) not_

-- what the limits let through is of no more than all funds
pub own_amount : (l : Log) (s t p q : Standing) (u : Update) (r : Option Refusal) → IsKept l s t p q
    → length l.own < most_updates
    → r ≡ update_fault l.opening l.role l.own (take l.current.peer l.received)
    (take l.acknowledged.peer l.received) u → r ≡ None → HasAmount (1000 * l.opening.satoshis) (offered u)
own_amount l s t p q u r k few e none =
    has_amount _ _ (offered u) (first_sum l.opening l.role k.funds)
    (amount_is _ _ _ l.role _ _ _ u (growing l s t p q k few) (sym e ∙ none))

pub got_amount : (l : Log) (s t p q : Standing) (u : Update) (r : Option Refusal) → IsKept l s t p q
    → length l.received < most_updates
    → r ≡ update_fault l.opening (other_role l.role) l.received (take l.acknowledged.own l.own)
    (take l.current.own l.own) u → r ≡ None → HasAmount (1000 * l.opening.satoshis) (offered u)
got_amount l s t p q u r k few e none =
    has_amount _ _ (offered u) (first_sum_back l.opening l.role k.funds)
    (amount_is _ _ _ (other_role l.role) _ _ _ u (growing_back l s t p q k few) (sym e ∙ none))

pub proposal_is : (l : Log) (u : Update) (n : ℕ) (r : Option Refusal) → n ≡ length l.own → n < most_updates
    → removal_fault l (removed u) ≡ None
    → r ≡ update_fault l.opening l.role l.own (take l.current.peer l.received)
    (take l.acknowledged.peer l.received) u
    → proposal_fault l u ≡ first_fault (option_map peer_limit r) (length_fault u)
proposal_is l u n r en lt none found =
    ap (λ x. first_fault x (first_fault (removal_fault l (removed u))
    (first_fault (option_map peer_limit (update_fault l.opening l.role l.own (take l.current.peer l.received)
    (take l.acknowledged.peer l.received) u)) (length_fault u)))) (few_is l.own n refusal.NumbersSpent en lt)
    ∙ ap (λ x. first_fault x (first_fault (option_map peer_limit
    (update_fault l.opening l.role l.own (take l.current.peer l.received) (take l.acknowledged.peer l.received) u))
    (length_fault u))) none
    ∙ ap (λ x. first_fault (option_map peer_limit x) (length_fault u)) (sym found)

pub proposal_refused : (m : Log) (u : Update) (r : Option Refusal) (x : Refusal) (n : PeerRule)
    → proposal_fault m u ≡ first_fault (option_map peer_limit r) (length_fault u) → r ≡ Some x → n ≡ rule_of x
    → Some (refusal.PeerLimit n) ≡ proposal_fault m u
proposal_refused m u r x n e is en = ap (λ i. Some (refusal.PeerLimit i)) en
    ∙ ap (λ y. first_fault (option_map peer_limit y) (length_fault u)) (sym is) ∙ sym e

pub proposal_else : (m : Log) (u : Update) (r o : Option Refusal)
    → proposal_fault m u ≡ first_fault (option_map peer_limit r) (length_fault u) → r ≡ None → o ≡ length_fault u
    → o ≡ proposal_fault m u
proposal_else m u r o e is eo = eo ∙ ap (λ y. first_fault (option_map peer_limit y) (length_fault u)) (sym is) ∙ sym e

pub taken_is : (l : Log) (u : Update) (n : ℕ) (r : Option Refusal) → n ≡ length l.received → n < most_updates
    → id_fault l.received u ≡ None
    → r ≡ update_fault l.opening (other_role l.role) l.received (take l.acknowledged.own l.own)
    (take l.current.own l.own) u
    → r ≡ taken_fault l u
taken_is l u n r en lt none found =
    let f = update_fault l.opening (other_role l.role) l.received (take l.acknowledged.own l.own)
    (take l.current.own l.own) u in
    found
    ∙ ap (λ x. first_fault x f) (sym none)
    ∙ ap (λ x. first_fault x (first_fault (id_fault l.received u) f))
    (sym (few_is l.received n refusal.OutOfPlace en lt))
