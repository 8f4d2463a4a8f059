-- A log whose sides have paid for each update as it came, from what they had by then; and of the updates that it comes
-- to hold, which beginnings can be a base.
use Rattle.std.proofs.Common.{◌≡◌, ◌⊎◌, inl, inr, ℕ, zero, suc, ◌≤◌, List, [], ◌∷◌, ◌++◌, length, take, drop, refl}
use Rattle.std.proofs.Common.{sym, ap, ◌∙◌, subst, arith, None}
use Rattle.std.proofs.lemmas.List.{take-append-le, take-take, take_all}
use Rattle.ln_keys.specs.declared.role.Role.{Role}
use Rattle.ln_keys.specs.Role.{other_role}
use Rattle.ln_log.specs.declared.opening.Opening.{Opening}
use Rattle.ln_log.specs.declared.standing.Standing.{Standing}
use Rattle.ln_log.specs.declared.update.Fee.{Fee}
use Rattle.ln_log.specs.declared.update.Update.{Update as Change}
use Rattle.ln_log.specs.declared.update.Update.TheVariants as update
use Rattle.ln_log.specs.Opening.{HasFunds, first_balance}
use Rattle.ln_log.specs.Updates.{next_id}
use Rattle.ln_log.specs.View.{Pays}
use Rattle.ln_log.specs.Limits.{HasNextId, standing_of}
use Rattle.ln_log.specs.Standing.{with_own, with_all}
use Rattle.ln_log.specs.Log.{Log, Counts, IsKept, AreNumbered, AreRemovals, after_propose, after_receive, after_sign}
use Rattle.ln_log.specs.Log.{after_accept, after_learn, after_drop, proposal_fault, taken_fault, opened}
use Rattle.ln_log.specs.Window.{IsClosed}
use Rattle.ln_log.proofs.Removing.{untouched, above, numbered-take, next-take, next-push, removals-take, outcome-none}
use Rattle.ln_log.proofs.Totals.{pays_longer, pays_more}
use Rattle.ln_log.proofs.Standings.{own_pays}
use Rattle.ln_log.proofs.Kept.{kept_signed, kept_accepted, kept_acknowledged, kept_dropped}
use Rattle.ln_log.proofs.Grows.{kept_proposed, kept_received}

-- by each beginning of its updates a side has spent no more than it had
abbrev pub AllPay : ℕ → List Change → List Change → Type 0
AllPay first own peer = (n : ℕ) → Pays first (take n own) peer

-- how both sides stand is what the lists say; and each has paid for each update from what stood in a commitment by then
pub record IsPaced (l : Log) : Type 0 where
  pub own_standing : Standing
  pub own_signed : Standing
  pub peer_standing : Standing
  pub peer_current : Standing
  pub kept : IsKept l own_standing own_signed peer_standing peer_current
  pub own : AllPay (first_balance l.opening l.role) l.own (take l.current.peer l.received)
  pub signed : AllPay (first_balance l.opening l.role) (take l.signed.own l.own) (take l.signed.peer l.received)
  pub acknowledged : AllPay (first_balance l.opening l.role) (take l.acknowledged.own l.own)
      (take l.acknowledged.peer l.received)
  pub peer : AllPay (first_balance l.opening (other_role l.role)) l.received (take l.acknowledged.own l.own)
  pub current : AllPay (first_balance l.opening (other_role l.role)) (take l.current.peer l.received)
      (take l.current.own l.own)

-- ---- one more update

abbrev no_changes : List Change
no_changes = []

no_front : (n : ℕ) → take n no_changes ≡ no_changes
no_front zero = refl
no_front (suc n) = refl

fronts : (n : ℕ) (us : List Change) (u : Change)
    → (take n (us ++ u ∷ []) ≡ take n us) ⊎ (take n (us ++ u ∷ []) ≡ us ++ u ∷ [])
fronts zero us u = inl refl
fronts (suc n) [] u = inr (ap (λ vs. u ∷ vs) (no_front n))
fronts (suc n) (v ∷ us) u = elim (fronts n us u) [
  | inl e ↦ inl (ap (λ vs. v ∷ vs) e)
  | inr e ↦ inr (ap (λ vs. v ∷ vs) e)
]

pays_push : (first : ℕ) (us peer : List Change) (u : Change) → AllPay first us peer → Pays first (us ++ u ∷ []) peer
    → AllPay first (us ++ u ∷ []) peer
pays_push first us peer u h all n = elim (fronts n us u) [
  | inl e ↦ subst (λ vs. Pays first vs peer) (sym e) (h n)
  | inr e ↦ subst (λ vs. Pays first vs peer) (sym e) all
]

all_longer : (first : ℕ) (own peer : List Change) (m n : ℕ) → m ≤ n → AllPay first own (take m peer)
    → AllPay first own (take n peer)
all_longer first own peer m n le h k = pays_longer first (take k own) peer m n le (h k)

-- ---- what each call keeps

pub paced_proposed : (l : Log) (u : Change) → proposal_fault l u ≡ None → HasNextId l.own u → IsPaced l
    → IsPaced (after_propose u l)
paced_proposed l u none next h =
    let w = h.kept.within in
    let f = first_balance l.opening l.role in
    let g = first_balance l.opening (other_role l.role) in
    let s = with_own h.own_standing (take l.current.peer l.received) u in
    let k = kept_proposed l h.own_standing h.own_signed h.peer_standing h.peer_current s u
    (take l.current.peer l.received) h.kept none next refl refl in
    let front = λ (n : ℕ) (le : n ≤ length l.own). sym (take-append-le n l.own (u ∷ []) le) in
    record {
      own_standing = s;
      own_signed = h.own_signed;
      peer_standing = h.peer_standing;
      peer_current = h.peer_current;
      kept = k;
      own = pays_push f l.own (take l.current.peer l.received) u h.own k.own_pays;
      signed = subst (λ us. AllPay f us (take l.signed.peer l.received)) (front l.signed.own w.own_signed) h.signed;
      acknowledged = subst (λ us. AllPay f us (take l.acknowledged.peer l.received))
          (front l.acknowledged.own (omega (arith, w.own_acknowledged, w.own_signed))) h.acknowledged;
      peer = subst (AllPay g l.received)
          (front l.acknowledged.own (omega (arith, w.own_acknowledged, w.own_signed))) h.peer;
      current = subst (AllPay g (take l.current.peer l.received))
          (front l.current.own (omega (arith, w.own_current, w.own_acknowledged, w.own_signed))) h.current;
    }

pub paced_received : (l : Log) (u : Change) → taken_fault l u ≡ None → IsPaced l → IsPaced (after_receive u l)
paced_received l u none h =
    let w = h.kept.within in
    let f = first_balance l.opening l.role in
    let g = first_balance l.opening (other_role l.role) in
    let s = with_own h.peer_standing (take l.acknowledged.own l.own) u in
    let k = kept_received l h.own_standing h.own_signed h.peer_standing h.peer_current s u
    (take l.acknowledged.own l.own) h.kept none refl refl in
    let front = λ (n : ℕ) (le : n ≤ length l.received). sym (take-append-le n l.received (u ∷ []) le) in
    record {
      own_standing = h.own_standing;
      own_signed = h.own_signed;
      peer_standing = s;
      peer_current = h.peer_current;
      kept = k;
      own = subst (AllPay f l.own) (front l.current.peer w.peer_current) h.own;
      signed = subst (AllPay f (take l.signed.own l.own))
          (front l.signed.peer (omega (arith, w.peer_signed, w.peer_current))) h.signed;
      acknowledged = subst (AllPay f (take l.acknowledged.own l.own))
          (front l.acknowledged.peer (omega (arith, w.peer_acknowledged, w.peer_signed, w.peer_current)))
          h.acknowledged;
      peer = pays_push g l.received (take l.acknowledged.own l.own) u h.peer k.peer_pays;
      current = subst (λ us. AllPay g us (take l.current.own l.own)) (front l.current.peer w.peer_current) h.current;
    }

pub paced_signed : (l : Log) → IsPaced l → IsPaced (after_sign l)
paced_signed l h =
    let f = first_balance l.opening l.role in
    record {
      own_standing = h.own_standing;
      own_signed = h.own_standing;
      peer_standing = h.peer_standing;
      peer_current = h.peer_current;
      kept = kept_signed l h.own_standing h.own_signed h.peer_standing h.peer_current (length l.own) l.current.peer
          h.kept refl refl;
      own = h.own;
      signed = subst (λ us. AllPay f us (take l.current.peer l.received))
          (sym (take_all (length l.own) l.own (omega arith))) h.own;
      acknowledged = h.acknowledged;
      peer = h.peer;
      current = h.current;
    }

pub paced_accepted : (l : Log) → IsPaced l → IsPaced (after_accept l)
paced_accepted l h =
    let w = h.kept.within in
    let f = first_balance l.opening l.role in
    let g = first_balance l.opening (other_role l.role) in
    let us = drop l.current.peer l.received in
    let vs = take l.current.own l.own in
    record {
      own_standing = with_all h.own_standing vs us;
      own_signed = with_all h.own_signed vs us;
      peer_standing = h.peer_standing;
      peer_current = h.peer_standing;
      kept = kept_accepted l h.own_standing h.own_signed h.peer_standing h.peer_current
          (with_all h.own_standing vs us) (with_all h.own_signed vs us) l.acknowledged.own (length l.received) us vs
          h.kept refl refl refl refl refl refl;
      own = all_longer f l.own l.received l.current.peer (length l.received) w.peer_current h.own;
      signed = h.signed;
      acknowledged = h.acknowledged;
      peer = h.peer;
      current = subst (λ rs. AllPay g rs (take l.acknowledged.own l.own))
          (sym (take_all (length l.received) l.received (omega arith))) h.peer;
    }

pub paced_learned : (l : Log) → IsPaced l → IsPaced (after_learn l)
paced_learned l h =
    let w = h.kept.within in
    let us = drop l.acknowledged.own (take l.signed.own l.own) in
    let vs = take l.signed.peer l.received in
    record {
      own_standing = h.own_standing;
      own_signed = h.own_signed;
      peer_standing = with_all h.peer_standing vs us;
      peer_current = with_all h.peer_current vs us;
      kept = kept_acknowledged l h.own_standing h.own_signed h.peer_standing h.peer_current
          (with_all h.peer_standing vs us) (with_all h.peer_current vs us) us vs h.kept refl refl refl refl;
      own = h.own;
      signed = h.signed;
      acknowledged = h.signed;
      peer = all_longer (first_balance l.opening (other_role l.role)) l.received l.own l.acknowledged.own l.signed.own
          w.own_acknowledged h.peer;
      current = h.current;
    }

pub paced_dropped : (l : Log) → IsPaced l → IsPaced (after_drop l)
paced_dropped l h =
    let w = h.kept.within in
    let f = first_balance l.opening l.role in
    let g = first_balance l.opening (other_role l.role) in
    let own = λ (n : ℕ) (le : n ≤ l.signed.own). sym (take-take n l.signed.own l.own le) in
    let got = λ (n : ℕ) (le : n ≤ l.current.peer). sym (take-take n l.current.peer l.received le) in
    let signed_peer = got l.signed.peer w.peer_signed in
    let acked_own = own l.acknowledged.own w.own_acknowledged in
    record {
      own_standing = h.own_signed;
      own_signed = h.own_signed;
      peer_standing = h.peer_current;
      peer_current = h.peer_current;
      kept = kept_dropped l h.own_standing h.own_signed h.peer_standing h.peer_current h.kept;
      own = subst (AllPay f (take l.signed.own l.own)) (got l.current.peer (omega arith))
          (all_longer f (take l.signed.own l.own) l.received l.signed.peer l.current.peer w.peer_signed h.signed);
      signed = subst (λ us. AllPay f us (take l.signed.peer (take l.current.peer l.received)))
          (own l.signed.own (omega arith)) (subst (AllPay f (take l.signed.own l.own)) signed_peer h.signed);
      acknowledged = subst (λ us. AllPay f us (take l.acknowledged.peer (take l.current.peer l.received))) acked_own
          (subst (AllPay f (take l.acknowledged.own l.own))
          (got l.acknowledged.peer (omega (arith, w.peer_acknowledged, w.peer_signed))) h.acknowledged);
      peer = subst (AllPay g (take l.current.peer l.received)) acked_own
          (all_longer g (take l.current.peer l.received) l.own l.current.own l.acknowledged.own w.own_current
          h.current);
      current = subst (λ us. AllPay g us (take l.current.own (take l.signed.own l.own)))
          (got l.current.peer (omega arith)) (subst (AllPay g (take l.current.peer l.received))
          (own l.current.own (omega (arith, w.own_current, w.own_acknowledged))) h.current);
    }

-- where its base stands is told by nothing of this
pub paced_based : (l : Log) (c : Counts) → IsPaced l → IsPaced (record l { first = c })
paced_based l c h =
    let k = h.kept in
    let w = k.within in
    record {
      own_standing = h.own_standing;
      own_signed = h.own_signed;
      peer_standing = h.peer_standing;
      peer_current = h.peer_current;
      kept = record {
        funds = k.funds;
        within = record {
          own_current = w.own_current;
          own_acknowledged = w.own_acknowledged;
          own_signed = w.own_signed;
          peer_acknowledged = w.peer_acknowledged;
          peer_signed = w.peer_signed;
          peer_current = w.peer_current;
        };
        own_ids = k.own_ids;
        peer_ids = k.peer_ids;
        own_removals = k.own_removals;
        acknowledged_removals = k.acknowledged_removals;
        peer_removals = k.peer_removals;
        own_amounts = k.own_amounts;
        peer_amounts = k.peer_amounts;
        own_stands = k.own_stands;
        own_signed_stands = k.own_signed_stands;
        peer_stands = k.peer_stands;
        peer_current_stands = k.peer_current_stands;
        own_pays = k.own_pays;
        peer_pays = k.peer_pays;
        signed_pays = k.signed_pays;
        acknowledged_pays = k.acknowledged_pays;
        current_pays = k.current_pays;
      };
      own = h.own;
      signed = h.signed;
      acknowledged = h.acknowledged;
      peer = h.peer;
      current = h.current;
    }

-- ---- as it opens

pays_none : (first n : ℕ) → Pays first (take n []) []
pays_none first zero = omega arith
pays_none first (suc n) = omega arith

pub paced_opened : (o : Opening) (r : Role) → HasFunds o → IsPaced (opened o r)
paced_opened o r funds =
    let f = first_balance o r in
    let g = first_balance o (other_role r) in
    record {
      own_standing = standing_of f [] [];
      own_signed = standing_of f [] [];
      peer_standing = standing_of g [] [];
      peer_current = standing_of g [] [];
      kept = record {
        funds = funds;
        within = record {
          own_current = omega arith;
          own_acknowledged = omega arith;
          own_signed = omega arith;
          peer_acknowledged = omega arith;
          peer_signed = omega arith;
          peer_current = omega arith;
        };
        own_ids = tt;
        peer_ids = tt;
        own_removals = tt;
        acknowledged_removals = tt;
        peer_removals = tt;
        own_amounts = tt;
        peer_amounts = tt;
        own_stands = refl;
        own_signed_stands = refl;
        peer_stands = refl;
        peer_current_stands = refl;
        own_pays = omega arith;
        peer_pays = omega arith;
        signed_pays = (omega arith, omega arith);
        acknowledged_pays = (omega arith, omega arith);
        current_pays = (omega arith, omega arith);
      };
      own = pays_none f;
      signed = pays_none f;
      acknowledged = pays_none f;
      peer = pays_none g;
      current = pays_none g;
    }

-- ---- what can be a base

-- as it accepts and learns: any of the own updates that it may hold next, with any of the peer's
pub square : (l : Log) → IsPaced l → (a b : ℕ) → l.current.own ≤ a → a ≤ l.acknowledged.own → l.acknowledged.peer ≤ b
    → b ≤ l.signed.peer → IsClosed l.opening l.role (take a l.own) (take b l.received)
square l h a b own_from own_to peer_from peer_to =
    let k = h.kept in
    let w = k.within in
    let f = first_balance l.opening l.role in
    let g = first_balance l.opening (other_role l.role) in
    let own_cut : take a (take l.acknowledged.own l.own) ≡ take a l.own = take-take a l.acknowledged.own l.own own_to in
    let got_cut : take b (take l.current.peer l.received) ≡ take b l.received =
    take-take b l.current.peer l.received (omega (arith, peer_to, w.peer_signed)) in
    let own_removals = subst (AreRemovals (take l.acknowledged.peer l.received) []) own_cut
    (removals-take (take l.acknowledged.peer l.received) [] (take l.acknowledged.own l.own) a
    k.acknowledged_removals) in
    record {
      own_new = λ id le. untouched id (take l.current.own l.own) [] (take b l.received)
          (removals-take (take l.current.own l.own) [] l.received b k.peer_removals)
          (above 0 id (take l.current.own l.own) (numbered-take 0 l.current.own l.own k.own_ids)
          (omega (arith, le, next-take l.current.own a l.own own_from)));
      peer_new = λ id le. untouched id (take l.acknowledged.peer l.received) [] (take a l.own) own_removals
          (above 0 id (take l.acknowledged.peer l.received)
          (numbered-take 0 l.acknowledged.peer l.received k.peer_ids)
          (omega (arith, le, next-take l.acknowledged.peer b l.received peer_from)));
      paid = (
        pays_longer f (take a l.own) l.received l.acknowledged.peer b peer_from
            (subst (λ us. Pays f us (take l.acknowledged.peer l.received)) own_cut (h.acknowledged a)),
        pays_longer g (take b l.received) l.own l.current.own a own_from
            (subst (λ us. Pays g us (take l.current.own l.own)) got_cut (h.current b)),
      );
    }

-- and with a change of the fee after it
pub fee_own : (o : Opening) (r : Role) (own peer : List Change) (x : Fee) → AreNumbered 0 peer → IsClosed o r own peer
    → IsClosed o r (own ++ update.Fee x ∷ []) peer
fee_own o r own peer x ids h =
    let u : Change = update.Fee x in
    let same : next_id (own ++ u ∷ []) ≡ next_id own = next-push own u in
    record {
      own_new = λ id le. h.own_new id (omega (arith, le, same));
      peer_new = λ id le. outcome-none id own u refl ∙ h.peer_new id le;
      paid = (
        own_pays (first_balance o r) own peer u ids tt tt h.paid.0,
        pays_more (first_balance o (other_role r)) peer own (u ∷ []) h.paid.1,
      );
    }

pub fee_peer : (o : Opening) (r : Role) (own peer : List Change) (x : Fee) → AreNumbered 0 own → IsClosed o r own peer
    → IsClosed o r own (peer ++ update.Fee x ∷ [])
fee_peer o r own peer x ids h =
    let u : Change = update.Fee x in
    let same : next_id (peer ++ u ∷ []) ≡ next_id peer = next-push peer u in
    record {
      own_new = λ id le. outcome-none id peer u refl ∙ h.own_new id le;
      peer_new = λ id le. h.peer_new id (omega (arith, le, same));
      paid = (
        pays_more (first_balance o r) own peer (u ∷ []) h.paid.0,
        own_pays (first_balance o (other_role r)) peer own u ids tt tt h.paid.1,
      );
    }
