-- What each call of a log keeps.
use Rattle.std.specs.List.{slice_get, cons_option}
use Rattle.std.proofs.Common.{◌≡◌, ℕ, zero, suc, IfSome, ◌+◌, ◌-◌, ◌*◌, ◌≤◌, ◌<◌, ◌^◌, List, [], ◌∷◌, ◌++◌, length}
use Rattle.std.proofs.Common.{take, drop, refl, sym, ap, ◌∙◌, subst, arith, Bool, true, false, cond, Option, Some, None}
use Rattle.std.proofs.Common.{◌||◌, ◌==◌, nat_lt}
use Rattle.std.proofs.lemmas.List.{take-append-drop, take-take, take_all, length-take-le}
use Rattle.std.proofs.lemmas.Bool.{ltb-false}
use Rattle.ln_keys.specs.declared.role.Role.{Role}
use Rattle.ln_keys.specs.Role.{other_role}
use Rattle.ln_log.specs.declared.opening.Limits.{Limits}
use Rattle.ln_log.specs.declared.opening.Opening.{Opening}
use Rattle.ln_log.specs.declared.update.Add.{Add}
use Rattle.ln_log.specs.declared.update.Removal.{Removal}
use Rattle.ln_log.specs.declared.update.Update.TheVariants as update
use Rattle.ln_log.specs.declared.outcome.Outcome.{Outcome}
use Rattle.ln_log.specs.declared.standing.Standing.{Standing}
use Rattle.ln_log.specs.declared.update.Update.{Update}
use Rattle.ln_log.specs.declared.outcome.Outcome.TheVariants.{Live, Fulfilled, Failed}
use Rattle.ln_log.specs.Opening.{HasFunds, first_balance}
use Rattle.ln_log.specs.Updates.{offered, removed, is_some, next_id, add_with, outcome, is_live}
use Rattle.ln_log.specs.View.{live_of, live_adds, balance, Pays}
use Rattle.ln_log.specs.Limits.{standing_of, add_fault, fault_at, removable, fulfil_fault, fail_fault, malformed_fault}
use Rattle.ln_log.specs.Limits.{most_updates}
use Rattle.ln_log.specs.Standing.{with_own, with_all, paid_by, PaidFits, OwnFits, AllFit}
use Rattle.ln_log.specs.Log.{Log, IsKept, between, BothPay, HasAmount, AreWithin, number_after, HasId}
use Rattle.ln_log.specs.Log.{AreNumbered, RemovesLive, AreRemovals, after_learn, after_drop}
use Rattle.ln_log.proofs.Removing.{add_with-more, next-take, next-cons, above, numbered-take, numbered-drop}
use Rattle.ln_log.proofs.Removing.{removals-take, removals-drop, removals-more, untouched}
use Rattle.ln_log.proofs.Totals.{sums, first_sum, longer, pays_longer, pays_all, pays_more}
use Rattle.ln_log.proofs.Standings.{MayAdd, own_moves, own_pays, all_step}

-- the standing of a side that offered own, moved by all that is taken after m updates of the other side's
pub record Settling (f g : ℕ) (own adds held got : List Update) (m : ℕ) : Type 0 where
  pub ids : AreNumbered 0 own
  pub found : (i : ℕ) → is_some (add_with i adds) ≡ true → add_with i own ≡ add_with i adds
  pub got_ids : AreNumbered 0 got
  pub held_ids : AreNumbered 0 held
  pub held_before : next_id held ≤ next_id (take m got)
  pub own_removals : AreRemovals held [] own
  pub got_removals : AreRemovals adds [] got
  pub pays : Pays f own (take m got)
  pub back : Pays g got own
  pub small : f + g < 2 ^ 64

pub settles : (f g : ℕ) (own adds held got : List Update) (m : ℕ) → Settling f g own adds held got m
    → AllFit (standing_of f own (take m got)) adds (drop m got)
    × (with_all (standing_of f own (take m got)) adds (drop m got) ≡ standing_of f own got)
settles f g own adds held got m h =
    let whole : take m got ++ drop m got ≡ got = take-append-drop m got in
    let new : (i : ℕ) → next_id (take m got) ≤ i → outcome i own ≡ Live =
    λ i le. untouched i held [] own h.own_removals (above 0 i held h.held_ids (omega (arith, le, h.held_before))) in
    let bound : balance f own got < 2 ^ 64 = omega (
      arith,
      h.small,
      sums f g own got (pays_all f own got m h.pays) h.back,
    ) in
    let step = all_step f own adds (take m got) (next_id (take m got)) (drop m got)
    (record { ids = h.ids; found = h.found; pays = h.pays })
    (subst (λ n. AreNumbered n (drop m got)) (omega arith) (numbered-drop 0 m got h.got_ids)) new
    (removals-drop adds [] got m h.got_removals)
    (subst (λ p. balance f own p < 2 ^ 64) (sym whole) bound) in
    (step.0, step.1 ∙ ap (standing_of f own) whole)

pub found_in : (m n : ℕ) (us : List Update) → m ≤ n → (i : ℕ) → is_some (add_with i (take m us)) ≡ true
    → add_with i (take n us) ≡ add_with i (take m us)
found_in m n us le i e = ap (add_with i) (longer m n us le) ∙ add_with-more i (take m us) (drop m (take n us)) e

pub found_all : (m : ℕ) (us : List Update) → (i : ℕ) → is_some (add_with i (take m us)) ≡ true
    → add_with i us ≡ add_with i (take m us)
found_all m us i e = ap (add_with i) (sym (take-append-drop m us)) ∙ add_with-more i (take m us) (drop m us) e

pub small : (l : Log) → HasFunds l.opening → first_balance l.opening l.role
    + first_balance l.opening (other_role l.role) < 2 ^ 64
small l funds = omega (arith, first_sum l.opening l.role funds, funds.funds)

-- ---- amounts

pub within-take : (most : ℕ) (us : List Update) (k : ℕ) → AreWithin most us → AreWithin most (take k us)
within-take most us zero h = tt
within-take most [] (suc k) h = tt
within-take most (u ∷ us) (suc k) h = (h.0, within-take most us k h.1)

pub within-drop : (most : ℕ) (us : List Update) (k : ℕ) → AreWithin most us → AreWithin most (drop k us)
within-drop most us zero h = h
within-drop most [] (suc k) h = tt
within-drop most (u ∷ us) (suc k) h = within-drop most us k h.1

-- a part of a list
pub part_within : (most from to : ℕ) (us vs : List Update) → AreWithin most vs → us ≡ between from to vs
    → AreWithin most us
part_within most from to us vs h e =
    subst (AreWithin most) (sym e) (within-take most (drop from vs) (to - from) (within-drop most vs from h))

pub within-push : (most : ℕ) (us : List Update) (u : Update) → AreWithin most us → HasAmount most (offered u)
    → AreWithin most (us ++ u ∷ [])
within-push most [] u h a = (a, tt)
within-push most (v ∷ us) u h a = (h.0, within-push most us u h.1 a)

pub amount_in : (most : ℕ) (us : List Update) (n : ℕ) → AreWithin most us
    → IfSome (slice_get us n) (λ u. HasAmount most (offered u))
amount_in most [] n h = tt
amount_in most (u ∷ us) zero h = h.0
amount_in most (u ∷ us) (suc n) h = amount_in most us n h.1

pub has_amount : (most most' : ℕ) (o : Option Add) → most ≡ most' → HasAmount most o → HasAmount most' o
has_amount most most' o e h = subst (λ m. HasAmount m o) e h

-- ---- a signature of the peer is taken

pub accepting : (l : Log) (s t p q : Standing) → IsKept l s t p q
    → Settling (first_balance l.opening l.role) (first_balance l.opening (other_role l.role)) l.own
    (take l.current.own l.own) (take l.signed.peer l.received) l.received l.current.peer
accepting l s t p q k =
    let w = k.within in
    record {
      ids = k.own_ids;
      found = found_all l.current.own l.own;
      got_ids = k.peer_ids;
      held_ids = numbered-take 0 l.signed.peer l.received k.peer_ids;
      held_before = next-take l.signed.peer l.current.peer l.received w.peer_signed;
      own_removals = k.own_removals;
      got_removals = k.peer_removals;
      pays = k.own_pays;
      back = pays_all (first_balance l.opening (other_role l.role)) l.received l.own l.acknowledged.own k.peer_pays;
      small = small l k.funds;
    }

pub accepting_signed : (l : Log) (s t p q : Standing) → IsKept l s t p q
    → Settling (first_balance l.opening l.role) (first_balance l.opening (other_role l.role)) (take l.signed.own l.own)
    (take l.current.own l.own) (take l.signed.peer l.received) l.received l.current.peer
accepting_signed l s t p q k =
    let w = k.within in
    record {
      ids = numbered-take 0 l.signed.own l.own k.own_ids;
      found = found_in l.current.own l.signed.own l.own (omega (arith, w.own_current, w.own_acknowledged));
      got_ids = k.peer_ids;
      held_ids = numbered-take 0 l.signed.peer l.received k.peer_ids;
      held_before = next-take l.signed.peer l.current.peer l.received w.peer_signed;
      own_removals = removals-take (take l.signed.peer l.received) [] l.own l.signed.own k.own_removals;
      got_removals = k.peer_removals;
      pays = pays_longer (first_balance l.opening l.role) (take l.signed.own l.own) l.received l.signed.peer
          l.current.peer w.peer_signed k.signed_pays.0;
      back = pays_longer (first_balance l.opening (other_role l.role)) l.received l.own l.acknowledged.own l.signed.own
          w.own_acknowledged k.peer_pays;
      small = small l k.funds;
    }

-- ---- a revocation of the peer is taken

pub small_back : (l : Log) → HasFunds l.opening → first_balance l.opening (other_role l.role)
    + first_balance l.opening l.role < 2 ^ 64
small_back l funds = omega (arith, small l funds)

pub learning : (l : Log) (s t p q : Standing) → IsKept l s t p q
    → Settling (first_balance l.opening (other_role l.role)) (first_balance l.opening l.role) l.received
    (take l.signed.peer l.received) (take l.current.own l.own) (take l.signed.own l.own) l.acknowledged.own
learning l s t p q k =
    let w = k.within in
    let f = first_balance l.opening l.role in
    let front : take l.acknowledged.own (take l.signed.own l.own) ≡ take l.acknowledged.own l.own =
    take-take l.acknowledged.own l.signed.own l.own w.own_acknowledged in
    record {
      ids = k.peer_ids;
      found = found_all l.signed.peer l.received;
      got_ids = numbered-take 0 l.signed.own l.own k.own_ids;
      held_ids = numbered-take 0 l.current.own l.own k.own_ids;
      held_before = subst (λ us. next_id (take l.current.own l.own) ≤ next_id us) (sym front)
          (next-take l.current.own l.acknowledged.own l.own w.own_current);
      own_removals = k.peer_removals;
      got_removals = removals-take (take l.signed.peer l.received) [] l.own l.signed.own k.own_removals;
      pays = subst (Pays (first_balance l.opening (other_role l.role)) l.received) (sym front) k.peer_pays;
      back = pays_all f (take l.signed.own l.own) l.received l.signed.peer k.signed_pays.0;
      small = small_back l k.funds;
    }

pub learning_current : (l : Log) (s t p q : Standing) → IsKept l s t p q
    → Settling (first_balance l.opening (other_role l.role)) (first_balance l.opening l.role)
    (take l.current.peer l.received) (take l.signed.peer l.received) (take l.current.own l.own)
    (take l.signed.own l.own) l.acknowledged.own
learning_current l s t p q k =
    let w = k.within in
    let f = first_balance l.opening l.role in
    let g = first_balance l.opening (other_role l.role) in
    let front : take l.acknowledged.own (take l.signed.own l.own) ≡ take l.acknowledged.own l.own =
    take-take l.acknowledged.own l.signed.own l.own w.own_acknowledged in
    record {
      ids = numbered-take 0 l.current.peer l.received k.peer_ids;
      found = found_in l.signed.peer l.current.peer l.received w.peer_signed;
      got_ids = numbered-take 0 l.signed.own l.own k.own_ids;
      held_ids = numbered-take 0 l.current.own l.own k.own_ids;
      held_before = subst (λ us. next_id (take l.current.own l.own) ≤ next_id us) (sym front)
          (next-take l.current.own l.acknowledged.own l.own w.own_current);
      own_removals = removals-take (take l.current.own l.own) [] l.received l.current.peer k.peer_removals;
      got_removals = removals-take (take l.signed.peer l.received) [] l.own l.signed.own k.own_removals;
      pays = subst (Pays g (take l.current.peer l.received)) (sym front)
          (pays_longer g (take l.current.peer l.received) l.own l.current.own l.acknowledged.own
          w.own_current k.current_pays.1);
      back = pays_longer f (take l.signed.own l.own) l.received l.signed.peer l.current.peer
          w.peer_signed k.signed_pays.0;
      small = small_back l k.funds;
    }

-- ---- what each call keeps

-- a standing that was moved by all of them
pub record Moved (s new : Standing) (first : ℕ) (own adds got : List Update) (m : ℕ)
    (us vs : List Update) : Type 0 where
  pub stands : s ≡ standing_of first own (take m got)
  pub updates : us ≡ drop m got
  pub htlcs : vs ≡ adds
  pub new_is : new ≡ with_all s vs us

pub may_move : (f g : ℕ) (own adds held got : List Update) (m : ℕ) (s : Standing) (us vs : List Update)
    → Settling f g own adds held got m → s ≡ standing_of f own (take m got) → us ≡ drop m got
    → vs ≡ adds → AllFit s vs us
may_move f g own adds held got m s us vs h es eu ev =
    subst (λ x. AllFit x vs us) (sym es) (subst (λ x. AllFit (standing_of f own (take m got)) x us) (sym ev)
    (subst (AllFit (standing_of f own (take m got)) adds) (sym eu) (settles f g own adds held got m h).0))

pub moved_to : (f g : ℕ) (own adds held got : List Update) (m : ℕ) (s new : Standing) (us vs : List Update)
    → Settling f g own adds held got m → Moved s new f own adds got m us vs → new ≡ standing_of f own got
moved_to f g own adds held got m s new us vs h v =
    v.new_is ∙ ap (λ x. with_all x vs us) v.stands ∙ ap (λ x. with_all (standing_of f own (take m got)) x us) v.htlcs
    ∙ ap (with_all (standing_of f own (take m got)) adds) v.updates ∙ (settles f g own adds held got m h).1

all_taken : (us : List Update) (n : ℕ) → n ≡ length us → take n us ≡ us
all_taken us n e = take_all n us (omega (arith, e))

pub kept_accepted : (l : Log) (s t p q a b : Standing) (m n : ℕ) (us vs : List Update) → IsKept l s t p q
    → m ≡ l.acknowledged.own → n ≡ length l.received
    → us ≡ drop l.current.peer l.received → vs ≡ take l.current.own l.own → a ≡ with_all s vs us → b ≡ with_all t vs us
    → IsKept (record l { current = record { own = m; peer = n } }) a b p p
kept_accepted l s t p q a b m n us vs k em en eu ev ea eb =
    let w = k.within in
    let f = first_balance l.opening l.role in
    let g = first_balance l.opening (other_role l.role) in
    let whole : take n l.received ≡ l.received = all_taken l.received n en in
    let front : take m l.own ≡ take l.acknowledged.own l.own = ap (λ i. take i l.own) em in
    let own_is : a ≡ standing_of f l.own l.received =
    moved_to f g l.own (take l.current.own l.own) (take l.signed.peer l.received) l.received l.current.peer s a us vs
    (accepting l s t p q k) (record { stands = k.own_stands; updates = eu; htlcs = ev; new_is = ea }) in
    let signed_is : b ≡ standing_of f (take l.signed.own l.own) l.received =
    moved_to f g (take l.signed.own l.own) (take l.current.own l.own) (take l.signed.peer l.received) l.received
    l.current.peer t b us vs (accepting_signed l s t p q k)
    (record { stands = k.own_signed_stands; updates = eu; htlcs = ev; new_is = eb }) in
    record {
      funds = k.funds;
      within = record {
        own_current = omega (arith, em);
        own_acknowledged = w.own_acknowledged;
        own_signed = w.own_signed;
        peer_acknowledged = w.peer_acknowledged;
        peer_signed =
            omega (arith, en, w.peer_signed, w.peer_current);
        peer_current = omega (arith, en);
      };
      own_ids = k.own_ids;
      peer_ids = k.peer_ids;
      own_removals = k.own_removals;
      acknowledged_removals = k.acknowledged_removals;
      peer_removals = subst (λ adds. AreRemovals adds [] l.received)
          (sym (front ∙ longer l.current.own l.acknowledged.own l.own w.own_current))
          (removals-more (take l.current.own l.own) (drop l.current.own (take l.acknowledged.own l.own)) []
          l.received k.peer_removals);
      own_amounts = k.own_amounts;
      peer_amounts = k.peer_amounts;
      own_stands = own_is ∙ ap (standing_of f l.own) (sym whole);
      own_signed_stands = signed_is ∙ ap (standing_of f (take l.signed.own l.own)) (sym whole);
      peer_stands = k.peer_stands;
      peer_current_stands = k.peer_stands ∙ ap (λ x. standing_of g x (take l.acknowledged.own l.own)) (sym whole);
      own_pays = subst (Pays f l.own) (sym whole) (pays_all f l.own l.received l.current.peer k.own_pays);
      peer_pays = k.peer_pays;
      signed_pays = k.signed_pays;
      acknowledged_pays = k.acknowledged_pays;
      current_pays = (
        subst (λ x. Pays f x (take n l.received)) (sym front)
            (subst (Pays f (take l.acknowledged.own l.own)) (sym whole)
            (pays_all f (take l.acknowledged.own l.own) l.received l.acknowledged.peer k.acknowledged_pays.0)),
        subst (Pays g (take n l.received)) (sym front)
            (subst (λ x. Pays g x (take l.acknowledged.own l.own)) (sym whole) k.peer_pays),
      );
    }

pub kept_acknowledged : (l : Log) (s t p q a b : Standing) (us vs : List Update) → IsKept l s t p q
    → us ≡ drop l.acknowledged.own (take l.signed.own l.own) → vs ≡ take l.signed.peer l.received
    → a ≡ with_all p vs us → b ≡ with_all q vs us
    → IsKept (after_learn l) s t a b
kept_acknowledged l s t p q a b us vs k eu ev ea eb =
    let w = k.within in
    let f = first_balance l.opening l.role in
    let g = first_balance l.opening (other_role l.role) in
    let front : take l.acknowledged.own (take l.signed.own l.own) ≡ take l.acknowledged.own l.own =
    take-take l.acknowledged.own l.signed.own l.own w.own_acknowledged in
    let peer_is : a ≡ standing_of g l.received (take l.signed.own l.own)
    = moved_to g f l.received (take l.signed.peer l.received) (take l.current.own l.own) (take l.signed.own l.own)
    l.acknowledged.own p a us vs (learning l s t p q k)
    (record {
      stands = k.peer_stands ∙ ap (standing_of g l.received) (sym front);
      updates = eu;
      htlcs = ev;
      new_is = ea;
    }) in
    let current_is : b ≡ standing_of g (take l.current.peer l.received) (take l.signed.own l.own)
    = moved_to g f (take l.current.peer l.received) (take l.signed.peer l.received) (take l.current.own l.own)
    (take l.signed.own l.own) l.acknowledged.own q b us vs (learning_current l s t p q k)
    (record {
      stands = k.peer_current_stands ∙ ap (standing_of g (take l.current.peer l.received)) (sym front);
      updates = eu;
      htlcs = ev;
      new_is = eb;
    }) in
    record {
      funds = k.funds;
      within = record {
        own_current = omega (arith, w.own_current, w.own_acknowledged);
        own_acknowledged = omega arith;
        own_signed = w.own_signed;
        peer_acknowledged = omega arith;
        peer_signed = w.peer_signed;
        peer_current = w.peer_current;
      };
      own_ids = k.own_ids;
      peer_ids = k.peer_ids;
      own_removals = k.own_removals;
      acknowledged_removals = removals-take (take l.signed.peer l.received) [] l.own l.signed.own k.own_removals;
      peer_removals = k.peer_removals;
      own_amounts = k.own_amounts;
      peer_amounts = k.peer_amounts;
      own_stands = k.own_stands;
      own_signed_stands = k.own_signed_stands;
      peer_stands = peer_is;
      peer_current_stands = current_is;
      own_pays = k.own_pays;
      peer_pays = pays_longer g l.received l.own l.acknowledged.own l.signed.own w.own_acknowledged k.peer_pays;
      signed_pays = k.signed_pays;
      acknowledged_pays = k.signed_pays;
      current_pays = k.current_pays;
    }

pub kept_signed : (l : Log) (s t p q : Standing) (m n : ℕ) → IsKept l s t p q → m ≡ length l.own → n ≡ l.current.peer
    → IsKept (record l { signed = record { own = m; peer = n } }) s s p q
kept_signed l s t p q m n k em en =
    let w = k.within in
    let f = first_balance l.opening l.role in
    let g = first_balance l.opening (other_role l.role) in
    let whole : take m l.own ≡ l.own = all_taken l.own m em in
    let seen : take n l.received ≡ take l.current.peer l.received = ap (λ i. take i l.received) en in
    record {
      funds = k.funds;
      within = record {
        own_current = w.own_current;
        own_acknowledged = omega (arith, em, w.own_acknowledged, w.own_signed);
        own_signed = omega (arith, em);
        peer_acknowledged = omega (arith, en, w.peer_acknowledged, w.peer_signed);
        peer_signed = omega (arith, en);
        peer_current = w.peer_current;
      };
      own_ids = k.own_ids;
      peer_ids = k.peer_ids;
      own_removals = subst (λ adds. AreRemovals adds [] l.own)
          (sym (seen ∙ longer l.signed.peer l.current.peer l.received w.peer_signed))
          (removals-more (take l.signed.peer l.received) (drop l.signed.peer (take l.current.peer l.received))
          [] l.own k.own_removals);
      acknowledged_removals = k.acknowledged_removals;
      peer_removals = k.peer_removals;
      own_amounts = k.own_amounts;
      peer_amounts = k.peer_amounts;
      own_stands = k.own_stands;
      own_signed_stands = k.own_stands ∙ ap (λ x. standing_of f x (take l.current.peer l.received)) (sym whole);
      peer_stands = k.peer_stands;
      peer_current_stands = k.peer_current_stands;
      own_pays = k.own_pays;
      peer_pays = k.peer_pays;
      signed_pays = (
        subst (λ x. Pays f x (take n l.received)) (sym whole) (subst (Pays f l.own) (sym seen) k.own_pays),
        subst (Pays g (take n l.received)) (sym whole)
            (subst (λ x. Pays g x l.own) (sym seen) (pays_all g (take l.current.peer l.received) l.own
            l.current.own k.current_pays.1)),
      );
      acknowledged_pays = k.acknowledged_pays;
      current_pays = k.current_pays;
    }

pub both_same : (o : Opening) (r : Role) (a b c d : List Update) → a ≡ c → b ≡ d
    → BothPay o r (record { own = a; peer = b }) → BothPay o r (record { own = c; peer = d })
both_same o r a b c d e h k = subst (λ x. BothPay o r (record { own = x; peer = d })) e
    (subst (λ x. BothPay o r (record { own = a; peer = x })) h k)

-- the same lists, cut to what was covered
pub kept_dropped : (l : Log) (s t p q : Standing) → IsKept l s t p q → IsKept (after_drop l) t t q q
kept_dropped l s t p q k =
    let w = k.within in
    let f = first_balance l.opening l.role in
    let g = first_balance l.opening (other_role l.role) in
    let own_part = λ (n : ℕ) (le : n ≤ l.signed.own). take-take n l.signed.own l.own le in
    let got_part = λ (n : ℕ) (le : n ≤ l.current.peer). take-take n l.current.peer l.received le in
    let signed_own = own_part l.signed.own (omega arith) in
    let acked_own = own_part l.acknowledged.own w.own_acknowledged in
    let current_own = own_part l.current.own (omega (arith, w.own_current, w.own_acknowledged)) in
    let current_peer = got_part l.current.peer (omega arith) in
    let signed_peer = got_part l.signed.peer w.peer_signed in
    let acked_peer = got_part l.acknowledged.peer (omega (arith, w.peer_acknowledged, w.peer_signed)) in
    record {
      funds = k.funds;
      within = record {
        own_current = w.own_current;
        own_acknowledged = w.own_acknowledged;
        own_signed = omega (arith, length-take-le l.signed.own l.own w.own_signed);
        peer_acknowledged =
            w.peer_acknowledged;
        peer_signed = w.peer_signed;
        peer_current =
            omega (arith, length-take-le l.current.peer l.received w.peer_current);
      };
      own_ids = numbered-take 0 l.signed.own l.own k.own_ids;
      peer_ids = numbered-take 0 l.current.peer l.received k.peer_ids;
      own_removals = subst (λ adds. AreRemovals adds [] (take l.signed.own l.own)) (sym signed_peer)
          (removals-take (take l.signed.peer l.received) [] l.own l.signed.own k.own_removals);
      acknowledged_removals = subst (λ us. AreRemovals (take l.acknowledged.peer (take l.current.peer l.received)) []
          us) (sym acked_own) (subst (λ adds. AreRemovals adds [] (take l.acknowledged.own l.own)) (sym acked_peer)
          k.acknowledged_removals);
      peer_removals = subst (λ adds. AreRemovals adds [] (take l.current.peer l.received)) (sym current_own)
          (removals-take (take l.current.own l.own) [] l.received l.current.peer k.peer_removals);
      own_amounts = within-take (1000 * l.opening.satoshis) l.own l.signed.own k.own_amounts;
      peer_amounts = within-take (1000 * l.opening.satoshis) l.received l.current.peer k.peer_amounts;
      own_stands = k.own_signed_stands ∙ ap (standing_of f (take l.signed.own l.own)) (sym current_peer);
      own_signed_stands = k.own_signed_stands ∙ ap (standing_of f (take l.signed.own l.own)) (sym current_peer)
          ∙ ap (λ x. standing_of f x (take l.current.peer (take l.current.peer l.received))) (sym signed_own);
      peer_stands = k.peer_current_stands ∙ ap (standing_of g (take l.current.peer l.received)) (sym acked_own);
      peer_current_stands = k.peer_current_stands ∙ ap (standing_of g (take l.current.peer l.received)) (sym acked_own)
          ∙ ap (λ x. standing_of g x (take l.acknowledged.own (take l.signed.own l.own))) (sym current_peer);
      own_pays = subst (Pays f (take l.signed.own l.own)) (sym current_peer)
          (pays_longer f (take l.signed.own l.own) l.received l.signed.peer l.current.peer
          w.peer_signed k.signed_pays.0);
      peer_pays = subst (Pays g (take l.current.peer l.received)) (sym acked_own)
          (pays_longer g (take l.current.peer l.received) l.own l.current.own l.acknowledged.own
          w.own_current k.current_pays.1);
      signed_pays = both_same l.opening l.role _ _ _ _ (sym signed_own) (sym signed_peer) k.signed_pays;
      acknowledged_pays = both_same l.opening l.role _ _ _ _ (sym acked_own) (sym acked_peer) k.acknowledged_pays;
      current_pays = both_same l.opening l.role _ _ _ _ (sym current_own) (sym current_peer) k.current_pays;
    }

-- ---- a further update

live_found : (o : Outcome) (x : Option Add) (a : Add) → cond (is_live o) x None ≡ Some a
    → (is_some x ≡ true) × (o ≡ Live)
live_found Live x a e = (ap is_some e, refl)
live_found Fulfilled x a e = absurd (cc)
live_found Failed x a e = absurd (cc)

fulfil_found : (preimage : List ℕ) (x : Option Add) → fulfil_fault preimage x ≡ None → (a : Add) × (x ≡ Some a)
fulfil_found preimage None e = absurd (cc)
fulfil_found preimage (Some a) e = (a, refl)

fail_found : (x : Option Add) → fail_fault x ≡ None → (a : Add) × (x ≡ Some a)
fail_found None e = absurd (cc)
fail_found (Some a) e = (a, refl)

malformed_found : (code : ℕ) (x : Option Add) → malformed_fault code x ≡ None → (a : Add) × (x ≡ Some a)
malformed_found code None e = absurd (cc)
malformed_found code (Some a) e = (a, refl)

removable_is : (id : ℕ) (own held : List Update) (a : Add) → removable id own held ≡ Some a
    → (is_some (add_with id held) ≡ true) × (outcome id own ≡ Live)
removable_is id own held a e = live_found (outcome id own) (add_with id held) a e

pub names_live : (lim : Limits) (s : Standing) (side : Role) (own held : List Update) (u : Update)
    → fault_at lim s side own held u ≡ None → RemovesLive held own (removed u)
names_live lim s side own held (update.Add a) e = tt
names_live lim s side own held (update.Fulfil f) e = let a = fulfil_found f.preimage (removable f.id own held) e in
    removable_is f.id own held a.0 a.1
names_live lim s side own held (update.Fail f) e = let a = fail_found (removable f.id own held) e in
    removable_is f.id own held a.0 a.1
names_live lim s side own held (update.Malformed m) e = let a =
    malformed_found m.failure_code (removable m.id own held) e in removable_is m.id own held a.0 a.1
names_live lim s side own held (update.Fee f) e = tt

passes_test : {A : Type 0} (b : Bool) (x : A) (o : Option A) → cond b (Some x) o ≡ None → (b ≡ false) × (o ≡ None)
passes_test true x o e = absurd (cc)
passes_test false x o e = (refl, e)

-- who may offer an HTLC can pay for it
pub afforded : (lim : Limits) (s : Standing) (a : Add) → add_fault lim s a ≡ None → a.amount ≤ s.balance
afforded lim s a e =
    let p1 = passes_test ((a.amount == 0) || nat_lt a.amount lim.minimum) _ _ e in
    let p2 = passes_test (nat_lt 499999999 a.expiry) _ _ p1.1 in
    let p3 = passes_test (nat_lt lim.accepted (s.live + 1)) _ _ p2.1 in
    let p4 = passes_test (nat_lt lim.in_flight (s.in_flight + a.amount)) _ _ p3.1 in
    let p5 = passes_test (nat_lt s.balance (a.amount + 1000 * lim.reserve)) _ _ p4.1 in
    let le : a.amount + 1000 * lim.reserve ≤ s.balance = ltb-false s.balance (a.amount + 1000 * lim.reserve) p5.0 in
    omega (arith, le)

one_at_most : (o : Option Add) → number_after 0 o ≤ 1
one_at_most None = omega arith
one_at_most (Some a) = omega arith

pub next_few : (us : List Update) → next_id us ≤ length us
next_few [] = omega arith
next_few (u ∷ us) = omega (arith, next-cons u us, one_at_most (offered u), next_few us)

one_live : (o : Option Add) (rest : List Add) → length (cons_option o rest) ≤ 1 + length rest
one_live None rest = omega arith
one_live (Some a) rest = omega arith

live_few : (us r : List Update) → length (live_adds us r) ≤ length us
live_few [] r = omega arith
live_few (u ∷ us) r = omega (arith, one_live (live_of (offered u) r) (live_adds us r), live_few us r)

bounded_balance : (f g : ℕ) (own seen : List Update) (u : Update) → f + g < 2 ^ 64 → {b : ℕ}
    → b ≡ balance f (own ++ u ∷ []) seen → Pays f (own ++ u ∷ []) seen → Pays g seen own → b < 2 ^ 64
bounded_balance f g own seen u small e pays back =
    omega (arith, small, e, sums f g (own ++ u ∷ []) seen pays (pays_more g seen own (u ∷ []) back))

paid_fits : (s : Standing) (o : Option Add) → (paid_by s o).balance < 2 ^ 64 → PaidFits s o
paid_fits s None h = tt
paid_fits s (Some a) h = h

-- a side that stands so after own may propose u
pub record Growing (lim : Limits) (f g : ℕ) (own seen held : List Update) : Type 0 where
  pub own_ids : AreNumbered 0 own
  pub seen_ids : AreNumbered 0 seen
  pub found : (i : ℕ) → is_some (add_with i held) ≡ true → add_with i seen ≡ add_with i held
  pub new : outcome (next_id own) seen ≡ Live
  pub pays : Pays f own seen
  pub back : Pays g seen own
  pub small : f + g < 2 ^ 64
  pub few : length own < most_updates

pub seen_removes : (held seen own : List Update) (r : Option Removal)
    → ((i : ℕ) → is_some (add_with i held) ≡ true → add_with i seen ≡ add_with i held) → RemovesLive held own r
    → RemovesLive seen own r
seen_removes held seen own None found h = tt
seen_removes held seen own (Some r) found h = (ap is_some (found r.id h.0) ∙ h.0, h.1)

may_add : (lim : Limits) (f g : ℕ) (side : Role) (own seen held : List Update) (u : Update)
    → Growing lim f g own seen held → HasId (next_id own) (offered u)
    → fault_at lim (standing_of f own seen) side own held u ≡ None → MayAdd f own seen u
may_add lim f g side own seen held (update.Add a) h id e =
    (ap (λ i. outcome i seen) id ∙ h.new, afforded lim (standing_of f own seen) a e)
may_add lim f g side own seen held (update.Fulfil x) h id e = tt
may_add lim f g side own seen held (update.Fail x) h id e = tt
may_add lim f g side own seen held (update.Malformed x) h id e = tt
may_add lim f g side own seen held (update.Fee x) h id e = tt

pub record Grown (lim : Limits) (f g : ℕ) (own seen held : List Update) (u : Update) : Type 0 where
  pub fits : OwnFits (standing_of f own seen) seen u
  pub stands : with_own (standing_of f own seen) seen u ≡ standing_of f (own ++ u ∷ []) seen
  pub pays : Pays f (own ++ u ∷ []) seen
  pub removes : RemovesLive held own (removed u)
  pub amount : HasAmount (f + g) (offered u)

own_fits : (lim : Limits) (f g : ℕ) (side : Role) (own seen held : List Update) (u : Update)
    → Growing lim f g own seen held → fault_at lim (standing_of f own seen) side own held u ≡ None
    → with_own (standing_of f own seen) seen u ≡ standing_of f (own ++ u ∷ []) seen → Pays f (own ++ u ∷ []) seen
    → OwnFits (standing_of f own seen) seen u
own_fits lim f g side own seen held (update.Add a) h e moves pays =
    let paid = afforded lim (standing_of f own seen) a e in
    record {
      next_id = omega (arith, h.few, next_few own);
      live = omega (arith, h.few, live_few own seen);
      in_flight = omega (arith, paid, h.small, sums f g own seen h.pays h.back);
      paid = paid;
    }
own_fits lim f g side own seen held (update.Fulfil x) h e moves pays =
    paid_fits (standing_of f own seen) (add_with x.id seen)
    (bounded_balance f g own seen (update.Fulfil x) h.small (ap (λ (t : Standing). t.balance) moves) pays h.back)
own_fits lim f g side own seen held (update.Fail x) h e moves pays = tt
own_fits lim f g side own seen held (update.Malformed x) h e moves pays = tt
own_fits lim f g side own seen held (update.Fee x) h e moves pays = tt

pub amount_is : (lim : Limits) (f g : ℕ) (side : Role) (own seen held : List Update) (u : Update)
    → Growing lim f g own seen held → fault_at lim (standing_of f own seen) side own held u ≡ None
    → HasAmount (f + g) (offered u)
amount_is lim f g side own seen held (update.Add a) h e =
    omega (arith, afforded lim (standing_of f own seen) a e, sums f g own seen h.pays h.back)
amount_is lim f g side own seen held (update.Fulfil x) h e = tt
amount_is lim f g side own seen held (update.Fail x) h e = tt
amount_is lim f g side own seen held (update.Malformed x) h e = tt
amount_is lim f g side own seen held (update.Fee x) h e = tt

pub grown : (lim : Limits) (f g : ℕ) (side : Role) (own seen held : List Update) (u : Update)
    → Growing lim f g own seen held → HasId (next_id own) (offered u)
    → fault_at lim (standing_of f own seen) side own held u ≡ None → Grown lim f g own seen held u
grown lim f g side own seen held u h id e =
    let removes = names_live lim (standing_of f own seen) side own held u e in
    let seen_too = seen_removes held seen own (removed u) h.found removes in
    let may = may_add lim f g side own seen held u h id e in
    let moves = own_moves f own seen u h.seen_ids seen_too may h.pays in
    let pays = own_pays f own seen u h.seen_ids seen_too may h.pays in
    record {
      fits = own_fits lim f g side own seen held u h e (sym moves) pays;
      stands = sym moves;
      pays = pays;
      removes = removes;
      amount = amount_is lim f g side own seen held u h e;
    }

pub may_learn : (l : Log) (s t p q : Standing) (us vs : List Update) → IsKept l s t p q
    → us ≡ drop l.acknowledged.own (take l.signed.own l.own) → vs ≡ take l.signed.peer l.received → AllFit p vs us
may_learn l s t p q us vs k eu ev =
    let front = take-take l.acknowledged.own l.signed.own l.own k.within.own_acknowledged in
    may_move _ _ _ _ _ _ _ p us vs (learning l s t p q k) (k.peer_stands
    ∙ ap (standing_of (first_balance l.opening (other_role l.role)) l.received) (sym front)) eu ev

pub may_learn_current : (l : Log) (s t p q : Standing) (us vs : List Update) → IsKept l s t p q
    → us ≡ drop l.acknowledged.own (take l.signed.own l.own) → vs ≡ take l.signed.peer l.received → AllFit q vs us
may_learn_current l s t p q us vs k eu ev =
    let front = take-take l.acknowledged.own l.signed.own l.own k.within.own_acknowledged in
    may_move _ _ _ _ _ _ _ q us vs (learning_current l s t p q k) (k.peer_current_stands
    ∙ ap (standing_of (first_balance l.opening (other_role l.role)) (take l.current.peer l.received)) (sym front)) eu
    ev
