-- That the tests of what a record tells are exact, and that a log can be made of what passes them.
use Rattle.std.proofs.Common.{◌≡◌, ℕ, suc, ◌+◌, ◌≤◌, ◌<◌, ◌^◌, ◌↔◌, List, [], ◌∷◌, ◌++◌, length, get_or, take}
use Rattle.std.proofs.Common.{drop, refl, sym, ap, ◌∙◌, subst, arith, Bool, true, false, cond, IsTrue, IfOk, Result, Ok}
use Rattle.std.proofs.Common.{Err, Option, Some, None, inl, inr, drop-cons}
use Rattle.std.proofs.Math.Seq.{take-suc}
use Rattle.std.proofs.lemmas.Bool.Decides.{eqb_tells}
use Rattle.std.proofs.lemmas.List.{length-take-le, take_all}
use Rattle.ln_refusals.specs.declared.refusal.Refusal.{Refusal}
use Rattle.ln_keys.specs.declared.role.Role.{Role}
use Rattle.ln_keys.specs.declared.role.Role.TheVariants.{Funder, Fundee}
use Rattle.ln_keys.specs.Role.{other_role}
use Rattle.ln_log.specs.declared.opening.Opening.{Opening}
use Rattle.ln_log.specs.declared.log.Pair.TheVariants as pair
use Rattle.ln_log.specs.declared.log.Side.TheVariants as side
use Rattle.ln_log.specs.declared.standing.Standing.{Standing}
use Rattle.ln_log.specs.declared.update.Add.{Add}
use Rattle.ln_log.specs.declared.update.Update.{Update}
use Rattle.ln_log.specs.Opening.{HasFunds, first_balance}
use Rattle.ln_log.specs.Updates.{offered, removed, is_some, next_id, found_or, add_with, is_live, total}
use Rattle.ln_log.specs.Outcomes.{removals_in}
use Rattle.ln_log.specs.View.{balance, Pays}
use Rattle.ln_log.specs.Limits.{standing_of, most_updates}
use Rattle.ln_log.specs.Log.{Log, covered, number_after, HasId, AreNumbered, RemovesLive, AreRemovals, IsKept}
use Rattle.ln_log.specs.Log.{after_drop, none}
use Rattle.ln_log.specs.declared.loading.Coverage.{Coverage}
use Rattle.ln_log.specs.Window.{balances_of}
use Rattle.ln_log.specs.Kept.{IsWindowOf}
use Rattle.ln_log.specs.Loading.{stored, IsLawful, CoverAll, AreLawful, IsReadable}
use Rattle.ln_log.proofs.Removing.{next-cons, number_is, removals-take}
use Rattle.ln_log.proofs.Totals.{sums, first_sum, pays_longer}
use Rattle.ln_log.proofs.Live.{counted, wider}
use Rattle.ln_log.proofs.Standings.{standing_is}
use Rattle.ln_log.proofs.Kept.{kept_dropped}

-- ---- answers

pub yes : {P : Type 0} → P → (IsTrue true → P) × (P → IsTrue true)
yes p = ((λ e. p), (λ x. refl))

pub no : {P : Type 0} → (P → ⊥) → (IsTrue false → P) × (P → IsTrue false)
no h = ((λ e. absurd (cc)), (λ p. absurd (h p)))

pub refuted : (b : Bool) → b ≡ false → IsTrue b → ⊥
refuted b e t = let is : false ≡ true = sym e ∙ t in cc

pub mapped : {P Q : Bool → Type 0} (r : Result Bool Refusal) → ((b : Bool) → P b → Q b) → IfOk r P → IfOk r Q
mapped (Ok b) f h = f b h
mapped (Err e) f h = h

-- ---- ids

found_at : (n id : ℕ) (o rest : Option Add) (k : ℕ) → HasId n o → n ≤ id → id < n + (number_after 0 o + k)
    → (number_after n o ≤ id → is_some rest ≡ true) → is_some (found_or id o rest) ≡ true
found_at n id None rest k h le lt more = more le
found_at n id (Some a) rest k h le lt more =
    elim (eqb_tells a.id id) [
      | inl g ↦ ap (λ b. is_some (cond b (Some a) rest)) g.0
      | inr g ↦ ap (λ b. is_some (cond b (Some a) rest)) g.0 ∙ more (omega (arith, le, h, g.1))
    ]

-- each id below the next one is that of an HTLC
pub found_within : (n id : ℕ) (us : List Update) → AreNumbered n us → n ≤ id → id < n + next_id us
    → is_some (add_with id us) ≡ true
found_within n id [] h le lt = absurd (omega (arith, le, lt))
found_within n id (u ∷ us) h le lt =
    found_at n id (offered u) (add_with id us) (next_id us) h.0 le (subst (λ k. id < n + k) (next-cons u us) lt)
    (λ more. found_within (number_after n (offered u)) id us h.1 more
    (omega (arith, lt, next-cons u us, number_is n (offered u))))

pub split : (us : List Update) (i : ℕ) (u : Update) → u ≡ get_or us i u → i < length us
    → drop i us ≡ u ∷ drop (i + 1) us
split us i u e lt =
    let next : suc i ≡ i + 1 = omega arith in
    drop-cons us i u lt ∙ ap (λ x. x ∷ drop (suc i) us) (sym e) ∙ ap (λ k. u ∷ drop k us) next

pub joined : (us : List Update) (i : ℕ) (u : Update) → u ≡ get_or us i u → i < length us
    → take (i + 1) us ≡ take i us ++ u ∷ []
joined us i u e lt =
    let next : i + 1 ≡ suc i = omega arith in
    ap (λ k. take k us) next ∙ take-suc us i u lt ∙ ap (λ x. take i us ++ x ∷ []) (sym e)

-- one more of them
pub goes_on : (adds us : List Update) (i : ℕ) (u : Update) (all : Type 0) → u ≡ get_or us i u → i < length us
    → RemovesLive adds (take i us) (removed u) → (AreRemovals adds (take i us) (drop i us) ↔ all)
    → (AreRemovals adds (take (i + 1) us) (drop (i + 1) us) ↔ all)
goes_on adds us i u all e lt live h = (
  (λ k. h.0 (subst (AreRemovals adds (take i us)) (sym (split us i u e lt))
      (live, subst (λ p. AreRemovals adds p (drop (i + 1) us)) (joined us i u e lt) k))),
  (λ w. subst (λ p. AreRemovals adds p (drop (i + 1) us)) (sym (joined us i u e lt))
      (subst (AreRemovals adds (take i us)) (split us i u e lt) (h.1 w)).1),
)

-- and what the first of the rest removes
pub first_of_rest : (adds us : List Update) (i : ℕ) (u : Update) → u ≡ get_or us i u → i < length us
    → AreRemovals adds (take i us) (drop i us) → RemovesLive adds (take i us) (removed u)
first_of_rest adds us i u e lt h = (subst (AreRemovals adds (take i us)) (split us i u e lt) h).0

-- ---- how a side stands

pub stands_so : (first : ℕ) (own peer : List Update) (s : Standing) → s.next_id ≡ next_id own
    → s.live + removals_in peer ≡ next_id own → s.in_flight ≡ total is_live own peer
    → s.balance ≡ balance first own peer → AreNumbered 0 own → AreRemovals own [] peer → s ≡ standing_of first own peer
stands_so first own peer s e1 e2 e3 e4 ids removals =
    standing_is s (standing_of first own peer) e1 (omega (arith, e2, counted own peer ids removals)) e3 e4

-- ---- views

-- with those of the commitments that stand or were signed last, those of the next signatures are lawful
pub all_views : (l : Log) → CoverAll l → IsLawful l.opening l.role (covered l l.signed)
    → IsLawful l.opening l.role (covered l l.acknowledged) → IsLawful l.opening l.role (covered l l.current)
    → AreLawful l
all_views l k s a c (pair.Current side.Own) = c
all_views l k s a c (pair.Current side.Peer) = a
all_views l k s a c pair.Signed = s
all_views l k s a c pair.ToSign =
    let w = k.within in
    let own : take l.signed.own l.own ≡ take (length l.own) l.own = ap (λ n. take n l.own) k.own in
    let behind : l.current.own ≤ length l.own = omega (arith, w.own_current, w.own_acknowledged, w.own_signed) in
    record {
      own_removals = subst (AreRemovals (take l.current.peer l.received) []) own
          (wider l.signed.peer l.current.peer l.received (take l.signed.own l.own) w.peer_signed s.own_removals);
      peer_removals = wider l.current.own (length l.own) l.own (take l.current.peer l.received) behind c.peer_removals;
      paid = (
        subst (λ us. Pays (first_balance l.opening l.role) us (take l.current.peer l.received)) own
            (pays_longer (first_balance l.opening l.role) (take l.signed.own l.own) l.received l.signed.peer
            l.current.peer w.peer_signed s.paid.0),
        pays_longer (first_balance l.opening (other_role l.role)) (take l.current.peer l.received) l.own l.current.own
            (length l.own) behind c.paid.1,
      );
    }
all_views l k s a c pair.ToAccept =
    let w = k.within in
    let got : take l.current.peer l.received ≡ take (length l.received) l.received =
    ap (λ n. take n l.received) k.peer in
    let behind : l.acknowledged.peer ≤ length l.received =
    omega (arith, w.peer_acknowledged, w.peer_signed, w.peer_current) in
    record {
      own_removals = wider l.acknowledged.peer (length l.received) l.received (take l.acknowledged.own l.own) behind
          a.own_removals;
      peer_removals = subst (AreRemovals (take l.acknowledged.own l.own) []) got
          (wider l.current.own l.acknowledged.own l.own (take l.current.peer l.received) w.own_current
          c.peer_removals);
      paid = (
        pays_longer (first_balance l.opening l.role) (take l.acknowledged.own l.own) l.received l.acknowledged.peer
            (length l.received) behind a.paid.0,
        subst (λ us. Pays (first_balance l.opening (other_role l.role)) us (take l.acknowledged.own l.own)) got
            (pays_longer (first_balance l.opening (other_role l.role)) (take l.current.peer l.received) l.own
            l.current.own l.acknowledged.own w.own_current c.paid.1),
      );
    }

-- ---- a log of it

whole_own : (l : Log) → take (length l.own) l.own ≡ l.own
whole_own l = take_all (length l.own) l.own (omega arith)

pub whole_peer : (l : Log) → CoverAll l → take l.current.peer l.received ≡ l.received
whole_peer l k = take_all l.current.peer l.received (omega (arith, k.peer))

-- the view of the next signature covers all
pub signs_all : (l : Log) → IsReadable l → IsLawful l.opening l.role (record { own = l.own; peer = l.received })
signs_all l r = subst (λ us. IsLawful l.opening l.role (record { own = us; peer = l.received })) (whole_own l)
    (subst (λ us. IsLawful l.opening l.role (record { own = take (length l.own) l.own; peer = us }))
    (whole_peer l r.lists.covered_all) (r.views pair.ToSign))

-- that of the next signature that is taken covers all of the peer's
pub accepts_all : (l : Log) → IsReadable l
    → IsLawful l.opening l.role (record { own = take l.acknowledged.own l.own; peer = l.received })
accepts_all l r = subst (λ us. IsLawful l.opening l.role (record { own = take l.acknowledged.own l.own; peer = us }))
    (take_all (length l.received) l.received (omega arith)) (r.views pair.ToAccept)

other_twice : (x : Role) → x ≡ other_role (other_role x)
other_twice Funder = refl
other_twice Fundee = refl

-- the same view, told by the other side, of these lists
pub turned_lawful : (o : Opening) (x y : Role) (own peer os ps : List Update) → y ≡ other_role x → os ≡ own → ps ≡ peer
    → IsLawful o x (record { own = own; peer = peer }) → IsLawful o y (record { own = ps; peer = os })
turned_lawful o x y own peer os ps e eo ep h =
    subst (λ z. IsLawful o z (record { own = ps; peer = os })) (sym e)
    (subst (λ us. IsLawful o (other_role x) (record { own = us; peer = os })) (sym ep)
    (subst (λ us. IsLawful o (other_role x) (record { own = peer; peer = us })) (sym eo)
    (record {
      own_removals = h.peer_removals;
      peer_removals = h.own_removals;
      paid = (h.paid.1, subst (λ z. Pays (first_balance o z) own peer) (other_twice x) h.paid.0);
    })))

pub same_lawful : (o : Opening) (x : Role) (own peer os ps : List Update) → os ≡ own → ps ≡ peer
    → IsLawful o x (record { own = own; peer = peer }) → IsLawful o x (record { own = os; peer = ps })
same_lawful o x own peer os ps eo ep h =
    subst (λ us. IsLawful o x (record { own = us; peer = ps })) (sym eo)
    (subst (λ us. IsLawful o x (record { own = own; peer = us })) (sym ep) h)

-- what a side has and what it has in flight is of 64 bits
pub bounded : (o : Opening) (x : Role) (own peer : List Update) → HasFunds o
    → IsLawful o x (record { own = own; peer = peer })
    → balance (first_balance o x) own peer + total is_live own peer < 2 ^ 64
bounded o x own peer funds v =
    omega (
      arith,
      first_sum o x funds,
      funds.funds,
      sums (first_balance o x) (first_balance o (other_role x)) own peer v.paid.0 v.paid.1,
    )

pub stands_as : (s : Standing) (o : Opening) (x y : Role) (own peer os ps : List Update)
    → s ≡ standing_of (first_balance o y) os ps → y ≡ x → os ≡ own → ps ≡ peer
    → s ≡ standing_of (first_balance o x) own peer
stands_as s o x y own peer os ps e ex eo ep =
    e ∙ ap (λ z. standing_of (first_balance o z) os ps) ex ∙ ap (λ us. standing_of (first_balance o x) us ps) eo
    ∙ ap (standing_of (first_balance o x) own) ep

pub kept_loaded : (l : Log) (s p : Standing) → IsReadable l
    → s ≡ standing_of (first_balance l.opening l.role) l.own l.received
    → p ≡ standing_of (first_balance l.opening (other_role l.role)) l.received (take l.acknowledged.own l.own)
    → IsKept l s s p p
kept_loaded l s p r es ep =
    let f = first_balance l.opening l.role in
    let g = first_balance l.opening (other_role l.role) in
    let k = r.lists.covered_all in
    let signed : take l.signed.own l.own ≡ l.own = take_all l.signed.own l.own (omega (arith, k.own)) in
    let got : take l.current.peer l.received ≡ l.received = whole_peer l k in
    let sign = signs_all l r in
    let accept = accepts_all l r in
    let stands : s ≡ standing_of f l.own (take l.current.peer l.received) = es ∙ ap (standing_of f l.own) (sym got) in
    record {
      funds = r.lists.funds;
      within = k.within;
      own_ids = r.lists.own_offered.ids;
      peer_ids = r.lists.peer_offered.ids;
      own_removals = subst (AreRemovals (take l.signed.peer l.received) []) signed (r.views pair.Signed).own_removals;
      acknowledged_removals = (r.views (pair.Current side.Peer)).own_removals;
      peer_removals = subst (AreRemovals (take l.current.own l.own) []) got
          (r.views (pair.Current side.Own)).peer_removals;
      own_amounts = r.lists.own_offered.amounts;
      peer_amounts = r.lists.peer_offered.amounts;
      own_stands = stands;
      own_signed_stands = stands ∙ ap (λ us. standing_of f us (take l.current.peer l.received)) (sym signed);
      peer_stands = ep;
      peer_current_stands = ep ∙ ap (λ us. standing_of g us (take l.acknowledged.own l.own)) (sym got);
      own_pays = subst (Pays f l.own) (sym got) sign.paid.0;
      peer_pays = accept.paid.1;
      signed_pays = (r.views pair.Signed).paid;
      acknowledged_pays = (r.views (pair.Current side.Peer)).paid;
      current_pays = (r.views (pair.Current side.Own)).paid;
    }

-- ---- what a log keeps can be loaded again

-- where signatures cover all of it
pub covers_so : (l : Log) (s t p q : Standing) → IsKept l s t p q → CoverAll l → length l.own ≤ most_updates
    → length l.received ≤ most_updates → IsReadable l
covers_so l s t p q k all own peer =
    let w = k.within in
    record {
      lists = record {
        funds = k.funds;
        covered_all = all;
        own_offered = record { few = own; ids = k.own_ids; amounts = k.own_amounts };
        peer_offered = record { few = peer; ids = k.peer_ids; amounts = k.peer_amounts };
      };
      views = all_views l all
          (record {
            own_removals = removals-take (take l.signed.peer l.received) [] l.own l.signed.own k.own_removals;
            peer_removals = wider l.current.own l.signed.own l.own (take l.signed.peer l.received)
                (omega (arith, w.own_current, w.own_acknowledged))
                (removals-take (take l.current.own l.own) [] l.received l.signed.peer k.peer_removals);
            paid = k.signed_pays;
          })
          (record {
            own_removals = k.acknowledged_removals;
            peer_removals = wider l.current.own l.acknowledged.own l.own (take l.acknowledged.peer l.received)
                w.own_current
                (removals-take (take l.current.own l.own) [] l.received l.acknowledged.peer k.peer_removals);
            paid = k.acknowledged_pays;
          })
          (record {
            own_removals = wider l.signed.peer l.current.peer l.received (take l.current.own l.own) w.peer_signed
                (removals-take (take l.signed.peer l.received) [] l.own l.current.own k.own_removals);
            peer_removals = removals-take (take l.current.own l.own) [] l.received l.current.peer k.peer_removals;
            paid = k.current_pays;
          });
    }

pub loads_again : (l : Log) (s t p q : Standing) → IsKept l s t p q → length l.own ≤ most_updates
    → length l.received ≤ most_updates → IsReadable (after_drop l)
loads_again l s t p q k own peer =
    let w = k.within in
    let d = kept_dropped l s t p q k in
    let cut = length-take-le l.signed.own l.own w.own_signed in
    let got = length-take-le l.current.peer l.received w.peer_current in
    covers_so (after_drop l) t t q q d (record { within = d.within; own = sym cut; peer = sym got })
    (omega (arith, cut, own, w.own_signed)) (omega (arith, got, peer, w.peer_current))

-- with no update in the base

no_base : (f : ℕ) → balance f [] [] ≡ f
no_base f = omega arith

no_balances : (o : Opening) (x : Role) → record {
  next_own = 0;
  next_peer = 0;
  own = balance (first_balance o x) [] [];
  peer = balance (first_balance o (other_role x)) [] [];
  feerate = o.feerate;
} ≡ balances_of o x [] []
no_balances o Funder = refl
no_balances o Fundee = refl

pub stands_loaded : (o : Opening) (x : Role) (own received : List Update) (c : Coverage) (s p : Standing) (a b : ℕ)
    → IsReadable (stored o x own received c)
    → s ≡ standing_of (first_balance o x) own received
    → p ≡ standing_of (first_balance o (other_role x)) received (take c.acknowledged.own own)
    → a ≡ first_balance o x → b ≡ first_balance o (other_role x)
    → IsWindowOf (record {
      opening = o;
      role = x;
      first = none;
      live = none;
      balances = record { next_own = 0; next_peer = 0; own = a; peer = b; feerate = o.feerate };
      own = own;
      received = received;
      signed = c.signed;
      acknowledged = c.acknowledged;
      current = c.current;
      own_standing = s;
      own_signed = s;
      peer_standing = p;
      peer_current = p;
    }) (stored o x own received c)
stands_loaded o x own received c s p a b r es ep ea eb = record {
  opening = refl;
  role = refl;
  own = refl;
  received = refl;
  live_own = refl;
  live_peer = refl;
  balances = ap (λ n. record { next_own = 0; next_peer = 0; own = n; peer = b; feerate = o.feerate })
      (ea ∙ sym (no_base (first_balance o x)))
      ∙ ap (λ n. record {
        next_own = 0;
        next_peer = 0;
        own = balance (first_balance o x) [] [];
        peer = n;
        feerate = o.feerate;
      }) (eb ∙ sym (no_base (first_balance o (other_role x))))
      ∙ no_balances o x;
  closed = record {
    own_new = λ id le. refl;
    peer_new = λ id le. refl;
    paid = (omega arith, omega arith);
  };
  signed = refl;
  acknowledged = refl;
  current = refl;
  first_own = omega arith;
  first_peer = omega arith;
  whole = refl;
  is_kept = kept_loaded (stored o x own received c) s p r es ep;
}
