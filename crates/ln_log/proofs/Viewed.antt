-- What a commitment is worth, and how many HTLCs are live in it, by what is kept.
use Rattle.std.proofs.Common.{◌≡◌, ℕ, ◌+◌, ◌≤◌, List, [], ◌∷◌, ◌++◌, length, map, take, drop, refl}
use Rattle.std.proofs.Common.{sym, ap, ◌∙◌, subst, arith, true, false, cond, Option, Some, None, inl, inr}
use Rattle.std.proofs.Common.{append_assoc, Result, IfOk}
use Rattle.std.proofs.lemmas.Bool.{eq-eqb}
use Rattle.std.proofs.lemmas.Bool.Decides.{leb_tells}
use Rattle.std.proofs.lemmas.List.{take-take}
use Rattle.std.proofs.lemmas.List.Sums.{sum_by-append, sum_by-cons}
use Rattle.ln_refusals.specs.declared.refusal.Refusal.{Refusal}
use Rattle.ln_keys.specs.declared.role.Role.{Role}
use Rattle.ln_keys.specs.declared.role.Role.TheVariants.{Funder, Fundee}
use Rattle.ln_keys.specs.declared.view.View.{View}
use Rattle.ln_keys.specs.Role.{other_role}
use Rattle.ln_log.specs.declared.opening.Opening.{Opening}
use Rattle.ln_log.specs.declared.log.Pair.{Pair}
use Rattle.ln_log.specs.declared.log.Pair.TheVariants as pair
use Rattle.ln_log.specs.declared.log.Side.{Side}
use Rattle.ln_log.specs.declared.log.Side.TheVariants as side
use Rattle.ln_log.specs.declared.standing.Standing.{Standing}
use Rattle.ln_log.specs.declared.update.Add.{Add}
use Rattle.ln_log.specs.declared.update.Removal.{Removal}
use Rattle.ln_log.specs.declared.update.Update.{Update}
use Rattle.ln_log.specs.declared.update.Update.TheVariants as update
use Rattle.ln_log.specs.declared.outcome.Outcome.{Outcome}
use Rattle.ln_log.specs.declared.outcome.Outcome.TheVariants.{Live}
use Rattle.ln_log.specs.declared.balances.RoleBalances.{RoleBalances}
use Rattle.ln_log.specs.Opening.{HasFunds, first_balance}
use Rattle.ln_log.specs.Updates.{removed, is_add, next_id, outcome, outcome_by, is_live}
use Rattle.ln_log.specs.Outcomes.{is_removal, removals_in}
use Rattle.ln_log.specs.View.{live_adds, htlc_of, view_of, AddsUp}
use Rattle.ln_log.specs.Machine.{Covered}
use Rattle.ln_log.specs.Log.{Log, covered, counts_of, live_in, view_for, between, AreNumbered, RemovesLive}
use Rattle.ln_log.specs.Log.{AreRemovals, BothPay, IsWithin, IsKept}
use Rattle.ln_log.specs.Window.{live_htlcs, Balances, balances_of, GoesOn, view_behind, role_balances_of, IsLeft}
use Rattle.ln_log.specs.Window.{FitsBehind}
use Rattle.ln_log.specs.Kept.{Kept, IsWindowOf, own_base, peer_base, front_of}
use Rattle.ln_log.proofs.Removing.{IsDone, done, outcome-append, numbered-take, numbered-drop, removals-take}
use Rattle.ln_log.proofs.Totals.{longer, sums, first_sum, adds_up}
use Rattle.ln_log.proofs.Live.{counted, live_now}
use Rattle.ln_log.proofs.Behind.{there, own_live, peer_live, live_behind, balances_is, pays_back, as_updates}
use Rattle.ln_log.proofs.Behind.{next-append, balance_is}
use Rattle.ln_log.proofs.Signs.{view_is, pair_pays, as_funder, as_fundee}
use Rattle.ln_log.proofs.Stands.{between_is}

-- ---- which counts a pair can have

-- after the base
pub first_in : (p : Pair) (l : Log) (m n : ℕ) → IsWithin l → m ≤ l.current.own → n ≤ l.acknowledged.peer
    → (m ≤ (counts_of p l).own) × (n ≤ (counts_of p l).peer)
first_in (pair.Current side.Own) l m n w h k =
    (h, omega (arith, k, w.peer_acknowledged, w.peer_signed))
first_in (pair.Current side.Peer) l m n w h k = (omega (arith, h, w.own_current), k)
first_in pair.Signed l m n w h k =
    (omega (arith, h, w.own_current, w.own_acknowledged), omega (arith, k, w.peer_acknowledged))
first_in pair.ToSign l m n w h k = (
  omega (arith, h, w.own_current, w.own_acknowledged, w.own_signed),
  omega (arith, k, w.peer_acknowledged, w.peer_signed),
)
first_in pair.ToAccept l m n w h k = (
  omega (arith, h, w.own_current),
  omega (arith, k, w.peer_acknowledged, w.peer_signed, w.peer_current),
)

-- the rest of two lists that are cut goes on after the base
pub base_goes_on : (k : Kept) (l : Log) (n m : ℕ) → IsWindowOf k l → k.first.own ≤ n → k.first.peer ≤ m
    → GoesOn l.opening l.role (own_base k l) (drop k.first.own (take n l.own)) (peer_base k l)
    (drop k.first.peer (take m l.received))
base_goes_on k l n m s ln lm = record {
  base = s.closed;
  own_ids = subst (λ i. AreNumbered i (drop k.first.own (take n l.own)))
      (omega (arith, ap next_id (take-take k.first.own n l.own ln)))
      (numbered-drop 0 k.first.own (take n l.own) (numbered-take 0 n l.own s.is_kept.own_ids));
  peer_ids = subst (λ i. AreNumbered i (drop k.first.peer (take m l.received)))
      (omega (arith, ap next_id (take-take k.first.peer m l.received lm)))
      (numbered-drop 0 k.first.peer (take m l.received) (numbered-take 0 m l.received s.is_kept.peer_ids));
}

-- ---- what a commitment is worth

-- each side can pay, and what it has left is of 64 bits
pub both_left : (o : Opening) (x : Role) (p w q v : List Update) → GoesOn o x p w q v → HasFunds o
    → BothPay o x (record { own = p ++ w; peer = q ++ v })
    → IsLeft (balances_of o x p q).own (live_htlcs p q ++ w) w (live_htlcs q p ++ v) v
    × IsLeft (balances_of o x p q).peer (live_htlcs q p ++ v) v (live_htlcs p q ++ w) w
both_left o x p w q v h funds paid =
    let f = first_balance o x in
    let g = first_balance o (other_role x) in
    let new = own_live o x p w q v h in
    let back = peer_live o x p w q v h in
    let all = sums f g (p ++ w) (q ++ v) paid.0 paid.1 in
    let whole = first_sum o x funds in (
      record {
        paid = pays_back f p w q v new back h.base.paid.0 paid.0;
        fits = omega (arith, all, whole, funds.funds, balance_is f p w q v new back h.base.paid.0);
      },
      record {
        paid = pays_back g q v p w back new h.base.paid.1 paid.1;
        fits = omega (arith, all, whole, funds.funds, balance_is g q v p w back new h.base.paid.1);
      },
    )

same_htlcs : (r t : Role) (p w q v : List Update) → live_adds (p ++ w) (q ++ v) ≡ live_adds (live_htlcs p q ++ w) v
    → live_adds (q ++ v) (p ++ w) ≡ live_adds (live_htlcs q p ++ v) w
    → map (htlc_of r) (live_adds (live_htlcs p q ++ w) v) ++ map (htlc_of t) (live_adds (live_htlcs q p ++ v) w)
    ≡ map (htlc_of r) (live_adds (p ++ w) (q ++ v)) ++ map (htlc_of t) (live_adds (q ++ v) (p ++ w))
same_htlcs r t p w q v e f =
    ap (λ xs. map (htlc_of r) xs ++ map (htlc_of t) (live_adds (live_htlcs q p ++ v) w)) (sym e)
    ∙ ap (λ xs. map (htlc_of r) (live_adds (p ++ w) (q ++ v)) ++ map (htlc_of t) xs) (sym f)

-- by the funder
funder_same : (o : Opening) (p w q v : List Update) → GoesOn o Funder p w q v
    → view_behind (role_balances_of (balances_of o Funder p q) Funder) (live_htlcs p q ++ w) w (live_htlcs q p ++ v) v
    ≡ view_of o (p ++ w) (q ++ v)
funder_same o p w q v h =
    let e = balances_is o Funder p w q v h in
    let new = own_live o Funder p w q v h in
    let back = peer_live o Funder p w q v h in
    view_is o (p ++ w) (q ++ v)
    (view_behind (role_balances_of (balances_of o Funder p q) Funder) (live_htlcs p q ++ w) w (live_htlcs q p ++ v) v)
    (sym (ap (λ (y : Balances). y.own) e)) (sym (ap (λ (y : Balances). y.peer) e)) (sym (ap (λ
    (y : Balances). y.feerate) e))
    (same_htlcs Funder Fundee p w q v (live_behind p w q v new) (live_behind q v p w back))

-- and by the fundee
fundee_same : (o : Opening) (p w q v : List Update) → GoesOn o Fundee p w q v
    → view_behind (role_balances_of (balances_of o Fundee p q) Fundee) (live_htlcs q p ++ v) v (live_htlcs p q ++ w) w
    ≡ view_of o (q ++ v) (p ++ w)
fundee_same o p w q v h =
    let e = balances_is o Fundee p w q v h in
    let new = own_live o Fundee p w q v h in
    let back = peer_live o Fundee p w q v h in
    view_is o (q ++ v) (p ++ w)
    (view_behind (role_balances_of (balances_of o Fundee p q) Fundee) (live_htlcs q p ++ v) v (live_htlcs p q ++ w) w)
    (sym (ap (λ (y : Balances). y.peer) e)) (sym (ap (λ (y : Balances). y.own) e)) (sym (ap (λ
    (y : Balances). y.feerate) e))
    (same_htlcs Funder Fundee q v p w (live_behind q v p w back) (live_behind p w q v new))

-- what a call that gives a view is handed, and what it is asked for
pub record Viewing (k m : Kept) (l : Log) (p : Pair) (b : RoleBalances) (own own_new peer peer_new : List Update)
    (i j : ℕ) : Type 0 where
  pub kept : k ≡ m
  pub stands : IsWindowOf m l
  pub own_count : i ≡ (counts_of p l).own
  pub peer_count : j ≡ (counts_of p l).peer
  pub own_list : own ≡ front_of side.Own m l i
  pub peer_list : peer ≡ front_of side.Peer m l j
  pub own_rest : own_new ≡ between k.first.own i l.own
  pub peer_rest : peer_new ≡ between k.first.peer j l.received
  pub base : b ≡ role_balances_of k.balances k.role

-- the lists, by whole ones
record Lists (k : Kept) (l : Log) (own own_new peer peer_new : List Update) (i j : ℕ) : Type 0 where
  own_list : own ≡ live_htlcs (own_base k l) (peer_base k l) ++ drop k.first.own (take i l.own)
  peer_list : peer ≡ live_htlcs (peer_base k l) (own_base k l) ++ drop k.first.peer (take j l.received)
  own_rest : own_new ≡ drop k.first.own (take i l.own)
  peer_rest : peer_new ≡ drop k.first.peer (take j l.received)
  own_behind : k.first.own ≤ i
  peer_behind : k.first.peer ≤ j

lists_of : (k m : Kept) (l : Log) (p : Pair) (b : RoleBalances) (own own_new peer peer_new : List Update) (i j : ℕ)
    → Viewing k m l p b own own_new peer peer_new i j
    → Lists k l own own_new peer peer_new (counts_of p l).own (counts_of p l).peer
lists_of k m l p b own own_new peer peer_new i j h =
    let t = subst (λ y. IsWindowOf y l) (sym h.kept) h.stands in
    let le = first_in p l k.first.own k.first.peer t.is_kept.within t.first_own t.first_peer in
    record {
      own_list = h.own_list ∙ ap (λ (y : Kept). front_of side.Own y l i) (sym h.kept)
          ∙ ap (front_of side.Own k l) h.own_count;
      peer_list = h.peer_list ∙ ap (λ (y : Kept). front_of side.Peer y l j) (sym h.kept)
          ∙ ap (front_of side.Peer k l) h.peer_count;
      own_rest = h.own_rest ∙ ap (λ n. between k.first.own n l.own) h.own_count
          ∙ between_is k.first.own (counts_of p l).own l.own le.0;
      peer_rest = h.peer_rest ∙ ap (λ n. between k.first.peer n l.received) h.peer_count
          ∙ between_is k.first.peer (counts_of p l).peer l.received le.1;
      own_behind = le.0;
      peer_behind = le.1;
    }

-- what the answer needs, and what it is
abbrev pub Says : RoleBalances → List Update → List Update → List Update → List Update → View → Type 0
Says b funder funder_new fundee fundee_new v =
    FitsBehind b funder funder_new fundee fundee_new × (view_behind b funder funder_new fundee fundee_new ≡ v)

says_at : (b b' : RoleBalances) (f f' g g' h h' j j' : List Update) (v : View) → b ≡ b' → f ≡ f' → g ≡ g' → h ≡ h'
    → j ≡ j' → Says b' f' g' h' j' v → Says b f g h j v
says_at b b' f f' g g' h h' j j' v eb ef eg eh ej s =
    subst (λ x. Says x f g h j v) (sym eb) (subst (λ x. Says b' x g h j v) (sym ef)
    (subst (λ x. Says b' f' x h j v) (sym eg) (subst (λ x. Says b' f' g' x j v) (sym eh)
    (subst (λ x. Says b' f' g' h' x v) (sym ej) s))))

covered_by : (k : Kept) (l : Log) (i j : ℕ) → k.first.own ≤ i → k.first.peer ≤ j
    → record {
      own = own_base k l ++ drop k.first.own (take i l.own);
      peer = peer_base k l ++ drop k.first.peer (take j l.received);
    }
    ≡ covered l (record { own = i; peer = j })
covered_by k l i j li lj =
    ap (λ x. record { own = x; peer = peer_base k l ++ drop k.first.peer (take j l.received) })
    (sym (longer k.first.own i l.own li))
    ∙ ap (λ x. record { own = take i l.own; peer = x }) (sym (longer k.first.peer j l.received lj))

funder_says : (o : Opening) (x : Role) (wo : Balances) (p w q v : List Update) → x ≡ Funder → wo ≡ balances_of o x p q
    → GoesOn o x p w q v → HasFunds o → BothPay o x (record { own = p ++ w; peer = q ++ v })
    → Says (role_balances_of wo x) (live_htlcs p q ++ w) w (live_htlcs q p ++ v) v
    (view_for o x (record { own = p ++ w; peer = q ++ v }))
funder_says o Funder wo p w q v e ew h funds paid =
    let left = both_left o Funder p w q v h funds paid in
    subst (λ (y : Balances). Says (role_balances_of y Funder) (live_htlcs p q ++ w) w (live_htlcs q p ++ v) v
    (view_of o (p ++ w) (q ++ v))) (sym ew)
    (record { funder_left = left.0; fundee_left = left.1 }, funder_same o p w q v h)
funder_says o Fundee wo p w q v e ew h funds paid = absurd (cc)

fundee_says : (o : Opening) (x : Role) (wo : Balances) (p w q v : List Update) → x ≡ Fundee → wo ≡ balances_of o x p q
    → GoesOn o x p w q v → HasFunds o → BothPay o x (record { own = p ++ w; peer = q ++ v })
    → Says (role_balances_of wo x) (live_htlcs q p ++ v) v (live_htlcs p q ++ w) w
    (view_for o x (record { own = p ++ w; peer = q ++ v }))
fundee_says o Funder wo p w q v e ew h funds paid = absurd (cc)
fundee_says o Fundee wo p w q v e ew h funds paid =
    let left = both_left o Fundee p w q v h funds paid in
    subst (λ (y : Balances). Says (role_balances_of y Fundee) (live_htlcs q p ++ v) v (live_htlcs p q ++ w) w
    (view_of o (q ++ v) (p ++ w))) (sym ew)
    (record { funder_left = left.1; fundee_left = left.0 }, fundee_same o p w q v h)

pub funder_call : (k m : Kept) (l : Log) (p : Pair) (b : RoleBalances)
    (own own_new peer peer_new : List Update) (i j : ℕ)
    → k.role ≡ Funder → Viewing k m l p b own own_new peer peer_new i j
    → Says b own own_new peer peer_new (view_for l.opening l.role (covered l (counts_of p l)))
funder_call k m l p b own own_new peer peer_new i j e h =
    let t = subst (λ y. IsWindowOf y l) (sym h.kept) h.stands in
    let ls = lists_of k m l p b own own_new peer peer_new i j h in
    let whole = covered_by k l (counts_of p l).own (counts_of p l).peer ls.own_behind ls.peer_behind in
    says_at b (role_balances_of k.balances l.role) own _ own_new _ peer _ peer_new _ _ (h.base
    ∙ ap (role_balances_of k.balances) t.role)
    ls.own_list ls.own_rest ls.peer_list ls.peer_rest
    (subst (λ c. Says (role_balances_of k.balances l.role)
    (live_htlcs (own_base k l) (peer_base k l) ++ drop k.first.own (take (counts_of p l).own l.own))
    (drop k.first.own (take (counts_of p l).own l.own))
    (live_htlcs (peer_base k l) (own_base k l) ++ drop k.first.peer (take (counts_of p l).peer l.received))
    (drop k.first.peer (take (counts_of p l).peer l.received)) (view_for l.opening l.role c)) whole
    (funder_says l.opening l.role k.balances (own_base k l) (drop k.first.own (take (counts_of p l).own l.own))
    (peer_base k l) (drop k.first.peer (take (counts_of p l).peer l.received)) (sym t.role ∙ e) t.balances
    (base_goes_on k l (counts_of p l).own (counts_of p l).peer t ls.own_behind ls.peer_behind) t.is_kept.funds
    (subst (BothPay l.opening l.role) (sym whole) (pair_pays l _ _ _ _ t.is_kept p))))

pub fundee_call : (k m : Kept) (l : Log) (p : Pair) (b : RoleBalances)
    (own own_new peer peer_new : List Update) (i j : ℕ)
    → k.role ≡ Fundee → Viewing k m l p b own own_new peer peer_new i j
    → Says b peer peer_new own own_new (view_for l.opening l.role (covered l (counts_of p l)))
fundee_call k m l p b own own_new peer peer_new i j e h =
    let t = subst (λ y. IsWindowOf y l) (sym h.kept) h.stands in
    let ls = lists_of k m l p b own own_new peer peer_new i j h in
    let whole = covered_by k l (counts_of p l).own (counts_of p l).peer ls.own_behind ls.peer_behind in
    says_at b (role_balances_of k.balances l.role) peer _ peer_new _ own _ own_new _ _ (h.base
    ∙ ap (role_balances_of k.balances) t.role)
    ls.peer_list ls.peer_rest ls.own_list ls.own_rest
    (subst (λ c. Says (role_balances_of k.balances l.role)
    (live_htlcs (peer_base k l) (own_base k l) ++ drop k.first.peer (take (counts_of p l).peer l.received))
    (drop k.first.peer (take (counts_of p l).peer l.received))
    (live_htlcs (own_base k l) (peer_base k l) ++ drop k.first.own (take (counts_of p l).own l.own))
    (drop k.first.own (take (counts_of p l).own l.own)) (view_for l.opening l.role c)) whole
    (fundee_says l.opening l.role k.balances (own_base k l) (drop k.first.own (take (counts_of p l).own l.own))
    (peer_base k l) (drop k.first.peer (take (counts_of p l).peer l.received)) (sym t.role ∙ e) t.balances
    (base_goes_on k l (counts_of p l).own (counts_of p l).peer t ls.own_behind ls.peer_behind) t.is_kept.funds
    (subst (BothPay l.opening l.role) (sym whole) (pair_pays l _ _ _ _ t.is_kept p))))

pub answered : (r : Result View Refusal) (b : RoleBalances) (f g h j : List Update) (w : View) → Says b f g h j w
    → (FitsBehind b f g h j → IfOk r (λ v. v ≡ view_behind b f g h j)) → IfOk r (λ v. v ≡ w)
answered r b f g h j w says exact = subst (λ x. IfOk r (λ v. v ≡ x)) says.1 (exact says.0)

-- it adds up
view_adds : (o : Opening) (x : Role) (c : Covered) → HasFunds o → BothPay o x c → AddsUp o (view_for o x c)
view_adds o Funder c funds h = adds_up o c.own c.peer funds (as_funder o Funder c refl h)
view_adds o Fundee c funds h = adds_up o c.peer c.own funds (as_fundee o Fundee c refl h)

ok_adds : (o : Opening) (r : Result View Refusal) (w : View) → AddsUp o w → IfOk r (λ v. v ≡ w)
    → IfOk r (λ v. AddsUp o v)
ok_adds o (Result.Ok v) w h e = subst (AddsUp o) (sym e) h
ok_adds o (Result.Err e) w h k = tt

pub adds_as : (l : Log) (s t u q : Standing) (p : Pair) (r : Result View Refusal) → IsKept l s t u q
    → IfOk r (λ v. v ≡ view_for l.opening l.role (covered l (counts_of p l))) → IfOk r (λ v. AddsUp l.opening v)
adds_as l s t u q p r k h =
    ok_adds l.opening r _ (view_adds l.opening l.role (covered l (counts_of p l)) k.funds (pair_pays l s t u q k p)) h

-- ---- how many HTLCs are live

rem-append : (p q : List Update) → removals_in (p ++ q) ≡ removals_in p + removals_in q
rem-append p q = sum_by-append (λ v. cond (is_removal v) 1 0) p q

no_removals : (adds : List Add) → removals_in (as_updates adds) ≡ 0
no_removals [] = refl
no_removals (a ∷ adds) = omega (
  arith,
  sum_by-cons (λ v. cond (is_removal v) 1 0) (update.Add a) (as_updates adds),
  no_removals adds,
)

adds_in : (adds : List Add) → next_id (as_updates adds) ≡ length adds
adds_in [] = refl
adds_in (a ∷ adds) =
    omega (arith, sum_by-cons (λ v. cond (is_add v) 1 0) (update.Add a) (as_updates adds), adds_in adds)

hit_first : (id : ℕ) (r : Removal) (o : Outcome) → IsDone (Some r) → r.id ≡ id
    → is_live (outcome_by id (Some r) o) ≡ false
hit_first id r o d e = ap (λ b. is_live (cond b r.outcome o)) (eq-eqb r.id id e) ∙ d

-- after more it stays removed
gone_in : (id : ℕ) (before us : List Update) → outcome id before ≡ Live → is_live (outcome id us) ≡ false
    → outcome id (before ++ us) ≡ Live → ⊥
gone_in id before us live dead e =
    let is : outcome id us ≡ Live =
    sym (outcome-append id before us ∙ ap (λ o. cond (is_live o) (outcome id us) o) live) ∙ e in
    let no : false ≡ true = sym dead ∙ ap is_live is in
    cc

narrow_one : (p adds before us all : List Update) (r : Option Removal) → AreNumbered 0 p → IsDone r
    → all ≡ before ++ us → ((id : ℕ) → next_id p ≤ id → outcome id all ≡ Live)
    → ((x : Removal) → r ≡ Some x → is_live (outcome x.id us) ≡ false) → RemovesLive adds before r
    → RemovesLive p before r
narrow_one p adds before us all None ids d e new hit h = tt
narrow_one p adds before us all (Some r) ids d e new hit h = (
  (elim (leb_tells (next_id p) r.id) [
    | inl g ↦ absurd (gone_in r.id before us h.1 (hit r refl) (ap (outcome r.id) (sym e) ∙ new r.id g.1))
    | inr g ↦ there 0 r.id p ids (omega arith) (let lt = g.1 in omega (arith, lt))
  ]),
  h.1,
)

pub first_hit : (u : Update) (us : List Update) (x : Removal) → removed u ≡ Some x
    → is_live (outcome x.id (u ∷ us)) ≡ false
first_hit u us x e =
    ap (λ r. is_live (outcome_by x.id r (outcome x.id us))) e
    ∙ hit_first x.id x (outcome x.id us) (subst IsDone e (done u)) refl

-- a base that removes no HTLC that it doesn't offer removes its own
pub narrow : (p adds before us all : List Update) → AreNumbered 0 p → all ≡ before ++ us
    → ((id : ℕ) → next_id p ≤ id → outcome id all ≡ Live) → AreRemovals adds before us → AreRemovals p before us
narrow p adds before [] all ids e new h = tt
narrow p adds before (u ∷ us) all ids e new h = (
  narrow_one p adds before (u ∷ us) all (removed u) ids (done u) e new (first_hit u us) h.0,
  narrow p adds (before ++ u ∷ []) us all ids (e ∙ sym (append_assoc before (u ∷ []) us)) new h.1,
)

front_counts : (p q w : List Update) → (next_id (live_htlcs p q ++ w) ≡ length (live_adds p q) + next_id w)
    × (removals_in (live_htlcs p q ++ w) ≡ removals_in w)
front_counts p q w = (
  omega (arith, next-append (live_htlcs p q) w, adds_in (live_adds p q)),
  omega (arith, rem-append (live_htlcs p q) w, no_removals (live_adds p q)),
)

pub live_call : (m : Kept) (l : Log) (x : Side) (i j : ℕ) (own peer : List Update) → IsWindowOf m l
    → i ≡ (counts_of (pair.Current x) l).own → j ≡ (counts_of (pair.Current x) l).peer → own ≡ front_of side.Own m l i
    → peer ≡ front_of side.Peer m l j
    → live_in (covered l (counts_of (pair.Current x) l)) + (removals_in own + removals_in peer)
    ≡ next_id own + next_id peer
live_call m l x i j own peer t ei ej eo ep =
    let kept = t.is_kept in
    let n = (counts_of (pair.Current x) l).own in
    let b = (counts_of (pair.Current x) l).peer in
    let le = first_in (pair.Current x) l m.first.own m.first.peer kept.within t.first_own t.first_peer in
    let p = own_base m l in
    let q = peer_base m l in
    let w = drop m.first.own (take n l.own) in
    let z = drop m.first.peer (take b l.received) in
    let own_is : own ≡ live_htlcs p q ++ w = eo ∙ ap (front_of side.Own m l) ei in
    let peer_is : peer ≡ live_htlcs q p ++ z = ep ∙ ap (front_of side.Peer m l) ej in
    let whole_own : take n l.own ≡ p ++ w = longer m.first.own n l.own le.0 in
    let whole_peer : take b l.received ≡ q ++ z = longer m.first.peer b l.received le.1 in
    let own_ids = numbered-take 0 m.first.own l.own kept.own_ids in
    let peer_ids = numbered-take 0 m.first.peer l.received kept.peer_ids in
    omega (
      arith,
      live_now l _ _ _ _ kept x (take n l.own) (take b l.received) refl refl,
      ap next_id whole_own,
      ap next_id whole_peer,
      ap removals_in whole_own,
      ap removals_in whole_peer,
      next-append p w,
      next-append q z,
      rem-append p w,
      rem-append q z,
      ap next_id own_is,
      ap next_id peer_is,
      ap removals_in own_is,
      ap removals_in peer_is,
      (front_counts p q w).0,
      (front_counts p q w).1,
      (front_counts q p z).0,
      (front_counts q p z).1,
      counted p q own_ids (narrow p (take l.current.own l.own) [] q q own_ids refl t.closed.own_new
          (removals-take (take l.current.own l.own) [] l.received m.first.peer kept.peer_removals)),
      counted q p peer_ids (narrow q (take l.signed.peer l.received) [] p p peer_ids refl t.closed.peer_new
          (removals-take (take l.signed.peer l.received) [] l.own m.first.own kept.own_removals)),
    )
