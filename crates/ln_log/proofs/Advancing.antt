-- The base moves on: what is kept stands for the same lists.
use Rattle.std.proofs.Common.{◌≡◌, ℕ, ◌+◌, ◌*◌, ◌≤◌, List, [], ◌∷◌, ◌++◌, length, take, drop, sym}
use Rattle.std.proofs.Common.{ap, ◌∙◌, subst, arith, cond, length-append, Option, Some, None, IfSome, true, false}
use Rattle.std.proofs.Common.{◌<◌, get_or}
use Rattle.std.proofs.lemmas.List.{take_rest}
use Rattle.std.specs.List.{cons_option}
use Rattle.ln_keys.specs.declared.role.Role.{Role}
use Rattle.ln_log.specs.declared.opening.Opening.{Opening}
use Rattle.ln_log.specs.declared.log.Side.TheVariants as side
use Rattle.ln_log.specs.declared.update.Add.{Add}
use Rattle.ln_log.specs.declared.update.Removal.{Removal}
use Rattle.ln_log.specs.declared.update.Update.{Update}
use Rattle.ln_log.specs.declared.outcome.Outcome.{Outcome}
use Rattle.ln_log.specs.declared.outcome.Outcome.TheVariants.{Live, Fulfilled, Failed}
use Rattle.ln_log.specs.Updates.{offered, removed, next_id, outcome, is_live, is_some}
use Rattle.ln_log.specs.View.{live_of, live_adds}
use Rattle.ln_log.specs.Log.{Log, Counts, BothPay, between, HasAmount, AreWithin}
use Rattle.ln_log.specs.Window.{live_htlcs, Balances, balances_of, balances_behind, IsClosed, GoesOn, AreBalancesBehind}
use Rattle.ln_log.specs.Window.{IsLeft}
use Rattle.ln_log.specs.Window.{HasBalances, MayBeBase}
use Rattle.ln_log.specs.Kept.{Kept, IsWindowOf, IsKeptInOrder, kept_count, own_base, peer_base, front_of}
use Rattle.ln_log.proofs.Removing.{outcome-append, next-front}
use Rattle.ln_log.proofs.Totals.{longer}
use Rattle.ln_log.proofs.Behind.{as_updates, balances_is, both_live_htlcs, both_pay, next-append}
use Rattle.ln_log.proofs.Viewed.{base_goes_on, both_left, first_hit}
use Rattle.ln_log.proofs.Readable.{split}
use Rattle.ln_log.proofs.Kept.{next_few}
use Rattle.ln_log.proofs.Fronts.{live_before}
use Rattle.ln_log.proofs.Stands.{between_is, own_length, peer_length}

-- ---- the worth of the longer beginnings

pub same_balances : (a b : Balances) → a.next_own ≡ b.next_own → a.next_peer ≡ b.next_peer → a.own ≡ b.own
    → a.peer ≡ b.peer
    → a.feerate ≡ b.feerate → a ≡ b
same_balances a b en em eo ep ef =
    ap (λ n. record { next_own = n; next_peer = a.next_peer; own = a.own; peer = a.peer; feerate = a.feerate }) en
    ∙ ap (λ n. record { next_own = b.next_own; next_peer = n; own = a.own; peer = a.peer; feerate = a.feerate }) em
    ∙ ap (λ n. record { next_own = b.next_own; next_peer = b.next_peer; own = n; peer = a.peer; feerate = a.feerate })
    eo
    ∙ ap (λ n. record { next_own = b.next_own; next_peer = b.next_peer; own = b.own; peer = n; feerate = a.feerate })
    ep
    ∙ ap (λ n. record { next_own = b.next_own; next_peer = b.next_peer; own = b.own; peer = b.peer; feerate = n }) ef

new_behind : (q v : List Update) (n k : ℕ) (id : ℕ) → ((i : ℕ) → n ≤ i → outcome i q ≡ Live) → n + k ≤ id
    → outcome id v ≡ Live → outcome id (q ++ v) ≡ Live
new_behind q v n k id h le e = outcome-append id q v
    ∙ ap (λ o. cond (is_live o) (outcome id v) o) (h id (omega (arith, le))) ∙ e

pub moved : (o : Opening) (x : Role) (k r : Balances) (p w q v : List Update) → k ≡ balances_of o x p q
    → GoesOn o x p w q v
    → AreBalancesBehind x k (live_htlcs p q ++ w) w (live_htlcs q p ++ v) v r
    → (r ≡ balances_of o x (p ++ w) (q ++ v)) × IsClosed o x (p ++ w) (q ++ v)
moved o x k r p w q v e g b =
    let no : k.next_own ≡ next_id p = ap (λ (y : Balances). y.next_own) e in
    let np : k.next_peer ≡ next_id q = ap (λ (y : Balances). y.next_peer) e in
    let own_ids : r.next_own ≡ next_id (p ++ w) = omega (arith, b.next_own, no, next-append p w) in
    let peer_ids : r.next_peer ≡ next_id (q ++ v) = omega (arith, b.next_peer, np, next-append q v) in
    let ho : k.own ≡ (balances_of o x p q).own = ap (λ (y : Balances). y.own) e in
    let hp : k.peer ≡ (balances_of o x p q).peer = ap (λ (y : Balances). y.peer) e in (
      same_balances r (balances_behind x k (live_htlcs p q) w
          (live_htlcs q p) v) b.next_own b.next_peer b.own_left b.peer_left
          b.feerate
          ∙ ap (λ y. balances_behind x y (live_htlcs p q) w (live_htlcs q p) v) e ∙ sym (balances_is o x p w q v g),
      record {
        own_new = λ id le. new_behind q v (next_id p) (next_id w) id g.base.own_new
            (omega (arith, le, next-append p w)) (b.own_new id (omega (arith, le, own_ids)));
        peer_new = λ id le. new_behind p w (next_id q) (next_id v) id g.base.peer_new
            (omega (arith, le, next-append q v)) (b.peer_new id (omega (arith, le, peer_ids)));
        paid = both_pay o x p w q v g (omega (arith, b.own_paid, ho), omega (arith, b.peer_paid, hp));
      },
    )

-- ---- what the code has made

pub some_is : (o : Option Balances) (x : Balances) (P : Balances → Type 0) → o ≡ Some x → IfSome o P → P x
some_is o x P e h = subst (λ y. IfSome y P) e h

pub record Advance (k m : Kept) (l : Log) (to : Counts) (own own_new own_live own_rest own_list : List Update)
    (peer peer_new peer_live peer_rest peer_list : List Update) (i j : ℕ) (live : Counts) (r : Balances) : Type 0 where
  pub kept : k ≡ m
  pub stands : IsWindowOf m l
  pub own_first : k.first.own ≤ to.own
  pub own_current : to.own ≤ k.current.own
  pub peer_first : k.first.peer ≤ to.peer
  pub peer_acknowledged : to.peer ≤ k.acknowledged.peer
  pub own_front : own ≡ front_of side.Own m l to.own
  pub peer_front : peer ≡ front_of side.Peer m l to.peer
  pub own_part : own_new ≡ between k.first.own to.own l.own
  pub peer_part : peer_new ≡ between k.first.peer to.peer l.received
  pub balances : AreBalancesBehind k.role k.balances own own_new peer peer_new r
  pub own_live_htlcs : own_live ≡ live_htlcs own peer_new
  pub peer_live_htlcs : peer_live ≡ live_htlcs peer own_new
  pub own_count : i ≡ length l.own
  pub peer_count : j ≡ length l.received
  pub own_end : own_rest ≡ between to.own i l.own
  pub peer_end : peer_rest ≡ between to.peer j l.received
  pub own_all : own_list ≡ own_live ++ own_rest
  pub peer_all : peer_list ≡ peer_live ++ peer_rest
  pub live_own : live.own ≡ length own_live
  pub live_peer : live.peer ≡ length peer_live

-- one list: its live HTLCs by the longer beginnings, and its rest
list_moved : (n i : ℕ) (front new own_live rest list whole part us : List Update) → own_live ≡ live_htlcs front new
    → live_htlcs front new ≡ live_htlcs whole part → i ≡ length us → rest ≡ between n i us → list ≡ own_live ++ rest
    → list ≡ live_htlcs whole part ++ drop n us
list_moved n i front new own_live rest list whole part us el ew ei er ea =
    ea ∙ ap (λ x. x ++ rest) (el ∙ ew)
    ∙ ap (λ x. live_htlcs whole part ++ x) (er ∙ ap (λ y. between n y us) ei ∙ take_rest us n)

pub advanced : (k m : Kept) (l : Log) (to : Counts) (own own_new own_live own_rest own_list : List Update)
    (peer peer_new peer_live peer_rest peer_list : List Update) (i j : ℕ) (live : Counts) (r : Balances)
    → Advance k m l to own own_new own_live own_rest own_list peer peer_new peer_live peer_rest peer_list i j live r
    → IsWindowOf (record k { first = to; live = live; balances = r; own = own_list; received = peer_list }) l
advanced k m l to own own_new own_live own_rest own_list peer peer_new peer_live peer_rest peer_list i j live r h =
    let t : IsWindowOf k l = subst (λ y. IsWindowOf y l) (sym h.kept) h.stands in
    let p = own_base k l in
    let q = peer_base k l in
    let w = drop k.first.own (take to.own l.own) in
    let v = drop k.first.peer (take to.peer l.received) in
    let own_is : own ≡ live_htlcs p q ++ w = h.own_front
    ∙ ap (λ (y : Kept). front_of side.Own y l to.own) (sym h.kept) in
    let peer_is : peer ≡ live_htlcs q p ++ v =
    h.peer_front ∙ ap (λ (y : Kept). front_of side.Peer y l to.peer) (sym h.kept) in
    let own_new_is : own_new ≡ w = h.own_part ∙ between_is k.first.own to.own l.own h.own_first in
    let peer_new_is : peer_new ≡ v = h.peer_part ∙ between_is k.first.peer to.peer l.received h.peer_first in
    let g = base_goes_on k l to.own to.peer t h.own_first h.peer_first in
    let both = both_live_htlcs l.opening l.role p w q v g in
    let fronts : p ++ w ≡ take to.own l.own = sym (longer k.first.own to.own l.own h.own_first) in
    let backs : q ++ v ≡ take to.peer l.received = sym (longer k.first.peer to.peer l.received h.peer_first) in
    let own_live_is : live_htlcs own peer_new ≡ live_htlcs (take to.own l.own) (take to.peer l.received) =
    ap (λ x. live_htlcs x peer_new) own_is ∙ ap (live_htlcs (live_htlcs p q ++ w)) peer_new_is ∙ sym both.0
    ∙ ap (λ x. live_htlcs x (q ++ v)) fronts ∙ ap (live_htlcs (take to.own l.own)) backs in
    let peer_live_is : live_htlcs peer own_new ≡ live_htlcs (take to.peer l.received) (take to.own l.own) =
    ap (λ x. live_htlcs x own_new) peer_is ∙ ap (live_htlcs (live_htlcs q p ++ v)) own_new_is ∙ sym both.1
    ∙ ap (λ x. live_htlcs x (p ++ w)) backs ∙ ap (live_htlcs (take to.peer l.received)) fronts in
    let b1 = subst (λ x. AreBalancesBehind k.role k.balances x own_new peer peer_new r) own_is h.balances in
    let b2 = subst (λ x. AreBalancesBehind k.role k.balances (live_htlcs p q ++ w) x peer peer_new r) own_new_is b1 in
    let b3 = subst (λ x. AreBalancesBehind k.role k.balances (live_htlcs p q ++ w) w x peer_new r) peer_is b2 in
    let b4 = subst (λ x. AreBalancesBehind k.role k.balances (live_htlcs p q ++ w) w (live_htlcs q p
    ++ v) x r) peer_new_is b3 in
    let b5 = subst (λ x. AreBalancesBehind x k.balances (live_htlcs p q ++ w) w (live_htlcs q p ++ v) v r) t.role b4 in
    let all = moved l.opening l.role k.balances r p w q v t.balances g b5 in
    record {
      opening = t.opening;
      role = t.role;
      own = list_moved to.own i own peer_new own_live own_rest own_list (take to.own l.own)
          (take to.peer l.received) l.own h.own_live_htlcs own_live_is h.own_count h.own_end h.own_all;
      received = list_moved to.peer j peer own_new peer_live peer_rest peer_list (take to.peer l.received)
          (take to.own l.own) l.received h.peer_live_htlcs peer_live_is h.peer_count h.peer_end h.peer_all;
      live_own = h.live_own ∙ ap length (h.own_live_htlcs ∙ own_live_is);
      live_peer = h.live_peer ∙ ap length (h.peer_live_htlcs ∙ peer_live_is);
      balances = all.0 ∙ ap (λ x. balances_of l.opening l.role x (q ++ v)) fronts
          ∙ ap (balances_of l.opening l.role (take to.own l.own)) backs;
      closed = subst (IsClosed l.opening l.role (take to.own l.own)) backs
          (subst (λ x. IsClosed l.opening l.role x (q ++ v)) fronts all.1);
      signed = t.signed;
      acknowledged = t.acknowledged;
      current = t.current;
      first_own = subst (λ (c : Counts). to.own ≤ c.own) t.current h.own_current;
      first_peer = subst (λ (c : Counts). to.peer ≤ c.peer) t.acknowledged h.peer_acknowledged;
      whole = t.whole;
      is_kept = t.is_kept;
    }

-- ---- where it can be a base, it is found to be one

-- what is live after more is live in the rest
pub live_rest : (id : ℕ) (q v : List Update) → outcome id (q ++ v) ≡ Live → outcome id v ≡ Live
live_rest id q v e =
    sym (outcome-append id q v ∙ ap (λ o. cond (is_live o) (outcome id v) o) (live_before id q v e)) ∙ e

pub few_ids : (n : ℕ) (us : List Update) → next_id (take n us) ≤ length us
few_ids n us = omega (arith, next_few us, next-front n us)

pub record Asked (k m : Kept) (l : Log) (to : Counts) (own own_new peer peer_new : List Update) : Type 0 where
  pub kept : k ≡ m
  pub stands : IsWindowOf m l
  pub order : IsKeptInOrder k
  pub own_front : own ≡ front_of side.Own m l to.own
  pub peer_front : peer ≡ front_of side.Peer m l to.peer
  pub own_part : own_new ≡ between k.first.own to.own l.own
  pub peer_part : peer_new ≡ between k.first.peer to.peer l.received

pub has_balances : (k m : Kept) (l : Log) (to : Counts) (own own_new peer peer_new : List Update)
    → Asked k m l to own own_new peer peer_new → MayBeBase (record l { first = m.first }) to
    → HasBalances k.balances own own_new peer peer_new
has_balances k m l to own own_new peer peer_new h may =
    let t : IsWindowOf k l = subst (λ y. IsWindowOf y l) (sym h.kept) h.stands in
    let own_first : k.first.own ≤ to.own = subst (λ (y : Kept). y.first.own ≤ to.own) (sym h.kept) may.own_first in
    let peer_first : k.first.peer ≤ to.peer =
    subst (λ (y : Kept). y.first.peer ≤ to.peer) (sym h.kept) may.peer_first in
    let o = l.opening in
    let x = l.role in
    let p = own_base k l in
    let q = peer_base k l in
    let w = drop k.first.own (take to.own l.own) in
    let v = drop k.first.peer (take to.peer l.received) in
    let g = base_goes_on k l to.own to.peer t own_first peer_first in
    let fronts : take to.own l.own ≡ p ++ w = longer k.first.own to.own l.own own_first in
    let backs : take to.peer l.received ≡ q ++ v = longer k.first.peer to.peer l.received peer_first in
    let no : k.balances.next_own ≡ next_id p = ap (λ (y : Balances). y.next_own) t.balances in
    let np : k.balances.next_peer ≡ next_id q = ap (λ (y : Balances). y.next_peer) t.balances in
    let own_ids : k.balances.next_own + next_id w ≡ next_id (take to.own l.own) =
    omega (arith, no, next-append p w, ap next_id fronts) in
    let peer_ids : k.balances.next_peer + next_id v ≡ next_id (take to.peer l.received) =
    omega (arith, np, next-append q v, ap next_id backs) in
    let paid = subst (λ y. BothPay o x (record { own = p ++ w; peer = y })) backs
    (subst (λ y. BothPay o x (record { own = y; peer = take to.peer l.received })) fronts may.closed.paid) in
    let left = both_left o x p w q v g t.is_kept.funds paid in
    let left_own = subst (λ (y : Balances). IsLeft y.own (live_htlcs p q ++ w) w (live_htlcs q p
    ++ v) v) (sym t.balances) left.0 in
    let left_peer = subst (λ (y : Balances). IsLeft y.peer (live_htlcs q p ++ v) v (live_htlcs p q
    ++ w) w) (sym t.balances) left.1 in
    let found : HasBalances k.balances (live_htlcs p q ++ w) w (live_htlcs q p ++ v) v = record {
      next_own = omega (
        arith,
        own_ids,
        few_ids to.own l.own,
        own_length k l t,
        h.order.own_last,
      );
      next_peer = omega (
        arith,
        peer_ids,
        few_ids to.peer l.received,
        peer_length k l t,
        h.order.peer_last,
      );
      own_new = λ id le. live_rest id q v (ap (outcome id) (sym backs)
          ∙ may.closed.own_new id (omega (arith, le, own_ids)));
      peer_new = λ id le. live_rest id p w (ap (outcome id) (sym fronts)
          ∙ may.closed.peer_new id (omega (arith, le, peer_ids)));
      own_left = left_own;
      peer_left = left_peer;
    } in
    let own_is : own ≡ live_htlcs p q ++ w = h.own_front
    ∙ ap (λ (y : Kept). front_of side.Own y l to.own) (sym h.kept) in
    let peer_is : peer ≡ live_htlcs q p ++ v =
    h.peer_front ∙ ap (λ (y : Kept). front_of side.Peer y l to.peer) (sym h.kept) in
    let own_new_is : own_new ≡ w = h.own_part ∙ between_is k.first.own to.own l.own own_first in
    let peer_new_is : peer_new ≡ v = h.peer_part ∙ between_is k.first.peer to.peer l.received peer_first in
    subst (λ y. HasBalances k.balances y own_new peer peer_new) (sym own_is)
    (subst (λ y. HasBalances k.balances (live_htlcs p q ++ w) y peer peer_new) (sym own_new_is)
    (subst (λ y. HasBalances k.balances (live_htlcs p q ++ w) w y peer_new) (sym peer_is)
    (subst (HasBalances k.balances (live_htlcs p q ++ w) w (live_htlcs q p ++ v)) (sym peer_new_is) found)))

-- one of these removes an HTLC of such an id
pub not_below : (us : List Update) (i : ℕ) (u : Update) (r : Removal) (n : ℕ) → u ≡ get_or us i u → i < length us
    → removed u ≡ Some r → n ≤ r.id → ((id : ℕ) → n ≤ id → outcome id (drop i us) ≡ outcome id us)
    → ((id : ℕ) → n ≤ id → outcome id us ≡ Live) → ⊥
not_below us i u r n e lt is le same all =
    let dead : is_live (outcome r.id (u ∷ drop (i + 1) us)) ≡ false = first_hit u (drop (i + 1) us) r is in
    let live : outcome r.id (u ∷ drop (i + 1) us) ≡ Live =
    ap (outcome r.id) (sym (split us i u e lt)) ∙ same r.id le ∙ all r.id le in
    let no : false ≡ true = sym dead ∙ ap is_live live in
    cc

some_none : (o : Option Balances) → is_some o ≡ true → o ≡ None → ⊥
some_none None e h = absurd (cc)
some_none (Some x) e h = absurd (cc)

-- none where there is no such base
pub none_found : (k m : Kept) (l : Log) (to : Counts) (own own_new peer peer_new : List Update) (o : Option Balances)
    → Asked k m l to own own_new peer peer_new → (HasBalances k.balances own own_new peer peer_new → is_some o ≡ true)
    → o ≡ None → MayBeBase (record l { first = m.first }) to → ⊥
none_found k m l to own own_new peer peer_new o h all none may =
    some_none o (all (has_balances k m l to own own_new peer peer_new h may)) none

-- and where it moves, there is one
pub base_found : (k m : Kept) (l : Log) (to : Counts) (live : Counts) (r : Balances) (own_list peer_list : List Update)
    → k ≡ m → k.first.own ≤ to.own → k.first.peer ≤ to.peer
    → IsWindowOf (record k { first = to; live = live; balances = r; own = own_list; received = peer_list }) l
    → MayBeBase (record l { first = m.first }) to
base_found k m l to live r own_list peer_list v own peer s = record {
  own_first = subst (λ (y : Kept). y.first.own ≤ to.own) v own;
  own_current = s.first_own;
  peer_first = subst (λ (y : Kept). y.first.peer ≤ to.peer) v peer;
  peer_acknowledged = s.first_peer;
  closed = s.closed;
}

-- ---- order, whatever lists it stands for

within_live : (most : ℕ) (a : Add) (o : Outcome) (rest : List Add) → a.amount ≤ most → AreWithin most (as_updates rest)
    → AreWithin most (as_updates (cons_option (cond (is_live o) (Some a) None) rest))
within_live most a Live rest le h = (le, h)
within_live most a Fulfilled rest le h = h
within_live most a Failed rest le h = h

within_one : (most : ℕ) (r : List Update) (o : Option Add) (rest : List Add) → HasAmount most o
    → AreWithin most (as_updates rest) → AreWithin most (as_updates (cons_option (live_of o r) rest))
within_one most r None rest a h = h
within_one most r (Some x) rest a h = within_live most x (outcome x.id r) rest a h

within-live_htlcs : (most : ℕ) (us r : List Update) → AreWithin most us → AreWithin most (live_htlcs us r)
within-live_htlcs most [] r h = tt
within-live_htlcs most (u ∷ us) r h = within_one most r (offered u) (live_adds us r) h.0
    (within-live_htlcs most us r h.1)

pub within-append : (most : ℕ) (us vs : List Update) → AreWithin most us → AreWithin most vs → AreWithin most (us ++ vs)
within-append most [] vs h g = g
within-append most (u ∷ us) vs h g = (h.0, within-append most us vs h.1 g)

-- one list, by its parts
pub list_within : (k m : Kept) (front new own_live rest list : List Update) → k ≡ m
    → AreWithin (1000 * m.opening.satoshis) front → AreWithin (1000 * m.opening.satoshis) rest
    → own_live ≡ live_htlcs front new → list ≡ own_live ++ rest → AreWithin (1000 * k.opening.satoshis) list
list_within k m front new own_live rest list v hf hr el ea =
    subst (λ (y : Kept). AreWithin (1000 * y.opening.satoshis) list) (sym v)
    (subst (AreWithin (1000 * m.opening.satoshis)) (sym ea)
    (within-append (1000 * m.opening.satoshis) own_live rest
    (subst (AreWithin (1000 * m.opening.satoshis)) (sym el)
    (within-live_htlcs (1000 * m.opening.satoshis) front new hf)) hr))

-- what the code has made, as far as order asks for it
pub record Ordered (k m : Kept) (to : Counts) (own own_new own_live own_rest own_list : List Update)
    (peer peer_new peer_live peer_rest peer_list : List Update) (i j : ℕ) (live : Counts) : Type 0 where
  pub kept : k ≡ m
  pub order : IsKeptInOrder k
  pub own_current : to.own ≤ k.current.own
  pub peer_acknowledged : to.peer ≤ k.acknowledged.peer
  pub own_amounts : AreWithin (1000 * m.opening.satoshis) own
  pub peer_amounts : AreWithin (1000 * m.opening.satoshis) peer
  pub own_rest_amounts : AreWithin (1000 * m.opening.satoshis) own_rest
  pub peer_rest_amounts : AreWithin (1000 * m.opening.satoshis) peer_rest
  pub own_live_htlcs : own_live ≡ live_htlcs own peer_new
  pub peer_live_htlcs : peer_live ≡ live_htlcs peer own_new
  pub own_count : i ≡ kept_count side.Own m
  pub peer_count : j ≡ kept_count side.Peer m
  pub own_end : to.own + length own_rest ≡ i
  pub peer_end : to.peer + length peer_rest ≡ j
  pub own_all : own_list ≡ own_live ++ own_rest
  pub peer_all : peer_list ≡ peer_live ++ peer_rest
  pub live_own : live.own ≡ length own_live
  pub live_peer : live.peer ≡ length peer_live

pub ordered : (k m : Kept) (to : Counts) (own own_new own_live own_rest own_list : List Update)
    (peer peer_new peer_live peer_rest peer_list : List Update) (i j : ℕ) (live : Counts) (r : Balances)
    → Ordered k m to own own_new own_live own_rest own_list peer peer_new peer_live peer_rest peer_list i j live
    → IsKeptInOrder (record k { first = to; live = live; balances = r; own = own_list; received = peer_list })
ordered k m to own own_new own_live own_rest own_list peer peer_new peer_live peer_rest peer_list i j live r h =
    let o = h.order in
    let own_is : i ≡ kept_count side.Own k = h.own_count ∙ ap (kept_count side.Own) (sym h.kept) in
    let peer_is : j ≡ kept_count side.Peer k = h.peer_count ∙ ap (kept_count side.Peer) (sym h.kept) in
    let own_len : length own_list ≡ live.own + length own_rest =
    omega (arith, ap length h.own_all, length-append own_live own_rest, h.live_own) in
    let peer_len : length peer_list ≡ live.peer + length peer_rest =
    omega (arith, ap length h.peer_all, length-append peer_live peer_rest, h.live_peer) in
    record {
      funds = o.funds;
      own_first = h.own_current;
      own_current = o.own_current;
      own_acknowledged = o.own_acknowledged;
      own_signed = omega (arith, own_len, h.own_end, own_is, o.own_signed);
      own_last = omega (arith, own_len, h.own_end, own_is, o.own_last);
      own_live = omega (arith, own_len);
      peer_first = h.peer_acknowledged;
      peer_acknowledged = o.peer_acknowledged;
      peer_signed = o.peer_signed;
      peer_current = omega (arith, peer_len, h.peer_end, peer_is, o.peer_current);
      peer_last = omega (arith, peer_len, h.peer_end, peer_is, o.peer_last);
      peer_live = omega (arith, peer_len);
      own_amounts = list_within k m own peer_new own_live own_rest own_list h.kept h.own_amounts h.own_rest_amounts
          h.own_live_htlcs h.own_all;
      peer_amounts = list_within k m peer own_new peer_live peer_rest peer_list h.kept h.peer_amounts
          h.peer_rest_amounts h.peer_live_htlcs h.peer_all;
    }
