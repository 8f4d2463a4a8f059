-- What a log hands out of what it keeps, by the lists that it stands for.
use Rattle.std.specs.List.{slice_get}
use Rattle.std.proofs.Common.{◌≡◌, ℕ, zero, suc, ◌+◌, ◌-◌, ◌≤◌, ◌<◌, List, [], ◌∷◌, ◌++◌, length, take, drop, refl, sym}
use Rattle.std.proofs.Common.{ap, ◌∙◌, subst, arith, Bool, true, false, cond, Option, Some, None, inl, inr, not}
use Rattle.std.proofs.Common.{is_none}
use Rattle.std.proofs.Common.{◌&&◌, ◌*◌, nat_lt, IfSome}
use Rattle.std.proofs.lemmas.Bool.Decides.{leb_tells}
use Rattle.std.proofs.lemmas.Bool.{ltb-false}
use Rattle.std.proofs.lemmas.List.{take-append-drop, take_all}
use Rattle.std.proofs.Math.Seq.{take-append_seam}
use Rattle.ln_refusals.specs.declared.refusal.Refusal.TheVariants as refusal
use Rattle.ln_refusals.specs.declared.peer_rule.PeerRule.TheVariants as rule
use Rattle.ln_log.specs.declared.log.Side.{Side}
use Rattle.ln_log.specs.declared.log.Side.TheVariants as side
use Rattle.ln_log.specs.declared.update.Add.{Add}
use Rattle.ln_log.specs.declared.update.Removal.{Removal}
use Rattle.ln_log.specs.declared.update.Update.{Update}
use Rattle.ln_log.specs.declared.outcome.Outcome.{Outcome}
use Rattle.ln_log.specs.declared.outcome.Outcome.TheVariants.{Live, Fulfilled, Failed}
use Rattle.ln_log.specs.Updates.{offered, is_some, next_id, add_with, outcome, is_live}
use Rattle.ln_log.specs.Limits.{removable}
use Rattle.ln_log.specs.Log.{Log, Counts, AreNumbered, between, removal_fault, update_at, updates_of, HasAmount}
use Rattle.ln_log.specs.Log.{AreWithin, AreRemovals}
use Rattle.ln_log.specs.Window.{Balances, live_htlcs}
use Rattle.ln_log.specs.Log.{AreNotGone}
use Rattle.ln_log.specs.Kept.{Kept, IsWindowOf, kept_first, own_base, peer_base, base_of, live_base, front_of}
use Rattle.ln_log.proofs.Removing.{removals-drop, or_else, outcome-append, add_with-append, below, above}
use Rattle.ln_log.proofs.Removing.{numbered-drop, numbered-take}
use Rattle.ln_log.proofs.Totals.{longer}
use Rattle.ln_log.proofs.Behind.{there, found, outcome_kept, next-append}
use Rattle.ln_log.proofs.Fronts.{cut_at, cut_off, behind_all, gone_before, not_gone}
use Rattle.ln_log.proofs.Stands.{between_is}
use Rattle.ln_log.proofs.Kept.{part_within, within-drop, amount_in}

and_true : (b : Bool) → (b && true) ≡ b
and_true true = refl
and_true false = refl

and_false : (b : Bool) → (b && false) ≡ false
and_false true = refl
and_false false = refl

-- ---- parts of the lists

pub from_start : (n : ℕ) (us : List Update) → between 0 n us ≡ take n us
from_start n us = ap (λ k. take k us) (omega arith)

-- between two counts
part_behind : (live f m n : ℕ) (xs us : List Update) → live ≡ length xs → f ≤ m → m ≤ n
    → take ((live + (n - f)) - (live + (m - f))) (drop (live + (m - f)) (xs ++ drop f us)) ≡ between m n us
part_behind live f m n xs us e lm ln =
    let len : (live + (n - f)) - (live + (m - f)) ≡ n - m = omega (arith, lm, ln) in
    ap (λ k. take k (drop (live + (m - f)) (xs ++ drop f us))) len ∙ ap (take (n - m)) (cut_off live f m xs us e lm)

pub own_between : (kept : Kept) (l : Log) (m n : ℕ) (ks : List Update) → IsWindowOf kept l → kept.first.own ≤ m → m ≤ n
    → ks ≡ kept.own
    → between (kept.live.own + (m - kept.first.own)) (kept.live.own + (n - kept.first.own)) ks ≡ between m n l.own
own_between kept l m n ks s lm ln e =
    ap (between (kept.live.own + (m - kept.first.own)) (kept.live.own + (n - kept.first.own))) (e ∙ s.own)
    ∙ part_behind kept.live.own kept.first.own m n (live_htlcs (own_base kept l)
    (peer_base kept l)) l.own s.live_own lm ln

pub peer_between : (kept : Kept) (l : Log) (m n : ℕ) (ks : List Update) → IsWindowOf kept l → kept.first.peer ≤ m
    → m ≤ n → ks ≡ kept.received
    → between (kept.live.peer + (m - kept.first.peer)) (kept.live.peer + (n - kept.first.peer)) ks
    ≡ between m n l.received
peer_between kept l m n ks s lm ln e =
    ap (between (kept.live.peer + (m - kept.first.peer)) (kept.live.peer + (n - kept.first.peer))) (e ∙ s.received)
    ∙ part_behind kept.live.peer kept.first.peer m n (live_htlcs (peer_base kept l)
    (own_base kept l)) l.received s.live_peer
    lm ln

-- up to a count
pub own_front : (kept : Kept) (l : Log) (n : ℕ) (ks : List Update) → IsWindowOf kept l → kept.first.own ≤ n
    → ks ≡ kept.own → take (kept.live.own + (n - kept.first.own)) ks ≡ front_of side.Own kept l n
own_front kept l n ks s le e =
    ap (take (kept.live.own + (n - kept.first.own))) (e ∙ s.own)
    ∙ cut_at kept.live.own kept.first.own n (live_htlcs (own_base kept l) (peer_base kept l)) l.own s.live_own le

pub peer_front : (kept : Kept) (l : Log) (n : ℕ) (ks : List Update) → IsWindowOf kept l → kept.first.peer ≤ n
    → ks ≡ kept.received → take (kept.live.peer + (n - kept.first.peer)) ks ≡ front_of side.Peer kept l n
peer_front kept l n ks s le e =
    ap (take (kept.live.peer + (n - kept.first.peer))) (e ∙ s.received)
    ∙ cut_at kept.live.peer kept.first.peer n (live_htlcs (peer_base kept l)
    (own_base kept l)) l.received s.live_peer le

-- ---- one update by its number

get_behind : (f n : ℕ) (us : List Update) → f ≤ n → slice_get (drop f us) (n - f) ≡ slice_get us n
get_behind zero n us le = ap (slice_get us) (omega arith)
get_behind (suc f) n [] le = refl
get_behind (suc f) zero (u ∷ us) le = absurd (omega (arith, le))
get_behind (suc f) (suc n) (u ∷ us) le =
    let e : suc n - suc f ≡ n - f = omega arith in
    ap (slice_get (drop f us)) e ∙ get_behind f n us (omega (arith, le))

got_by : (b : Bool) (f n : ℕ) (us : List Update) → nat_lt n f ≡ b
    → cond b None (slice_get (drop f us) (n - f)) ≡ cond b None (slice_get us n)
got_by true f n us e = refl
got_by false f n us e = get_behind f n us (ltb-false n f e)

got_at : (f n : ℕ) (us : List Update)
    → cond (nat_lt n f) None (slice_get (drop f us) (n - f)) ≡ cond (nat_lt n f) None (slice_get us n)
got_at f n us = got_by (nat_lt n f) f n us refl

pub own_update : (kept : Kept) (l : Log) (n : ℕ) (ks : List Update) → IsWindowOf kept l → ks ≡ kept.own
    → cond (nat_lt n kept.first.own) None (slice_get (drop kept.live.own ks) (n - kept.first.own))
    ≡ update_at kept.first.own l.own n
own_update kept l n ks s e =
    ap (λ x. cond (nat_lt n kept.first.own) None (slice_get x (n - kept.first.own)))
    (ap (drop kept.live.own) (e ∙ s.own)
    ∙ behind_all kept.live.own kept.first.own (live_htlcs (own_base kept l) (peer_base kept l)) l.own s.live_own)
    ∙ got_at kept.first.own n l.own

pub peer_update : (kept : Kept) (l : Log) (n : ℕ) (ks : List Update) → IsWindowOf kept l → ks ≡ kept.received
    → cond (nat_lt n kept.first.peer) None (slice_get (drop kept.live.peer ks) (n - kept.first.peer))
    ≡ update_at kept.first.peer l.received n
peer_update kept l n ks s e =
    ap (λ x. cond (nat_lt n kept.first.peer) None (slice_get x (n - kept.first.peer)))
    (ap (drop kept.live.peer) (e ∙ s.received)
    ∙ behind_all kept.live.peer kept.first.peer (live_htlcs (peer_base kept l)
    (own_base kept l)) l.received s.live_peer)
    ∙ got_at kept.first.peer n l.received

-- ---- the peer's HTLCs

-- the id of its next one, by so many of its updates
pub next_is : (kept : Kept) (l : Log) (n : ℕ) (us : List Update) → IsWindowOf kept l → kept.first.peer ≤ n
    → us ≡ between kept.first.peer n l.received
    → kept.balances.next_peer + next_id us ≡ next_id (take n l.received)
next_is kept l n us s le e =
    omega (
      arith,
      ap next_id (e ∙ between_is kept.first.peer n l.received le),
      ap (λ (x : Balances). x.next_peer) s.balances,
      next-append (peer_base kept l) (drop kept.first.peer (take n l.received)),
      ap next_id (longer kept.first.peer n l.received le),
    )

live_by : (id n : ℕ) (o ow : Outcome) (x y : Option Add) → is_some (or_else x y) ≡ true → (n ≤ id → o ≡ Live)
    → (id < n → y ≡ None)
    → is_live (cond (is_live o) ow o) ≡ (is_live ow && is_some (or_else (cond (is_live o) x None) y))
live_by id n Live ow x y found_it new below_it = sym (ap (λ b. is_live ow && b) found_it ∙ and_true (is_live ow))
live_by id n Fulfilled ow x y found_it new below_it = elim (leb_tells n id) [
  | inl g ↦ absurd (let is : Fulfilled ≡ Live = new g.1 in cc)
  | inr g ↦ sym (ap (λ z. is_live ow && is_some z) (below_it g.1) ∙ and_false (is_live ow))
]
live_by id n Failed ow x y found_it new below_it = elim (leb_tells n id) [
  | inl g ↦ absurd (let is : Failed ≡ Live = new g.1 in cc)
  | inr g ↦ sym (ap (λ z. is_live ow && is_some z) (below_it g.1) ∙ and_false (is_live ow))
]

-- whether one is live stands in what is kept
pub live_is : (kept : Kept) (l : Log) (id : ℕ) → IsWindowOf kept l → id < next_id l.received
    → is_live (outcome id l.own) ≡ (is_live (outcome id kept.own) && is_some (add_with id kept.received))
live_is kept l id s lt =
    let k = s.is_kept in
    let p = own_base kept l in
    let w = drop kept.first.own l.own in
    let q = peer_base kept l in
    let v = drop kept.first.peer l.received in
    let whole_own : p ++ w ≡ l.own = take-append-drop kept.first.own l.own in
    let whole_peer : q ++ v ≡ l.received = take-append-drop kept.first.peer l.received in
    let found_there : is_some (or_else (add_with id q) (add_with id v)) ≡ true =
    ap is_some (sym (add_with-append id q v) ∙ ap (add_with id) whole_peer)
    ∙ there 0 id l.received k.peer_ids (omega arith) (omega (arith, lt)) in
    ap (λ x. is_live (outcome id x)) (sym whole_own) ∙ ap is_live (outcome-append id p w)
    ∙ live_by id (next_id q) (outcome id p) (outcome id w) (add_with id q) (add_with id v) found_there
    (λ le. s.closed.peer_new id le)
    (λ less. below (0 + next_id q) id v (numbered-drop 0 kept.first.peer l.received k.peer_ids) (omega (arith, less)))
    ∙ ap (λ x. is_live (outcome id w) && is_some (or_else x (add_with id v))) (sym (found id q p))
    ∙ ap (λ x. is_live (outcome id w) && is_some x) (sym (add_with-append id (live_htlcs q p) v))
    ∙ ap (λ x. is_live (outcome id w) && is_some (add_with id x)) (sym s.received)
    ∙ ap (λ o. is_live o && is_some (add_with id kept.received)) (sym (outcome_kept id p q w))
    ∙ ap (λ x. is_live (outcome id x) && is_some (add_with id kept.received)) (sym s.own)

none_some : (x : Option Add) → is_some x ≡ true → is_none x ≡ false
none_some None e = absurd (cc)
none_some (Some a) e = refl

-- by its id alone an HTLC was offered or not
pub offered_not : (us : List Update) (id : ℕ) → AreNumbered 0 us → next_id us ≤ id → is_none (add_with id us) ≡ true
offered_not us id h le = ap is_none (above 0 id us h (omega (arith, le)))

pub offered_is : (us : List Update) (id : ℕ) → AreNumbered 0 us → id < next_id us → is_none (add_with id us) ≡ false
offered_is us id h lt = none_some (add_with id us) (there 0 id us h (omega arith) (omega (arith, lt)))

pub fault_none : (l : Log) (r : Removal) → is_none (add_with r.id l.received) ≡ true
    → removal_fault l (Some r) ≡ Some (refusal.PeerLimit rule.NoSuchHtlc)
fault_none l r e = ap (λ t. cond t (Some (refusal.PeerLimit rule.NoSuchHtlc))
    (cond (not (is_live (outcome r.id l.own))) (Some refusal.AlreadyRemoved)
    (cond (is_none (add_with r.id (take l.acknowledged.peer l.received))) (Some refusal.NotCommitted) None))) e

pub fault_gone : (l : Log) (r : Removal) → is_none (add_with r.id l.received) ≡ false
    → is_live (outcome r.id l.own) ≡ false → removal_fault l (Some r) ≡ Some refusal.AlreadyRemoved
fault_gone l r e g = ap (λ t. cond t (Some (refusal.PeerLimit rule.NoSuchHtlc))
    (cond (not (is_live (outcome r.id l.own))) (Some refusal.AlreadyRemoved)
    (cond (is_none (add_with r.id (take l.acknowledged.peer l.received))) (Some refusal.NotCommitted) None))) e
    ∙ ap (λ t. cond (not t) (Some refusal.AlreadyRemoved)
    (cond (is_none (add_with r.id (take l.acknowledged.peer l.received))) (Some refusal.NotCommitted) None)) g

pub fault_held : (l : Log) (r : Removal) (b : Bool) → is_none (add_with r.id l.received) ≡ false
    → is_live (outcome r.id l.own) ≡ true → is_none (add_with r.id (take l.acknowledged.peer l.received)) ≡ b
    → removal_fault l (Some r) ≡ cond b (Some refusal.NotCommitted) None
fault_held l r b e g h = ap (λ t. cond t (Some (refusal.PeerLimit rule.NoSuchHtlc))
    (cond (not (is_live (outcome r.id l.own))) (Some refusal.AlreadyRemoved)
    (cond (is_none (add_with r.id (take l.acknowledged.peer l.received))) (Some refusal.NotCommitted) None))) e
    ∙ ap (λ t. cond (not t) (Some refusal.AlreadyRemoved)
    (cond (is_none (add_with r.id (take l.acknowledged.peer l.received))) (Some refusal.NotCommitted) None)) g
    ∙ ap (λ t. cond t (Some refusal.NotCommitted) None) h

-- of two lists one after the other, where none of the second is of what the first has no more
found_in : (o : Outcome) (x y : Option Add) → (is_live o ≡ false → y ≡ None)
    → or_else (cond (is_live o) x None) y ≡ cond (is_live o) (or_else x y) None
found_in Live x y h = refl
found_in Fulfilled x y h = h refl
found_in Failed x y h = h refl

-- an own HTLC, but for those that the base removes
pub own_found : (kept : Kept) (l : Log) (id : ℕ) → IsWindowOf kept l
    → add_with id kept.own ≡ removable id (peer_base kept l) l.own
own_found kept l id s =
    let p = own_base kept l in
    let w = drop kept.first.own l.own in
    let q = peer_base kept l in
    let ids : AreNumbered (next_id p) w =
    subst (λ i. AreNumbered i w) (omega arith) (numbered-drop 0 kept.first.own l.own s.is_kept.own_ids) in
    ap (add_with id) s.own ∙ add_with-append id (live_htlcs p q) w ∙ ap (λ x. or_else x (add_with id w)) (found id p q)
    ∙ found_in (outcome id q) (add_with id p) (add_with id w) (gone_before id q p w ids s.closed.own_new)
    ∙ ap (λ x. cond (is_live (outcome id q)) x None)
    (sym (add_with-append id p w) ∙ ap (add_with id) (take-append-drop kept.first.own l.own))

-- ---- the same, by what a call has: what is kept, which is what it answers of, and the side that it is asked for

same_front : (x : Side) (k m : Kept) (l : Log) (n : ℕ) → k ≡ m → front_of x k l n ≡ front_of x m l n
same_front x k m l n v = ap (λ (y : Kept). front_of x y l n) v

pub front_own : (x : Side) (k m : Kept) (l : Log) (n : ℕ) (r ks : List Update) → k ≡ m → x ≡ side.Own
    → IsWindowOf m l → kept_first x m ≤ n → ks ≡ k.own
    → r ≡ between 0 (k.live.own + (n - k.first.own)) ks → r ≡ front_of x m l n
front_own side.Own k m l n r ks v e s le ek er =
    er ∙ from_start _ ks
    ∙ own_front k l n ks (subst (λ y. IsWindowOf y l) (sym v) s) (subst (λ (y : Kept). y.first.own ≤ n) (sym v) le) ek
    ∙ same_front side.Own k m l n v
front_own side.Peer k m l n r ks v e s le ek er = absurd (cc)

pub front_peer : (x : Side) (k m : Kept) (l : Log) (n : ℕ) (r ks : List Update) → k ≡ m → x ≡ side.Peer
    → IsWindowOf m l → kept_first x m ≤ n → ks ≡ k.received
    → r ≡ between 0 (k.live.peer + (n - k.first.peer)) ks → r ≡ front_of x m l n
front_peer side.Own k m l n r ks v e s le ek er = absurd (cc)
front_peer side.Peer k m l n r ks v e s le ek er =
    er ∙ from_start _ ks
    ∙ peer_front k l n ks (subst (λ y. IsWindowOf y l) (sym v) s) (subst (λ (y : Kept). y.first.peer ≤ n) (sym v) le) ek
    ∙ same_front side.Peer k m l n v

pub between_own : (x : Side) (k m : Kept) (l : Log) (i n : ℕ) (r ks : List Update) → k ≡ m → x ≡ side.Own
    → IsWindowOf m l → kept_first x m ≤ i → i ≤ n → ks ≡ k.own
    → r ≡ between (k.live.own + (i - k.first.own)) (k.live.own + (n - k.first.own)) ks
    → r ≡ between i n (updates_of x l)
between_own side.Own k m l i n r ks v e s li ln ek er =
    er ∙ own_between k l i n ks (subst (λ y. IsWindowOf y l) (sym v) s)
    (subst (λ (y : Kept). y.first.own ≤ i) (sym v) li) ln ek
between_own side.Peer k m l i n r ks v e s li ln ek er = absurd (cc)

pub between_peer : (x : Side) (k m : Kept) (l : Log) (i n : ℕ) (r ks : List Update) → k ≡ m → x ≡ side.Peer
    → IsWindowOf m l → kept_first x m ≤ i → i ≤ n → ks ≡ k.received
    → r ≡ between (k.live.peer + (i - k.first.peer)) (k.live.peer + (n - k.first.peer)) ks
    → r ≡ between i n (updates_of x l)
between_peer side.Own k m l i n r ks v e s li ln ek er = absurd (cc)
between_peer side.Peer k m l i n r ks v e s li ln ek er =
    er ∙ peer_between k l i n ks (subst (λ y. IsWindowOf y l) (sym v) s)
    (subst (λ (y : Kept). y.first.peer ≤ i) (sym v) li) ln ek

pub update_own : (x : Side) (k m : Kept) (l : Log) (n : ℕ) (o : Option Update) (ks : List Update) → k ≡ m
    → x ≡ side.Own → IsWindowOf m l → ks ≡ k.own
    → o ≡ cond (nat_lt n k.first.own) None (slice_get (drop k.live.own ks) (n - k.first.own))
    → o ≡ update_at (kept_first x m) (updates_of x l) n
update_own side.Own k m l n o ks v e s ek eo =
    eo ∙ own_update k l n ks (subst (λ y. IsWindowOf y l) (sym v) s) ek
    ∙ ap (λ (y : Kept). update_at y.first.own l.own n) v
update_own side.Peer k m l n o ks v e s ek eo = absurd (cc)

pub update_peer : (x : Side) (k m : Kept) (l : Log) (n : ℕ) (o : Option Update) (ks : List Update) → k ≡ m
    → x ≡ side.Peer → IsWindowOf m l → ks ≡ k.received
    → o ≡ cond (nat_lt n k.first.peer) None (slice_get (drop k.live.peer ks) (n - k.first.peer))
    → o ≡ update_at (kept_first x m) (updates_of x l) n
update_peer side.Own k m l n o ks v e s ek eo = absurd (cc)
update_peer side.Peer k m l n o ks v e s ek eo =
    eo ∙ peer_update k l n ks (subst (λ y. IsWindowOf y l) (sym v) s) ek
    ∙ ap (λ (y : Kept). update_at y.first.peer l.received n) v

-- what is after the base removes nothing that the base removes

not_gone_front : (q us : List Update) (n : ℕ) → AreNotGone q us → AreNotGone q (take n us)
not_gone_front q us zero h = tt
not_gone_front q [] (suc n) h = tt
not_gone_front q (u ∷ us) (suc n) h = (h.0, not_gone_front q us n h.1)

-- after a beginning of the list that the base begins
fresh_behind : (adds us : List Update) (f m : ℕ) → f ≤ m → AreRemovals adds [] us
    → AreNotGone (take f us) (drop m us)
fresh_behind adds us f m le h =
    not_gone adds (take m us) (take f us) (drop f (take m us)) (drop m us) (longer f m us le)
    (removals-drop adds [] us m h)

pub between_fresh : (x : Side) (k : Kept) (l : Log) (i n : ℕ) (r : List Update) → IsWindowOf k l → kept_first x k ≤ i
    → r ≡ between i n (updates_of x l) → AreNotGone (base_of x k l) r
between_fresh side.Own k l i n r s le e =
    subst (AreNotGone (own_base k l)) (sym e) (not_gone_front (own_base k l) (drop i l.own) (n - i)
    (fresh_behind (take l.signed.peer l.received) l.own k.first.own i le s.is_kept.own_removals))
between_fresh side.Peer k l i n r s le e =
    subst (AreNotGone (peer_base k l)) (sym e) (not_gone_front (peer_base k l) (drop i l.received) (n - i)
    (fresh_behind (take l.current.own l.own) l.received k.first.peer i le s.is_kept.peer_removals))

-- amounts

pub part_amounts : (k m : Kept) (i n : ℕ) (us ks r : List Update) → k ≡ m
    → AreWithin (1000 * k.opening.satoshis) us → ks ≡ us → r ≡ between i n ks
    → AreWithin (1000 * m.opening.satoshis) r
part_amounts k m i n us ks r v h ek er =
    subst (λ (y : Kept). AreWithin (1000 * y.opening.satoshis) r) v
    (part_within (1000 * k.opening.satoshis) i n r us h (er ∙ ap (between i n) ek))

some_amount : (most : ℕ) (b : Bool) (n : ℕ) (us : List Update) → AreWithin most us
    → IfSome (cond b None (slice_get us n)) (λ u. HasAmount most (offered u))
some_amount most true n us h = tt
some_amount most false n us h = amount_in most us n h

pub update_amount : (k m : Kept) (b : Bool) (n live : ℕ) (us ks : List Update) (o : Option Update) → k ≡ m
    → AreWithin (1000 * k.opening.satoshis) us → ks ≡ us → o ≡ cond b None (slice_get (drop live ks) n)
    → IfSome o (λ u. HasAmount (1000 * m.opening.satoshis) (offered u))
update_amount k m b n live us ks o v h ek eo =
    subst (λ x. IfSome x (λ u. HasAmount (1000 * m.opening.satoshis) (offered u))) (sym eo)
    (some_amount (1000 * m.opening.satoshis) b n (drop live ks)
    (within-drop (1000 * m.opening.satoshis) ks live
    (subst (λ (y : Kept). AreWithin (1000 * y.opening.satoshis) ks) v
    (subst (AreWithin (1000 * k.opening.satoshis)) (sym ek) h))))

-- what the peer may still be kept from
pub unacked : (k m : Kept) (l : Log) (r : List Update) → k ≡ m → IsWindowOf m l
    → r ≡ between k.acknowledged.own k.signed.own l.own → r ≡ drop l.acknowledged.own (take l.signed.own l.own)
unacked k m l r v s e =
    let t : IsWindowOf k l = subst (λ y. IsWindowOf y l) (sym v) s in
    e ∙ ap (λ (c : Counts). between c.own k.signed.own l.own) t.acknowledged
    ∙ ap (λ (c : Counts). between l.acknowledged.own c.own l.own) t.signed
    ∙ between_is l.acknowledged.own l.signed.own l.own s.is_kept.within.own_acknowledged

pub next_all : (n : ℕ) (us : List Update) → n ≡ length us → next_id (take n us) ≡ next_id us
next_all n us e = ap next_id (take_all n us (omega (arith, e)))

pub held_is : (k m : Kept) (l : Log) {n : ℕ} → k ≡ m → IsWindowOf m l
    → n ≡ next_id (take k.acknowledged.peer l.received) → n ≡ next_id (take l.acknowledged.peer l.received)
held_is k m l v s e =
    let t : IsWindowOf k l = subst (λ y. IsWindowOf y l) (sym v) s in
    e ∙ ap (λ (c : Counts). next_id (take c.peer l.received)) t.acknowledged

-- the three tests of a removal, by the numbers that the code compares
pub removal_none : (l : Log) (r : Removal) (o : Option Removal) → AreNumbered 0 l.received → o ≡ Some r
    → next_id l.received ≤ r.id → Some (refusal.PeerLimit rule.NoSuchHtlc) ≡ removal_fault l o
removal_none l r o ids e le =
    sym (ap (removal_fault l) e ∙ fault_none l r (offered_not l.received r.id ids le))

pub removal_gone : (l : Log) (r : Removal) (o : Option Removal) (b : Bool) → AreNumbered 0 l.received → o ≡ Some r
    → r.id < next_id l.received → b ≡ is_live (outcome r.id l.own) → b ≡ false
    → Some refusal.AlreadyRemoved ≡ removal_fault l o
removal_gone l r o b ids e lt eb false_ =
    sym (ap (removal_fault l) e ∙ fault_gone l r (offered_is l.received r.id ids lt) (sym eb ∙ false_))

pub removal_unheld : (l : Log) (r : Removal) (o : Option Removal) (b : Bool) → AreNumbered 0 l.received → o ≡ Some r
    → r.id < next_id l.received → b ≡ is_live (outcome r.id l.own) → b ≡ true
    → next_id (take l.acknowledged.peer l.received) ≤ r.id → Some refusal.NotCommitted ≡ removal_fault l o
removal_unheld l r o b ids e lt eb true_ le =
    sym (ap (removal_fault l) e
    ∙ fault_held l r true (offered_is l.received r.id ids lt) (sym eb ∙ true_)
    (offered_not (take l.acknowledged.peer l.received) r.id (numbered-take 0 l.acknowledged.peer l.received ids) le))

pub removal_held : (l : Log) (r : Removal) (o : Option Removal) (b : Bool) → AreNumbered 0 l.received → o ≡ Some r
    → r.id < next_id l.received → b ≡ is_live (outcome r.id l.own) → b ≡ true
    → r.id < next_id (take l.acknowledged.peer l.received) → None ≡ removal_fault l o
removal_held l r o b ids e lt eb true_ held =
    sym (ap (removal_fault l) e
    ∙ fault_held l r false (offered_is l.received r.id ids lt) (sym eb ∙ true_)
    (offered_is (take l.acknowledged.peer l.received) r.id (numbered-take 0 l.acknowledged.peer l.received ids) held))

-- ---- the live HTLCs of the base

pub own_live_htlcs : (k m : Kept) (l : Log) (ks r : List Update) → k ≡ m → IsWindowOf m l → ks ≡ k.own
    → r ≡ between 0 k.live.own ks → r ≡ live_base side.Own m l
own_live_htlcs k m l ks r v s ek er =
    let t : IsWindowOf k l = subst (λ y. IsWindowOf y l) (sym v) s in
    let all : k.live.own - 0 ≡ k.live.own = omega arith in
    er ∙ ap (λ n. take n ks) all ∙ ap (take k.live.own) (ek ∙ t.own)
    ∙ ap (λ n. take n (live_base side.Own k l ++ drop k.first.own l.own)) t.live_own
    ∙ take-append_seam (live_base side.Own k l) (drop k.first.own l.own) ∙ ap (λ y. live_base side.Own y l) v

pub peer_live_htlcs : (k m : Kept) (l : Log) (ks r : List Update) → k ≡ m → IsWindowOf m l → ks ≡ k.received
    → r ≡ between 0 k.live.peer ks → r ≡ live_base side.Peer m l
peer_live_htlcs k m l ks r v s ek er =
    let t : IsWindowOf k l = subst (λ y. IsWindowOf y l) (sym v) s in
    let all : k.live.peer - 0 ≡ k.live.peer = omega arith in
    er ∙ ap (λ n. take n ks) all ∙ ap (take k.live.peer) (ek ∙ t.received)
    ∙ ap (λ n. take n (live_base side.Peer k l ++ drop k.first.peer l.received)) t.live_peer
    ∙ take-append_seam (live_base side.Peer k l) (drop k.first.peer l.received) ∙ ap (λ y. live_base side.Peer y l) v
