-- What each call of a log leaves stands for what it makes of the lists.
use Rattle.std.proofs.Common.{◌≡◌, ℕ, ◌+◌, ◌-◌, ◌≤◌, List, [], ◌∷◌, ◌++◌, length, take, drop, refl, sym, ap, ◌∙◌}
use Rattle.std.proofs.Common.{subst, arith, append_assoc, length-append, length-drop, None}
use Rattle.std.proofs.lemmas.List.{take-append-drop, take-take, take-append-le, drop-append-le, drop-take}
use Rattle.ln_log.specs.declared.log.Side.{Side}
use Rattle.ln_log.specs.declared.log.Side.TheVariants as side
use Rattle.ln_log.specs.declared.standing.Standing.{Standing}
use Rattle.ln_log.specs.declared.update.Update.{Update}
use Rattle.ln_log.specs.Updates.{removed}
use Rattle.ln_log.specs.Limits.{HasNextId}
use Rattle.ln_log.specs.Standing.{with_own, with_all, OwnFits, AllFit}
use Rattle.ln_log.specs.Log.{Log, Counts, IsKept, between, updates_of, after_propose, after_receive, after_sign}
use Rattle.ln_log.specs.Log.{after_accept, after_learn, after_drop, proposal_fault, taken_fault}
use Rattle.ln_log.specs.Window.{live_htlcs, balances_of, IsClosed}
use Rattle.ln_log.specs.Log.{IsNotGone, AreNotGone}
use Rattle.ln_log.specs.Kept.{Kept, IsWindowOf, kept_count, own_base, peer_base, front_of}
use Rattle.ln_log.proofs.Removing.{removals-take, removals-drop}
use Rattle.ln_log.proofs.Totals.{longer}
use Rattle.ln_log.proofs.Kept.{accepting, accepting_signed, may_move, may_learn, may_learn_current, kept_signed}
use Rattle.ln_log.proofs.Kept.{kept_accepted, kept_acknowledged, kept_dropped}
use Rattle.ln_log.proofs.Grows.{may_propose, may_take, has_id, grown_own, grown_got, own_call, got_call, kept_proposed}
use Rattle.ln_log.proofs.Grows.{kept_received}
use Rattle.ln_log.proofs.Fronts.{cut_at, one_not_gone, not_gone, all_same, all_fit, own_same}
use Rattle.ln_log.proofs.Fronts.{own_fit}

-- ---- lengths

pub own_length : (kept : Kept) (l : Log) → IsWindowOf kept l → kept_count side.Own kept ≡ length l.own
own_length kept l s =
    let w = s.is_kept.within in
    omega (
      arith,
      ap length s.own,
      length-append (live_htlcs (own_base kept l) (peer_base kept l)) (drop kept.first.own l.own),
      s.live_own,
      length-drop kept.first.own l.own,
      s.first_own,
      w.own_current,
      w.own_acknowledged,
      w.own_signed,
    )

pub peer_length : (kept : Kept) (l : Log) → IsWindowOf kept l → kept_count side.Peer kept ≡ length l.received
peer_length kept l s =
    let w = s.is_kept.within in
    omega (
      arith,
      ap length s.received,
      length-append (live_htlcs (peer_base kept l) (own_base kept l)) (drop kept.first.peer l.received),
      s.live_peer,
      length-drop kept.first.peer l.received,
      s.first_peer,
      w.peer_acknowledged,
      w.peer_signed,
      w.peer_current,
    )

pub side_length : (x : Side) (kept : Kept) (l : Log) → IsWindowOf kept l → kept_count x kept ≡ length (updates_of x l)
side_length side.Own kept l s = own_length kept l s
side_length side.Peer kept l s = peer_length kept l s

-- ---- the counts move

pub same_counts_by : (a b : Counts) → a.own ≡ b.own → a.peer ≡ b.peer → a ≡ b
same_counts_by a b eo ep = ap (λ n. record { own = n; peer = a.peer }) eo
    ∙ ap (λ n. record { own = b.own; peer = n }) ep

pub stands_by : (kept : Kept) (l : Log) (ks ka kc ls la lc : Counts) (t u v w : Standing) → IsWindowOf kept l → ks ≡ ls
    → ka ≡ la → kc ≡ lc → kept.first.own ≤ lc.own → kept.first.peer ≤ la.peer
    → IsKept (record l { signed = ls; acknowledged = la; current = lc }) t u v w
    → IsWindowOf (record kept {
      signed = ks;
      acknowledged = ka;
      current = kc;
      own_standing = t;
      own_signed = u;
      peer_standing = v;
      peer_current = w;
    }) (record l { signed = ls; acknowledged = la; current = lc })
stands_by kept l ks ka kc ls la lc t u v w s es ea ec first_own first_peer k = record {
  opening = s.opening;
  role = s.role;
  own = s.own;
  received = s.received;
  live_own = s.live_own;
  live_peer = s.live_peer;
  balances = s.balances;
  closed = s.closed;
  signed = es;
  acknowledged = ea;
  current = ec;
  first_own = first_own;
  first_peer = first_peer;
  whole = s.whole;
  is_kept = k;
}

pub stands_signed : (kept : Kept) (l : Log) (c : Counts) → IsWindowOf kept l → c.own ≡ length l.own
    → c.peer ≡ l.current.peer
    → IsWindowOf (record kept { signed = c; own_signed = kept.own_standing }) (after_sign l)
stands_signed kept l c s eo ep =
    stands_by kept l c kept.acknowledged kept.current (after_sign l).signed l.acknowledged l.current kept.own_standing
    kept.own_standing kept.peer_standing kept.peer_current s (same_counts_by c (after_sign l).signed eo ep)
    s.acknowledged s.current s.first_own s.first_peer
    (kept_signed l _ _ _ _ (length l.own) l.current.peer s.is_kept refl refl)

-- ---- what a call is handed, by whole lists

-- a part of a list
pub between_is : (m n : ℕ) (us : List Update) → m ≤ n → between m n us ≡ drop m (take n us)
between_is m n us le = sym (drop-take m (n - m) us) ∙ ap (λ k. drop m (take k us)) (omega (arith, le))

pub own_through : (s : Standing) (p q v whole vs : List Update) (u : Update) → vs ≡ live_htlcs q p ++ v → whole ≡ q ++ v
    → IsNotGone p (removed u) → OwnFits s whole u → OwnFits s vs u × (with_own s vs u ≡ with_own s whole u)
own_through s p q v whole vs u ev ew h fits = (
  subst (λ x. OwnFits s x u) (sym ev) (own_fit s q v p u h (subst (λ x. OwnFits s x u) ew fits)),
  ap (λ x. with_own s x u) ev ∙ own_same s q v p u h ∙ ap (λ x. with_own s x u) (sym ew),
)

pub all_through : (s : Standing) (p q v whole vs us : List Update) → vs ≡ live_htlcs q p ++ v → whole ≡ q ++ v
    → AreNotGone p us → AllFit s whole us → AllFit s vs us × (with_all s vs us ≡ with_all s whole us)
all_through s p q v whole vs us ev ew h fits = (
  subst (λ x. AllFit s x us) (sym ev) (all_fit s q v p us h (subst (λ x. AllFit s x us) ew fits)),
  ap (λ x. with_all s x us) ev ∙ all_same s q v p us h ∙ ap (λ x. with_all s x us) (sym ew),
)

-- moved as the code says, where it fits
pub moved_by : (s a : Standing) (p q v whole vs us ts : List Update) → vs ≡ live_htlcs q p ++ v → whole ≡ q ++ v
    → AreNotGone p us → ts ≡ us → AllFit s whole us → (AllFit s vs ts → a ≡ with_all s vs ts) → a ≡ with_all s whole us
moved_by s a p q v whole vs us ts ev ew h et fits exact =
    let both = all_through s p q v whole vs us ev ew h fits in
    exact (subst (AllFit s vs) (sym et) both.0) ∙ ap (with_all s vs) et ∙ both.1

-- ---- a signature of the peer is taken

pub stands_accepted : (kept : Kept) (l : Log) (c : Counts) (a b : Standing) (ts vs : List Update) → IsWindowOf kept l
    → c.own ≡ l.acknowledged.own → c.peer ≡ length l.received
    → ts ≡ drop l.current.peer l.received → vs ≡ front_of side.Own kept l l.current.own
    → (AllFit kept.own_standing vs ts → a ≡ with_all kept.own_standing vs ts)
    → (AllFit kept.own_signed vs ts → b ≡ with_all kept.own_signed vs ts)
    → IsWindowOf (record kept {
      current = c;
      own_standing = a;
      own_signed = b;
      peer_current = kept.peer_standing;
    }) (after_accept l)
stands_accepted kept l c a b ts vs s eo ep et ev own signed =
    let k = s.is_kept in
    let w = k.within in
    let n = l.current.own in
    let us = drop l.current.peer l.received in
    let whole = longer kept.first.own n l.own s.first_own in
    let fresh : AreNotGone (peer_base kept l) us =
    not_gone (take n l.own) (take l.current.peer l.received) (peer_base kept l)
    (drop kept.first.peer (take l.current.peer l.received)) us
    (longer kept.first.peer l.current.peer l.received
    (omega (arith, s.first_peer, w.peer_acknowledged, w.peer_signed)))
    (removals-drop (take n l.own) [] l.received l.current.peer k.peer_removals) in
    let own_is = moved_by kept.own_standing a (peer_base kept l) (own_base kept l) (drop kept.first.own (take n l.own))
    (take n l.own) vs us ts ev whole fresh et
    (may_move _ _ _ _ _ _ _ _ us (take n l.own) (accepting l _ _ _ _ k) k.own_stands refl refl) own in
    let signed_is = moved_by kept.own_signed b (peer_base kept l) (own_base kept l)
    (drop kept.first.own (take n l.own)) (take n l.own) vs us ts ev whole fresh et
    (may_move _ _ _ _ _ _ _ _ us (take n l.own) (accepting_signed l _ _ _ _ k) k.own_signed_stands refl refl) signed in
    stands_by kept l kept.signed kept.acknowledged c l.signed l.acknowledged (after_accept l).current a b
    kept.peer_standing kept.peer_standing s s.signed s.acknowledged (same_counts_by c (after_accept l).current eo ep)
    (omega (arith, s.first_own, w.own_current)) s.first_peer
    (kept_accepted l _ _ _ _ a b l.acknowledged.own (length l.received) us (take n l.own) k refl refl refl refl own_is
    signed_is)

-- ---- a revocation of the peer is taken

pub stands_learned : (kept : Kept) (l : Log) (a b : Standing) (ts vs : List Update) → IsWindowOf kept l
    → ts ≡ drop l.acknowledged.own (take l.signed.own l.own) → vs ≡ front_of side.Peer kept l l.signed.peer
    → (AllFit kept.peer_standing vs ts → a ≡ with_all kept.peer_standing vs ts)
    → (AllFit kept.peer_current vs ts → b ≡ with_all kept.peer_current vs ts)
    → IsWindowOf (record kept { acknowledged = kept.signed; peer_standing = a; peer_current = b }) (after_learn l)
stands_learned kept l a b ts vs s et ev peer current =
    let k = s.is_kept in
    let w = k.within in
    let n = l.signed.peer in
    let us = drop l.acknowledged.own (take l.signed.own l.own) in
    let first_peer : kept.first.peer ≤ n = omega (arith, s.first_peer, w.peer_acknowledged) in
    let whole = longer kept.first.peer n l.received first_peer in
    let front = take-take l.acknowledged.own l.signed.own l.own w.own_acknowledged in
    let fresh : AreNotGone (own_base kept l) us =
    not_gone (take n l.received) (take l.acknowledged.own (take l.signed.own l.own)) (own_base kept l)
    (drop kept.first.own (take l.acknowledged.own l.own)) us
    (front ∙ longer kept.first.own l.acknowledged.own l.own (omega (arith, s.first_own, w.own_current)))
    (removals-drop (take n l.received) [] (take l.signed.own l.own) l.acknowledged.own
    (removals-take (take n l.received) [] l.own l.signed.own k.own_removals)) in
    let peer_is = moved_by kept.peer_standing a (own_base kept l) (peer_base kept l)
    (drop kept.first.peer (take n l.received)) (take n l.received) vs us ts ev whole fresh et
    (may_learn l _ _ _ _ us (take n l.received) k refl refl) peer in
    let current_is = moved_by kept.peer_current b (own_base kept l) (peer_base kept l)
    (drop kept.first.peer (take n l.received)) (take n l.received) vs us ts ev whole fresh et
    (may_learn_current l _ _ _ _ us (take n l.received) k refl refl) current in
    stands_by kept l kept.signed kept.signed kept.current l.signed l.signed l.current kept.own_standing kept.own_signed
    a b s s.signed s.signed s.current s.first_own first_peer
    (kept_acknowledged l _ _ _ _ a b us (take n l.received) k refl refl peer_is current_is)

-- ---- other lists with the same beginnings

pub record HasLists (kept : Kept) (l : Log) (ko kg os gs : List Update) : Type 0 where
  pub own_front : take kept.first.own os ≡ own_base kept l
  pub peer_front : take kept.first.peer gs ≡ peer_base kept l
  pub own : ko ≡ live_htlcs (own_base kept l) (peer_base kept l) ++ drop kept.first.own os
  pub received : kg ≡ live_htlcs (peer_base kept l) (own_base kept l) ++ drop kept.first.peer gs

pub stands_lists : (kept : Kept) (l : Log) (ko kg os gs : List Update) (t u v w : Standing) → IsWindowOf kept l
    → HasLists kept l ko kg os gs → IsKept (record l { own = os; received = gs }) t u v w
    → IsWindowOf (record kept {
      own = ko;
      received = kg;
      own_standing = t;
      own_signed = u;
      peer_standing = v;
      peer_current = w;
    }) (record l { own = os; received = gs })
stands_lists kept l ko kg os gs t u v w s h k =
    let o = kept.first.own in
    let p = kept.first.peer in
    record {
      opening = s.opening;
      role = s.role;
      own = h.own ∙ ap (λ x. live_htlcs x (peer_base kept l) ++ drop o os) (sym h.own_front)
          ∙ ap (λ x. live_htlcs (take o os) x ++ drop o os) (sym h.peer_front);
      received = h.received ∙ ap (λ x. live_htlcs x (own_base kept l) ++ drop p gs) (sym h.peer_front)
          ∙ ap (λ x. live_htlcs (take p gs) x ++ drop p gs) (sym h.own_front);
      live_own = s.live_own ∙ ap (λ x. length (live_htlcs x (peer_base kept l))) (sym h.own_front)
          ∙ ap (λ x. length (live_htlcs (take o os) x)) (sym h.peer_front);
      live_peer = s.live_peer ∙ ap (λ x. length (live_htlcs x (own_base kept l))) (sym h.peer_front)
          ∙ ap (λ x. length (live_htlcs (take p gs) x)) (sym h.own_front);
      balances = s.balances ∙ ap (λ x. balances_of l.opening l.role x (peer_base kept l)) (sym h.own_front)
          ∙ ap (λ x. balances_of l.opening l.role (take o os) x) (sym h.peer_front);
      closed = subst (λ x. IsClosed l.opening l.role (take o os) x) (sym h.peer_front)
          (subst (λ x. IsClosed l.opening l.role x (peer_base kept l)) (sym h.own_front) s.closed);
      signed = s.signed;
      acknowledged = s.acknowledged;
      current = s.current;
      first_own = s.first_own;
      first_peer = s.first_peer;
      whole = s.whole;
      is_kept = k;
    }

own_first : (kept : Kept) (l : Log) → IsWindowOf kept l → kept.first.own ≤ length l.own
own_first kept l s =
    let w = s.is_kept.within in omega (arith, s.first_own, w.own_current, w.own_acknowledged, w.own_signed)

peer_first : (kept : Kept) (l : Log) → IsWindowOf kept l → kept.first.peer ≤ length l.received
peer_first kept l s =
    let w = s.is_kept.within in omega (arith, s.first_peer, w.peer_acknowledged, w.peer_signed, w.peer_current)

-- one more after others
pushed : (xs us ys : List Update) (n : ℕ) (u : Update) → n ≤ length us → ys ≡ xs ++ drop n us
    → ys ++ u ∷ [] ≡ xs ++ drop n (us ++ u ∷ [])
pushed xs us ys n u le e = ap (λ x. x ++ u ∷ []) e ∙ append_assoc xs (drop n us) (u ∷ [])
    ∙ ap (λ x. xs ++ x) (sym (drop-append-le n us (u ∷ []) le))

pub stands_proposed : (kept : Kept) (l : Log) (u : Update) (a : Standing) (ko vs : List Update) → IsWindowOf kept l
    → proposal_fault l u ≡ None → HasNextId l.own u → vs ≡ front_of side.Peer kept l l.current.peer
    → (OwnFits kept.own_standing vs u → a ≡ with_own kept.own_standing vs u) → ko ≡ kept.own ++ u ∷ []
    → IsWindowOf (record kept { own = ko; own_standing = a }) (after_propose u l)
stands_proposed kept l u a ko vs s none next ev exact eo =
    let k = s.is_kept in
    let w = k.within in
    let n = l.current.peer in
    let g = grown_own l _ _ _ _ u k (may_propose l u none) (has_id l.own u next) in
    let both = own_through kept.own_standing (own_base kept l) (peer_base kept l)
    (drop kept.first.peer (take n l.received)) (take n l.received) vs u ev
    (longer kept.first.peer n l.received (omega (arith, s.first_peer, w.peer_acknowledged, w.peer_signed)))
    (one_not_gone (take l.acknowledged.peer l.received) l.own (own_base kept l) (drop kept.first.own l.own) (removed u)
    (sym (take-append-drop kept.first.own l.own)) g.removes)
    (own_call l _ _ _ _ u (take n l.received) k none next refl) in
    stands_lists kept l ko kept.received (l.own ++ u ∷ []) l.received a kept.own_signed kept.peer_standing
    kept.peer_current s (record {
      own_front = take-append-le kept.first.own l.own (u ∷ []) (own_first kept l s);
      peer_front = refl;
      own = eo ∙ pushed (live_htlcs (own_base kept l) (peer_base kept l)) l.own kept.own kept.first.own u
          (own_first kept l s) s.own;
      received = s.received;
    }) (kept_proposed l _ _ _ _ a u (take n l.received) k none next refl (exact both.0 ∙ both.1))

pub stands_received : (kept : Kept) (l : Log) (u : Update) (a : Standing) (kg vs : List Update) → IsWindowOf kept l
    → taken_fault l u ≡ None → vs ≡ front_of side.Own kept l l.acknowledged.own
    → (OwnFits kept.peer_standing vs u → a ≡ with_own kept.peer_standing vs u) → kg ≡ kept.received ++ u ∷ []
    → IsWindowOf (record kept { received = kg; peer_standing = a }) (after_receive u l)
stands_received kept l u a kg vs s none ev exact eg =
    let k = s.is_kept in
    let w = k.within in
    let n = l.acknowledged.own in
    let g = grown_got l _ _ _ _ u k (may_take l u none) in
    let both = own_through kept.peer_standing (peer_base kept l) (own_base kept l)
    (drop kept.first.own (take n l.own)) (take n l.own) vs u ev
    (longer kept.first.own n l.own (omega (arith, s.first_own, w.own_current)))
    (one_not_gone (take l.current.own l.own) l.received (peer_base kept l) (drop kept.first.peer l.received) (removed u)
    (sym (take-append-drop kept.first.peer l.received)) g.removes)
    (got_call l _ _ _ _ u (take n l.own) k none refl) in
    stands_lists kept l kept.own kg l.own (l.received ++ u ∷ []) kept.own_standing kept.own_signed a
    kept.peer_current s (record {
      own_front = refl;
      peer_front = take-append-le kept.first.peer l.received (u ∷ []) (peer_first kept l s);
      own = s.own;
      received = eg ∙ pushed (live_htlcs (peer_base kept l)
          (own_base kept l)) l.received kept.received kept.first.peer u
          (peer_first kept l s) s.received;
    }) (kept_received l _ _ _ _ a u (take n l.own) k none refl (exact both.0 ∙ both.1))

pub stands_dropped : (kept : Kept) (l : Log) (ko kg : List Update) → IsWindowOf kept l
    → ko ≡ take (kept.live.own + (kept.signed.own - kept.first.own)) kept.own
    → kg ≡ take (kept.live.peer + (kept.current.peer - kept.first.peer)) kept.received
    → IsWindowOf (record kept {
      own = ko;
      received = kg;
      own_standing = kept.own_signed;
      peer_standing = kept.peer_current;
    }) (after_drop l)
stands_dropped kept l ko kg s eo eg =
    let w = s.is_kept.within in
    let o = kept.first.own in
    let p = kept.first.peer in
    let own_le : o ≤ l.signed.own = omega (arith, s.first_own, w.own_current, w.own_acknowledged) in
    let peer_le : p ≤ l.current.peer = omega (arith, s.first_peer, w.peer_acknowledged, w.peer_signed) in
    stands_lists kept l ko kg (take l.signed.own l.own) (take l.current.peer l.received) kept.own_signed
    kept.own_signed kept.peer_current kept.peer_current s (record {
      own_front = take-take o l.signed.own l.own own_le;
      peer_front = take-take p l.current.peer l.received peer_le;
      own = eo ∙ ap (λ (c : Counts). take (kept.live.own + (c.own - o)) kept.own) s.signed
          ∙ ap (take (kept.live.own + (l.signed.own - o))) s.own
          ∙ cut_at kept.live.own o l.signed.own (live_htlcs (own_base kept l)
          (peer_base kept l)) l.own s.live_own own_le;
      received = eg ∙ ap (λ (c : Counts). take (kept.live.peer + (c.peer - p)) kept.received) s.current
          ∙ ap (take (kept.live.peer + (l.current.peer - p))) s.received
          ∙ cut_at kept.live.peer p l.current.peer (live_htlcs (peer_base kept l)
          (own_base kept l)) l.received s.live_peer
          peer_le;
    }) (kept_dropped l _ _ _ _ s.is_kept)
