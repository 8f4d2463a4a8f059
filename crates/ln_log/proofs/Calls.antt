-- The calls of a log, by what each has at hand: what is kept (k), which is the value that it speaks of (m).
use Rattle.std.proofs.Common.{◌≡◌, ℕ, ◌+◌, ◌-◌, ◌*◌, ◌≤◌, ◌<◌, List, [], ◌∷◌, ◌++◌, length, take, drop, sym, ap}
use Rattle.std.proofs.Common.{◌∙◌, subst, arith, length-append, Option, None}
use Rattle.std.proofs.lemmas.List.{length-take-le, take_rest, take-append-drop, take-take}
use Rattle.ln_refusals.specs.declared.refusal.Refusal.{Refusal}
use Rattle.ln_keys.specs.declared.role.Role.{Role}
use Rattle.ln_keys.specs.Role.{other_role}
use Rattle.ln_log.specs.declared.opening.Limits.{Limits}
use Rattle.ln_log.specs.declared.opening.Opening.{Opening}
use Rattle.ln_log.specs.declared.log.Side.TheVariants as side
use Rattle.ln_log.specs.declared.standing.Standing.{Standing}
use Rattle.ln_log.specs.declared.update.Update.{Update}
use Rattle.ln_log.specs.Opening.{limits_of, first_balance}
use Rattle.ln_log.specs.Updates.{offered, next_id}
use Rattle.ln_log.specs.Limits.{HasNextId, fault_at, update_fault, most_updates, standing_of}
use Rattle.ln_log.specs.Standing.{with_own, with_all, OwnFits, AllFit}
use Rattle.ln_log.specs.Log.{Log, Counts, none, between, after_propose, after_receive, after_sign, after_accept}
use Rattle.ln_log.specs.Log.{after_learn, after_drop, proposal_fault, taken_fault, HasAmount}
use Rattle.ln_log.specs.Log.{AreWithin, AreNumbered}
use Rattle.ln_log.specs.Loading.{IsReadable}
use Rattle.ln_log.specs.Window.{live_htlcs}
use Rattle.ln_log.specs.Kept.{Kept, IsWindowOf, IsKeptInOrder, kept_count, own_base, peer_base, front_of}
use Rattle.ln_log.proofs.Removing.{numbered-drop, numbered-take}
use Rattle.ln_log.proofs.Totals.{longer}
use Rattle.ln_log.proofs.Kept.{within-take, within-push, has_amount}
use Rattle.ln_log.proofs.Grows.{own_amount, got_amount}
use Rattle.ln_log.proofs.Readable.{loads_again}
use Rattle.ln_log.proofs.Fronts.{fault_behind}
use Rattle.ln_log.proofs.Stands.{own_length, peer_length, between_is, stands_signed, stands_accepted, stands_learned}
use Rattle.ln_log.proofs.Stands.{stands_proposed, stands_received, stands_dropped}

turned : (k m : Kept) (l : Log) → k ≡ m → IsWindowOf m l → IsWindowOf k l
turned k m l v s = subst (λ y. IsWindowOf y l) (sym v) s

own_front_is : (k m : Kept) (l : Log) (n n' : ℕ) (vs : List Update) → k ≡ m → n ≡ n' → vs ≡ front_of side.Own m l n
    → vs ≡ front_of side.Own k l n'
own_front_is k m l n n' vs v en e =
    e ∙ ap (λ (y : Kept). front_of side.Own y l n) (sym v) ∙ ap (front_of side.Own k l) en

peer_front_is : (k m : Kept) (l : Log) (n n' : ℕ) (vs : List Update) → k ≡ m → n ≡ n' → vs ≡ front_of side.Peer m l n
    → vs ≡ front_of side.Peer k l n'
peer_front_is k m l n n' vs v en e =
    e ∙ ap (λ (y : Kept). front_of side.Peer y l n) (sym v) ∙ ap (front_of side.Peer k l) en

-- ---- what moves

pub signed_call : (k m : Kept) (l : Log) (c : Counts) → k ≡ m → IsWindowOf m l → c.own ≡ length l.own
    → c.peer ≡ l.current.peer
    → IsWindowOf (record k { signed = c; own_signed = k.own_standing }) (after_sign l)
signed_call k m l c v s eo ep = stands_signed k l c (turned k m l v s) eo ep

pub accepted_call : (k m : Kept) (l : Log) (c : Counts) (n : ℕ) (a b : Standing) (ts vs : List Update) → k ≡ m
    → IsWindowOf m l → c.own ≡ l.acknowledged.own → c.peer ≡ length l.received → n ≡ length l.received
    → ts ≡ between k.current.peer n l.received → vs ≡ front_of side.Own m l k.current.own
    → (AllFit k.own_standing vs ts → a ≡ with_all k.own_standing vs ts)
    → (AllFit k.own_signed vs ts → b ≡ with_all k.own_signed vs ts)
    → IsWindowOf (record k {
      current = c;
      own_standing = a;
      own_signed = b;
      peer_current = k.peer_standing;
    }) (after_accept l)
accepted_call k m l c n a b ts vs v s eo ep en et ev own signed =
    let t = turned k m l v s in
    stands_accepted k l c a b ts vs t eo ep
    (et ∙ ap (λ i. between k.current.peer i l.received) en
    ∙ ap (λ (i : Counts). between i.peer (length l.received) l.received) t.current
    ∙ take_rest l.received l.current.peer)
    (own_front_is k m l k.current.own l.current.own vs v (ap (λ (i : Counts). i.own) t.current) ev)
    own signed

pub learned_call : (k m : Kept) (l : Log) (a b : Standing) (ts vs : List Update) → k ≡ m → IsWindowOf m l
    → ts ≡ between k.acknowledged.own k.signed.own l.own → vs ≡ front_of side.Peer m l k.signed.peer
    → (AllFit k.peer_standing vs ts → a ≡ with_all k.peer_standing vs ts)
    → (AllFit k.peer_current vs ts → b ≡ with_all k.peer_current vs ts)
    → IsWindowOf (record k { acknowledged = k.signed; peer_standing = a; peer_current = b }) (after_learn l)
learned_call k m l a b ts vs v s et ev peer current =
    let t = turned k m l v s in
    stands_learned k l a b ts vs t
    (et ∙ ap (λ (i : Counts). between i.own k.signed.own l.own) t.acknowledged
    ∙ ap (λ (i : Counts). between l.acknowledged.own i.own l.own) t.signed
    ∙ between_is l.acknowledged.own l.signed.own l.own s.is_kept.within.own_acknowledged)
    (peer_front_is k m l k.signed.peer l.signed.peer vs v (ap (λ (i : Counts). i.peer) t.signed) ev)
    peer current

pub dropped_call : (k m : Kept) (l : Log) (ko kg : List Update) → k ≡ m → IsWindowOf m l
    → ko ≡ take (k.live.own + (k.signed.own - k.first.own)) k.own
    → kg ≡ take (k.live.peer + (k.current.peer - k.first.peer)) k.received
    → IsWindowOf (record k {
      own = ko;
      received = kg;
      own_standing = k.own_signed;
      peer_standing = k.peer_current;
    }) (after_drop l)
dropped_call k m l ko kg v s eo eg = stands_dropped k l ko kg (turned k m l v s) eo eg

pub proposed_call : (k m : Kept) (l : Log) (u : Update) (o : Option Refusal) (a : Standing) (ko vs : List Update)
    → k ≡ m → IsWindowOf m l → o ≡ proposal_fault l u → o ≡ None → HasNextId l.own u
    → vs ≡ front_of side.Peer m l k.current.peer
    → (OwnFits k.own_standing vs u → a ≡ with_own k.own_standing vs u) → ko ≡ k.own ++ u ∷ []
    → IsWindowOf (record k { own = ko; own_standing = a }) (after_propose u l)
proposed_call k m l u o a ko vs v s ef en next ev exact eo =
    let t = turned k m l v s in
    stands_proposed k l u a ko vs t (sym ef ∙ en) next
    (peer_front_is k m l k.current.peer l.current.peer vs v (ap (λ (i : Counts). i.peer) t.current) ev) exact eo

pub received_call : (k m : Kept) (l : Log) (u : Update) (o : Option Refusal) (a : Standing) (kg vs : List Update)
    → k ≡ m → IsWindowOf m l → o ≡ taken_fault l u → o ≡ None
    → vs ≡ front_of side.Own m l k.acknowledged.own
    → (OwnFits k.peer_standing vs u → a ≡ with_own k.peer_standing vs u) → kg ≡ k.received ++ u ∷ []
    → IsWindowOf (record k { received = kg; peer_standing = a }) (after_receive u l)
received_call k m l u o a kg vs v s ef en ev exact eg =
    let t = turned k m l v s in
    stands_received k l u a kg vs t (sym ef ∙ en)
    (own_front_is k m l k.acknowledged.own l.acknowledged.own vs v (ap (λ (i : Counts). i.own) t.acknowledged) ev)
    exact eg

-- ---- order

pub ordered_dropped : (k : Kept) (ko kg : List Update) (a b : Standing) → IsKeptInOrder k
    → ko ≡ take (k.live.own + (k.signed.own - k.first.own)) k.own
    → kg ≡ take (k.live.peer + (k.current.peer - k.first.peer)) k.received
    → IsKeptInOrder (record k { own = ko; received = kg; own_standing = a; peer_standing = b })
ordered_dropped k ko kg a b h eo eg =
    let own = k.live.own + (k.signed.own - k.first.own) in
    let peer = k.live.peer + (k.current.peer - k.first.peer) in
    let own_fits : own ≤ length k.own =
    omega (arith, h.own_first, h.own_current, h.own_acknowledged, h.own_signed, h.own_live) in
    let peer_fits : peer ≤ length k.received =
    omega (arith, h.peer_first, h.peer_acknowledged, h.peer_signed, h.peer_current, h.peer_live) in
    let own_is : length ko ≡ own = ap length eo ∙ length-take-le own k.own own_fits in
    let peer_is : length kg ≡ peer = ap length eg ∙ length-take-le peer k.received peer_fits in
    record {
      funds = h.funds;
      own_first = h.own_first;
      own_current = h.own_current;
      own_acknowledged = h.own_acknowledged;
      own_signed = omega (arith, own_is, h.own_first, h.own_current, h.own_acknowledged);
      own_last = omega (
        arith,
        own_is,
        h.own_first,
        h.own_current,
        h.own_acknowledged,
        h.own_signed,
        h.own_last,
      );
      own_live = omega (arith, own_is);
      peer_first = h.peer_first;
      peer_acknowledged = h.peer_acknowledged;
      peer_signed = h.peer_signed;
      peer_current = omega (arith, peer_is, h.peer_first, h.peer_acknowledged, h.peer_signed);
      peer_last = omega (
        arith,
        peer_is,
        h.peer_first,
        h.peer_acknowledged,
        h.peer_signed,
        h.peer_current,
        h.peer_last,
      );
      peer_live = omega (arith, peer_is);
      own_amounts = subst (AreWithin (1000 * k.opening.satoshis)) (sym eo)
          (within-take (1000 * k.opening.satoshis) k.own own h.own_amounts);
      peer_amounts = subst (AreWithin (1000 * k.opening.satoshis)) (sym eg)
          (within-take (1000 * k.opening.satoshis) k.received peer h.peer_amounts);
    }

pub ordered_proposed : (k m : Kept) (u : Update) (o : Option Refusal) (ko : List Update) (a : Standing) → k ≡ m
    → IsKeptInOrder k → (o ≡ None → kept_count side.Own m < most_updates)
    → (o ≡ None → HasAmount (1000 * m.opening.satoshis) (offered u)) → o ≡ None → ko ≡ k.own ++ u ∷ []
    → IsKeptInOrder (record k { own = ko; own_standing = a })
ordered_proposed k m u o ko a v h room amount e eo =
    let len : length ko ≡ length k.own + 1 = omega (arith, ap length eo, length-append k.own (u ∷ [])) in
    let less : kept_count side.Own k < most_updates =
    subst (λ (y : Kept). kept_count side.Own y < most_updates) (sym v) (room e) in
    record {
      funds = h.funds;
      own_first = h.own_first;
      own_current = h.own_current;
      own_acknowledged = h.own_acknowledged;
      own_signed = omega (arith, len, h.own_signed, h.own_live);
      own_last = omega (arith, len, less, h.own_live);
      own_live = omega (arith, len, h.own_live);
      peer_first = h.peer_first;
      peer_acknowledged = h.peer_acknowledged;
      peer_signed = h.peer_signed;
      peer_current = h.peer_current;
      peer_last = h.peer_last;
      peer_live = h.peer_live;
      own_amounts = subst (AreWithin (1000 * k.opening.satoshis)) (sym eo)
          (within-push (1000 * k.opening.satoshis) k.own u h.own_amounts
          (subst (λ (y : Kept). HasAmount (1000 * y.opening.satoshis) (offered u)) (sym v) (amount e)));
      peer_amounts = h.peer_amounts;
    }

pub ordered_received : (k m : Kept) (u : Update) (o : Option Refusal) (kg : List Update) (a : Standing) → k ≡ m
    → IsKeptInOrder k → (o ≡ None → kept_count side.Peer m < most_updates)
    → (o ≡ None → HasAmount (1000 * m.opening.satoshis) (offered u)) → o ≡ None → kg ≡ k.received ++ u ∷ []
    → IsKeptInOrder (record k { received = kg; peer_standing = a })
ordered_received k m u o kg a v h room amount e eg =
    let len : length kg ≡ length k.received + 1 = omega (arith, ap length eg, length-append k.received (u ∷ [])) in
    let less : kept_count side.Peer k < most_updates =
    subst (λ (y : Kept). kept_count side.Peer y < most_updates) (sym v) (room e) in
    record {
      funds = h.funds;
      own_first = h.own_first;
      own_current = h.own_current;
      own_acknowledged = h.own_acknowledged;
      own_signed = h.own_signed;
      own_last = h.own_last;
      own_live = h.own_live;
      peer_first = h.peer_first;
      peer_acknowledged = h.peer_acknowledged;
      peer_signed = h.peer_signed;
      peer_current = omega (arith, len, h.peer_current, h.peer_live);
      peer_last = omega (arith, len, less, h.peer_live);
      peer_live = omega (arith, len, h.peer_live);
      own_amounts = h.own_amounts;
      peer_amounts = subst (AreWithin (1000 * k.opening.satoshis)) (sym eg)
          (within-push (1000 * k.opening.satoshis) k.received u h.peer_amounts
          (subst (λ (y : Kept). HasAmount (1000 * y.opening.satoshis) (offered u)) (sym v) (amount e)));
    }

-- ---- what keeps a side from a further update

-- by the code, no fault of the lists
own_fault : (k : Kept) (l : Log) (u : Update) (lim : Limits) (os hs : List Update) (r : Option Refusal) → IsWindowOf k l
    → os ≡ k.own → hs ≡ front_of side.Peer k l l.acknowledged.peer → r ≡ fault_at lim k.own_standing k.role os hs u
    → r ≡ fault_at lim k.own_standing l.role l.own (take l.acknowledged.peer l.received) u
own_fault k l u lim os hs r s eo eh er =
    let w = s.is_kept.within in
    let n = l.acknowledged.peer in
    let x = k.own_standing in
    let p = own_base k l in
    let q = peer_base k l in
    let rest = drop k.first.own l.own in
    let part = drop k.first.peer (take n l.received) in
    let whole = longer k.first.peer n l.received s.first_peer in
    let ids : next_id (take k.first.peer (take n l.received)) ≡ next_id q =
    ap next_id (take-take k.first.peer n l.received s.first_peer) in
    er ∙ ap (λ y. fault_at lim x y os hs u) s.role ∙ ap (λ y. fault_at lim x l.role y hs u) (eo ∙ s.own)
    ∙ ap (λ y. fault_at lim x l.role (live_htlcs p q ++ rest) y u) eh
    ∙ fault_behind lim x l.role p rest q part u
    (subst (λ i. AreNumbered i part) (omega (arith, ids))
    (numbered-drop 0 k.first.peer (take n l.received) (numbered-take 0 n l.received s.is_kept.peer_ids)))
    s.closed.peer_new
    ∙ ap (λ y. fault_at lim x l.role y (q ++ part) u) (take-append-drop k.first.own l.own)
    ∙ ap (λ y. fault_at lim x l.role l.own y u) (sym whole)

got_fault : (k : Kept) (l : Log) (u : Update) (lim : Limits) (x : Role) (os hs : List Update) (r : Option Refusal)
    → IsWindowOf k l → os ≡ k.received → hs ≡ front_of side.Own k l l.current.own
    → r ≡ fault_at lim k.peer_standing x os hs u
    → r ≡ fault_at lim k.peer_standing x l.received (take l.current.own l.own) u
got_fault k l u lim x os hs r s eo eh er =
    let n = l.current.own in
    let y = k.peer_standing in
    let p = own_base k l in
    let q = peer_base k l in
    let rest = drop k.first.peer l.received in
    let part = drop k.first.own (take n l.own) in
    let whole = longer k.first.own n l.own s.first_own in
    let ids : next_id (take k.first.own (take n l.own)) ≡ next_id p =
    ap next_id (take-take k.first.own n l.own s.first_own) in
    er ∙ ap (λ z. fault_at lim y x z hs u) (eo ∙ s.received)
    ∙ ap (λ z. fault_at lim y x (live_htlcs q p ++ rest) z u) eh
    ∙ fault_behind lim y x q rest p part u
    (subst (λ i. AreNumbered i part) (omega (arith, ids))
    (numbered-drop 0 k.first.own (take n l.own) (numbered-take 0 n l.own s.is_kept.own_ids)))
    s.closed.own_new
    ∙ ap (λ z. fault_at lim y x z (p ++ part) u) (take-append-drop k.first.peer l.received)
    ∙ ap (λ z. fault_at lim y x l.received z u) (sym whole)

pub own_call_fault : (k m : Kept) (l : Log) (u : Update) (lim : Limits) (os hs : List Update) (r : Option Refusal)
    → k ≡ m → IsWindowOf m l → lim ≡ limits_of k.opening k.role → os ≡ k.own
    → hs ≡ front_of side.Peer m l k.acknowledged.peer → r ≡ fault_at lim k.own_standing k.role os hs u
    → r ≡ update_fault l.opening l.role l.own (take l.current.peer l.received)
    (take l.acknowledged.peer l.received) u
own_call_fault k m l u lim os hs r v s el eo eh er =
    let t = turned k m l v s in
    own_fault k l u lim os hs r t eo
    (peer_front_is k m l k.acknowledged.peer l.acknowledged.peer hs v (ap (λ
    (i : Counts). i.peer) t.acknowledged) eh) er
    ∙ ap (λ y. fault_at y k.own_standing l.role l.own (take l.acknowledged.peer l.received) u)
    (el ∙ ap (λ y. limits_of y k.role) t.opening ∙ ap (limits_of l.opening) t.role)
    ∙ ap (λ y. fault_at (limits_of l.opening l.role) y l.role l.own (take l.acknowledged.peer l.received) u)
    t.is_kept.own_stands

pub got_call_fault : (k m : Kept) (l : Log) (u : Update) (lim : Limits) (x : Role) (os hs : List Update)
    (r : Option Refusal) → k ≡ m → IsWindowOf m l → lim ≡ limits_of k.opening (other_role k.role)
    → x ≡ other_role k.role → os ≡ k.received → hs ≡ front_of side.Own m l k.current.own
    → r ≡ fault_at lim k.peer_standing x os hs u
    → r ≡ update_fault l.opening (other_role l.role) l.received (take l.acknowledged.own l.own)
    (take l.current.own l.own) u
got_call_fault k m l u lim x os hs r v s el ex eo eh er =
    let t = turned k m l v s in
    got_fault k l u lim x os hs r t eo
    (own_front_is k m l k.current.own l.current.own hs v (ap (λ (i : Counts). i.own) t.current) eh) er
    ∙ ap (λ y. fault_at y k.peer_standing x l.received (take l.current.own l.own) u)
    (el ∙ ap (λ y. limits_of y (other_role k.role)) t.opening ∙ ap (λ y. limits_of l.opening (other_role y)) t.role)
    ∙ ap (λ y. fault_at (limits_of l.opening (other_role l.role)) y x l.received (take l.current.own l.own) u)
    t.is_kept.peer_stands
    ∙ ap (λ y. fault_at (limits_of l.opening (other_role l.role)) (standing_of (first_balance l.opening
    (other_role l.role)) l.received (take l.acknowledged.own l.own)) y l.received (take l.current.own l.own) u)
    (ex ∙ ap other_role t.role)

-- what the limits let through is of no more than all funds
pub own_amount_by : (k m : Kept) (l : Log) (u : Update) (r : Option Refusal) → k ≡ m → IsWindowOf m l
    → length l.own < most_updates
    → r ≡ update_fault l.opening l.role l.own (take l.current.peer l.received)
    (take l.acknowledged.peer l.received) u → r ≡ None → HasAmount (1000 * k.opening.satoshis) (offered u)
own_amount_by k m l u r v s few e none =
    has_amount _ _ (offered u) (ap (λ (o : Opening). 1000 * o.satoshis) (sym (turned k m l v s).opening))
    (own_amount l _ _ _ _ u r s.is_kept few e none)

pub got_amount_by : (k m : Kept) (l : Log) (u : Update) (r : Option Refusal) → k ≡ m → IsWindowOf m l
    → length l.received < most_updates
    → r ≡ update_fault l.opening (other_role l.role) l.received (take l.acknowledged.own l.own)
    (take l.current.own l.own) u → r ≡ None → HasAmount (1000 * k.opening.satoshis) (offered u)
got_amount_by k m l u r v s few e none =
    has_amount _ _ (offered u) (ap (λ (o : Opening). 1000 * o.satoshis) (sym (turned k m l v s).opening))
    (got_amount l _ _ _ _ u r s.is_kept few e none)

-- the id that is due
pub peer_due : (k m : Kept) (l : Log) → k ≡ m → IsWindowOf m l → k.peer_standing.next_id ≡ next_id l.received
peer_due k m l v s = ap (λ (t : Standing). t.next_id) (turned k m l v s).is_kept.peer_stands

-- ---- records

pub coverage_call : (k m : Kept) (l : Log) → k ≡ m → IsWindowOf m l → IsKeptInOrder k
    → IsReadable (record {
      opening = l.opening;
      role = l.role;
      own = take l.signed.own l.own;
      received = take l.current.peer l.received;
      first = none;
      signed = k.signed;
      acknowledged = k.acknowledged;
      current = k.current;
    })
coverage_call k m l v s h =
    let t = turned k m l v s in
    let log_at : Counts → Counts → Counts → Counts → Log = λ f a b c. record {
      opening = l.opening;
      role = l.role;
      own = take l.signed.own l.own;
      received = take l.current.peer l.received;
      first = f;
      signed = a;
      acknowledged = b;
      current = c;
    } in
    subst (λ f. IsReadable (log_at f k.signed k.acknowledged k.current)) t.whole
    (subst (λ x. IsReadable (log_at l.first x k.acknowledged k.current)) (sym t.signed)
    (subst (λ x. IsReadable (log_at l.first l.signed x k.current)) (sym t.acknowledged)
    (subst (λ x. IsReadable (log_at l.first l.signed l.acknowledged x)) (sym t.current)
    (loads_again l _ _ _ _ t.is_kept (omega (arith, own_length k l t, h.own_last))
    (omega (arith, peer_length k l t, h.peer_last))))))
