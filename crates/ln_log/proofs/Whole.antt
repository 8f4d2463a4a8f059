-- What a log is, by what it keeps and the updates that aren't had one by one any more.
use Rattle.std.proofs.Common.{◌≡◌, ℕ, ◌≤◌, List, [], ◌∷◌, ◌++◌, length, take, drop, refl, sym, ap, ◌∙◌, subst, arith}
use Rattle.std.proofs.Common.{Result, Ok, Err, OnOk, OnErr, IsTrue, Bool, ◌↔◌}
use Rattle.std.proofs.lemmas.List.{take-append-le, take-append-drop, take-take, length-take-le}
use Rattle.std.proofs.Math.Seq.{take-append_seam}
use Rattle.ln_refusals.specs.declared.refusal.Refusal.{Refusal}
use Rattle.ln_keys.specs.declared.role.Role.{Role}
use Rattle.ln_log.specs.declared.opening.Opening.{Opening}
use Rattle.ln_log.specs.declared.log.Pair.{Pair}
use Rattle.ln_log.specs.declared.log.Pair.TheVariants as pair
use Rattle.ln_log.specs.declared.log.Side.{Side}
use Rattle.ln_log.specs.declared.log.Side.TheVariants as side
use Rattle.ln_log.specs.declared.update.Update.{Update}
use Rattle.ln_log.specs.Log.{Log, Counts, none, IsInOrder, after_propose, after_receive}
use Rattle.ln_log.specs.Log.{after_drop, count_of, counts_of, updates_of}
use Rattle.ln_log.specs.Log.{first_of}
use Rattle.ln_log.specs.Log.{before_first, between, IsWithin}
use Rattle.ln_log.specs.Window.{live_htlcs, balances_of, first_balances, first_live_htlcs, MayBeBase}
use Rattle.ln_log.specs.Kept.{Kept, IsWindowOf, kept_count, own_base, peer_base, whole}
use Rattle.ln_log.specs.Kept.{IsWhole, kept_first, base_of, live_base}
use Rattle.ln_log.proofs.Fronts.{behind_all}
use Rattle.ln_log.proofs.Totals.{longer}
use Rattle.ln_log.proofs.Stands.{side_length, between_is}

-- ---- what a log stands for

abbrev made : Opening → Role → List Update → List Update → Counts → Counts → Counts → Counts → Log
made o x us vs f s a c = record {
  opening = o;
  role = x;
  own = us;
  received = vs;
  first = f;
  signed = s;
  acknowledged = a;
  current = c;
}

-- what is kept of a log is a window of all its lists
pub kept_of : (k : Kept) (ps qs : List Update) (m l : Log) → whole k ps qs ≡ m → IsWhole k ps qs → m ≡ l
    → IsWindowOf k (record l { first = none })
kept_of k ps qs m l v h e = subst (λ (y : Log). IsWindowOf k (record y { first = none })) (v ∙ e) h.window

-- of any log of which this is a window, where these are its first updates
pub whole_is : (k : Kept) (ps qs : List Update) (l : Log) → IsWindowOf k (record l { first = none }) → k.first ≡ l.first
    → ps ≡ take k.first.own l.own → qs ≡ take k.first.peer l.received → whole k ps qs ≡ l
whole_is k ps qs l s ef ep eq =
    let own : ps ++ drop k.live.own k.own ≡ l.own =
    ap (λ x. ps ++ drop k.live.own x) s.own
    ∙ ap (λ x. ps ++ x) (behind_all k.live.own k.first.own (live_htlcs (own_base k (record l { first = none }))
    (peer_base k (record l { first = none }))) l.own s.live_own)
    ∙ ap (λ x. x ++ drop k.first.own l.own) ep ∙ take-append-drop k.first.own l.own in
    let received : qs ++ drop k.live.peer k.received ≡ l.received =
    ap (λ x. qs ++ drop k.live.peer x) s.received
    ∙ ap (λ x. qs ++ x) (behind_all k.live.peer k.first.peer (live_htlcs (peer_base k (record l { first = none }))
    (own_base k (record l { first = none }))) l.received s.live_peer)
    ∙ ap (λ x. x ++ drop k.first.peer l.received) eq ∙ take-append-drop k.first.peer l.received in
    ap (λ o. made o k.role (ps ++ drop k.live.own k.own) (qs ++ drop k.live.peer k.received) k.first k.signed
    k.acknowledged k.current) s.opening
    ∙ ap (λ x. made l.opening x (ps ++ drop k.live.own k.own) (qs ++ drop k.live.peer k.received) k.first k.signed
    k.acknowledged k.current) s.role
    ∙ ap (λ us. made l.opening l.role us (qs ++ drop k.live.peer k.received) k.first k.signed k.acknowledged k.current)
    own
    ∙ ap (λ vs. made l.opening l.role l.own vs k.first k.signed k.acknowledged k.current) received
    ∙ ap (λ f. made l.opening l.role l.own l.received f k.signed k.acknowledged k.current) ef
    ∙ ap (λ n. made l.opening l.role l.own l.received l.first n k.acknowledged k.current) s.signed
    ∙ ap (λ a. made l.opening l.role l.own l.received l.first l.signed a k.current) s.acknowledged
    ∙ ap (λ c. made l.opening l.role l.own l.received l.first l.signed l.acknowledged c) s.current

-- then that log is whole
pub is_whole : (k : Kept) (ps qs : List Update) (l : Log) → IsWindowOf k (record l { first = none }) → whole k ps qs ≡ l
    → length ps ≡ k.first.own → length qs ≡ k.first.peer → IsWhole k ps qs
is_whole k ps qs l s e own peer = record {
  window = subst (λ (y : Log). IsWindowOf k (record y { first = none })) (sym e) s;
  own_count = own;
  peer_count = peer;
}

-- ---- what a call leaves

-- the lists begin as before, as far as they aren't had one by one any more
pub record BeginsAs (m l : Log) : Type 0 where
  pub first : l.first ≡ m.first
  pub own : take m.first.own l.own ≡ take m.first.own m.own
  pub received : take m.first.peer l.received ≡ take m.first.peer m.received

pub goes_on : (k j : Kept) (ps qs : List Update) (m l : Log) → whole k ps qs ≡ m → IsWhole k ps qs → j.first ≡ k.first
    → BeginsAs m l → IsWindowOf j (record l { first = none }) → whole j ps qs ≡ l
goes_on k j ps qs m l v h ef b s =
    let fk : k.first ≡ m.first = ap (λ (y : Log). y.first) v in
    let fj : j.first ≡ m.first = ef ∙ fk in
    let own : ps ≡ take j.first.own l.own =
    sym (take-append_seam ps (drop k.live.own k.own))
    ∙ ap (λ n. take n (ps ++ drop k.live.own k.own)) (h.own_count ∙ ap (λ (i : Counts). i.own) fk)
    ∙ ap (λ (y : Log). take m.first.own y.own) v ∙ sym b.own ∙ ap (λ (i : Counts). take i.own l.own) (sym fj) in
    let peer : qs ≡ take j.first.peer l.received =
    sym (take-append_seam qs (drop k.live.peer k.received))
    ∙ ap (λ n. take n (qs ++ drop k.live.peer k.received)) (h.peer_count ∙ ap (λ (i : Counts). i.peer) fk)
    ∙ ap (λ (y : Log). take m.first.peer y.received) v ∙ sym b.received
    ∙ ap (λ (i : Counts). take i.peer l.received) (sym fj) in
    whole_is j ps qs l s (fj ∙ sym b.first) own peer

pub still_whole : (k j : Kept) (ps qs : List Update) (m l : Log) → whole k ps qs ≡ m → IsWhole k ps qs
    → j.first ≡ k.first → BeginsAs m l → IsWindowOf j (record l { first = none }) → IsWhole j ps qs
still_whole k j ps qs m l v h ef b s =
    is_whole j ps qs l s (goes_on k j ps qs m l v h ef b s) (h.own_count ∙ ap (λ (i : Counts). i.own) (sym ef))
    (h.peer_count ∙ ap (λ (i : Counts). i.peer) (sym ef))

-- where a call may be refused, which changes nothing
pub goes_on_if : (r : Result (Unit {0}) Refusal) (k j : Kept) (ps qs : List Update) (m l : Log) → whole k ps qs ≡ m
    → IsWhole k ps qs → j.first ≡ k.first → BeginsAs m l → OnOk r (IsWindowOf j (record l { first = none }))
    → OnOk r (whole j ps qs ≡ l)
goes_on_if (Ok x) k j ps qs m l v h ef b s = goes_on k j ps qs m l v h ef b s
goes_on_if (Err x) k j ps qs m l v h ef b s = tt

pub whole_if : (r : Result (Unit {0}) Refusal) (k j : Kept) (ps qs : List Update) (m l : Log) → whole k ps qs ≡ m
    → IsWhole k ps qs → j.first ≡ k.first → BeginsAs m l → OnErr r (j ≡ k)
    → OnOk r (IsWindowOf j (record l { first = none })) → IsWhole j ps qs
whole_if (Ok x) k j ps qs m l v h ef b same s = still_whole k j ps qs m l v h ef b s
whole_if (Err x) k j ps qs m l v h ef b same s = subst (λ (y : Kept). IsWhole y ps qs) (sym same) h

-- ---- the calls

-- the first updates are among those that are covered
first_few : (k : Kept) (m : Log) → IsWindowOf k (record m { first = none }) → k.first ≡ m.first
    → (m.first.own ≤ m.signed.own) × (m.signed.own ≤ length m.own) × (m.first.peer ≤ m.current.peer)
    × (m.current.peer ≤ length m.received)
first_few k m s e =
    let w = s.is_kept.within in
    let own = ap (λ (i : Counts). i.own) e in
    let peer = ap (λ (i : Counts). i.peer) e in (
      omega (arith, own, s.first_own, w.own_current, w.own_acknowledged),
      w.own_signed,
      omega (arith, peer, s.first_peer, w.peer_acknowledged, w.peer_signed),
      w.peer_current,
    )

pub few : (k : Kept) (ps qs : List Update) (m : Log) → whole k ps qs ≡ m → IsWhole k ps qs
    → (m.first.own ≤ m.signed.own) × (m.signed.own ≤ length m.own) × (m.first.peer ≤ m.current.peer)
    × (m.current.peer ≤ length m.received)
few k ps qs m v h = first_few k m (kept_of k ps qs m m v h refl) (ap (λ (y : Log). y.first) v)

pub proposed : (k : Kept) (ps qs : List Update) (m : Log) (u : Update) → whole k ps qs ≡ m → IsWhole k ps qs
    → BeginsAs m (after_propose u m)
proposed k ps qs m u v h = record {
  first = refl;
  own = take-append-le m.first.own m.own (u ∷ [])
      (omega (arith, (few k ps qs m v h).0, (few k ps qs m v h).1));
  received = refl;
}

pub received : (k : Kept) (ps qs : List Update) (m : Log) (u : Update) → whole k ps qs ≡ m → IsWhole k ps qs
    → BeginsAs m (after_receive u m)
received k ps qs m u v h = record {
  first = refl;
  own = refl;
  received = take-append-le m.first.peer m.received (u ∷ [])
      (omega (arith, (few k ps qs m v h).2, (few k ps qs m v h).3));
}

pub dropped : (k : Kept) (ps qs : List Update) (m : Log) → whole k ps qs ≡ m → IsWhole k ps qs
    → BeginsAs m (after_drop m)
dropped k ps qs m v h = record {
  first = refl;
  own = take-take m.first.own m.signed.own m.own (few k ps qs m v h).0;
  received = take-take m.first.peer m.current.peer m.received (few k ps qs m v h).2;
}

pub as_before : (m l : Log) → l.first ≡ m.first → l.own ≡ m.own → l.received ≡ m.received → BeginsAs m l
as_before m l f own received = record {
  first = f;
  own = ap (take m.first.own) own;
  received = ap (take m.first.peer) received;
}

-- ---- counts

pub counted : (x : Side) (k : Kept) (ps qs : List Update) (m : Log) → whole k ps qs ≡ m → IsWhole k ps qs
    → kept_count x k ≡ count_of x m
counted side.Own k ps qs m v h = side_length side.Own k (record m { first = none }) (kept_of k ps qs m m v h refl)
counted side.Peer k ps qs m v h = side_length side.Peer k (record m { first = none }) (kept_of k ps qs m m v h refl)

pub in_order : (k : Kept) (ps qs : List Update) (m : Log) → whole k ps qs ≡ m → IsWhole k ps qs → IsInOrder m
in_order k ps qs m v h =
    let s = kept_of k ps qs m m v h refl in
    let w = s.is_kept.within in
    let e = ap (λ (y : Log). y.first) v in
    record {
      funds = s.is_kept.funds;
      own_first = subst (λ (i : Counts). i.own ≤ m.current.own) e s.first_own;
      own_current = w.own_current;
      own_acknowledged = w.own_acknowledged;
      own_signed = w.own_signed;
      peer_first = subst (λ (i : Counts). i.peer ≤ m.acknowledged.peer) e s.first_peer;
      peer_acknowledged = w.peer_acknowledged;
      peer_signed = w.peer_signed;
      peer_current = w.peer_current;
      own_amounts = s.is_kept.own_amounts;
      peer_amounts = s.is_kept.peer_amounts;
    }

-- ---- what doesn't ask for the first update

pub counts_whole : (p : Pair) (l : Log) → counts_of p (record l { first = none }) ≡ counts_of p l
counts_whole (pair.Current side.Own) l = refl
counts_whole (pair.Current side.Peer) l = refl
counts_whole pair.Signed l = refl
counts_whole pair.ToSign l = refl
counts_whole pair.ToAccept l = refl

pub within_whole : (l : Log) → IsWithin (record l { first = none }) → IsWithin l
within_whole l w = record {
  own_current = w.own_current;
  own_acknowledged = w.own_acknowledged;
  own_signed = w.own_signed;
  peer_acknowledged = w.peer_acknowledged;
  peer_signed = w.peer_signed;
  peer_current = w.peer_current;
}

pub updates_whole : (x : Side) (l : Log) → updates_of x (record l { first = none }) ≡ updates_of x l
updates_whole side.Own l = refl
updates_whole side.Peer l = refl

pub first_is : (x : Side) (k : Kept) (ps qs : List Update) (m : Log) → whole k ps qs ≡ m → IsWhole k ps qs
    → kept_first x k ≡ first_of x m
first_is side.Own k ps qs m v h = ap (λ (y : Log). y.first.own) v
first_is side.Peer k ps qs m v h = ap (λ (y : Log). y.first.peer) v

pub base_is : (x : Side) (k : Kept) (ps qs : List Update) (m : Log) → whole k ps qs ≡ m → IsWhole k ps qs
    → base_of x k (record m { first = none }) ≡ before_first x m
base_is side.Own k ps qs m v h = ap (λ (y : Log). take y.first.own m.own) v
base_is side.Peer k ps qs m v h = ap (λ (y : Log). take y.first.peer m.received) v

pub balances_whole : (k : Kept) (ps qs : List Update) (m : Log) → whole k ps qs ≡ m → IsWhole k ps qs
    → k.balances ≡ first_balances m
balances_whole k ps qs m v h =
    (kept_of k ps qs m m v h refl).balances
    ∙ ap (λ (y : Log). balances_of m.opening m.role (take y.first.own m.own) (take y.first.peer m.received)) v

pub live_htlcs_whole : (x : Side) (k : Kept) (ps qs : List Update) (m : Log) → whole k ps qs ≡ m → IsWhole k ps qs
    → live_base x k (record m { first = none }) ≡ first_live_htlcs x m
live_htlcs_whole side.Own k ps qs m v h =
    ap (λ (y : Log). live_htlcs (take y.first.own m.own) (take y.first.peer m.received)) v
live_htlcs_whole side.Peer k ps qs m v h =
    ap (λ (y : Log). live_htlcs (take y.first.peer m.received) (take y.first.own m.own)) v

-- ---- the first update moves on

pub grown : (f n : ℕ) (ps us : List Update) → ps ≡ take f us → f ≤ n → ps ++ between f n us ≡ take n us
grown f n ps us e le =
    ap (λ x. x ++ between f n us) e ∙ ap (λ x. take f us ++ x) (between_is f n us le) ∙ sym (longer f n us le)

pub record Moved (k j : Kept) (ps qs ps' qs' os rs : List Update) (m : Log) (to : Counts) : Type 0 where
  pub view : whole k ps qs ≡ m
  pub before : IsWhole k ps qs
  pub may : MayBeBase m to
  pub first : j.first ≡ to
  pub stands : IsWindowOf j (record m { first = none })
  pub own : ps' ≡ ps ++ os
  pub own_leave : k.first.own ≤ to.own → to.own ≤ kept_count side.Own k → os ≡ between k.first.own to.own m.own
  pub peer : qs' ≡ qs ++ rs
  pub peer_leave : k.first.peer ≤ to.peer → to.peer ≤ kept_count side.Peer k
      → rs ≡ between k.first.peer to.peer m.received

own_grown : (k j : Kept) (ps qs ps' qs' os rs : List Update) (m : Log) (to : Counts)
    → Moved k j ps qs ps' qs' os rs m to → ps' ≡ take to.own m.own
own_grown k j ps qs ps' qs' os rs m to h =
    let w = h.stands.is_kept.within in
    let first : k.first.own ≡ m.first.own = ap (λ (y : Log). y.first.own) h.view in
    let from : k.first.own ≤ to.own = omega (arith, first, h.may.own_first) in
    let few : to.own ≤ kept_count side.Own k = omega (
      arith,
      counted side.Own k ps qs m h.view h.before,
      h.may.own_current,
      w.own_current,
      w.own_acknowledged,
      w.own_signed,
    ) in
    h.own ∙ ap (λ x. ps ++ x) (h.own_leave from few)
    ∙ grown k.first.own to.own ps m.own
    (sym (take-append_seam ps (drop k.live.own k.own))
    ∙ ap (λ n. take n (ps ++ drop k.live.own k.own)) h.before.own_count
    ∙ ap (λ (y : Log). take k.first.own y.own) h.view)
    from

peer_grown : (k j : Kept) (ps qs ps' qs' os rs : List Update) (m : Log) (to : Counts)
    → Moved k j ps qs ps' qs' os rs m to → qs' ≡ take to.peer m.received
peer_grown k j ps qs ps' qs' os rs m to h =
    let w = h.stands.is_kept.within in
    let first : k.first.peer ≡ m.first.peer = ap (λ (y : Log). y.first.peer) h.view in
    let from : k.first.peer ≤ to.peer = omega (arith, first, h.may.peer_first) in
    let few : to.peer ≤ kept_count side.Peer k = omega (
      arith,
      counted side.Peer k ps qs m h.view h.before,
      h.may.peer_acknowledged,
      w.peer_acknowledged,
      w.peer_signed,
      w.peer_current,
    ) in
    h.peer ∙ ap (λ x. qs ++ x) (h.peer_leave from few)
    ∙ grown k.first.peer to.peer qs m.received
    (sym (take-append_seam qs (drop k.live.peer k.received))
    ∙ ap (λ n. take n (qs ++ drop k.live.peer k.received)) h.before.peer_count
    ∙ ap (λ (y : Log). take k.first.peer y.received) h.view)
    from

pub moved : (k j : Kept) (ps qs ps' qs' os rs : List Update) (m : Log) (to : Counts)
    → Moved k j ps qs ps' qs' os rs m to → whole j ps' qs' ≡ record m { first = to }
moved k j ps qs ps' qs' os rs m to h =
    whole_is j ps' qs' (record m { first = to }) h.stands h.first
    (own_grown k j ps qs ps' qs' os rs m to h ∙ ap (λ (i : Counts). take i.own m.own) (sym h.first))
    (peer_grown k j ps qs ps' qs' os rs m to h ∙ ap (λ (i : Counts). take i.peer m.received) (sym h.first))

pub moved_whole : (k j : Kept) (ps qs ps' qs' os rs : List Update) (m : Log) (to : Counts)
    → Moved k j ps qs ps' qs' os rs m to → IsWhole j ps' qs'
moved_whole k j ps qs ps' qs' os rs m to h =
    let w = h.stands.is_kept.within in
    is_whole j ps' qs' (record m { first = to }) h.stands (moved k j ps qs ps' qs' os rs m to h)
    (ap length (own_grown k j ps qs ps' qs' os rs m to h)
    ∙ length-take-le to.own m.own (omega (arith, h.may.own_current, w.own_current, w.own_acknowledged, w.own_signed))
    ∙ ap (λ (i : Counts). i.own) (sym h.first))
    (ap length (peer_grown k j ps qs ps' qs' os rs m to h)
    ∙ length-take-le to.peer m.received
    (omega (arith, h.may.peer_acknowledged, w.peer_acknowledged, w.peer_signed, w.peer_current))
    ∙ ap (λ (i : Counts). i.peer) (sym h.first))

-- as the window answers, by its own first update
pub may_be : (k : Kept) (ps qs : List Update) (m : Log) (to : Counts) (b : Bool) → whole k ps qs ≡ m
    → IsWhole k ps qs → (IsTrue b ↔ MayBeBase (record m { first = k.first }) to) → (IsTrue b ↔ MayBeBase m to)
may_be k ps qs m to b v h e =
    subst (λ (f : Counts). IsTrue b ↔ MayBeBase (record m { first = f }) to) (ap (λ (y : Log). y.first) v) e
