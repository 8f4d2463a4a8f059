-- The peer's HTLCs that an end has decided on, and those whose events wait to be decided: their ids rise.
use Rattle.std.proofs.Common.{◌≡◌, ℕ, zero, suc, ◌+◌, ◌≤◌, ◌<◌, List, [], ◌∷◌, ◌++◌, take, drop, map}
use Rattle.std.proofs.Common.{refl, sym, ap, ◌∙◌, subst, arith, true, false, cond}
use Rattle.std.proofs.Common.{Option, Some, None, option_map, slice_get}
use Rattle.std.specs.List.{cons_option}
use Rattle.std.proofs.lemmas.Bool.{le-ltb}
use Rattle.ln_log.specs.declared.mark.Decision.{Decision}
use Rattle.ln_log.specs.declared.mark.EventRef.{EventRef}
use Rattle.ln_log.specs.declared.mark.EventRef.TheVariants as ref
use Rattle.ln_log.specs.declared.update.Add.{Add}
use Rattle.ln_log.specs.declared.update.Update.{Update}
use Rattle.ln_log.specs.Updates.{offered, next_id}
use Rattle.ln_log.specs.Log.{Log, AreNumbered, HasId, number_after}
use Rattle.ln_log.proofs.Removing.{next-cons, numbered-drop, next-take}
use Rattle.ln_hooks.specs.declared.event.ChannelEvent.{ChannelEvent}
use Rattle.ln_hooks.specs.Event.{event_of}
use Rattle.ln_channel.specs.Ledger.{refs_of, id_offered, htlc_offered, htlc_of, first_htlc}
use Rattle.ln_payment_circuits.proofs.Rising.{IsRising, rising_more, rising_from, rising-option}
use Rattle.ln_payment_circuits.specs.Snapshot.{All, IsBelow, IsFrom}

-- the HTLC that the first of these updates offers
abbrev pub first_id : List Update → Option ℕ
first_id [] = None
first_id (u ∷ us) = id_offered (offered u)

-- that an entry of the ledger tells of, by the peer's whole list
abbrev pub id_at : List Update → EventRef → Option ℕ
id_at us (ref.Own n) = None
id_at us (ref.Peer n) = first_id (drop n us)
id_at us ref.Close = None

abbrev pub waiting_ids : List Update → List EventRef → List ℕ
waiting_ids us [] = []
waiting_ids us (r ∷ rs) = cons_option (id_at us r) (waiting_ids us rs)

abbrev pub decided_ids : List Decision → List ℕ
decided_ids ds = map (λ d. d.id) ds

abbrev pub AreRising : List Update → ℕ → List Decision → List EventRef → Type 0
AreRising us held ds rs = IsRising 0 (decided_ids ds ++ waiting_ids us rs) (next_id (take held us))

-- ---- more of them

cons-more : (o : Option ℕ) (xs ys : List ℕ) → cons_option o xs ++ ys ≡ cons_option o (xs ++ ys)
cons-more None xs ys = refl
cons-more (Some x) xs ys = refl

pub waiting-append : (us : List Update) (rs qs : List EventRef)
    → waiting_ids us (rs ++ qs) ≡ waiting_ids us rs ++ waiting_ids us qs
waiting-append us [] qs = refl
waiting-append us (r ∷ rs) qs = ap (cons_option (id_at us r)) (waiting-append us rs qs)
    ∙ sym (cons-more (id_at us r) (waiting_ids us rs) (waiting_ids us qs))

-- the side's own events tell of none of the peer's HTLCs
one_own : (us : List Update) (n : ℕ) (o : Option ChannelEvent) (rs : List EventRef)
    → waiting_ids us (cons_option (option_map (λ e. ref.Own n) o) rs) ≡ waiting_ids us rs
one_own us n None rs = refl
one_own us n (Some e) rs = refl

pub none_own : (us vs : List Update) (n : ℕ) → waiting_ids us (refs_of true n vs) ≡ []
none_own us [] n = refl
none_own us (v ∷ vs) n = one_own us n (event_of true v) (refs_of true (n + 1) vs) ∙ none_own us vs (n + 1)

-- ---- what is newly held of the peer's

pub drop_next : (c : ℕ) (us : List Update) (u : Update) (zs : List Update) → drop c us ≡ u ∷ zs → drop (suc c) us ≡ zs
drop_next zero [] u zs e = absurd (cc)
drop_next zero (v ∷ us) u zs e = ap (drop 1) e
drop_next (suc c) [] u zs e = absurd (cc)
drop_next (suc c) (v ∷ us) u zs e = drop_next c us u zs e

rising-one : (n : ℕ) (o : Option Add) (xs : List ℕ) (hi : ℕ) → HasId n o → IsRising (number_after n o) xs hi
    → IsRising n (cons_option (id_offered o) xs) hi
rising-one n None xs hi h k = k
rising-one n (Some a) xs hi h k =
    (let is = h in omega (arith, is), rising_from (suc a.id) (n + 1) xs hi (let is = h in omega (arith, is)) k)

one_ref : (us : List Update) (n : ℕ) (o : Option ChannelEvent) (rs : List EventRef) (lo hi : ℕ)
    → IsRising lo (cons_option (first_id (drop n us)) (waiting_ids us rs)) hi
    → IsRising lo (waiting_ids us (cons_option (option_map (λ e. ref.Peer n) o) rs)) hi
one_ref us n None rs lo hi h = rising-option lo (first_id (drop n us)) (waiting_ids us rs) hi h
one_ref us n (Some e) rs lo hi h = h

-- from an update on, whose HTLC would have the first number
pub new_rise : (us vs rest : List Update) (n first : ℕ) → drop n us ≡ vs ++ rest → AreNumbered first vs
    → IsRising first (waiting_ids us (refs_of false n vs)) (first + next_id vs)
new_rise us [] rest n first e h = omega arith
new_rise us (v ∷ vs) rest n first e h =
    let here : first_id (drop n us) ≡ id_offered (offered v) = ap first_id e in
    let next : drop (n + 1) us ≡ vs ++ rest =
    ap (λ k. drop k us) (let s : n + 1 ≡ suc n = omega arith in s) ∙ drop_next n us v (vs ++ rest) e in
    let more = new_rise us vs rest (n + 1) (number_after first (offered v)) next h.1 in
    let one = next-cons v vs in
    one_ref us n (event_of false v) (refs_of false (n + 1) vs) first (first + next_id (v ∷ vs))
    (subst (λ o. IsRising first (cons_option o (waiting_ids us (refs_of false (n + 1) vs)))
    (first + next_id (v ∷ vs))) (sym here)
    (rising-one first (offered v) (waiting_ids us (refs_of false (n + 1) vs)) (first + next_id (v ∷ vs)) h.0
    (rising_more (number_after first (offered v)) (waiting_ids us (refs_of false (n + 1) vs))
    (number_after first (offered v) + next_id vs) (first + next_id (v ∷ vs))
    (counted first (offered v) (next_id vs) (next_id (v ∷ vs)) one) more)))
  where
    counted : (n : ℕ) (o : Option Add) (k all : ℕ) → all ≡ number_after 0 o + k → number_after n o + k ≤ n + all
    counted n None k all e = omega (arith, e)
    counted n (Some a) k all e = omega (arith, e)

-- ---- lists that change after what is held

-- each entry of the peer's tells of an update below this number
first_taken : (k m : ℕ) (us : List Update) → k < m → first_id (drop k (take m us)) ≡ first_id (drop k us)
first_taken k zero us le = absurd (omega (arith, le))
first_taken zero (suc m) [] le = refl
first_taken zero (suc m) (u ∷ us) le = refl
first_taken (suc k) (suc m) [] le = refl
first_taken (suc k) (suc m) (u ∷ us) le = first_taken k m us (omega (arith, le))

id_same : (m : ℕ) (us vs : List Update) → take m us ≡ take m vs → (r : EventRef) → IsBelow m r → id_at us r ≡ id_at vs r
id_same m us vs e (ref.Own n) b = refl
id_same m us vs e (ref.Peer n) b = sym (first_taken n m us b) ∙ ap (λ z. first_id (drop n z)) e ∙ first_taken n m vs b
id_same m us vs e ref.Close b = refl

pub waiting_same : (m : ℕ) (us vs : List Update) → take m us ≡ take m vs → (rs : List EventRef) → All (IsBelow m) rs
    → waiting_ids us rs ≡ waiting_ids vs rs
waiting_same m us vs e [] b = refl
waiting_same m us vs e (r ∷ rs) b =
    ap (λ o. cons_option o (waiting_ids us rs)) (id_same m us vs e r b.0)
    ∙ ap (cons_option (id_at vs r)) (waiting_same m us vs e rs b.1)

-- ---- a decision

got_at : (n : ℕ) (us : List Update) → htlc_offered (slice_get us n) ≡ first_id (drop n us)
got_at zero [] = refl
got_at zero (u ∷ us) = refl
got_at (suc n) [] = refl
got_at (suc n) (u ∷ us) = got_at n us

pub htlc_is : (l : Log) (r : EventRef) → IsFrom l.first.peer r → htlc_of l r ≡ id_at l.received r
htlc_is l (ref.Own n) f = refl
htlc_is l (ref.Peer n) f =
    ap (λ b. htlc_offered (cond b None (slice_get l.received n))) (le-ltb n l.first.peer f) ∙ got_at n l.received
htlc_is l ref.Close f = refl

pub first_is : (l : Log) (rs : List EventRef) → All (IsFrom l.first.peer) rs
    → waiting_ids l.received rs ≡ cons_option (first_htlc l rs) (waiting_ids l.received (drop 1 rs))
first_is l [] f = refl
first_is l (r ∷ rs) f = ap (λ o. cons_option o (waiting_ids l.received rs)) (sym (htlc_is l r f.0))

pub map-more : (ds : List Decision) (d : Decision) (ys : List ℕ)
    → decided_ids (ds ++ d ∷ []) ++ ys ≡ decided_ids ds ++ d.id ∷ ys
map-more [] d ys = refl
map-more (e ∷ ds) d ys = ap (λ l. e.id ∷ l) (map-more ds d ys)

-- without the first that waits
pub fewer : (lo : ℕ) (xs : List ℕ) (o : Option ℕ) (ys : List ℕ) (hi : ℕ) → IsRising lo (xs ++ cons_option o ys) hi
    → IsRising lo (xs ++ ys) hi
fewer lo [] o ys hi h = rising-option lo o ys hi h
fewer lo (x ∷ xs) o ys hi h = (h.0, fewer (suc x) xs o ys hi h.1)

-- ---- the id of one that waits

offers_at : (n : ℕ) (us vs : List Update) (first id : ℕ) → drop n us ≡ vs → AreNumbered first vs → first_id vs ≡ Some id
    → id ≡ first
offers_at n us [] first id e h is = absurd (cc)
offers_at n us (v ∷ vs) first id e h is = cases (offered v) h.0 is
  where
    cases : (o : Option Add) → HasId first o → id_offered o ≡ Some id → id ≡ first
    cases None k f = absurd (cc)
    cases (Some a) k f = let same : a.id ≡ id = cc in sym same ∙ k

id_behind : (l : Log) (r : EventRef) (id : ℕ) → AreNumbered 0 l.received → IsFrom l.first.peer r
    → id_at l.received r ≡ Some id → next_id (take l.first.peer l.received) ≤ id
id_behind l (ref.Own n) id ids from is = absurd (cc)
id_behind l (ref.Peer n) id ids from is =
    let k = numbered-drop 0 n l.received ids in
    let at = offers_at n l.received (drop n l.received) (0 + next_id (take n l.received)) id refl k is in
    let le = next-take l.first.peer n l.received from in
    omega (arith, at, le)
id_behind l ref.Close id ids from is = absurd (cc)

pub first_behind : (l : Log) (rs : List EventRef) (id : ℕ) → AreNumbered 0 l.received → All (IsFrom l.first.peer) rs
    → first_htlc l rs ≡ Some id → next_id (take l.first.peer l.received) ≤ id
first_behind l [] id ids from is = absurd (cc)
first_behind l (r ∷ rs) id ids from is = id_behind l r id ids from.0 (sym (htlc_is l r from.0) ∙ is)
