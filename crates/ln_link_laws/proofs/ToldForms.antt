-- What is told of the updates of a log has its form in a record where they are as wide as their types, and each
-- undecided event names one of those that are told one by one.
use Rattle.std.proofs.Common.{◌≡◌, ◌<◌, ◌≤◌, ◌+◌, ◌*◌, ◌^◌, ℕ, List, [], ◌∷◌, length, map, take, refl, arith}
use Rattle.std.proofs.Common.{length-append, Bool, true, false, cond, nat_le, nat_lt, ◌&&◌, Option, Some, None}
use Rattle.std.specs.List.{cons_option, list_all}
use Rattle.std.proofs.lemmas.Bool.{lt-ltb, le-leb}
use Rattle.std.proofs.lemmas.List.{length-map}
use Rattle.ln_keys.specs.declared.role.Role.{Role}
use Rattle.ln_keys.specs.declared.role.Role.TheVariants.{Funder, Fundee}
use Rattle.ln_log.specs.declared.mark.EventRef.{EventRef}
use Rattle.ln_log.specs.declared.mark.EventRef.TheVariants as ref
use Rattle.ln_log.specs.declared.update.Add.{Add}
use Rattle.ln_log.specs.declared.update.Update.{Update}
use Rattle.ln_log.specs.declared.update.Update.TheVariants as update
use Rattle.ln_log.specs.Updates.{offered, outcome, is_live, rate_after, last_feerate}
use Rattle.ln_log.specs.View.{live_adds, live_of as still_live}
use Rattle.ln_log.specs.Log.{Log, Counts}
use Rattle.ln_log.specs.Window.{feerate_of}
use Rattle.ln_log.specs.Explained.{AreBetween, in_flight, gone}
use Rattle.ln_log.specs.RecordForm.{RecordForm, record_form_of, IsRestorable}
use Rattle.ln_store.specs.Items as it
use Rattle.ln_store.specs.Readable.{names_an_update}
use Rattle.ln_link.specs.Record.{by_roles, live_of, live_htlcs_of, base_of, window_of, pairs_of, updates_by}
use Rattle.ln_link.proofs.Window.{in_role}
use Rattle.ln_channel_laws.specs.Widths.{IsAdd, IsUpdate}
use Rattle.ln_channel_laws.proofs.Offered.{All, all-append, all-take, all-drop, IsAt, Where, IsHeld}
use Rattle.ln_link_laws.proofs.UpdateForms.{also, list_fits}
use Rattle.ln_link_laws.proofs.ItemForms.{AreSides, IsLive, base_fits, pairs_fit}

-- ---- what wide updates leave after

offered_wide : (u : Update) → IsUpdate u → Where IsAdd (offered u)
offered_wide (update.Add a) h = h
offered_wide (update.Fulfil f) h = tt
offered_wide (update.Fail f) h = tt
offered_wide (update.Malformed m) h = tt
offered_wide (update.Fee f) h = tt

one_live : (o : Option Add) (rs : List Update) (adds : List Add) → Where IsAdd o → All IsAdd adds
    → All IsAdd (cons_option (still_live o rs) adds)
one_live None rs adds h k = k
one_live (Some a) rs adds h k = by (is_live (outcome a.id rs))
  where
    by : (b : Bool) → All IsAdd (cons_option (cond b (Some a) None) adds)
    by true = (h, k)
    by false = k

pub live_htlcs_wide : (us rs : List Update) → All IsUpdate us → All IsAdd (live_adds us rs)
live_htlcs_wide [] rs h = tt
live_htlcs_wide (u ∷ us) rs h = one_live (offered u) rs (live_adds us rs) (offered_wide u h.0)
    (live_htlcs_wide us rs h.1)

rate_one : (rate : ℕ) (u : Update) → rate < 2 ^ 32 → IsUpdate u → rate_after rate u < 2 ^ 32
rate_one rate (update.Add a) lt h = lt
rate_one rate (update.Fulfil f) lt h = lt
rate_one rate (update.Fail f) lt h = lt
rate_one rate (update.Malformed m) lt h = lt
rate_one rate (update.Fee f) lt h = h

last_rate : (rate : ℕ) (us : List Update) → rate < 2 ^ 32 → All IsUpdate us → last_feerate rate us < 2 ^ 32
last_rate rate [] lt h = lt
last_rate rate (u ∷ us) lt h = last_rate (rate_after rate u) us (rate_one rate u lt h.0) h.1

rate_wide : (rate : ℕ) (x : Role) (own peer : List Update) → rate < 2 ^ 32 → All IsUpdate own → All IsUpdate peer
    → feerate_of rate x own peer < 2 ^ 32
rate_wide rate Funder own peer lt h k = last_rate rate own lt h
rate_wide rate Fundee own peer lt h k = last_rate rate peer lt k

-- what is told is as wide as its types
pub record IsToldWide (t : RecordForm) : Type 0 where
  pub feerate : t.balances.feerate < 2 ^ 32
  pub own_live_htlcs : All IsAdd t.own_live_htlcs
  pub peer_live_htlcs : All IsAdd t.peer_live_htlcs
  pub own : All IsUpdate t.own
  pub received : All IsUpdate t.received

pub told_wide : (n : Counts) (l : Log) → l.opening.feerate < 2 ^ 32 → All IsUpdate l.own → All IsUpdate l.received
    → IsToldWide (record_form_of n l)
told_wide n l rate own received =
    let p = all-take IsUpdate n.own l.own own in
    let q = all-take IsUpdate n.peer l.received received in
    record {
      feerate = rate_wide l.opening.feerate l.role (take n.own l.own) (take n.peer l.received) rate p q;
      own_live_htlcs = live_htlcs_wide (take n.own l.own) (take n.peer l.received) p;
      peer_live_htlcs = live_htlcs_wide (take n.peer l.received) (take n.own l.own) q;
      own = all-drop IsUpdate n.own l.own own;
      received = all-drop IsUpdate n.peer l.received received;
    }

-- ---- numbers

few_between : (from to : ℕ) (adds : List Add) → AreBetween from to adds → from + length adds ≤ to
few_between from to [] h = omega (arith, h)
few_between from to (a ∷ adds) h =
    let low = h.0 in
    let rest = few_between (a.id + 1) to adds h.2 in
    omega (arith, low, rest)

-- of what a log can be restored from all numbers have eight bytes
pub record AreSmall (t : RecordForm) : Type 0 where
  pub own_first : t.first.own ≤ 2 ^ 62
  pub peer_first : t.first.peer ≤ 2 ^ 62
  pub own_next : t.balances.next_own ≤ 2 ^ 62
  pub peer_next : t.balances.next_peer ≤ 2 ^ 62
  pub own_left : t.balances.own < 2 ^ 64
  pub peer_left : t.balances.peer < 2 ^ 64
  pub own_live : length t.own_live_htlcs ≤ 2 ^ 62
  pub peer_live : length t.peer_live_htlcs ≤ 2 ^ 62
  pub own_window : length t.own ≤ 2 ^ 62
  pub window : length t.received ≤ 2 ^ 62
  pub signed : t.signed.own ≤ 2 ^ 62
  pub current : t.current.peer ≤ 2 ^ 62

pub are_small : (t : RecordForm) → IsRestorable t → AreSmall t
are_small t h =
    let c = h.counts in
    let own_first = c.own_first in
    let own_current = c.own_current in
    let own_acknowledged = c.own_acknowledged in
    let own_signed = c.own_signed in
    let own_last : t.signed.own ≤ 2 ^ 62 = c.own_last in
    let peer_first = c.peer_first in
    let peer_acknowledged = c.peer_acknowledged in
    let peer_signed = c.peer_signed in
    let peer_current = c.peer_current in
    let peer_last : t.current.peer ≤ 2 ^ 62 = c.peer_last in
    let own_count : t.balances.next_own + gone t.balances.next_peer t.peer_live_htlcs ≤ t.first.own =
    h.base.own_count in
    let peer_count : t.balances.next_peer + gone t.balances.next_own t.own_live_htlcs ≤ t.first.peer =
    h.base.peer_count in
    let own_live_htlcs = few_between 0 t.balances.next_own t.own_live_htlcs h.base.own_live in
    let peer_live_htlcs = few_between 0 t.balances.next_peer t.peer_live_htlcs h.base.peer_live in
    let most : t.opening.satoshis ≤ 2100000000000000 = h.funds.funds in
    let all : t.balances.own + in_flight t.own_live_htlcs + (t.balances.peer + in_flight t.peer_live_htlcs)
    ≡ 1000 * t.opening.satoshis = h.base.all_funds in
    record {
      own_first = omega (arith, own_signed, own_last);
      peer_first = omega (arith, peer_current, peer_last);
      own_next = omega (arith, own_count, own_signed, own_last);
      peer_next = omega (arith, peer_count, peer_current, peer_last);
      own_left = omega (arith, all, most);
      peer_left = omega (arith, all, most);
      own_live = omega (arith, own_live_htlcs, own_count, own_signed, own_last);
      peer_live = omega (arith, peer_live_htlcs, peer_count, peer_current, peer_last);
      own_window = omega (arith, own_signed, own_last);
      window = omega (arith, peer_current, peer_last);
      signed = own_last;
      current = peer_last;
    }

-- ---- forms

by_roles_fit : (x : Role) (own peer : ℕ) → own < 2 ^ 64 → peer < 2 ^ 64 → AreSides (by_roles x own peer)
by_roles_fit Funder own peer p q = (p, q)
by_roles_fit Fundee own peer p q = (q, p)

all_live : (side : Role) (adds : List Add) → All IsAdd adds → All IsLive (map (live_of side) adds)
all_live side [] h = tt
all_live side (a ∷ adds) h = (h.0, all_live side adds h.1)

both_live : (x : Role) (own peer : List Add) → All IsAdd own → All IsAdd peer → All IsLive (live_htlcs_of x own peer)
both_live Funder own peer h k =
    all-append IsLive (map (live_of Funder) own) (map (live_of Fundee) peer) (all_live Funder own h)
    (all_live Fundee peer k)
both_live Fundee own peer h k =
    all-append IsLive (map (live_of Funder) peer) (map (live_of Fundee) own) (all_live Funder peer k)
    (all_live Fundee own h)

both_few : (x : Role) (own peer : List Add) → length own ≤ 2 ^ 62 → length peer ≤ 2 ^ 62
    → length (live_htlcs_of x own peer) < 2 ^ 64
both_few Funder own peer h k =
    omega (
      arith,
      length-append (map (live_of Funder) own) (map (live_of Fundee) peer),
      length-map own (live_of Funder),
      length-map peer (live_of Fundee),
      h,
      k,
    )
both_few Fundee own peer h k =
    omega (
      arith,
      length-append (map (live_of Funder) peer) (map (live_of Fundee) own),
      length-map peer (live_of Funder),
      length-map own (live_of Fundee),
      h,
      k,
    )

base_of_fits : (t : RecordForm) → AreSmall t → IsToldWide t → it.base.fits (base_of t) ≡ true
base_of_fits t s w =
    let own_first = s.own_first in
    let peer_first = s.peer_first in
    let own_next = s.own_next in
    let peer_next = s.peer_next in
    base_fits (base_of t)
    (by_roles_fit t.role t.first.own t.first.peer (omega (arith, own_first)) (omega (arith, peer_first)))
    (by_roles_fit t.role t.balances.next_own t.balances.next_peer (omega (arith, own_next)) (omega (arith, peer_next)))
    (by_roles_fit t.role t.balances.own t.balances.peer s.own_left s.peer_left) w.feerate
    (both_few t.role t.own_live_htlcs t.peer_live_htlcs s.own_live s.peer_live)
    (both_live t.role t.own_live_htlcs t.peer_live_htlcs w.own_live_htlcs w.peer_live_htlcs)

window_fits : (r : Role) (own received : List Update) → length own < 2 ^ 64 → length received < 2 ^ 64
    → All IsUpdate own → All IsUpdate received → it.window.fits (window_of r own received) ≡ true
unfolding it.window
window_fits Funder own received a b p q = also (list_fits own a p) (list_fits received b q)
window_fits Fundee own received a b p q = also (list_fits received b q) (list_fits own a p)

pairs_of_fit : (t : RecordForm) → IsRestorable t → AreSmall t → it.pairs.fits (pairs_of t) ≡ true
pairs_of_fit t h s =
    let a = h.counts.own_current in
    let b = h.counts.own_acknowledged in
    let c = h.counts.peer_acknowledged in
    let d = h.counts.peer_signed in
    let m = s.signed in
    let n = s.current in
    pairs_fit (pairs_of t) (omega (arith, m), omega (arith, d, n)) (omega (arith, b, m), omega (arith, c, d, n))
    (omega (arith, a, b, m), omega (arith, n))

pub updates_by_fit : (t : RecordForm) → IsRestorable t → IsToldWide t → it.updates.fits (updates_by t) ≡ true
unfolding it.updates updates_by
updates_by_fit t h w =
    let s = are_small t h in
    let own = s.own_window in
    let received = s.window in
    also (base_of_fits t s w)
    (also (window_fits t.role t.own t.received (omega (arith, own)) (omega (arith, received)) w.own w.received)
    (pairs_of_fit t h s))

-- ---- events

in_window : (based windowed n : ℕ) → based ≤ n → n < based + windowed
    → (nat_le based n && nat_lt n (based + windowed)) ≡ true
in_window based windowed n le lt = also (le-leb based n le) (lt-ltb n (based + windowed) lt)

named : (x : Role) (t : RecordForm) (r : EventRef) → IsAt t.first r
    → IsHeld (t.first.own + length t.own) (t.first.peer + length t.received) r
    → names_an_update x (updates_by (in_role x t)) r ≡ true
unfolding updates_by
named Funder t (ref.Own n) le lt = in_window t.first.own (length t.own) n le lt
named Funder t (ref.Peer n) le lt = in_window t.first.peer (length t.received) n le lt
named Fundee t (ref.Own n) le lt = in_window t.first.own (length t.own) n le lt
named Fundee t (ref.Peer n) le lt = in_window t.first.peer (length t.received) n le lt
named Funder t ref.Close le lt = refl
named Fundee t ref.Close le lt = refl

pub all_named : (t : RecordForm) (rs : List EventRef) → All (IsAt t.first) rs
    → All (IsHeld (t.first.own + length t.own) (t.first.peer + length t.received)) rs
    → list_all (names_an_update t.role (updates_by t)) rs ≡ true
all_named t [] le lt = refl
all_named t (r ∷ rs) le lt = also (named t.role t r le.0 lt.0) (all_named t rs le.1 lt.1)
