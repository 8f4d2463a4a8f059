-- What a link keeps that was loaded of a record: of the updates that the record doesn't have one by one it has those
-- that are written down for it.
use Rattle.std.proofs.Common.{◌≡◌, ◌∙◌, ◌<◌, ◌≤◌, ◌+◌, ◌-◌, ◌*◌, ◌^◌, ℕ, zero, suc, List, [], ◌∷◌, ◌++◌, length, take}
use Rattle.std.proofs.Common.{drop, refl, sym, ap, subst, arith, length-append, Option}
use Rattle.std.proofs.lemmas.List.{take_all, take-take, length-replicate}
use Rattle.ln_refusals.specs.declared.refusal.Refusal.{Refusal}
use Rattle.ln_keys.specs.declared.role.Role.{Role}
use Rattle.ln_keys.specs.declared.role.Role.TheVariants.{Funder, Fundee}
use Rattle.ln_keys.specs.Role.{other_role}
use Rattle.ln_log.specs.declared.opening.Opening.{Opening}
use Rattle.ln_log.specs.declared.outcome.Outcome.TheVariants.{Live}
use Rattle.ln_log.specs.declared.update.Add.{Add}
use Rattle.ln_log.specs.declared.update.Fee.{Fee}
use Rattle.ln_log.specs.declared.update.Fulfil.{Fulfil}
use Rattle.ln_log.specs.declared.update.Update.{Update}
use Rattle.ln_log.specs.declared.update.Update.TheVariants as update
use Rattle.ln_log.specs.Opening.{HasFunds, first_balance}
use Rattle.ln_log.specs.Updates.{next_id, outcome}
use Rattle.ln_log.specs.View.{live_adds}
use Rattle.ln_log.specs.Log.{Log, Counts, AreNumbered, between, after_drop}
use Rattle.ln_log.specs.Window.{live_htlcs}
use Rattle.ln_log.specs.Explained.{AreBetween, lost, own_fees, peer_fees, zeros, gone_add, gone_adds, left_by}
use Rattle.ln_log.specs.Explained.{all_adds, removals_from, all_removals, fees_to, updates_to, led_own, led_peer}
use Rattle.ln_log.specs.RecordForm.{RecordForm, record_form_of, written, as_offered, IsRestorable}
use Rattle.ln_log.proofs.Behind.{live_in, live_behind}
use Rattle.ln_log.proofs.Leading.{leads}
use Rattle.ln_log.proofs.Removing.{numbered-take}
use Rattle.ln_log.proofs.Retold.{tells_written}
use Rattle.ln_log.proofs.Whole.{grown}
use Rattle.ln_dance.specs.Dance.{with_log}
use Rattle.ln_channel.specs.End.{End, with_dance}
use Rattle.ln_link.specs.Record.{items_of}
use Rattle.ln_link.specs.Loading.{HasRecord, end_of}
use Rattle.ln_link.proofs.Loaded.{read_log, loaded_end}
use Rattle.ln_link.proofs.Told.{restored}
use Rattle.ln_channel_laws.specs.Widths.{IsAdd, IsFulfil, IsUpdate}
use Rattle.ln_channel_laws.proofs.Offered.{All, all-append, all-take, all-drop, Origin, Fits}
use Rattle.ln_link_laws.proofs.Sent.{IsShort}
use Rattle.ln_link_laws.proofs.Few.{Few, dropped}
use Rattle.ln_link_laws.proofs.Kept.{IsOrigin, HasBase, AreClosed, HasMore, with_fewer, base_covered, base_dropped}
use Rattle.ln_link_laws.proofs.ToldForms.{IsToldWide, told_wide, are_small}
use Rattle.ln_link_laws.proofs.Forms.{feerate_below}
use Rattle.ln_link_laws.proofs.Course.{Lasts}

-- ---- updates that are written down

zeros_length : (n : ℕ) → length (zeros n) ≡ n
unfolding zeros
zeros_length n = length-replicate n 0

gone_wide : (id amount : ℕ) → id < 2 ^ 64 → amount < 2 ^ 64 → IsAdd (gone_add id amount)
gone_wide id amount few lt = record {
  id = few;
  amount = lt;
  hash = zeros_length 32;
  expiry = omega arith;
  onion = zeros_length 1366;
  origin = tt;
}

left_below : (n amount : ℕ) → amount < 2 ^ 64 → left_by n amount < 2 ^ 64
left_below zero amount lt = lt
left_below (suc n) amount lt = omega arith

balance_below : (o : Opening) (x : Role) → HasFunds o → first_balance o x < 2 ^ 64
balance_below o Funder h = let f : o.satoshis ≤ 2100000000000000 = h.funds in omega (arith, f)
balance_below o Fundee h =
    let f : o.satoshis ≤ 2100000000000000 = h.funds in
    let p : o.push ≤ 1000 * o.satoshis = h.push in
    omega (arith, f, p)

lost_below : (first : ℕ) (adds : List Add) (left : ℕ) → first < 2 ^ 64 → lost first adds left < 2 ^ 64
lost_below first adds left lt = omega (arith, lt)

-- what holds of HTLCs, fulfils and fees as wide as their types holds of all that is written down
module _ (P : Update → Type 0) (adds : (a : Add) → IsAdd a → P (update.Add a))
    (fulfils : (f : Fulfil) → IsFulfil f → P (update.Fulfil f))
    (fees : (f : Fee) → f.feerate < 2 ^ 32 → P (update.Fee f)) where
  all_gone : (from n amount : ℕ) → from + n < 2 ^ 64 → amount < 2 ^ 64 → All P (gone_adds from n amount)
  all_gone from zero amount few lt = tt
  all_gone from (suc n) amount few lt = (
    adds (gone_add from amount) (gone_wide from amount (omega (arith, few)) lt),
    all_gone (from + 1) n 0 (omega (arith, few)) (omega arith),
  )

  all_offered : (from to amount : ℕ) (kept : List Add) → AreBetween from to kept → to < 2 ^ 64
      → amount < 2 ^ 64 → All IsAdd kept → All P (all_adds from to amount kept)
  all_offered from to amount [] b few lt h = all_gone from (to - from) amount (omega (arith, b, few)) lt
  all_offered from to amount (a ∷ kept) b few lt h =
      let low = b.0 in
      let high = b.1 in
      let more = left_by (a.id - from) amount in
      all-append P (gone_adds from (a.id - from) amount) (update.Add a ∷ all_adds (a.id + 1) to more kept)
      (all_gone from (a.id - from) amount (omega (arith, low, high, few)) lt) (
        adds a h.0,
        all_offered (a.id + 1) to more kept b.2 few (left_below (a.id - from) amount lt) h.1,
      )

  all_removed : (from n : ℕ) → from + n < 2 ^ 64 → All P (removals_from from n)
  all_removed from zero few = tt
  all_removed from (suc n) few = (
    fulfils (record { id = from; preimage = zeros 32 })
        (record { id = omega (arith, few); preimage = zeros_length 32 }),
    all_removed (from + 1) n (omega (arith, few)),
  )

  all_settled : (from to : ℕ) (kept : List Add) → AreBetween from to kept → to < 2 ^ 64
      → All P (all_removals from to kept)
  all_settled from to [] b few = all_removed from (to - from) (omega (arith, b, few))
  all_settled from to (a ∷ kept) b few =
      let low = b.0 in
      let high = b.1 in
      all-append P (removals_from from (a.id - from)) (all_removals (a.id + 1) to kept)
      (all_removed from (a.id - from) (omega (arith, low, high, few))) (all_settled (a.id + 1) to kept b.2 few)

  all_fees : (rate n : ℕ) → rate < 2 ^ 32 → All P (fees_to rate n)
  all_fees rate zero lt = tt
  all_fees rate (suc n) lt = (fees (record { feerate = rate }) lt, all_fees rate n lt)

  all_of : (next gone : ℕ) (own : List Add) (rate n next_peer : ℕ) (peer : List Add) → AreBetween 0 next own
      → AreBetween 0 next_peer peer → next < 2 ^ 64 → next_peer < 2 ^ 64 → gone < 2 ^ 64 → rate < 2 ^ 32
      → All IsAdd own → All P (updates_to next gone own rate n next_peer peer)
  all_of next gone own rate n next_peer peer b c few some lt low h =
      all-append P (all_adds 0 next gone own) (fees_to rate n ++ all_removals 0 next_peer peer)
      (all_offered 0 next gone own b few lt h)
      (all-append P (fees_to rate n) (all_removals 0 next_peer peer) (all_fees rate n low)
      (all_settled 0 next_peer peer c some))

  module _ (t : RecordForm) (h : IsRestorable t) (w : IsToldWide t) where
    own_written : All P t.own → All P (written t).own
    own_written own =
        let own_next = (are_small t h).own_next in
        let peer_next = (are_small t h).peer_next in
        all-append P (led_own t.opening t.role t.first t.balances t.own_live_htlcs t.peer_live_htlcs) t.own
        (all_of t.balances.next_own (lost
        (first_balance t.opening t.role) t.own_live_htlcs t.balances.own) t.own_live_htlcs
        t.balances.feerate (own_fees t.first t.balances t.peer_live_htlcs) t.balances.next_peer t.peer_live_htlcs
        h.base.own_live
        h.base.peer_live (omega (arith, own_next)) (omega (arith, peer_next))
        (lost_below (first_balance t.opening t.role) t.own_live_htlcs t.balances.own
        (balance_below t.opening t.role h.funds)) w.feerate w.own_live_htlcs) own

    peer_written : All P t.received → All P (written t).received
    peer_written received =
        let own_next = (are_small t h).own_next in
        let peer_next = (are_small t h).peer_next in
        all-append P (led_peer t.opening t.role t.first t.balances t.own_live_htlcs t.peer_live_htlcs) t.received
        (all_of t.balances.next_peer (lost (first_balance t.opening
        (other_role t.role)) t.peer_live_htlcs t.balances.peer)
        t.peer_live_htlcs t.balances.feerate
        (peer_fees t.first t.balances t.own_live_htlcs) t.balances.next_own t.own_live_htlcs
        h.base.peer_live h.base.own_live (omega (arith, peer_next)) (omega (arith, own_next))
        (lost_below (first_balance t.opening (other_role t.role)) t.peer_live_htlcs t.balances.peer
        (balance_below t.opening (other_role t.role) h.funds)) w.feerate w.peer_live_htlcs) received

-- ---- how many there are

own_length : (t : RecordForm) → IsRestorable t → length (written t).own ≡ t.signed.own
own_length t h =
    let first = (leads t.opening t.role t.first t.balances t.own_live_htlcs t.peer_live_htlcs h.funds
    h.base).own_count in
    let all = length-append (led_own t.opening t.role t.first t.balances t.own_live_htlcs t.peer_live_htlcs) t.own in
    let signed = h.counts.own_signed in
    omega (arith, first, all, signed)

peer_length : (t : RecordForm) → IsRestorable t → length (written t).received ≡ t.current.peer
peer_length t h =
    let first = (leads t.opening t.role t.first t.balances t.own_live_htlcs t.peer_live_htlcs h.funds
    h.base).peer_count in
    let all = length-append (led_peer t.opening t.role t.first t.balances t.own_live_htlcs
    t.peer_live_htlcs) t.received in
    let current = h.counts.peer_current in
    omega (arith, first, all, current)

-- ---- which HTLCs are live

-- those that are live after the first updates, and the rest
live_htlcs_at : (m n a b : ℕ) (us rs : List Update)
    → ((id : ℕ) → next_id (take m us) ≤ id → outcome id (take n rs) ≡ Live)
    → AreNumbered (next_id (take m us)) (drop m us) → m ≤ a → n ≤ b
    → live_adds (take a us) (take b rs)
    ≡ live_adds (live_htlcs (take m us) (take n rs) ++ between m a us) (between n b rs)
live_htlcs_at m n a b us rs new ids le few =
    let p = take m us in
    let q = take n rs in
    ap (λ vs. live_adds vs (take b rs)) (sym (grown m a p us refl le))
    ∙ ap (live_adds (p ++ between m a us)) (sym (grown n b q rs refl few))
    ∙ live_behind p (between m a us) q (between n b rs)
    (live_in (next_id p) (between m a us) q (numbered-take (next_id p) (a - m) (drop m us) ids) new)

-- of this side's and of the peer's, by what is told
abbrev own_live : RecordForm → ℕ → ℕ → List Add
own_live t a b = live_adds (as_offered t.own_live_htlcs ++ take (a - t.first.own) t.own)
    (take (b - t.first.peer) t.received)

abbrev peer_live : RecordForm → ℕ → ℕ → List Add
peer_live t a b = live_adds (as_offered t.peer_live_htlcs ++ take (b - t.first.peer) t.received)
    (take (a - t.first.own) t.own)

module _ (n : Counts) (l : Log) (closed : AreClosed l n) (h : IsRestorable (record_form_of n l)) (a b : ℕ)
    (le : n.own ≤ a)
    (few : n.peer ≤ b) where
  own_told : live_adds (take a l.own) (take b l.received) ≡ own_live (record_form_of n l) a b
  own_told = live_htlcs_at n.own n.peer a b l.own l.received closed.own_new h.own_ids le few

  peer_told : live_adds (take b l.received) (take a l.own) ≡ peer_live (record_form_of n l) a b
  peer_told = live_htlcs_at n.peer n.own b a l.received l.own closed.peer_new h.peer_ids few le

-- lists of which the same is told have the same live HTLCs
module _ (n : Counts) (l m : Log) (closed : AreClosed l n) (other : AreClosed m n) (h : IsRestorable
    (record_form_of n l))
    (e : record_form_of n l ≡ record_form_of n m) (a b : ℕ) (le : n.own ≤ a) (few : n.peer ≤ b) where
  same_own : live_adds (take a l.own) (take b l.received) ≡ live_adds (take a m.own) (take b m.received)
  same_own =
      own_told n l closed h a b le few ∙ ap (λ (t : RecordForm). own_live t a b) e
      ∙ sym (own_told n m other (subst IsRestorable e h) a b le few)

  same_peer : live_adds (take b l.received) (take a l.own) ≡ live_adds (take b m.received) (take a m.own)
  same_peer =
      peer_told n l closed h a b le few ∙ ap (λ (t : RecordForm). peer_live t a b) e
      ∙ sym (peer_told n m other (subst IsRestorable e h) a b le few)

few_same : (xs ys : List Add) → xs ≡ ys → length ys ≤ 483 → length xs ≤ 483
few_same xs ys e = subst (λ zs. length zs ≤ 483) (sym e)

few_loaded : (l : Log) → HasBase (after_drop l) → IsRestorable (record_form_of l.first (after_drop l))
    → Few (after_drop l)
    → Few (restored (record_form_of l.first (after_drop l)))
few_loaded l base h few =
    let m = after_drop l in
    let n = l.first in
    let t = record_form_of n m in
    let w = restored t in
    let s = l.signed in
    let c = l.current.peer in
    let d = l.acknowledged.own in
    let read = tells_written t h in
    let own_first = h.counts.own_first in
    let own_current = h.counts.own_current in
    let own_acknowledged = h.counts.own_acknowledged in
    let peer_first = h.counts.peer_first in
    let peer_acknowledged = h.counts.peer_acknowledged in
    let peer_signed = h.counts.peer_signed in
    let at_own : n.own ≤ d = omega (arith, own_first, own_current) in
    let at_peer : n.peer ≤ s.peer = omega (arith, peer_first, peer_acknowledged) in
    let all_own : n.own ≤ s.own = omega (arith, at_own, own_acknowledged) in
    let all_peer : n.peer ≤ c = omega (arith, at_peer, peer_signed) in
    let own_count = own_length t h in
    let peer_count = peer_length t h in
    let whole : take s.own w.own ≡ w.own = take_all s.own w.own (omega (arith, own_count)) in
    let whole_peer : take c w.received ≡ w.received = take_all c w.received (omega (arith, peer_count)) in
    let cut : take s.own m.own ≡ m.own = take-take s.own s.own l.own (omega arith) in
    let cut_peer : take c m.received ≡ m.received = take-take c c l.received (omega arith) in
    let closed : AreClosed w n = read.0.closed in
    let same : record_form_of n w ≡ record_form_of n m = sym read.1 in
    let r : IsRestorable (record_form_of n w) = subst IsRestorable read.1 h in
    record {
      own = few_same (live_adds w.own (take c w.received)) (live_adds m.own (take c m.received))
          (ap (λ us. live_adds us (take c w.received)) (sym whole)
          ∙ same_own n w m closed base r same s.own c all_own all_peer
          ∙ ap (λ us. live_adds us (take c m.received)) cut) few.own;
      peer = few_same (live_adds w.received (take d w.own)) (live_adds m.received (take d m.own))
          (ap (λ us. live_adds us (take d w.own)) (sym whole_peer)
          ∙ same_peer n w m closed base r same d c at_own all_peer
          ∙ ap (λ us. live_adds us (take d m.own)) cut_peer) few.peer;
      signed_own = few_same (live_adds (take s.own w.own) (take s.peer w.received))
          (live_adds (take s.own m.own) (take s.peer m.received))
          (same_own n w m closed base r same s.own s.peer all_own at_peer) few.signed_own;
      signed_peer = few_same (live_adds (take s.peer w.received) (take s.own w.own))
          (live_adds (take s.peer m.received) (take s.own m.own))
          (same_peer n w m closed base r same s.own s.peer all_own at_peer) few.signed_peer;
    }

-- ---- all of it

module _ (o : Origin) (e : End) (is : IsOrigin o) (fits : Fits o e) (more : HasMore e)
    (h : IsRestorable (record_form_of e.dance.log.first (after_drop e.dance.log))) where
  rate : e.dance.log.opening.feerate < 2 ^ 32
  rate =
      subst (λ (x : Origin). x.opening.feerate < 2 ^ 32) (sym fits.origin)
      (subst (λ (x : Opening). x.feerate < 2 ^ 32) (sym is.opening) (feerate_below o.open_channel is.open_channel))

  wide : IsToldWide (record_form_of e.dance.log.first (after_drop e.dance.log))
  wide =
      told_wide e.dance.log.first (after_drop e.dance.log) rate
      (all-take IsUpdate e.dance.log.signed.own e.dance.log.own fits.own)
      (all-take IsUpdate e.dance.log.current.peer e.dance.log.received fits.received)

  read_fits : Fits o (with_dance (with_log (read_log e) e.dance) e)
  read_fits =
      let own = own_length (record_form_of e.dance.log.first (after_drop e.dance.log)) h in
      let received = peer_length (record_form_of e.dance.log.first (after_drop e.dance.log)) h in
      let own_last = h.counts.own_last in
      let peer_last = h.counts.peer_last in
      record {
        origin = fits.origin;
        own = own_written IsUpdate (λ a w. w) (λ f w. w) (λ f w. w)
            (record_form_of e.dance.log.first (after_drop e.dance.log)) h wide wide.own;
        own_room = omega (arith, own, own_last);
        received = peer_written IsUpdate (λ a w. w) (λ f w. w) (λ f w. w)
            (record_form_of e.dance.log.first (after_drop e.dance.log)) h wide wide.received;
        received_room = omega (arith, received, peer_last);
        script = fits.script;
        peer_script = fits.peer_script;
        decisions = fits.decisions;
        results = fits.results;
      }

  read_more : HasMore (with_dance (with_log (read_log e) e.dance) e)
  read_more =
      let l = e.dance.log in
      let u = record_form_of l.first (after_drop l) in
      let within = base_covered e more in
      let own = own_length u h in
      let received = peer_length u h in
      record {
        steady = more.steady;
        ordered = with_fewer _ _ _ _ _ _ _ _ _ more.ordered (length (written u).own) (length (written u).received)
            (omega (arith, own)) (omega (arith, received));
        short = own_written IsShort (λ a w. tt) (λ f w. tt) (λ f w. tt) u h wide
            (all-drop IsShort l.first.own (take l.signed.own l.own) (all-take IsShort l.signed.own l.own more.short));
        few = few_loaded l (base_dropped l more.base within.own within.peer) h
            (dropped l.own l.received l.signed l.acknowledged l.current more.few more.ordered.own_acknowledged
            more.ordered.peer_signed);
        base = (tells_written u h).0.closed;
      }

pub loaded_lasts : (failure : Option Refusal) (e : End) → HasRecord failure e → Lasts e
    → Lasts (end_of (items_of failure e))
loaded_lasts failure e r h =
    subst (λ (x : End). Lasts x) (sym (loaded_end failure e r)) (record {
      origin = h.origin;
      is = h.is;
      fits = read_fits h.origin e h.is h.fits h.more r.log;
      more = read_more h.origin e h.is h.fits h.more r.log;
    })
