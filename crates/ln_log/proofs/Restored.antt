-- That a log that is loaded has what a record tells.
use Rattle.std.proofs.Common.{◌≡◌, ℕ, ◌+◌, ◌-◌, ◌≤◌, List, [], ◌++◌, length, take, drop, refl, sym, ap}
use Rattle.std.proofs.Common.{◌↔◌, ◌∙◌, subst, arith, Bool, append-nil, length-append, length-drop, append_assoc}
use Rattle.std.proofs.lemmas.List.{take_all, length-map, length-take-le}
use Rattle.std.proofs.lemmas.List.Sums.{sum_by-append}
use Rattle.std.proofs.Math.Seq.{take-append_seam}
use Rattle.ln_history.specs.History.{History, begun_with}
use Rattle.ln_keys.specs.declared.role.Role.{Role}
use Rattle.ln_keys.specs.Role.{other_role}
use Rattle.ln_log.specs.declared.opening.Opening.{Opening}
use Rattle.ln_log.specs.declared.loading.Coverage.{Coverage}
use Rattle.ln_log.specs.declared.log.Pair.TheVariants as pair
use Rattle.ln_log.specs.declared.standing.Standing.{Standing}
use Rattle.ln_log.specs.declared.record_form.BaseState.{BaseState}
use Rattle.ln_log.specs.declared.record_form.Origin.{Origin}
use Rattle.ln_log.specs.declared.update.Add.{Add}
use Rattle.ln_log.specs.declared.update.Update.{Update}
use Rattle.ln_log.specs.declared.update.Update.TheVariants as update
use Rattle.ln_log.specs.declared.outcome.Outcome.{Outcome}
use Rattle.ln_log.specs.Opening.{HasFunds, first_balance}
use Rattle.ln_log.specs.Updates.{next_id, share, total}
use Rattle.ln_log.specs.View.{live_adds}
use Rattle.ln_log.specs.Limits.{standing_of, most_updates}
use Rattle.ln_log.specs.Log.{Log, Counts, none, opened, covered, counts_of, after_drop, IsWithin}
use Rattle.ln_log.specs.Window.{Balances, live_htlcs, balances_of, PaysBehind, IsClosed}
use Rattle.ln_log.specs.Kept.{Kept, IsWindowOf, IsKeptInOrder, whole, IsWhole, own_before, peer_before}
use Rattle.ln_log.specs.Loading.{stored, IsLawful, CoverAll, IsReadable}
use Rattle.ln_log.specs.Explained.{MayBeLedTo, led_own, led_peer}
use Rattle.ln_log.specs.RecordForm.{RecordForm, record_form, record_form_of, as_offered, standing_after, StandingFits}
use Rattle.ln_log.specs.RecordForm.{kept_of}
use Rattle.ln_log.specs.RecordForm.{written, AreInPlace, AreLawfulBehind, IsLawfulBehind, IsRestorable, IsAtOpening}
use Rattle.ln_log.proofs.Advancing.{few_ids}
use Rattle.ln_log.proofs.Behind.{live-append}
use Rattle.ln_log.proofs.Leading.{leads}
use Rattle.ln_log.proofs.Readable.{covers_so, signs_all, accepts_all, turned_lawful, bounded, whole_peer}
use Rattle.ln_log.proofs.Retold.{stands_written, tells_written, lawful_behind, rest_is, restorable, same_told}
use Rattle.ln_log.proofs.Retold.{stands_told, told_again}
use Rattle.ln_log.proofs.Whole.{whole_is, is_whole, within_whole, dropped}
use Rattle.ln_log.proofs.Whole.{kept_of as whole_of}
use Rattle.ln_log.proofs.Stands.{own_length, peer_length, same_counts_by}

-- ---- sums

pub total_both : (test : Outcome → Bool) (us vs r : List Update)
    → total test (us ++ vs) r ≡ total test us r + total test vs r
total_both test us vs r = sum_by-append (share test r) us vs

-- ---- what is told

pub in_place : (t : RecordForm) → IsRestorable t → AreInPlace t
in_place t h = record {
  funds = h.funds;
  base = h.base;
  counts = h.counts;
  own_ids = h.own_ids;
  peer_ids = h.peer_ids;
  own_amounts = h.own_amounts;
  peer_amounts = h.peer_amounts;
}

pub restorable_by : (t : RecordForm) → AreInPlace t
    → IsLawfulBehind t t.signed × IsLawfulBehind t t.acknowledged × IsLawfulBehind t t.current → IsRestorable t
restorable_by t h v = record {
  funds = h.funds;
  base = h.base;
  counts = h.counts;
  own_ids = h.own_ids;
  peer_ids = h.peer_ids;
  own_amounts = h.own_amounts;
  peer_amounts = h.peer_amounts;
  signed = v.0;
  acknowledged = v.1;
  current = v.2;
}

pub led_so : (o : Opening) (x : Role) (c : Counts) (w : Balances) (a b e f : List Add) → a ≡ e → b ≡ f
    → MayBeLedTo o x c w a b → MayBeLedTo o x c w e f
led_so o x c w a b e f ea eb h =
    subst (λ y. MayBeLedTo o x c w y f) ea (subst (MayBeLedTo o x c w a) eb h)

pub lawful_so : (w : Balances) (lo os lp ps los lps : List Update) → lo ≡ los → lp ≡ lps
    → AreLawfulBehind w lo os lp ps → AreLawfulBehind w los os lps ps
lawful_so w lo os lp ps los lps eo ep h =
    subst (λ x. AreLawfulBehind w x os lps ps) eo (subst (λ x. AreLawfulBehind w lo os x ps) ep h)

-- ---- how each side stands

pub live_both : (live_htlcs own peer r : List Update) → r ≡ peer
    → length (live_adds live_htlcs r) + length (live_adds own r) ≡ length (live_adds (live_htlcs ++ own) peer)
live_both live_htlcs own peer r e =
    sym (length-append (live_adds live_htlcs r) (live_adds own r)) ∙ sym (ap length (live-append live_htlcs own r))
    ∙ ap (λ x. length (live_adds (live_htlcs ++ own) x)) e

few_all : (us : List Update) → next_id us ≤ length us
few_all us = subst (λ x. next_id x ≤ length us) (take_all (length us) us (omega arith)) (few_ids (length us) us)

fits_of : (o : Opening) (x : Role) (own peer : List Update) (next b : ℕ) (lo os lp ps : List Update) → HasFunds o
    → IsLawful o x (record { own = own; peer = peer }) → length own ≤ most_updates
    → standing_after next b lo os lp ps ≡ standing_of (first_balance o x) own peer → PaysBehind b lo os lp ps
    → StandingFits next b lo os lp ps
fits_of o x own peer next b lo os lp ps funds v few e paid =
    let sum = bounded o x own peer funds v in
    record {
      next_id = omega (arith, ap (λ s. s.next_id) e, few_all own, few);
      paid = paid;
      in_flight = omega (arith, ap (λ s. s.in_flight) e, sum);
      balance = omega (arith, ap (λ s. s.balance) e, sum);
    }

lawful_at : (t : RecordForm) (c : Counts) → IsRestorable t → t.first.own ≤ c.own → t.first.peer ≤ c.peer
    → IsLawful t.opening t.role (covered (written t) c) → IsLawfulBehind t c
lawful_at t c h own peer v =
    let b = tells_written t h in
    let r = (stands_written t h).1 in
    subst (λ y. IsLawfulBehind y c) (sym b.1)
    (lawful_behind (written t) t.first c b.0.closed r.lists.own_offered.ids r.lists.peer_offered.ids own peer v)

rest_of : (n m : ℕ) (us : List Update) → n ≡ m + length us → take (n - m) us ≡ us
rest_of n m us e = take_all (n - m) us (omega (arith, e))

pub own_fits : (t : RecordForm) → IsRestorable t
    → StandingFits t.balances.next_own t.balances.own (as_offered t.own_live_htlcs) t.own
    (as_offered t.peer_live_htlcs) t.received
own_fits t h =
    let l = written t in
    let s = stands_written t h in
    let all = s.1.lists.covered_all in
    let c = h.counts in
    let f = first_balance t.opening t.role in
    let lo = as_offered t.own_live_htlcs in
    let lp = as_offered t.peer_live_htlcs in
    let length_is : length l.own ≡ t.first.own + length t.own = sym all.own ∙ c.own_signed in
    let v = lawful_at t (counts_of pair.ToSign l) h (omega (arith, length_is))
    (omega (arith, c.peer_current)) (s.1.views pair.ToSign) in
    fits_of t.opening t.role l.own l.received t.balances.next_own t.balances.own lo t.own lp t.received h.funds
    (signs_all l s.1) s.1.lists.own_offered.few
    (s.0.is_kept.own_stands ∙ ap (standing_of f l.own) (whole_peer l all))
    (subst (λ x. PaysBehind t.balances.own lo x lp t.received) (rest_of (length l.own) t.first.own t.own length_is)
    (subst (PaysBehind t.balances.own lo (take (length l.own - t.first.own) t.own) lp)
    (rest_of t.current.peer t.first.peer t.received c.peer_current) v.paid.0))

pub peer_fits : (t : RecordForm) → IsRestorable t
    → StandingFits t.balances.next_peer t.balances.peer (as_offered t.peer_live_htlcs)
    t.received (as_offered t.own_live_htlcs) (take (t.acknowledged.own - t.first.own) t.own)
peer_fits t h =
    let l = written t in
    let s = stands_written t h in
    let all = s.1.lists.covered_all in
    let c = h.counts in
    let lo = as_offered t.own_live_htlcs in
    let lp = as_offered t.peer_live_htlcs in
    let cut = take (t.acknowledged.own - t.first.own) t.own in
    let length_is : length l.received ≡ t.first.peer + length t.received = sym all.peer ∙ c.peer_current in
    let v = lawful_at t (counts_of pair.ToAccept l) h (omega (arith, c.own_first, c.own_current))
    (omega (arith, length_is)) (s.1.views pair.ToAccept) in
    fits_of t.opening (other_role t.role) l.received
    (take l.acknowledged.own l.own) t.balances.next_peer t.balances.peer lp
    t.received lo cut h.funds
    (turned_lawful t.opening t.role (other_role t.role) (take l.acknowledged.own l.own) l.received
    (take l.acknowledged.own l.own) l.received refl refl refl (accepts_all l s.1))
    s.1.lists.peer_offered.few s.0.is_kept.peer_stands
    (subst (λ x. PaysBehind t.balances.peer lp x lo cut) (rest_of (length l.received) t.first.peer t.received length_is)
    v.paid.1)

-- from lists and their values
pub fits_so : (lo os lp ps los oss lps pss : List Update) (next b : ℕ) → lo ≡ los → os ≡ oss → lp ≡ lps
    → ps ≡ pss → StandingFits next b los oss lps pss → StandingFits next b lo os lp ps
fits_so lo os lp ps los oss lps pss next b e1 e2 e3 e4 h =
    subst (λ x. StandingFits next b x os lp ps) (sym e1)
    (subst (λ x. StandingFits next b los x lp ps) (sym e2)
    (subst (λ x. StandingFits next b los oss x ps) (sym e3)
    (subst (λ x. StandingFits next b los oss lps x) (sym e4) h)))

pub stands_so : (s : Standing) (lo os lp ps los oss lps pss : List Update) (next b : ℕ)
    → s ≡ standing_after next b lo os lp ps
    → lo ≡ los → os ≡ oss → lp ≡ lps → ps ≡ pss → s ≡ standing_after next b los oss lps pss
stands_so s lo os lp ps los oss lps pss next b e e1 e2 e3 e4 =
    e ∙ ap (λ x. standing_after next b x os lp ps) e1 ∙ ap (λ x. standing_after next b los x lp ps) e2
    ∙ ap (λ x. standing_after next b los oss x ps) e3 ∙ ap (standing_after next b los oss lps) e4

-- ---- what is kept

pub same_kept : (k j : Kept) → k.opening ≡ j.opening → k.role ≡ j.role → k.first ≡ j.first → k.live ≡ j.live
    → k.balances ≡ j.balances → k.own ≡ j.own → k.received ≡ j.received → k.signed ≡ j.signed
    → k.acknowledged ≡ j.acknowledged → k.current ≡ j.current → k.own_standing ≡ j.own_standing
    → k.own_signed ≡ j.own_signed → k.peer_standing ≡ j.peer_standing → k.peer_current ≡ j.peer_current → k ≡ j
same_kept k j e1 e2 e3 e4 e5 e6 e7 e8 e9 e10 e11 e12 e13 e14 = λ i. record {
  opening = e1 i;
  role = e2 i;
  first = e3 i;
  live = e4 i;
  balances = e5 i;
  own = e6 i;
  received = e7 i;
  signed = e8 i;
  acknowledged = e9 i;
  current = e10 i;
  own_standing = e11 i;
  own_signed = e12 i;
  peer_standing = e13 i;
  peer_current = e14 i;
}

-- ---- the log

-- without its live HTLCs what is kept is the updates after the base
behind_live_htlcs : (adds : List Add) (us : List Update) → drop (length adds) (as_offered adds ++ us) ≡ us
behind_live_htlcs adds us = rest_is (length adds) (as_offered adds) us (length-map adds (λ a. update.Add a))

log_with : RecordForm → List Update → List Update → Log
log_with t own received = record {
  opening = t.opening;
  role = t.role;
  own = own;
  received = received;
  first = t.first;
  signed = t.signed;
  acknowledged = t.acknowledged;
  current = t.current;
}

whole_told : (t : RecordForm) (k : Kept) (p q : List Update) → k ≡ kept_of t
    → p ≡ led_own t.opening t.role t.first t.balances t.own_live_htlcs t.peer_live_htlcs ++ []
    → q ≡ led_peer t.opening t.role t.first t.balances t.own_live_htlcs t.peer_live_htlcs ++ []
    → whole k p q ≡ record (written t) { first = t.first }
unfolding log_with
whole_told t k p q ek ep eq =
    let os = led_own t.opening t.role t.first t.balances t.own_live_htlcs t.peer_live_htlcs in
    let rs = led_peer t.opening t.role t.first t.balances t.own_live_htlcs t.peer_live_htlcs in
    ap (λ y. whole y p q) ek
    ∙ ap (λ x. log_with t (x ++ drop (length t.own_live_htlcs) (as_offered t.own_live_htlcs ++ t.own))
    (q ++ drop (length t.peer_live_htlcs) (as_offered t.peer_live_htlcs ++ t.received))) (ep ∙ append-nil os)
    ∙ ap (λ x. log_with t (os ++ x) (q ++ drop (length t.peer_live_htlcs) (as_offered t.peer_live_htlcs ++ t.received)))
    (behind_live_htlcs t.own_live_htlcs t.own)
    ∙ ap (λ x. log_with t (os ++ t.own) (x ++ drop (length t.peer_live_htlcs) (as_offered t.peer_live_htlcs
    ++ t.received)))
    (eq ∙ append-nil rs)
    ∙ ap (λ x. log_with t (os ++ t.own) (rs ++ x)) (behind_live_htlcs t.peer_live_htlcs t.received)

-- the updates that aren't had one by one, where none has left the window
own_begun : (h : History Origin Update) (o : Origin) → h ≡ begun_with o
    → own_before h ≡ led_own o.opening o.role o.base.updates o.base.balances o.base.own.items o.base.peer.items ++ []
own_begun h o e = ap own_before e

peer_begun : (h : History Origin Update) (o : Origin) → h ≡ begun_with o
    → peer_before h ≡ led_peer o.opening o.role o.base.updates o.base.balances o.base.own.items o.base.peer.items ++ []
peer_begun h o e = ap peer_before e

pub loaded_is : (o : Origin) (own received : List Update) (c : Coverage) (k : Kept) (h g : History Origin Update)
    → k ≡ kept_of (record_form o.opening o.role o.base own received c) → h ≡ begun_with o → g ≡ begun_with o
    → whole k (own_before h) (peer_before g)
    ≡ record (written (record_form o.opening o.role o.base own received c)) { first = o.base.updates }
loaded_is o own received c k h g ek eh eg =
    whole_told (record_form o.opening o.role o.base own received c) k (own_before h) (peer_before g) ek
    (own_begun h o eh)
    (peer_begun g o eg)

pub loaded_whole : (o : Origin) (own received : List Update) (c : Coverage) (k : Kept) (h g : History Origin Update)
    → k ≡ kept_of (record_form o.opening o.role o.base own received c) → h ≡ begun_with o → g ≡ begun_with o
    → IsRestorable (record_form o.opening o.role o.base own received c) → IsWhole k (own_before h) (peer_before g)
loaded_whole o own received c k h g ek eh eg r =
    let t = record_form o.opening o.role o.base own received c in
    let b = leads t.opening t.role t.first t.balances t.own_live_htlcs t.peer_live_htlcs r.funds r.base in
    is_whole k (own_before h) (peer_before g) (record (written t) { first = t.first })
    (subst (λ y. IsWindowOf y (written t)) (sym ek) (stands_written t r).0)
    (loaded_is o own received c k h g ek eh eg)
    (ap length (own_begun h o eh ∙ append-nil
    (led_own t.opening t.role t.first t.balances t.own_live_htlcs t.peer_live_htlcs))
    ∙ b.own_count ∙ ap (λ (y : Kept). y.first.own) (sym ek))
    (ap length (peer_begun g o eg ∙ append-nil
    (led_peer t.opening t.role t.first t.balances t.own_live_htlcs t.peer_live_htlcs))
    ∙ b.peer_count ∙ ap (λ (y : Kept). y.first.peer) (sym ek))

-- ---- before any update

first_own : (o : Opening) (x : Role) (b : BaseState) → IsAtOpening o x b
    → led_own o x b.updates b.balances b.own.items b.peer.items ≡ []
first_own o x b f =
    ap (λ n. led_own o x n b.balances b.own.items b.peer.items) f.updates
    ∙ ap (λ w. led_own o x none w b.own.items b.peer.items) f.balances
    ∙ ap (λ a. led_own o x none (balances_of o x [] []) a b.peer.items) f.own
    ∙ ap (led_own o x none (balances_of o x [] []) []) f.peer

first_peer : (o : Opening) (x : Role) (b : BaseState) → IsAtOpening o x b
    → led_peer o x b.updates b.balances b.own.items b.peer.items ≡ []
first_peer o x b f =
    ap (λ n. led_peer o x n b.balances b.own.items b.peer.items) f.updates
    ∙ ap (λ w. led_peer o x none w b.own.items b.peer.items) f.balances
    ∙ ap (λ a. led_peer o x none (balances_of o x [] []) a b.peer.items) f.own
    ∙ ap (led_peer o x none (balances_of o x [] []) []) f.peer

own_none : (o : Origin) (h : History Origin Update) → IsAtOpening o.opening o.role o.base → h ≡ begun_with o
    → own_before h ≡ []
own_none o h f e = own_begun h o e
    ∙ append-nil (led_own o.opening o.role o.base.updates o.base.balances o.base.own.items
    o.base.peer.items) ∙ first_own o.opening o.role o.base f

peer_none : (o : Origin) (h : History Origin Update) → IsAtOpening o.opening o.role o.base → h ≡ begun_with o
    → peer_before h ≡ []
peer_none o h f e = peer_begun h o e ∙ append-nil (led_peer o.opening o.role o.base.updates o.base.balances
    o.base.own.items o.base.peer.items) ∙ first_peer o.opening o.role o.base f

pub new_is : (o : Origin) (k : Kept) (h g : History Origin Update) → IsAtOpening o.opening o.role o.base
    → IsWindowOf k (opened o.opening o.role) → k.first ≡ none → h ≡ begun_with o → g ≡ begun_with o
    → whole k (own_before h) (peer_before g) ≡ opened o.opening o.role
new_is o k h g f s ef eh eg =
    whole_is k (own_before h) (peer_before g) (opened o.opening o.role) s ef
    (own_none o h f eh ∙ ap (λ (n : Counts). take n.own []) (sym ef))
    (peer_none o g f eg ∙ ap (λ (n : Counts). take n.peer []) (sym ef))

pub new_whole : (o : Origin) (k : Kept) (h g : History Origin Update) → IsAtOpening o.opening o.role o.base
    → IsWindowOf k (opened o.opening o.role) → k.first ≡ none → h ≡ begun_with o → g ≡ begun_with o
    → IsWhole k (own_before h) (peer_before g)
new_whole o k h g f s ef eh eg =
    is_whole k (own_before h) (peer_before g) (opened o.opening o.role) s (new_is o k h g f s ef eh eg)
    (ap length (own_none o h f eh) ∙ ap (λ (n : Counts). n.own) (sym ef))
    (ap length (peer_none o g f eg) ∙ ap (λ (n : Counts). n.peer) (sym ef))

-- ---- more that has left the window

pub own_grown : (h g : History Origin Update) (us : List Update) → h.start ≡ g.start → h.entries ≡ g.entries ++ us
    → own_before h ≡ own_before g ++ us
own_grown h g us es ee =
    let led = λ (o : Origin). led_own o.opening o.role o.base.updates o.base.balances o.base.own.items
    o.base.peer.items in
    ap (λ o. led o ++ h.entries) es ∙ ap (λ x. led g.start ++ x) ee ∙ sym (append_assoc (led g.start) g.entries us)

pub peer_grown : (h g : History Origin Update) (us : List Update) → h.start ≡ g.start → h.entries ≡ g.entries ++ us
    → peer_before h ≡ peer_before g ++ us
peer_grown h g us es ee =
    let led = λ (o : Origin).
    led_peer o.opening o.role o.base.updates o.base.balances o.base.own.items o.base.peer.items in
    ap (λ o. led o ++ h.entries) es ∙ ap (λ x. led g.start ++ x) ee ∙ sym (append_assoc (led g.start) g.entries us)

-- ---- a record with all updates

log_of : Opening → Role → List Update → List Update → Coverage → Log
log_of o x own received c = stored o x own received c

pub written_whole : (o : Opening) (x : Role) (b : BaseState) (own received : List Update) (c : Coverage)
    → IsAtOpening o x b
    → written (record_form o x b own received c) ≡ stored o x own received c
unfolding log_of
written_whole o x b own received c f =
    ap (λ us. log_of o x (us ++ own) (led_peer o x b.updates b.balances b.own.items b.peer.items ++ received) c)
    (first_own o x b f)
    ∙ ap (λ us. log_of o x own (us ++ received) c) (first_peer o x b f)

told_whole : (o : Opening) (x : Role) (b : BaseState) (own received : List Update) (c : Coverage) → IsAtOpening o x b
    → record_form o x b own received c ≡ record_form_of none (stored o x own received c)
told_whole o x b own received c f = same_told (record_form o x b own received c) (record_form_of none
    (stored o x own received c))
    refl refl f.updates f.balances f.own f.peer refl refl refl refl refl

pub restorable_whole : (o : Opening) (x : Role) (b : BaseState) (own received : List Update) (c : Coverage)
    → IsAtOpening o x b → (IsRestorable (record_form o x b own received c) ↔ IsReadable (stored o x own received c))
restorable_whole o x b own received c f = (
  (λ h. subst IsReadable (written_whole o x b own received c f) (stands_written
      (record_form o x b own received c) h).1),
  (λ r. subst IsRestorable (sym (told_whole o x b own received c f))
      (restorable (stored o x own received c) none r (omega arith) (omega arith) (record {
        own_new = λ id le. refl;
        peer_new = λ id le. refl;
        paid = (omega arith, omega arith);
      }))),
)

-- ---- the past of another log

-- what is kept is determined by the lists and what of them is in the base
window_is : (k j : Kept) (l : Log) → IsWindowOf k l → IsWindowOf j l → k.first ≡ j.first → k ≡ j
window_is k j l s t e =
    let p : Counts → List Update = λ c. take c.own l.own in
    let q : Counts → List Update = λ c. take c.peer l.received in
    same_kept k j (s.opening ∙ sym t.opening) (s.role ∙ sym t.role) e
    (same_counts_by k.live j.live
    (s.live_own ∙ ap (λ c. length (live_htlcs (p c) (q c))) e ∙ sym t.live_own)
    (s.live_peer ∙ ap (λ c. length (live_htlcs (q c) (p c))) e ∙ sym t.live_peer))
    (s.balances ∙ ap (λ c. balances_of l.opening l.role (p c) (q c)) e ∙ sym t.balances)
    (s.own ∙ ap (λ (c : Counts). live_htlcs (p c) (q c) ++ drop c.own l.own) e ∙ sym t.own)
    (s.received ∙ ap (λ (c : Counts). live_htlcs (q c) (p c) ++ drop c.peer l.received) e ∙ sym t.received)
    (s.signed ∙ sym t.signed) (s.acknowledged ∙ sym t.acknowledged) (s.current ∙ sym t.current)
    (s.is_kept.own_stands ∙ sym t.is_kept.own_stands)
    (s.is_kept.own_signed_stands ∙ sym t.is_kept.own_signed_stands)
    (s.is_kept.peer_stands ∙ sym t.is_kept.peer_stands)
    (s.is_kept.peer_current_stands ∙ sym t.is_kept.peer_current_stands)

same_end : (f signed : ℕ) (us vs : List Update) → length (drop f us) ≡ length (drop f (take signed vs)) → f ≤ signed
    → signed ≤ length us → signed ≤ length vs → signed ≡ length us
same_end f signed us vs e le lu lv =
    omega (arith, e, length-drop f us, length-drop f (take signed vs), length-take-le signed vs lv, le, lu)

-- a record tells of lists that signatures cover
whole_covers : (m : Log) → CoverAll m → CoverAll (record m { first = none })
whole_covers m h = record {
  within = record {
    own_current = h.within.own_current;
    own_acknowledged = h.within.own_acknowledged;
    own_signed = h.within.own_signed;
    peer_acknowledged = h.within.peer_acknowledged;
    peer_signed = h.within.peer_signed;
    peer_current = h.within.peer_current;
  };
  own = h.own;
  peer = h.peer;
}

covers_all : (m n : Log) → record_form_of m.first m ≡ record_form_of m.first (after_drop n) → IsWithin m → IsWithin n
    → m.first.own ≤ m.current.own → m.first.peer ≤ m.acknowledged.peer → CoverAll m
covers_all m n e w v own peer =
    let signed : m.signed.own ≡ n.signed.own = ap (λ (t : RecordForm). t.signed.own) e in
    let current : m.current.peer ≡ n.current.peer = ap (λ (t : RecordForm). t.current.peer) e in
    record {
      within = w;
      own = signed
          ∙ same_end m.first.own n.signed.own m.own n.own (ap (λ (t : RecordForm). length t.own) e)
          (omega (arith, signed, own, w.own_current, w.own_acknowledged)) (omega (arith, signed, w.own_signed))
          v.own_signed;
      peer = current
          ∙ same_end m.first.peer n.current.peer m.received n.received (ap (λ (t : RecordForm). length t.received) e)
          (omega (arith, current, peer, w.peer_acknowledged, w.peer_signed)) (omega (arith, current, w.peer_current))
          v.peer_current;
    }

pub record TakesPast (k j : Kept) (ps qs us vs : List Update) (m n : Log) : Type 0 where
  pub view : whole k ps qs ≡ m
  pub window : IsWhole k ps qs
  pub order : IsKeptInOrder k
  pub other_view : whole j us vs ≡ n
  pub other_window : IsWhole j us vs
  pub other_order : IsKeptInOrder j
  pub first : m.first ≡ n.first
  pub record_is : record_form_of m.first m ≡ record_form_of m.first (after_drop n)

taken_window : (k j : Kept) (ps qs us vs : List Update) (m n : Log) → TakesPast k j ps qs us vs m n
    → IsWindowOf k (record (after_drop n) { first = none })
taken_window k j ps qs us vs m n h =
    let s = whole_of k ps qs m m h.view h.window refl in
    let t = whole_of j us vs n n h.other_view h.other_window refl in
    let fk : k.first ≡ m.first = ap (λ (y : Log). y.first) h.view in
    let fj : j.first ≡ m.first = ap (λ (y : Log). y.first) h.other_view ∙ sym h.first in
    let m0 = record m { first = none } in
    let n0 = record n { first = none } in
    let own = subst (λ (c : Counts). c.own ≤ m.current.own) fk s.first_own in
    let peer = subst (λ (c : Counts). c.peer ≤ m.acknowledged.peer) fk s.first_peer in
    let r = covers_so m0 _ _ _ _ s.is_kept
    (whole_covers m (covers_all m n h.record_is (within_whole m s.is_kept.within) (within_whole n t.is_kept.within) own
    peer))
    (omega (arith, own_length k m0 s, h.order.own_last)) (omega (arith, peer_length k m0 s, h.order.peer_last)) in
    let closed = subst (λ (c : Counts). IsClosed m.opening m.role (take c.own m.own) (take c.peer m.received)) fk
    s.closed in
    let told_here = stands_told m0 m.first r refl own peer closed in
    let e : k ≡ kept_of (record_form_of m.first m0) = window_is k (kept_of
    (record_form_of m.first m0)) m0 s told_here fk in
    let there = told_again n0 _ _ _ _ m.first t.is_kept refl
    (omega (arith, own_length j n0 t, h.other_order.own_last))
    (omega (arith, peer_length j n0 t, h.other_order.peer_last))
    (subst (λ (c : Counts). c.own ≤ n.current.own) fj t.first_own)
    (subst (λ (c : Counts). c.peer ≤ n.acknowledged.peer) fj t.first_peer)
    (subst (λ (c : Counts). IsClosed n.opening n.role (take c.own n.own) (take c.peer n.received)) fj t.closed) in
    subst (λ y. IsWindowOf y (after_drop n0)) (sym (e ∙ ap kept_of h.record_is)) there.1

whole_first : (j : Kept) (us vs : List Update) (n : Log) → whole j us vs ≡ n → IsWhole j us vs
    → (us ≡ take j.first.own n.own) × (vs ≡ take j.first.peer n.received)
whole_first j us vs n v h = (
  sym (take-append_seam us (drop j.live.own j.own))
      ∙ ap (λ k. take k (us ++ drop j.live.own j.own)) h.own_count ∙ ap (λ (y : Log). take j.first.own y.own) v,
  sym (take-append_seam vs (drop j.live.peer j.received))
      ∙ ap (λ k. take k (vs ++ drop j.live.peer j.received)) h.peer_count
      ∙ ap (λ (y : Log). take j.first.peer y.received) v,
)

past_taken : (k j : Kept) (ps qs us vs : List Update) (m n : Log) → TakesPast k j ps qs us vs m n
    → whole k us vs ≡ after_drop n
past_taken k j ps qs us vs m n h =
    let fk : k.first ≡ n.first = ap (λ (y : Log). y.first) h.view ∙ h.first in
    let fj : j.first ≡ k.first = ap (λ (y : Log). y.first) h.other_view ∙ sym fk in
    let b = dropped j us vs n h.other_view h.other_window in
    let w = whole_first j us vs n h.other_view h.other_window in
    whole_is k us vs (after_drop n) (taken_window k j ps qs us vs m n h) fk
    (w.0 ∙ ap (λ (c : Counts). take c.own n.own) (fj ∙ fk) ∙ sym b.own
    ∙ ap (λ (c : Counts). take c.own (take n.signed.own n.own)) (sym fk))
    (w.1 ∙ ap (λ (c : Counts). take c.peer n.received) (fj ∙ fk) ∙ sym b.received
    ∙ ap (λ (c : Counts). take c.peer (take n.current.peer n.received)) (sym fk))

past_whole : (k j : Kept) (ps qs us vs : List Update) (m n : Log) → TakesPast k j ps qs us vs m n
    → IsWhole k us vs
past_whole k j ps qs us vs m n h =
    let fk : k.first ≡ n.first = ap (λ (y : Log). y.first) h.view ∙ h.first in
    let fj : j.first ≡ k.first = ap (λ (y : Log). y.first) h.other_view ∙ sym fk in
    is_whole k us vs (after_drop n) (taken_window k j ps qs us vs m n h) (past_taken k j ps qs us vs m n h)
    (h.other_window.own_count ∙ ap (λ (c : Counts). c.own) fj)
    (h.other_window.peer_count ∙ ap (λ (c : Counts). c.peer) fj)

-- with lists that are the same ones
pub taken_as : (k j : Kept) (ps qs us vs xs ys : List Update) (m n : Log) → TakesPast k j ps qs us vs m n → xs ≡ us
    → ys ≡ vs → (whole k xs ys ≡ after_drop n) × IsWhole k xs ys
taken_as k j ps qs us vs xs ys m n h ex ey =
    subst (λ x. (whole k x ys ≡ after_drop n) × IsWhole k x ys) (sym ex)
    (subst (λ y. (whole k us y ≡ after_drop n) × IsWhole k us y) (sym ey)
    (past_taken k j ps qs us vs m n h, past_whole k j ps qs us vs m n h))

-- ---- what a log tells

pub told_call : (k m : Kept) (l : Log) → k ≡ m → IsWindowOf m l → IsKeptInOrder k
    → IsRestorable (record_form_of m.first (after_drop l))
told_call k m l v s h =
    let t : IsWindowOf k l = subst (λ y. IsWindowOf y l) (sym v) s in
    subst (λ (y : Kept). IsRestorable (record_form_of y.first (after_drop l))) v
    (told_again l _ _ _ _ k.first t.is_kept t.whole (omega (arith, own_length k l t, h.own_last))
    (omega (arith, peer_length k l t, h.peer_last)) t.first_own t.first_peer t.closed).0
