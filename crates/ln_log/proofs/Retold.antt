-- What a record tells can be loaded exactly where it stands for lists that can.
use Rattle.std.proofs.Common.{◌≡◌, ℕ, ◌+◌, ◌-◌, ◌*◌, ◌≤◌, List, [], ◌∷◌, ◌++◌, length, take, drop, refl, sym, ap}
use Rattle.std.proofs.Common.{◌∙◌, subst, arith, Bool, true, false, cond, Option, Some, length-append, append_assoc}
use Rattle.std.proofs.Common.{append-nil, length-drop, None}
use Rattle.std.proofs.lemmas.List.{take-append-drop, length-map, take-take}
use Rattle.std.proofs.lemmas.List.Sums.{sum_by-cons}
use Rattle.std.proofs.Math.Seq.{take-append_seam, drop-append_seam}
use Rattle.ln_keys.specs.declared.role.Role.{Role}
use Rattle.ln_keys.specs.Role.{other_role}
use Rattle.ln_log.specs.declared.opening.Opening.{Opening}
use Rattle.ln_log.specs.declared.log.Pair.TheVariants as pair
use Rattle.ln_log.specs.declared.log.Side.TheVariants as side
use Rattle.ln_log.specs.declared.standing.Standing.{Standing}
use Rattle.ln_log.specs.declared.update.Add.{Add}
use Rattle.ln_log.specs.declared.update.Removal.{Removal}
use Rattle.ln_log.specs.declared.update.Update.{Update}
use Rattle.ln_log.specs.declared.update.Update.TheVariants as update
use Rattle.ln_log.specs.declared.outcome.Outcome.{Outcome}
use Rattle.ln_log.specs.declared.outcome.Outcome.TheVariants.{Live, Fulfilled, Failed}
use Rattle.ln_log.specs.Opening.{first_balance}
use Rattle.ln_log.specs.Updates.{removed, is_some, next_id, add_with, outcome, is_live}
use Rattle.ln_log.specs.View.{live_adds, balance, Pays}
use Rattle.ln_log.specs.Limits.{standing_of, most_updates}
use Rattle.ln_log.specs.Log.{Log, Counts, none, covered, AreNumbered, RemovesLive, AreRemovals, AreWithin, IsKept}
use Rattle.ln_log.specs.Log.{after_drop}
use Rattle.ln_log.specs.Window.{Balances, live_htlcs, balances_of, IsClosed, GoesOn}
use Rattle.ln_log.specs.Kept.{IsWindowOf, IsKeptInOrder}
use Rattle.ln_log.specs.Loading.{IsLawful, CoverAll, IsReadable}
use Rattle.ln_log.specs.Explained.{LeadTo, led_own, led_peer, in_flight, add_amount}
use Rattle.ln_log.specs.RecordForm.{RecordForm, as_offered, standing_behind, own_told, peer_told, kept_of}
use Rattle.ln_log.specs.RecordForm.{record_form_of, written}
use Rattle.ln_log.specs.RecordForm.{IsLawfulBehind, IsRestorable, HasBalancesAt}
use Rattle.ln_log.proofs.Removing.{or_else, above, untouched, add_with-append, removals-more, removals-drop}
use Rattle.ln_log.proofs.Removing.{numbered-take, numbered-drop}
use Rattle.ln_log.proofs.Kept.{within-drop}
use Rattle.ln_log.proofs.Readable.{all_views, kept_loaded, loads_again}
use Rattle.ln_log.proofs.Totals.{longer}
use Rattle.ln_log.proofs.Behind.{AreLiveIn, live_in, found, outcome_behind, own_live, peer_live, live_behind}
use Rattle.ln_log.proofs.Behind.{balance_is, both_pay, pays_back, next-append}
use Rattle.ln_log.proofs.Fronts.{gone_before, live_before, add_behind}
use Rattle.ln_log.proofs.Stands.{between_is}
use Rattle.ln_log.proofs.Standings.{standing_is}
use Rattle.ln_log.proofs.Advancing.{within-append, live_rest, few_ids}
use Rattle.ln_log.proofs.Viewed.{both_left}
use Rattle.ln_log.proofs.Explained.{flies_all, is_led}
use Rattle.ln_log.proofs.Written.{removals-append, numbered-append}
use Rattle.ln_log.proofs.Leading.{leads}

-- ---- removals after a base

-- what p removes of q is found neither among its live HTLCs nor after it
dead_none : (id : ℕ) (p q v : List Update) → AreNumbered (next_id q) v
    → ((i : ℕ) → next_id q ≤ i → outcome i p ≡ Live) → is_live (outcome id p) ≡ false
    → is_some (add_with id (live_htlcs q p ++ v)) ≡ false
dead_none id p q v ids new e = ap is_some (add_with-append id (live_htlcs q p) v
    ∙ ap (λ x. or_else x (add_with id v)) (found id q p ∙ ap (λ b. cond b (add_with id q) None) e)
    ∙ gone_before id p q v ids new e)

still_live : (o : Outcome) (found : Bool) → (is_live o ≡ false → found ≡ false) → found ≡ true → o ≡ Live
still_live Live f h e = refl
still_live Fulfilled f h e = absurd (let no : false ≡ true = sym (h refl) ∙ e in cc)
still_live Failed f h e = absurd (let no : false ≡ true = sym (h refl) ∙ e in cc)

-- a removal of a live HTLC, or of one offered since, is one by whole lists
whole_one : (p q v before : List Update) (r : Option Removal) → AreNumbered (next_id q) v
    → ((i : ℕ) → next_id q ≤ i → outcome i p ≡ Live) → RemovesLive (live_htlcs q p ++ v) before r
    → RemovesLive (q ++ v) (p ++ before) r
whole_one p q v before None ids new h = tt
whole_one p q v before (Some r) ids new h =
    let live : outcome r.id p ≡ Live = still_live (outcome r.id p) (is_some (add_with r.id (live_htlcs q p ++ v)))
    (dead_none r.id p q v ids new) h.0 in (
      ap is_some (sym (add_behind r.id q v p live)) ∙ h.0,
      outcome_behind r.id p before live ∙ h.1,
    )

whole_removals : (p q v before us : List Update) → AreNumbered (next_id q) v
    → ((i : ℕ) → next_id q ≤ i → outcome i p ≡ Live) → AreRemovals (live_htlcs q p ++ v) before us
    → AreRemovals (q ++ v) (p ++ before) us
whole_removals p q v before [] ids new h = tt
whole_removals p q v before (u ∷ us) ids new h = (
  whole_one p q v before (removed u) ids new h.0,
  subst (λ b. AreRemovals (q ++ v) b us) (sym (append_assoc p before (u ∷ [])))
      (whole_removals p q v (before ++ u ∷ []) us ids new h.1),
)

-- and the other way round
back_one : (p q v before : List Update) (r : Option Removal) → RemovesLive (q ++ v) (p ++ before) r
    → RemovesLive (live_htlcs q p ++ v) before r
back_one p q v before None h = tt
back_one p q v before (Some r) h =
    let live : outcome r.id p ≡ Live = live_before r.id p before h.1 in (
      ap is_some (add_behind r.id q v p live) ∙ h.0,
      sym (outcome_behind r.id p before live) ∙ h.1,
    )

back_removals : (p q v before us : List Update) → AreRemovals (q ++ v) (p ++ before) us
    → AreRemovals (live_htlcs q p ++ v) before us
back_removals p q v before [] h = tt
back_removals p q v before (u ∷ us) h = (
  back_one p q v before (removed u) h.0,
  back_removals p q v (before ++ u ∷ []) us
      (subst (λ b. AreRemovals (q ++ v) b us) (append_assoc p before (u ∷ [])) h.1),
)

-- of all updates those after a base
removals_behind : (p w q v : List Update) → AreRemovals (q ++ v) [] (p ++ w) → AreRemovals (live_htlcs q p ++ v) [] w
removals_behind p w q v h = back_removals p q v [] w
    (subst (λ b. AreRemovals (q ++ v) b w) (take-append_seam p w ∙ sym (append-nil p))
    (subst (AreRemovals (q ++ v) (take (length p) (p ++ w))) (drop-append_seam p w)
    (removals-drop (q ++ v) [] (p ++ w) (length p) h)))

all_removals : (p w q v : List Update) → AreNumbered (next_id q) v → ((i : ℕ) → next_id q ≤ i → outcome i p ≡ Live)
    → AreRemovals q [] p → AreRemovals (live_htlcs q p ++ v) [] w → AreRemovals (q ++ v) [] (p ++ w)
all_removals p w q v ids new h k = removals-append (q ++ v) [] p w (removals-more q v [] p h)
    (subst (λ b. AreRemovals (q ++ v) b w) (append-nil p) (whole_removals p q v [] w ids new k))

-- ---- how a side stands

pub stands_behind : (f : ℕ) (p w q v : List Update) → AreLiveIn w q → AreLiveIn v p → Pays f p q
    → standing_behind (next_id p) (balance f p q) (live_adds p q) w (live_adds q p) v ≡ standing_of f (p ++ w) (q ++ v)
stands_behind f p w q v new back pays =
    let live = live_behind p w q v new in
    standing_is (standing_behind (next_id p) (balance f p q) (live_adds p q) w (live_adds q p) v)
    (standing_of f (p ++ w) (q ++ v)) (sym (next-append p w)) (ap length (sym live))
    (sym (flies_all (live_htlcs p q ++ w) v) ∙ ap in_flight (sym live) ∙ flies_all (p ++ w) (q ++ v))
    (sym (balance_is f p w q v new back pays))

-- ---- what a record tells of whole lists

front_part : (m n : ℕ) (us : List Update) → m ≤ n → take n us ≡ take m us ++ take (n - m) (drop m us)
front_part m n us le = longer m n us le ∙ ap (λ x. take m us ++ x) (sym (between_is m n us le))

whole_length : (n : ℕ) (us : List Update) → length us ≡ length (take n us) + length (drop n us)
whole_length n us = ap length (sym (take-append-drop n us)) ∙ length-append (take n us) (drop n us)

numbered_all : (n : ℕ) (us : List Update) → AreNumbered 0 (take n us) → AreNumbered (next_id (take n us)) (drop n us)
    → AreNumbered 0 us
numbered_all n us h g = subst (AreNumbered 0) (take-append-drop n us)
    (numbered-append 0 (take n us) (drop n us) h (subst (λ k. AreNumbered k (drop n us)) (omega arith) g))

numbered_rest : (n : ℕ) (us : List Update) → AreNumbered 0 us → AreNumbered (next_id (take n us)) (drop n us)
numbered_rest n us h = subst (λ k. AreNumbered k (drop n us)) (omega arith) (numbered-drop 0 n us h)

within_all : (most n : ℕ) (us : List Update) → AreWithin most (take n us) → AreWithin most (drop n us)
    → AreWithin most us
within_all most n us h g = subst (AreWithin most) (take-append-drop n us)
    (within-append most (take n us) (drop n us) h g)

abbrev pub LeadsTo : Counts → Log → Type 0
LeadsTo n l = LeadTo l.opening l.role n (record_form_of n l).balances (record_form_of n l).own_live_htlcs
    (record_form_of n l).peer_live_htlcs
    (take n.own l.own) (take n.peer l.received)

same_covered : (l : Log) (n c : Counts) → n.own ≤ c.own → n.peer ≤ c.peer → record {
  own = take n.own l.own ++ take (c.own - n.own) (drop n.own l.own);
  peer = take n.peer l.received ++ take (c.peer - n.peer) (drop n.peer l.received);
} ≡ covered l c
same_covered l n c own peer =
    ap (λ x. record { own = x; peer = take n.peer l.received ++ take (c.peer - n.peer) (drop n.peer l.received) })
    (sym (front_part n.own c.own l.own own))
    ∙ ap (λ x. record { own = take c.own l.own; peer = x }) (sym (front_part n.peer c.peer l.received peer))

goes_behind : (l : Log) (n c : Counts) → IsClosed l.opening l.role (take n.own l.own) (take n.peer l.received)
    → AreNumbered (next_id (take n.own l.own)) (drop n.own l.own)
    → AreNumbered (next_id (take n.peer l.received)) (drop n.peer l.received)
    → GoesOn l.opening l.role (take n.own l.own) (take (c.own - n.own) (drop n.own l.own)) (take n.peer l.received)
    (take (c.peer - n.peer) (drop n.peer l.received))
goes_behind l n c closed own peer = record {
  base = closed;
  own_ids = numbered-take (next_id (take n.own l.own)) (c.own - n.own) (drop n.own l.own) own;
  peer_ids = numbered-take (next_id (take n.peer l.received)) (c.peer - n.peer) (drop n.peer l.received) peer;
}

-- a view after the base is lawful, and so it is by whole lists
lawful_whole : (l : Log) (n c : Counts) → IsRestorable (record_form_of n l) → LeadsTo n l → n.own ≤ c.own
    → n.peer ≤ c.peer
    → IsLawfulBehind (record_form_of n l) c → IsLawful l.opening l.role (covered l c)
lawful_whole l n c h b own peer v =
    let p = take n.own l.own in
    let q = take n.peer l.received in
    let w = take (c.own - n.own) (drop n.own l.own) in
    let z = take (c.peer - n.peer) (drop n.peer l.received) in
    let g = goes_behind l n c b.closed h.own_ids h.peer_ids in
    subst (IsLawful l.opening l.role) (same_covered l n c own peer) (record {
      own_removals = all_removals p w q z g.peer_ids b.closed.peer_new b.own_removals v.own_removals;
      peer_removals = all_removals q z p w g.own_ids b.closed.own_new b.peer_removals v.peer_removals;
      paid = both_pay l.opening l.role p w q z g v.paid;
    })

pub lawful_behind : (l : Log) (n c : Counts) → IsClosed l.opening l.role (take n.own l.own) (take n.peer l.received)
    → AreNumbered 0 l.own → AreNumbered 0 l.received → n.own ≤ c.own → n.peer ≤ c.peer
    → IsLawful l.opening l.role (covered l c) → IsLawfulBehind (record_form_of n l) c
lawful_behind l n c closed own_ids peer_ids own peer v =
    let p = take n.own l.own in
    let q = take n.peer l.received in
    let w = take (c.own - n.own) (drop n.own l.own) in
    let z = take (c.peer - n.peer) (drop n.peer l.received) in
    let g = goes_behind l n c closed (numbered_rest n.own l.own own_ids) (numbered_rest n.peer l.received peer_ids) in
    let u = subst (IsLawful l.opening l.role) (sym (same_covered l n c own peer)) v in
    let new = own_live l.opening l.role p w q z g in
    let back = peer_live l.opening l.role p w q z g in
    record {
      own_removals = removals_behind p w q z u.own_removals;
      peer_removals = removals_behind q z p w u.peer_removals;
      paid = (
        pays_back (first_balance l.opening l.role) p w q z new back closed.paid.0 u.paid.0,
        pays_back (first_balance l.opening (other_role l.role)) q z p w back new closed.paid.1 u.paid.1,
      );
    }

-- what a log can be restored from tells of readable lists
readable : (l : Log) (n : Counts) → IsRestorable (record_form_of n l) → LeadsTo n l → IsReadable l
readable l n h b =
    let c = h.counts in
    let most = 1000 * l.opening.satoshis in
    let own : length l.own ≡ l.signed.own = omega (arith, whole_length n.own l.own, b.own_count, c.own_signed) in
    let peer : length l.received ≡ l.current.peer =
    omega (arith, whole_length n.peer l.received, b.peer_count, c.peer_current) in
    let cover : CoverAll l = record {
      within = record {
        own_current = c.own_current;
        own_acknowledged = c.own_acknowledged;
        own_signed = omega (arith, own);
        peer_acknowledged = c.peer_acknowledged;
        peer_signed = c.peer_signed;
        peer_current = omega (arith, peer);
      };
      own = sym own;
      peer = sym peer;
    } in
    record {
      lists = record {
        funds = h.funds;
        covered_all = cover;
        own_offered = record {
          few = omega (arith, own, c.own_last);
          ids = numbered_all n.own l.own b.own_ids h.own_ids;
          amounts = within_all most n.own l.own b.own_amounts h.own_amounts;
        };
        peer_offered = record {
          few = omega (arith, peer, c.peer_last);
          ids = numbered_all n.peer l.received b.peer_ids h.peer_ids;
          amounts = within_all most n.peer l.received b.peer_amounts h.peer_amounts;
        };
      };
      views = all_views l cover
          (lawful_whole l n l.signed h b (omega (arith, c.own_first, c.own_current, c.own_acknowledged))
          (omega (arith, c.peer_first, c.peer_acknowledged)) h.signed)
          (lawful_whole l n l.acknowledged h b (omega (arith, c.own_first, c.own_current)) c.peer_first h.acknowledged)
          (lawful_whole l n l.current h b c.own_first
          (omega (arith, c.peer_first, c.peer_acknowledged, c.peer_signed)) h.current);
    }

kept_so : (l : Log) → IsReadable l → IsKept l (standing_of (first_balance l.opening l.role) l.own l.received)
    (standing_of (first_balance l.opening l.role) l.own l.received)
    (standing_of (first_balance l.opening (other_role l.role)) l.received (take l.acknowledged.own l.own))
    (standing_of (first_balance l.opening (other_role l.role)) l.received (take l.acknowledged.own l.own))
kept_so l r = kept_loaded l (standing_of (first_balance l.opening l.role) l.own l.received)
    (standing_of (first_balance l.opening (other_role l.role)) l.received (take l.acknowledged.own l.own)) r refl refl

-- from what a record tells of readable lists with a base a log can be restored
pub restorable : (l : Log) (n : Counts) → IsReadable l → n.own ≤ l.current.own → n.peer ≤ l.acknowledged.peer
    → IsClosed l.opening l.role (take n.own l.own) (take n.peer l.received) → IsRestorable (record_form_of n l)
restorable l n r own peer closed =
    let w = r.lists.covered_all.within in
    let cover = r.lists.covered_all in
    let ids = r.lists.own_offered.ids in
    let got = r.lists.peer_offered.ids in
    record {
      funds = r.lists.funds;
      base = is_led l _ _ _ _ n (kept_so l r) own peer closed;
      counts = record {
        own_first = own;
        own_current = w.own_current;
        own_acknowledged = w.own_acknowledged;
        own_signed = omega (
          arith,
          cover.own,
          length-drop n.own l.own,
          own,
          w.own_current,
          w.own_acknowledged,
          w.own_signed,
        );
        own_last = omega (arith, cover.own, r.lists.own_offered.few);
        peer_first = peer;
        peer_acknowledged = w.peer_acknowledged;
        peer_signed = w.peer_signed;
        peer_current = omega (
          arith,
          cover.peer,
          length-drop n.peer l.received,
          peer,
          w.peer_acknowledged,
          w.peer_signed,
          w.peer_current,
        );
        peer_last = omega (arith, cover.peer, r.lists.peer_offered.few);
      };
      own_ids = numbered_rest n.own l.own ids;
      peer_ids = numbered_rest n.peer l.received got;
      own_amounts = within-drop (1000 * l.opening.satoshis) l.own n.own r.lists.own_offered.amounts;
      peer_amounts = within-drop (1000 * l.opening.satoshis) l.received n.peer r.lists.peer_offered.amounts;
      signed = lawful_behind l n l.signed closed ids got (omega (arith, own, w.own_current, w.own_acknowledged))
          (omega (arith, peer, w.peer_acknowledged)) (r.views pair.Signed);
      acknowledged = lawful_behind l n l.acknowledged closed ids got (omega (arith, own, w.own_current)) peer
          (r.views (pair.Current side.Peer));
      current = lawful_behind l n l.current closed ids got own
          (omega (arith, peer, w.peer_acknowledged, w.peer_signed)) (r.views (pair.Current side.Own));
    }

-- and a log that is loaded stands for them
pub stands_told : (l : Log) (n : Counts) → IsReadable l → l.first ≡ none → n.own ≤ l.current.own
    → n.peer ≤ l.acknowledged.peer → IsClosed l.opening l.role (take n.own l.own) (take n.peer l.received)
    → IsWindowOf (kept_of (record_form_of n l)) l
stands_told l n r whole own peer closed =
    let f = first_balance l.opening l.role in
    let g = first_balance l.opening (other_role l.role) in
    let p = take n.own l.own in
    let q = take n.peer l.received in
    let w = drop n.own l.own in
    let z = drop n.peer l.received in
    let k = l.acknowledged.own - n.own in
    let within = r.lists.covered_all.within in
    let ids = numbered_rest n.own l.own r.lists.own_offered.ids in
    let new = live_in (next_id p) w q ids closed.own_new in
    let cut = live_in (next_id p) (take k w) q (numbered-take (next_id p) k w ids) closed.own_new in
    let back = live_in (next_id q) z p (numbered_rest n.peer l.received r.lists.peer_offered.ids) closed.peer_new in
    record {
      opening = refl;
      role = refl;
      own = refl;
      received = refl;
      live_own = sym (length-map (live_adds p q) (λ a. update.Add a));
      live_peer = sym (length-map (live_adds q p) (λ a. update.Add a));
      balances = refl;
      closed = closed;
      signed = refl;
      acknowledged = refl;
      current = refl;
      first_own = own;
      first_peer = peer;
      whole = whole;
      is_kept = kept_loaded l (own_told (record_form_of n l)) (peer_told (record_form_of n l)) r
          (stands_behind f p w q z new back closed.paid.0
          ∙ ap (λ x. standing_of f x (q ++ z)) (take-append-drop n.own l.own)
          ∙ ap (standing_of f l.own) (take-append-drop n.peer l.received))
          (stands_behind g q z p (take k w) back cut closed.paid.1
          ∙ ap (λ x. standing_of g x (p ++ take k w)) (take-append-drop n.peer l.received)
          ∙ ap (standing_of g l.received)
          (sym (front_part n.own l.acknowledged.own l.own (omega (arith, own, within.own_current)))));
    }

-- ---- what a record tells, whatever it stands for

-- by parts
pub same_told : (t u : RecordForm) → t.opening ≡ u.opening → t.role ≡ u.role → t.first ≡ u.first
    → t.balances ≡ u.balances
    → t.own_live_htlcs ≡ u.own_live_htlcs → t.peer_live_htlcs ≡ u.peer_live_htlcs → t.own ≡ u.own
    → t.received ≡ u.received
    → t.signed ≡ u.signed → t.acknowledged ≡ u.acknowledged → t.current ≡ u.current → t ≡ u
same_told t u e1 e2 e3 e4 e5 e6 e7 e8 e9 e10 e11 = λ i. record {
  opening = e1 i;
  role = e2 i;
  first = e3 i;
  balances = e4 i;
  own_live_htlcs = e5 i;
  peer_live_htlcs = e6 i;
  own = e7 i;
  received = e8 i;
  signed = e9 i;
  acknowledged = e10 i;
  current = e11 i;
}

-- the lists that are written down

pub front_is : (n : ℕ) (p w : List Update) → length p ≡ n → take n (p ++ w) ≡ p
front_is n p w e = ap (λ k. take k (p ++ w)) (sym e) ∙ take-append_seam p w

pub rest_is : (n : ℕ) (p w : List Update) → length p ≡ n → drop n (p ++ w) ≡ w
rest_is n p w e = ap (λ k. drop k (p ++ w)) (sym e) ∙ drop-append_seam p w

leads_so : (o : Opening) (x : Role) (n : Counts) (w : Balances) (lo lp : List Add) (p q os ps : List Update)
    → LeadTo o x n w lo lp p q → p ≡ os → q ≡ ps
    → LeadTo o x n (balances_of o x os ps) (live_adds os ps) (live_adds ps os) os ps
leads_so o x n w lo lp p q os ps h ep eq =
    subst (λ y. LeadTo o x n (balances_of o x os y) (live_adds os y) (live_adds y os) os y) eq
    (subst (λ y. LeadTo o x n (balances_of o x y q) (live_adds y q) (live_adds q y) y q) ep (record {
      own_count = h.own_count;
      peer_count = h.peer_count;
      balances = refl;
      own_live = refl;
      peer_live = refl;
      own_ids = h.own_ids;
      peer_ids = h.peer_ids;
      own_removals = h.own_removals;
      peer_removals = h.peer_removals;
      own_amounts = h.own_amounts;
      peer_amounts = h.peer_amounts;
      closed = h.closed;
    }))

pub tells_written : (t : RecordForm) → IsRestorable t
    → LeadsTo t.first (written t) × (t ≡ record_form_of t.first (written t))
tells_written t h =
    let o = t.opening in
    let x = t.role in
    let p = led_own o x t.first t.balances t.own_live_htlcs t.peer_live_htlcs in
    let q = led_peer o x t.first t.balances t.own_live_htlcs t.peer_live_htlcs in
    let b = leads o x t.first t.balances t.own_live_htlcs t.peer_live_htlcs h.funds h.base in
    let os = sym (front_is t.first.own p t.own b.own_count) in
    let ps = sym (front_is t.first.peer q t.received b.peer_count) in (
      leads_so o x t.first t.balances t.own_live_htlcs t.peer_live_htlcs p q (take t.first.own (p ++ t.own))
          (take t.first.peer (q ++ t.received)) b os ps,
      same_told t (record_form_of t.first (written t)) refl refl refl
          (sym b.balances ∙ ap (λ y. balances_of o x y q) os ∙ ap (balances_of o x (take t.first.own (p ++ t.own))) ps)
          (sym b.own_live ∙ ap (λ y. live_adds y q) os ∙ ap (live_adds (take t.first.own (p ++ t.own))) ps)
          (sym b.peer_live ∙ ap (λ y. live_adds y p) ps ∙ ap (live_adds (take t.first.peer (q ++ t.received))) os)
          (sym (rest_is t.first.own p t.own b.own_count)) (sym (rest_is t.first.peer q t.received b.peer_count)) refl
          refl refl,
    )

pub stands_written : (t : RecordForm) → IsRestorable t → IsWindowOf (kept_of t) (written t) × IsReadable (written t)
stands_written t h =
    let b = tells_written t h in
    let r = readable (written t) t.first (subst IsRestorable b.1 h) b.0 in (
      subst (λ y. IsWindowOf (kept_of y) (written t)) (sym b.1)
          (stands_told (written t) t.first r refl h.counts.own_first h.counts.peer_first b.0.closed),
      r,
    )

-- any lists that it stands for

parts : (xs ys us vs : List Update) → length xs ≡ length ys → xs ++ us ≡ ys ++ vs → (xs ≡ ys) × (us ≡ vs)
parts xs ys us vs el e = (
  sym (take-append_seam xs us) ∙ ap (take (length xs)) e ∙ ap (λ k. take k (ys ++ vs)) el ∙ take-append_seam ys vs,
  sym (drop-append_seam xs us) ∙ ap (drop (length xs)) e ∙ ap (λ k. drop k (ys ++ vs)) el ∙ drop-append_seam ys vs,
)

all_live : (adds : List Add) → live_adds (as_offered adds) [] ≡ adds
all_live [] = refl
all_live (a ∷ adds) = ap (λ x. a ∷ x) (all_live adds)

same_adds : (xs ys : List Add) → as_offered xs ≡ as_offered ys → xs ≡ ys
same_adds xs ys e = sym (all_live xs) ∙ ap (λ us. live_adds us []) e ∙ all_live ys

pub tells_them : (t : RecordForm) (l : Log) → IsWindowOf (kept_of t) l → t ≡ record_form_of t.first l
tells_them t l s =
    let p = take t.first.own l.own in
    let q = take t.first.peer l.received in
    let own = parts (as_offered t.own_live_htlcs) (live_htlcs p q) t.own (drop t.first.own l.own)
    (length-map t.own_live_htlcs (λ a. update.Add a) ∙ s.live_own) s.own in
    let peer = parts (as_offered t.peer_live_htlcs) (live_htlcs q p) t.received (drop t.first.peer l.received)
    (length-map t.peer_live_htlcs (λ a. update.Add a) ∙ s.live_peer) s.received in
    same_told t (record_form_of t.first l) s.opening s.role refl s.balances (same_adds t.own_live_htlcs
    (live_adds p q) own.0)
    (same_adds t.peer_live_htlcs (live_adds q p) peer.0) own.1 peer.1 s.signed s.acknowledged s.current

pub told_restorable : (t : RecordForm) (l : Log) → IsWindowOf (kept_of t) l → IsReadable l → IsRestorable t
told_restorable t l s r =
    subst IsRestorable (sym (tells_them t l s)) (restorable l t.first r s.first_own s.first_peer s.closed)

-- ---- what a log keeps is loaded again

closed_so : (o : Opening) (x : Role) (p q os ps : List Update) → p ≡ os → q ≡ ps → IsClosed o x os ps → IsClosed o x p q
closed_so o x p q os ps ep eq h = subst (λ y. IsClosed o x y q) (sym ep) (subst (IsClosed o x os) (sym eq) h)

pub told_again : (l : Log) (s t u v : Standing) (n : Counts) → IsKept l s t u v → l.first ≡ none
    → length l.own ≤ most_updates → length l.received ≤ most_updates → n.own ≤ l.current.own
    → n.peer ≤ l.acknowledged.peer → IsClosed l.opening l.role (take n.own l.own) (take n.peer l.received)
    → IsRestorable (record_form_of n (after_drop l))
    × IsWindowOf (kept_of (record_form_of n (after_drop l))) (after_drop l)
told_again l s t u v n k whole few few_peer own peer closed =
    let w = k.within in
    let r = loads_again l s t u v k few few_peer in
    let base = closed_so l.opening l.role (take n.own (take l.signed.own l.own))
    (take n.peer (take l.current.peer l.received)) (take n.own l.own) (take n.peer l.received)
    (take-take n.own l.signed.own l.own (omega (arith, own, w.own_current, w.own_acknowledged)))
    (take-take n.peer l.current.peer l.received (omega (arith, peer, w.peer_acknowledged, w.peer_signed))) closed in (
      restorable (after_drop l) n r own peer base,
      stands_told (after_drop l) n r whole own peer base,
    )

-- ---- what the updates are worth

-- no HTLC is removed that isn't offered
none_new : (adds us p w : List Update) → AreNumbered 0 adds → AreRemovals adds [] us → us ≡ p ++ w → (id : ℕ)
    → next_id adds ≤ id → outcome id w ≡ Live
none_new adds us p w ids h e id le = live_rest id p w
    (ap (outcome id) (sym e) ∙ untouched id adds [] us h (above 0 id adds ids (omega (arith, le))))

balances_at : (l : Log) (n c : Counts) → IsReadable l
    → IsClosed l.opening l.role (take n.own l.own) (take n.peer l.received)
    → n.own ≤ c.own → n.peer ≤ c.peer → IsLawful l.opening l.role (covered l c) → HasBalancesAt (record_form_of n l) c
balances_at l n c r closed own peer v =
    let p = take n.own l.own in
    let q = take n.peer l.received in
    let w = take (c.own - n.own) (drop n.own l.own) in
    let z = take (c.peer - n.peer) (drop n.peer l.received) in
    let ids = r.lists.own_offered.ids in
    let got = r.lists.peer_offered.ids in
    let g = goes_behind l n c closed (numbered_rest n.own l.own ids) (numbered_rest n.peer l.received got) in
    let u = subst (IsLawful l.opening l.role) (sym (same_covered l n c own peer)) v in
    let left = both_left l.opening l.role p w q z g r.lists.funds u.paid in
    let own_is : take c.own l.own ≡ p ++ w = front_part n.own c.own l.own own in
    let peer_is : take c.peer l.received ≡ q ++ z = front_part n.peer c.peer l.received peer in
    let own_next : next_id p + next_id w ≡ next_id (take c.own l.own) =
    omega (arith, next-append p w, ap next_id own_is) in
    let peer_next : next_id q + next_id z ≡ next_id (take c.peer l.received) =
    omega (arith, next-append q z, ap next_id peer_is) in
    record {
      next_own = omega (arith, own_next, few_ids c.own l.own, r.lists.own_offered.few);
      next_peer = omega (arith, peer_next, few_ids c.peer l.received, r.lists.peer_offered.few);
      own_new = λ id le. none_new (take c.own l.own) (take c.peer l.received) q z (numbered-take 0 c.own l.own ids)
          v.peer_removals peer_is id (omega (arith, le, own_next));
      peer_new = λ id le. none_new (take c.peer l.received) (take c.own l.own) p w
          (numbered-take 0 c.peer l.received got) v.own_removals own_is id (omega (arith, le, peer_next));
      own_left = left.0;
      peer_left = left.1;
    }

pub has_balances_told : (t : RecordForm) → IsRestorable t
    → HasBalancesAt t t.signed × HasBalancesAt t t.acknowledged × HasBalancesAt t t.current
has_balances_told t h =
    let b = tells_written t h in
    let l = written t in
    let r = (stands_written t h).1 in
    let c = h.counts in (
      subst (λ y. HasBalancesAt y t.signed) (sym b.1) (balances_at l t.first t.signed r b.0.closed
          (omega (arith, c.own_first, c.own_current, c.own_acknowledged))
          (omega (arith, c.peer_first, c.peer_acknowledged)) (r.views pair.Signed)),
      subst (λ y. HasBalancesAt y t.acknowledged) (sym b.1) (balances_at l t.first t.acknowledged r b.0.closed
          (omega (arith, c.own_first, c.own_current)) c.peer_first (r.views (pair.Current side.Peer))),
      subst (λ y. HasBalancesAt y t.current) (sym b.1) (balances_at l t.first t.current r b.0.closed c.own_first
          (omega (arith, c.peer_first, c.peer_acknowledged, c.peer_signed)) (r.views (pair.Current side.Own))),
    )

-- ---- order

-- each of these HTLCs is of no more than all of them
offered_within : (most : ℕ) (adds : List Add) → in_flight adds ≤ most → AreWithin most (as_offered adds)
offered_within most [] h = tt
offered_within most (a ∷ adds) h = (
  omega (arith, h, sum_by-cons add_amount a adds),
  offered_within most adds (omega (arith, h, sum_by-cons add_amount a adds)),
)

count_told : (n : ℕ) (adds : List Add) (us : List Update)
    → n + (length (as_offered adds ++ us) - length adds) ≡ n + length us
count_told n adds us =
    omega (arith, length-append (as_offered adds) us, length-map adds (λ a. update.Add a))

pub in_order : (t : RecordForm) → IsRestorable t → IsKeptInOrder (kept_of t)
in_order t h =
    let c = h.counts in
    let most = 1000 * t.opening.satoshis in
    let own = count_told t.first.own t.own_live_htlcs t.own in
    let peer = count_told t.first.peer t.peer_live_htlcs t.received in
    record {
      funds = h.funds;
      own_first = c.own_first;
      own_current = c.own_current;
      own_acknowledged = c.own_acknowledged;
      own_signed = omega (arith, own, c.own_signed);
      own_last = omega (arith, own, c.own_signed, c.own_last);
      own_live = omega (
        arith,
        length-append (as_offered t.own_live_htlcs) t.own,
        length-map t.own_live_htlcs (λ a. update.Add a),
      );
      peer_first = c.peer_first;
      peer_acknowledged = c.peer_acknowledged;
      peer_signed = c.peer_signed;
      peer_current = omega (arith, peer, c.peer_current);
      peer_last = omega (arith, peer, c.peer_current, c.peer_last);
      peer_live = omega (
        arith,
        length-append (as_offered t.peer_live_htlcs) t.received,
        length-map t.peer_live_htlcs (λ a. update.Add a),
      );
      own_amounts = within-append most (as_offered t.own_live_htlcs) t.own
          (offered_within most t.own_live_htlcs (omega (arith, h.base.all_funds))) h.own_amounts;
      peer_amounts = within-append most (as_offered t.peer_live_htlcs) t.received
          (offered_within most t.peer_live_htlcs (omega (arith, h.base.all_funds))) h.peer_amounts;
    }
