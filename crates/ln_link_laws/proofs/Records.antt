-- Of which readable records a log can be restored.
use Rattle.std.proofs.Common.{◌≡◌, ◌↔◌, ◌∙◌, ◌≤◌, ◌+◌, ◌-◌, ◌*◌, ℕ, zero, suc, List, [], ◌∷◌, ◌++◌}
use Rattle.std.proofs.Common.{take, refl, sym, ap, subst, arith, Bool, true, ◌==◌, ◌&&◌, Option, Some, None}
use Rattle.std.proofs.Common.{Result, Ok, Err}
use Rattle.std.proofs.lemmas.Bool.{and_parts, eqb-true, leb-true}
use Rattle.std.specs.List.{slice_get}
use Rattle.ln_bytes.specs.declared.fault.Fault.{Fault}
use Rattle.ln_msgs.specs.Codec.Field.{Value, Num, Str, Many}
use Rattle.ln_msgs.specs.Messages.Message.{Heard, Known, Ignored, message_at}
use Rattle.ln_keys.specs.declared.role.Role.{Role}
use Rattle.ln_keys.specs.declared.role.Role.TheVariants.{Funder, Fundee}
use Rattle.ln_keys.specs.Role.{other_role}
use Rattle.ln_log.specs.declared.opening.Opening.{Opening}
use Rattle.ln_log.specs.declared.outcome.Outcome.{Outcome}
use Rattle.ln_log.specs.declared.outcome.Outcome.TheVariants.{Live, Fulfilled, Failed}
use Rattle.ln_log.specs.declared.update.Add.{Add}
use Rattle.ln_log.specs.declared.update.Removal.{Removal}
use Rattle.ln_log.specs.declared.update.Update.{Update}
use Rattle.ln_log.specs.Opening.{HasFunds, first_balance}
use Rattle.ln_log.specs.Updates.{offered, removed, add_with, outcome, is_some, is_live, is_failed, is_fulfilled}
use Rattle.ln_log.specs.Log.{HasId, AreNumbered, RemovesLive, AreRemovals, number_after, none}
use Rattle.ln_log.specs.Window.{Balances, PaysBehind}
use Rattle.ln_log.specs.Explained.{AreBetween, in_flight, gone, MayBeLedTo}
use Rattle.ln_log.specs.RecordForm.{as_offered, CountsFit, IsLawfulBehind, IsRestorable}
use Rattle.ln_log.proofs.Totals.{first_sum}
use Rattle.ln_store.specs.declared.record.LiveHtlc.{LiveHtlc}
use Rattle.ln_store.specs.declared.record.Base.{Base}
use Rattle.ln_store.specs.declared.record.Covered.{Covered}
use Rattle.ln_store.specs.declared.record.Items.{Items}
use Rattle.ln_store.specs.declared.record.Sides.{Sides}
use Rattle.ln_store.specs.declared.record.Updates.{Updates}
use Rattle.ln_store.specs.Readable.{has_funds, satoshis_of, is_open, is_open_payload, funding_of, funding_in}
use Rattle.ln_store.specs.Readable.{is_readable}
use Rattle.ln_store.specs.Removals.{is_there, removes_there, are_removals}
use Rattle.ln_store.specs.Sides.{count_of, window_of}
use Rattle.ln_store.specs.Views.{live_htlcs_of, names_one, stand, pays, is_side_lawful, covered_of, is_lawful}
use Rattle.ln_store.specs.Views.{views_fit}
use Rattle.ln_store.specs.Window.{rise, has_id, are_numbered, counts_fit, ids_fit, removals_fit, funds_in, updates_fit}
use Rattle.ln_link.specs.Loading.{as_number, open_of, said, open_in, counts_by, balances_in, live_htlcs_in}
use Rattle.ln_link.specs.Loading.{counts_in, told_in}
use Rattle.ln_link_laws.specs.Records.{opening_in, told_by, HasLog, IsExplained, both_zero, first_base}
use Rattle.ln_link_laws.specs.Records.{IsFromOpening}
use Rattle.ln_link_laws.proofs.LiveHtlcs.{same_live_htlcs, same_total, is_offered, none_live}

-- of tests one after the other each one

three : (a b c : Bool) → (a && b && c) ≡ true → (a ≡ true) × (b ≡ true) × (c ≡ true)
three a b c h =
    let p = and_parts (a && b) c h in
    let q = and_parts a b p.0 in (q.0, q.1, p.1)

four : (a b c d : Bool) → (a && b && c && d) ≡ true → (a ≡ true) × (b ≡ true) × (c ≡ true) × (d ≡ true)
four a b c d h =
    let p = and_parts (a && b && c) d h in
    let q = three a b c p.0 in (q.0, q.1, q.2, p.1)

five : (a b c d e : Bool) → (a && b && c && d && e) ≡ true
    → (a ≡ true) × (b ≡ true) × (c ≡ true) × (d ≡ true) × (e ≡ true)
five a b c d e h =
    let p = and_parts (a && b && c && d) e h in
    let q = four a b c d p.0 in (q.0, q.1, q.2, q.3, p.1)

seven : (a b c d e f g : Bool) → (a && b && c && d && e && f && g) ≡ true
    → (a ≡ true) × (b ≡ true) × (c ≡ true) × (d ≡ true) × (e ≡ true) × (f ≡ true) × (g ≡ true)
seven a b c d e f g h =
    let p = three (a && b && c && d && e) f g h in
    let q = five a b c d e p.0 in (q.0, q.1, q.2, q.3, q.4, p.1, p.2)

-- what holds of both sides holds of each
of_each : (P : Role → Type 0) → P Funder → P Fundee → (x : Role) → P x
of_each P f e Funder = f
of_each P f e Fundee = e

-- ---- funds

value_told : (v : Option Value) → has_funds v ≡ true
    → (satoshis_of v ≡ as_number v) × (1 ≤ as_number v) × (as_number v ≤ 2100000000000000)
value_told (Some (Num n)) h =
    let p = and_parts _ _ h in (refl, leb-true 1 n p.0, leb-true n 2100000000000000 p.1)
value_told (Some (Str bytes)) h = absurd (cc)
value_told (Some (Many items)) h = absurd (cc)
value_told None h = absurd (cc)

heard_told : (r : Result Heard Fault) → is_open r ≡ true
    → (funding_of r ≡ (open_of (said r)).funding_satoshis) × (1 ≤ (open_of (said r)).funding_satoshis)
    × ((open_of (said r)).funding_satoshis ≤ 2100000000000000)
heard_told (Ok (Known w)) h = value_told (slice_get w.values 2) (and_parts _ _ h).1
heard_told (Ok (Ignored typ)) h = absurd (cc)
heard_told (Err f) h = absurd (cc)

-- the funding that a payload tells is that of its opening
funding_told : (payload : List ℕ) → is_open_payload payload ≡ true
    → (funding_in payload ≡ (open_in payload).funding_satoshis) × (1 ≤ (open_in payload).funding_satoshis)
    × ((open_in payload).funding_satoshis ≤ 2100000000000000)
unfolding open_in
funding_told payload h = heard_told (message_at (0 ∷ 32 ∷ payload)) h

-- of a readable record
record IsFunded (o : Opening) (x : Role) (u : Updates) : Type 0 where
  some_funds : 1 ≤ o.satoshis
  funds : o.satoshis ≤ 2100000000000000
  fit : updates_fit x o.satoshis u ≡ true

readable_told : (i : Items) → is_readable i ≡ true → IsFunded (opening_in i) i.header.role i.updates
readable_told i h =
    let s = seven _ _ _ _ _ _ _ (and_parts _ _ h).1 in
    let f = funding_told i.agreement.open_payload s.0 in
    record {
      some_funds = f.1;
      funds = f.2;
      fit = subst (λ n. updates_fit i.header.role n i.updates ≡ true) f.0 s.6;
    }

-- all that its updates have
abbrev AreFit : Role → ℕ → Updates → Type 0
AreFit x satoshis u = (counts_fit x u ≡ true) × (ids_fit Funder u ≡ true) × (ids_fit Fundee u ≡ true)
    × ((funds_in u.base == 1000 * satoshis) ≡ true) × (removals_fit Funder u ≡ true) × (removals_fit Fundee u ≡ true)
    × (views_fit x u ≡ true)

all_fit : (x : Role) (satoshis : ℕ) (u : Updates) → updates_fit x satoshis u ≡ true → AreFit x satoshis u
all_fit x satoshis u h = seven _ _ _ _ _ _ _ h

-- ---- counts

rising : (a b c d : ℕ) → rise a b c d ≡ true → (a ≤ b) × (b ≤ c) × (c ≤ d)
rising a b c d h =
    let p = three _ _ _ h in (leb-true a b p.0, leb-true b c p.1, leb-true c d p.2)

counts_told : (o : Opening) (x : Role) (u : Updates) → counts_fit x u ≡ true → CountsFit (told_in o x u)
counts_told o x u h =
    let p = four _ _ _ _ h in
    let own = rising _ _ _ _ p.0 in
    let peer = rising _ _ _ _ p.1 in
    let own_all = and_parts _ _ p.2 in
    let peer_all = and_parts _ _ p.3 in
    record {
      own_first = own.0;
      own_current = own.1;
      own_acknowledged = own.2;
      own_signed = eqb-true _ _ own_all.0;
      own_last = leb-true _ _ own_all.1;
      peer_first = peer.0;
      peer_acknowledged = peer.1;
      peer_signed = peer.2;
      peer_current = eqb-true _ _ peer_all.0;
      peer_last = leb-true _ _ peer_all.1;
    }

-- ---- ids

has_so : (n : ℕ) (a : Option Add) → has_id n a ≡ true → HasId n a
has_so n None h = tt
has_so n (Some a) h = eqb-true a.id n h

numbered_so : (n : ℕ) (us : List Update) → are_numbered n us ≡ true → AreNumbered n us
numbered_so n [] h = tt
numbered_so n (u ∷ us) h =
    let p = and_parts _ _ h in (has_so n (offered u) p.0, numbered_so (number_after n (offered u)) us p.1)

-- ---- removals

live_is : (o : Outcome) → is_live o ≡ true → o ≡ Live
live_is Live e = refl
live_is Fulfilled e = absurd (cc)
live_is Failed e = absurd (cc)

removes_so : (there held : ℕ → Bool) (adds before : List Update) (r : Option Removal)
    → ((id : ℕ) → held id ≡ true → is_some (add_with id adds) ≡ true) → removes_there there before r ≡ true
    → names_one held r ≡ true → RemovesLive adds before r
removes_so there held adds before None f h k = tt
removes_so there held adds before (Some r) f h k = (f r.id k, live_is (outcome r.id before) (and_parts _ _ h).1)

-- of removals of HTLCs that are there the first ones, in a view that holds the HTLCs that they name
removals_so : (k : ℕ) (there held : ℕ → Bool) (adds before us : List Update)
    → ((id : ℕ) → held id ≡ true → is_some (add_with id adds) ≡ true) → are_removals there before us ≡ true
    → stand held (take k us) ≡ true → AreRemovals adds before (take k us)
removals_so zero there held adds before us f h s = tt
removals_so (suc k) there held adds before [] f h s = tt
removals_so (suc k) there held adds before (u ∷ us) f h s =
    let p = and_parts _ _ h in
    let q = and_parts _ _ s in (
      removes_so there held adds before (removed u) f p.0 q.0,
      removals_so k there held adds (before ++ u ∷ []) us f p.1 q.1,
    )

-- ---- views

paid_so : (side other : Role) (had : ℕ) (live : List LiveHtlc) (own peer : List Update)
    → pays had (live_htlcs_of side live) own (live_htlcs_of other live) peer ≡ true
    → PaysBehind had (as_offered (live_htlcs_in side live)) own (as_offered (live_htlcs_in other live)) peer
paid_so side other had live own peer h =
    let p = leb-true _ _ h in
    let failed = same_total is_failed (as_offered (live_htlcs_in side live)) (live_htlcs_of side live) own peer
    (same_live_htlcs side live) in
    let fulfilled = same_total is_fulfilled (as_offered (live_htlcs_in other live)) (live_htlcs_of other live) peer own
    (same_live_htlcs other live) in
    omega (arith, p, failed, fulfilled)

-- of one side, beside the other one's updates
side_so : (side : Role) (u : Updates) (n : ℕ) (peer : List Update) → removals_fit side u ≡ true
    → is_side_lawful side u.base (covered_of side u n) peer ≡ true
    → AreRemovals (as_offered (live_htlcs_in (other_role side) u.base.live) ++ peer) [] (covered_of side u n)
    × PaysBehind (count_of side u.base.balances) (as_offered (live_htlcs_in side u.base.live)) (covered_of side u n)
    (as_offered (live_htlcs_in (other_role side) u.base.live)) peer
side_so side u n peer h l =
    let other = other_role side in
    let p = and_parts _ _ l in (
      removals_so (n - count_of side u.base.updates) (is_there other u.base.live (window_of other u.window))
          (is_there other u.base.live peer) (as_offered (live_htlcs_in other u.base.live) ++ peer) []
          (window_of side u.window) (is_offered other u.base.live peer) h p.0,
      paid_so side other (count_of side u.base.balances) u.base.live (covered_of side u n) peer p.1,
    )

view_so : (o : Opening) (x : Role) (u : Updates) (c : Covered) → removals_fit Funder u ≡ true
    → removals_fit Fundee u ≡ true → is_lawful x u c ≡ true → IsLawfulBehind (told_in o x u) (counts_in c)
view_so o Funder u c f e l =
    let p = and_parts _ _ l in
    let own = side_so Funder u c.own (covered_of Fundee u c.peer) f p.0 in
    let peer = side_so Fundee u c.peer (covered_of Funder u c.own) e p.1 in
    record { own_removals = own.0; peer_removals = peer.0; paid = (own.1, peer.1) }
view_so o Fundee u c f e l =
    let p = and_parts _ _ l in
    let own = side_so Fundee u c.own (covered_of Funder u c.peer) e p.0 in
    let peer = side_so Funder u c.peer (covered_of Fundee u c.own) f p.1 in
    record { own_removals = own.0; peer_removals = peer.0; paid = (own.1, peer.1) }

-- ---- all of it

restorable : (o : Opening) (x : Role) (u : Updates) → IsFunded o x u → IsExplained (told_in o x u)
    → IsRestorable (told_in o x u)
restorable o x u r h =
    let p = all_fit x o.satoshis u r.fit in
    let ids = of_each (λ y. ids_fit y u ≡ true) p.1 p.2 in
    let own_ids = and_parts _ _ (ids x) in
    let peer_ids = and_parts _ _ (ids (other_role x)) in
    let views = five _ _ _ _ _ p.6 in
    record {
      funds = record { some_funds = r.some_funds; funds = r.funds; push = h.push };
      base = h.base;
      counts = counts_told o x u p.0;
      own_ids = numbered_so (count_of x u.base.next_ids) (window_of x u.window) own_ids.1;
      peer_ids = numbered_so (count_of (other_role x) u.base.next_ids) (window_of (other_role x) u.window) peer_ids.1;
      own_amounts = h.amounts.0;
      peer_amounts = h.amounts.1;
      signed = view_so o x u u.pairs.signed p.4 p.5 views.0;
      acknowledged = view_so o x u u.pairs.acknowledged p.4 p.5 views.1;
      current = view_so o x u u.pairs.current p.4 p.5 views.2;
    }

pub tells_log : (i : Items) → is_readable i ≡ true → (HasLog i ↔ IsExplained (told_by i))
tells_log i r = (
  (λ h. record { push = h.funds.push; base = h.base; amounts = (h.own_amounts, h.peer_amounts) }),
  (λ h. restorable (opening_in i) i.header.role i.updates (readable_told i r) h),
)

-- ---- with no update in the base

none_between : (from to : ℕ) (adds : List Add) → AreBetween from to adds → to ≤ from → adds ≡ []
none_between from to [] h le = refl
none_between from to (a ∷ adds) h le = let p = h.0 in let q = h.1 in absurd (omega (arith, p, q, le))

-- no update leads to what the opening is worth alone
record AreOpeningBalances (o : Opening) (x : Role) (w : Balances) (own peer : List Add) : Type 0 where
  next_own : w.next_own ≡ 0
  next_peer : w.next_peer ≡ 0
  own_left : w.own ≡ first_balance o x
  peer_left : w.peer ≡ first_balance o (other_role x)
  feerate : w.feerate ≡ o.feerate
  own_live : own ≡ []
  peer_live : peer ≡ []

rate_kept : (o : Opening) (x : Role) (w : Balances) (own peer : List Add) → MayBeLedTo o x none w own peer
    → w.feerate ≡ o.feerate
rate_kept o Funder w own peer h = h.feerate (omega arith)
rate_kept o Fundee w own peer h = h.feerate (omega arith)

-- where no HTLC is gone nothing is lost
none_lost : (had left gone : ℕ) → (1 ≤ had - left → 1 ≤ gone) → gone ≡ 0 → had ≤ left
none_lost had left gone h e = grind (arith, h, e)

is_balances : (o : Opening) (x : Role) (w : Balances) (own peer : List Add) → HasFunds o
    → MayBeLedTo o x none w own peer
    → AreOpeningBalances o x w own peer
is_balances o x w own peer funds h =
    let p = h.own_count in
    let q = h.peer_count in
    let next_own : w.next_own ≡ 0 = omega (arith, p) in
    let next_peer : w.next_peer ≡ 0 = omega (arith, q) in
    let no_own : own ≡ [] = none_between 0 w.next_own own h.own_live (omega (arith, next_own)) in
    let no_peer : peer ≡ [] = none_between 0 w.next_peer peer h.peer_live (omega (arith, next_peer)) in
    let own_flight : in_flight own ≡ 0 = ap in_flight no_own in
    let peer_flight : in_flight peer ≡ 0 = ap in_flight no_peer in
    let own_left = none_lost (first_balance o x) (in_flight own + w.own) (gone w.next_own own) h.own_lost
    (omega (arith, next_own)) in
    let peer_left = none_lost (first_balance o (other_role x)) (in_flight peer + w.peer) (gone w.next_peer peer)
    h.peer_lost (omega (arith, next_peer)) in
    let first = first_sum o x funds in
    let all = h.all_funds in
    record {
      next_own = next_own;
      next_peer = next_peer;
      own_left = omega (arith, own_flight, peer_flight, own_left, peer_left, first, all);
      peer_left = omega (arith, own_flight, peer_flight, own_left, peer_left, first, all);
      feerate = rate_kept o x w own peer h;
      own_live = no_own;
      peer_live = no_peer;
    }

abbrev sides_of : ℕ → ℕ → Sides
sides_of n m = record { funder = n; fundee = m }

same_sides : (s : Sides) (n m : ℕ) → s.funder ≡ n → s.fundee ≡ m → s ≡ sides_of n m
same_sides s n m e f = ap (λ k. sides_of k s.fundee) e ∙ ap (λ k. sides_of n k) f

abbrev base_of : Sides → Sides → Sides → ℕ → List LiveHtlc → Base
base_of updates next_ids balances feerate live = record {
  updates = updates;
  next_ids = next_ids;
  balances = balances;
  feerate = feerate;
  live = live;
}

same_base : (b : Base) (u i c : Sides) (r : ℕ) (l : List LiveHtlc) → b.updates ≡ u → b.next_ids ≡ i
    → b.balances ≡ c → b.feerate ≡ r → b.live ≡ l → b ≡ base_of u i c r l
same_base b u i c r l eu ei ec er el =
    ap (λ s. base_of s b.next_ids b.balances b.feerate b.live) eu
    ∙ ap (λ s. base_of u s b.balances b.feerate b.live) ei ∙ ap (λ s. base_of u i s b.feerate b.live) ec
    ∙ ap (λ n. base_of u i c n b.live) er ∙ ap (λ hs. base_of u i c r hs) el

-- a base of a record, in a role
abbrev IsLed : Opening → Role → Base → Type 0
IsLed o x b = MayBeLedTo o x (counts_by x b.updates) (balances_in x b) (live_htlcs_in x b.live)
    (live_htlcs_in (other_role x) b.live)

no_counts : (x : Role) (s : Sides) → s ≡ both_zero → counts_by x s ≡ none
no_counts Funder s e = ap (counts_by Funder) e
no_counts Fundee s e = ap (counts_by Fundee) e

first_so : (o : Opening) (x : Role) (b : Base) → b.updates ≡ both_zero
    → AreOpeningBalances o x (balances_in x b) (live_htlcs_in x b.live) (live_htlcs_in (other_role x) b.live)
    → b ≡ first_base o
first_so o Funder b e h =
    same_base b both_zero both_zero (sides_of (first_balance o Funder) (first_balance o Fundee)) o.feerate [] e
    (same_sides b.next_ids 0 0 h.next_own h.next_peer)
    (same_sides b.balances (first_balance o Funder) (first_balance o Fundee) h.own_left h.peer_left) h.feerate
    (none_live b.live h.own_live h.peer_live)
first_so o Fundee b e h =
    same_base b both_zero both_zero (sides_of (first_balance o Funder) (first_balance o Fundee)) o.feerate [] e
    (same_sides b.next_ids 0 0 h.next_peer h.next_own)
    (same_sides b.balances (first_balance o Funder) (first_balance o Fundee) h.peer_left h.own_left) h.feerate
    (none_live b.live h.peer_live h.own_live)

-- updates lead to a base without any only where it is that of the opening
is_first : (o : Opening) (x : Role) (b : Base) → HasFunds o → b.updates ≡ both_zero → IsLed o x b → b ≡ first_base o
is_first o x b funds e h =
    first_so o x b e
    (is_balances o x (balances_in x b) (live_htlcs_in x b.live) (live_htlcs_in (other_role x) b.live) funds
    (subst (λ c. MayBeLedTo o x c (balances_in x b) (live_htlcs_in x b.live) (live_htlcs_in (other_role x) b.live))
    (no_counts x b.updates e) h))

first_led : (o : Opening) (x : Role) → o.push ≤ 1000 * o.satoshis → IsLed o x (first_base o)
first_led o Funder le = record {
  own_live = omega arith;
  peer_live = omega arith;
  own_count = omega arith;
  peer_count = omega arith;
  feerate = λ e. refl;
  all_funds = omega (arith, le);
  own_lost = λ h. omega (arith, h);
  peer_lost = λ h. omega (arith, h);
}
first_led o Fundee le = record {
  own_live = omega arith;
  peer_live = omega arith;
  own_count = omega arith;
  peer_count = omega arith;
  feerate = λ e. refl;
  all_funds = omega (arith, le);
  own_lost = λ h. omega (arith, h);
  peer_lost = λ h. omega (arith, h);
}

-- a record of that base that adds up pushes no more than all funds
push_so : (o : Opening) (b : Base) → funds_in b ≡ 1000 * o.satoshis → b ≡ first_base o
    → o.push ≤ 1000 * o.satoshis
push_so o b s e = let p = ap funds_in (sym e) ∙ s in omega (arith, p)

from_opening : (i : Items) → is_readable i ≡ true → IsFromOpening i → IsExplained (told_by i)
from_opening i r h =
    let o = opening_in i in
    let p = all_fit i.header.role o.satoshis i.updates (readable_told i r).fit in
    let sums = eqb-true (funds_in i.updates.base) (1000 * o.satoshis) p.3 in
    let le = push_so o i.updates.base sums h.base in
    record {
      push = le;
      base = subst (IsLed o i.header.role) (sym h.base) (first_led o i.header.role le);
      amounts = h.amounts;
    }

pub tells_log_from_opening : (i : Items) → is_readable i ≡ true → i.updates.base.updates ≡ both_zero
    → (HasLog i ↔ IsFromOpening i)
tells_log_from_opening i r e = (
  (λ h. record {
    base = is_first (opening_in i) i.header.role i.updates.base h.funds e h.base;
    amounts = (h.own_amounts, h.peer_amounts);
  }),
  (λ h. (tells_log i r).1 (from_opening i r h)),
)
