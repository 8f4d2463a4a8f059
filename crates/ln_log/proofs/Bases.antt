-- That the test of a base is exact.
use Rattle.std.proofs.Common.{◌≡◌, ℕ, ◌≤◌, List, [], ◌∷◌, take, refl, sym, ap, ◌∙◌, arith, cond, Bool, true, false}
use Rattle.std.proofs.Common.{◌&&◌, ◌↔◌, IsTrue, Option, Some, None, inl, inr}
use Rattle.std.proofs.lemmas.Bool.{ltb-true, lt-ltb, leb-true, le-leb}
use Rattle.std.proofs.lemmas.Bool.Decides.{eqb_tells, leb_tells}
use Rattle.ln_keys.specs.declared.role.Role.{Role}
use Rattle.ln_keys.specs.Role.{other_role}
use Rattle.ln_log.specs.declared.opening.Opening.{Opening}
use Rattle.ln_log.specs.declared.update.Removal.{Removal}
use Rattle.ln_log.specs.declared.update.Update.{Update}
use Rattle.ln_log.specs.declared.outcome.Outcome.{Outcome}
use Rattle.ln_log.specs.declared.outcome.Outcome.TheVariants.{Live}
use Rattle.ln_log.specs.Opening.{first_balance}
use Rattle.ln_log.specs.Updates.{removed, outcome, outcome_by, is_live, next_id}
use Rattle.ln_log.specs.Log.{Log, Counts}
use Rattle.ln_log.specs.Window.{IsClosed, MayBeBase, is_below, remove_below, pays, are_closed, may_be_base}
use Rattle.ln_log.proofs.Viewed.{first_hit}
use Rattle.ln_log.proofs.Advancing.{live_rest}

both : (x y : Bool) → (x && y) ≡ true → (x ≡ true) × (y ≡ true)
both true y e = (refl, e)
both false y e = absurd (cc)

and_also : (x y : Bool) → x ≡ true → y ≡ true → (x && y) ≡ true
and_also x y e f = ap (λ b. b && y) e ∙ f

-- ---- no HTLC is removed that isn't offered

one_below : (n id : ℕ) (r : Option Removal) (rest : Outcome) → is_below n r ≡ true → n ≤ id → rest ≡ Live
    → outcome_by id r rest ≡ Live
one_below n id None rest b le e = e
one_below n id (Some r) rest b le e =
    let lt = ltb-true r.id n b in
    elim (eqb_tells r.id id) [
      | inl g ↦ absurd (let same = g.1 in omega (arith, lt, le, same))
      | inr g ↦ ap (λ t. cond t r.outcome rest) g.0 ∙ e
    ]

all_live : (n : ℕ) (us : List Update) → remove_below n us ≡ true → (id : ℕ) → n ≤ id → outcome id us ≡ Live
all_live n [] e id le = refl
all_live n (u ∷ us) e id le =
    let b = both (is_below n (removed u)) (remove_below n us) e in
    one_below n id (removed u) (outcome id us) b.0 le (all_live n us b.1 id le)

below_so : (n : ℕ) (u : Update) (us : List Update) (r : Option Removal) → removed u ≡ r
    → ((id : ℕ) → n ≤ id → outcome id (u ∷ us) ≡ Live) → is_below n r ≡ true
below_so n u us None e h = refl
below_so n u us (Some r) e h = elim (leb_tells n r.id) [
  | inl g ↦ absurd (let no : false ≡ true = sym (first_hit u us r e) ∙ ap is_live (h r.id g.1) in cc)
  | inr g ↦ lt-ltb r.id n g.1
]

all_so : (n : ℕ) (us : List Update) → ((id : ℕ) → n ≤ id → outcome id us ≡ Live) → remove_below n us ≡ true
all_so n [] h = refl
all_so n (u ∷ us) h =
    and_also (is_below n (removed u)) (remove_below n us) (below_so n u us (removed u) refl h)
    (all_so n us (λ id le. live_rest id (u ∷ []) us (h id le)))

-- ---- the tests

closed_so : (o : Opening) (x : Role) (own peer : List Update) → are_closed o x own peer ≡ true → IsClosed o x own peer
closed_so o x own peer e =
    let own_pays = pays (first_balance o x) own peer in
    let peer_pays = pays (first_balance o (other_role x)) peer own in
    let a = both (remove_below (next_id own) peer) (remove_below (next_id peer) own && (own_pays && peer_pays)) e in
    let b = both (remove_below (next_id peer) own) (own_pays && peer_pays) a.1 in
    let c = both own_pays peer_pays b.1 in
    record {
      own_new = all_live (next_id own) peer a.0;
      peer_new = all_live (next_id peer) own b.0;
      paid = (leb-true _ _ c.0, leb-true _ _ c.1);
    }

closed_tested : (o : Opening) (x : Role) (own peer : List Update) → IsClosed o x own peer
    → are_closed o x own peer ≡ true
closed_tested o x own peer h =
    let own_pays = pays (first_balance o x) own peer in
    let peer_pays = pays (first_balance o (other_role x)) peer own in
    and_also (remove_below (next_id own) peer) (remove_below (next_id peer) own && (own_pays && peer_pays))
    (all_so (next_id own) peer h.own_new)
    (and_also (remove_below (next_id peer) own) (own_pays && peer_pays) (all_so (next_id peer) own h.peer_new)
    (and_also own_pays peer_pays (le-leb _ _ h.paid.0) (le-leb _ _ h.paid.1)))

base_so : (l : Log) (to : Counts) → may_be_base l to ≡ true → MayBeBase l to
base_so l to e =
    let closed = are_closed l.opening l.role (take to.own l.own) (take to.peer l.received) in
    let a = both _ _ e in
    let b = both _ _ a.1 in
    let c = both _ _ b.1 in
    let d = both _ closed c.1 in
    record {
      own_first = leb-true _ _ a.0;
      own_current = leb-true _ _ b.0;
      peer_first = leb-true _ _ c.0;
      peer_acknowledged = leb-true _ _ d.0;
      closed = closed_so l.opening l.role (take to.own l.own) (take to.peer l.received) d.1;
    }

base_tested : (l : Log) (to : Counts) → MayBeBase l to → may_be_base l to ≡ true
base_tested l to h =
    and_also _ _ (le-leb l.first.own to.own h.own_first)
    (and_also _ _ (le-leb to.own l.current.own h.own_current)
    (and_also _ _ (le-leb l.first.peer to.peer h.peer_first)
    (and_also _ _ (le-leb to.peer l.acknowledged.peer h.peer_acknowledged)
    (closed_tested l.opening l.role (take to.own l.own) (take to.peer l.received) h.closed))))

pub base_tells : (l : Log) (to : Counts) → IsTrue (may_be_base l to) ↔ MayBeBase l to
base_tells l to = (base_so l to, base_tested l to)

-- ---- answers

-- two tests of the same
one_answer : (b c : Bool) (P : Type 0) → (IsTrue b ↔ P) → (IsTrue c ↔ P) → b ≡ c
one_answer true true P f g = refl
one_answer true false P f g = sym (g.1 (f.0 refl))
one_answer false true P f g = f.1 (g.0 refl)
one_answer false false P f g = refl

pub tested : (b : Bool) (l : Log) (to : Counts) → (IsTrue b ↔ MayBeBase l to) → b ≡ may_be_base l to
tested b l to f = one_answer b (may_be_base l to) (MayBeBase l to) f (base_tells l to)

pub moved_by : (b c : Bool) (n l : Log) (to : Counts) → b ≡ c → (b ≡ true → n ≡ record l { first = to })
    → (b ≡ false → n ≡ l) → n ≡ record l { first = cond c to l.first }
moved_by b true n l to e f g = f e
moved_by b false n l to e f g = g e
