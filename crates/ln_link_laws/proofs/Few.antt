-- Of the HTLCs of either side at most 483 are live in a commitment, whatever the peer sends (BOLT 2, "Adding an HTLC").
use Rattle.std.proofs.Common.{◌≡◌, ℕ, zero, suc, ◌+◌, ◌≤◌, List, [], ◌∷◌, ◌++◌, length, take, map, refl, sym}
use Rattle.std.proofs.Common.{subst, arith, Bool, true, false, cond, ◌==◌, ◌||◌, nat_lt, Option, Some, None}
use Rattle.std.proofs.Common.{length-append}
use Rattle.std.specs.List.{cons_option}
use Rattle.std.proofs.lemmas.Bool.{ltb-false}
use Rattle.std.proofs.lemmas.List.{length-map, take-take, take-append-le}
use Rattle.ln_keys.specs.declared.role.Role.{Role}
use Rattle.ln_keys.specs.declared.role.Role.TheVariants.{Funder, Fundee}
use Rattle.ln_log.specs.declared.opening.Limits.{Limits}
use Rattle.ln_log.specs.declared.opening.Opening.{Opening}
use Rattle.ln_log.specs.declared.outcome.Outcome.{Outcome}
use Rattle.ln_log.specs.declared.standing.Standing.{Standing}
use Rattle.ln_log.specs.declared.update.Add.{Add}
use Rattle.ln_log.specs.declared.update.Removal.{Removal}
use Rattle.ln_log.specs.declared.update.Update.{Update}
use Rattle.ln_log.specs.declared.update.Update.TheVariants as update
use Rattle.ln_log.specs.Opening.{limits_of, first_balance}
use Rattle.ln_log.specs.Updates.{offered, removed, outcome, outcome_by, is_live}
use Rattle.ln_log.specs.Limits.{add_fault, standing_of, update_fault}
use Rattle.ln_log.specs.Log.{Counts, Log, covered, view_for}
use Rattle.ln_log.specs.Machine.{Covered}
use Rattle.ln_log.specs.View.{live_of, live_adds, htlc_of}
use Rattle.ln_keys.specs.declared.view.Htlc.{Htlc}

-- ---- an HTLC that is removed stays so

choose : (b : Bool) (x y z : Outcome) → (is_live y ≡ false → is_live z ≡ false) → is_live (cond b x y) ≡ false
    → is_live (cond b x z) ≡ false
choose true x y z f e = e
choose false x y z f e = f e

dead_by : (id : ℕ) (o : Option Removal) (y z : Outcome) → (is_live y ≡ false → is_live z ≡ false)
    → is_live (outcome_by id o y) ≡ false → is_live (outcome_by id o z) ≡ false
dead_by id None y z f e = f e
dead_by id (Some r) y z f e = choose (r.id == id) r.outcome y z f e

dead : (id n m : ℕ) (rs : List Update) → n ≤ m → is_live (outcome id (take n rs)) ≡ false
    → is_live (outcome id (take m rs)) ≡ false
dead id zero m rs le e = absurd (cc)
dead id (suc n) zero rs le e = absurd (omega (arith, le))
dead id (suc n) (suc m) [] le e = e
dead id (suc n) (suc m) (r ∷ rs) le e =
    dead_by id (removed r) (outcome id (take n rs)) (outcome id (take m rs)) (dead id n m rs (omega (arith, le))) e

-- ---- how many are live

one_by : (b c : Bool) (a : Add) (xs ys : List Add) → (b ≡ false → c ≡ false) → length ys ≤ length xs
    → length (cons_option (cond c (Some a) None) ys) ≤ length (cons_option (cond b (Some a) None) xs)
one_by true true a xs ys f le = omega (arith, le)
one_by true false a xs ys f le = omega (arith, le)
one_by false true a xs ys f le = absurd (let e = f refl in cc)
one_by false false a xs ys f le = le

one_fewer : (o : Option Add) (n m : ℕ) (rs : List Update) (xs ys : List Add) → n ≤ m → length ys ≤ length xs
    → length (cons_option (live_of o (take m rs)) ys) ≤ length (cons_option (live_of o (take n rs)) xs)
one_fewer None n m rs xs ys le few = few
one_fewer (Some a) n m rs xs ys le few =
    one_by (is_live (outcome a.id (take n rs))) (is_live (outcome a.id (take m rs))) a xs ys (dead a.id n m rs le) few

-- fewer by more removals
pub removing : (us rs : List Update) (n m : ℕ) → n ≤ m
    → length (live_adds us (take m rs)) ≤ length (live_adds us (take n rs))
removing [] rs n m le = omega arith
removing (u ∷ us) rs n m le =
    one_fewer (offered u) n m rs (live_adds us (take n rs)) (live_adds us (take m rs)) le (removing us rs n m le)

one_same : (o : Option Add) (xs ys : List Add) → length xs ≤ length ys
    → length (cons_option o xs) ≤ length (cons_option o ys)
one_same None xs ys le = le
one_same (Some a) xs ys le = omega (arith, le)

-- fewer of a first part
pub front : (n : ℕ) (us rs : List Update) → length (live_adds (take n us) rs) ≤ length (live_adds us rs)
front zero us rs = omega arith
front (suc n) [] rs = omega arith
front (suc n) (u ∷ us) rs =
    one_same (live_of (offered u) rs) (live_adds (take n us) rs) (live_adds us rs) (front n us rs)

-- with one update more
live_of_at_most : (b : Bool) (a : Add) → length (cons_option (cond b (Some a) None) []) ≤ 1
live_of_at_most true a = omega arith
live_of_at_most false a = omega arith

one_longer : (o : Option Add) (xs ys : List Add) (n : ℕ) → length ys ≤ length xs + n
    → length (cons_option o ys) ≤ length (cons_option o xs) + n
one_longer None xs ys n le = le
one_longer (Some a) xs ys n le = omega (arith, le)

added : (us rs : List Update) (u : Update) (n : ℕ) → length (cons_option (live_of (offered u) rs) []) ≤ n
    → length (live_adds (us ++ u ∷ []) rs) ≤ length (live_adds us rs) + n
added [] rs u n le = omega (arith, le)
added (v ∷ us) rs u n le =
    one_longer (live_of (offered v) rs) (live_adds us rs) (live_adds (us ++ u ∷ []) rs) n (added us rs u n le)

passes : {A : Type 0} (b : Bool) (x : A) (o : Option A) → cond b (Some x) o ≡ None → (b ≡ false) × (o ≡ None)
passes true x o e = absurd (cc)
passes false x o e = (refl, e)

has_room : (l : Limits) (s : Standing) (a : Add) → add_fault l s a ≡ None → s.live + 1 ≤ l.accepted
has_room l s a e =
    let p1 = passes ((a.amount == 0) || nat_lt a.amount l.minimum) _ _ e in
    let p2 = passes (nat_lt 499999999 a.expiry) _ _ p1.1 in
    let p3 = passes (nat_lt l.accepted (s.live + 1)) _ _ p2.1 in
    ltb-false l.accepted (s.live + 1) p3.0

-- what the limits let through leaves as few live as they allow
pub room : (o : Opening) (side : Role) (own seen held : List Update) (u : Update)
    → (limits_of o side).accepted ≤ 483 → length (live_adds own seen) ≤ 483
    → update_fault o side own seen held u ≡ None → length (live_adds (own ++ u ∷ []) seen) ≤ 483
room o side own seen held (update.Add a) most few none =
    let le = has_room (limits_of o side) (standing_of (first_balance o side) own seen) a none in
    let one = live_of_at_most (is_live (outcome a.id seen)) a in
    let more = added own seen (update.Add a) 1 one in
    omega (arith, most, le, more)
room o side own seen held (update.Fulfil f) most few none =
    let more = added own seen (update.Fulfil f) 0 (omega arith) in omega (arith, few, more)
room o side own seen held (update.Fail f) most few none =
    let more = added own seen (update.Fail f) 0 (omega arith) in omega (arith, few, more)
room o side own seen held (update.Malformed m) most few none =
    let more = added own seen (update.Malformed m) 0 (omega arith) in omega (arith, few, more)
room o side own seen held (update.Fee f) most few none =
    let more = added own seen (update.Fee f) 0 (omega arith) in omega (arith, few, more)

-- ---- in the commitments of a log

pub record AreFew (us rs : List Update) (s a c : Counts) : Type 0 where
  pub own : length (live_adds us (take c.peer rs)) ≤ 483
  pub peer : length (live_adds rs (take a.own us)) ≤ 483
  pub signed_own : length (live_adds (take s.own us) (take s.peer rs)) ≤ 483
  pub signed_peer : length (live_adds (take s.peer rs) (take s.own us)) ≤ 483

abbrev pub Few : Log → Type 0
Few l = AreFew l.own l.received l.signed l.acknowledged l.current

-- which signatures go over
both_few : (f g : Add → Htlc) (xs ys : List Add) → length xs ≤ 483 → length ys ≤ 483
    → length (map f xs ++ map g ys) ≤ 966
both_few f g xs ys few some =
    omega (arith, length-append (map f xs) (map g ys), length-map xs f, length-map ys g, few, some)

pub signed_few : (o : Opening) (r : Role) (c : Covered) → length (live_adds c.own c.peer) ≤ 483
    → length (live_adds c.peer c.own) ≤ 483 → length (view_for o r c).htlcs ≤ 966
signed_few o Funder c few some =
    both_few (htlc_of Funder) (htlc_of Fundee) (live_adds c.own c.peer) (live_adds c.peer c.own) few some
signed_few o Fundee c few some =
    both_few (htlc_of Funder) (htlc_of Fundee) (live_adds c.peer c.own) (live_adds c.own c.peer) some few

-- ---- what each call makes of them

module _ (us rs : List Update) (s a c : Counts) (h : AreFew us rs s a c) where
  -- an own update more
  pub proposed : (o : Opening) (r : Role) (held : List Update) (u : Update) → (limits_of o r).accepted ≤ 483
      → update_fault o r us (take c.peer rs) held u ≡ None → s.own ≤ length us → a.own ≤ length us
      → AreFew (us ++ u ∷ []) rs s a c
  proposed o r held u most none signed acked =
      let before = take-append-le s.own us (u ∷ []) signed in
      let known = take-append-le a.own us (u ∷ []) acked in
      record {
        own = room o r us (take c.peer rs) held u most h.own none;
        peer = subst (λ x. length (live_adds rs x) ≤ 483) (sym known) h.peer;
        signed_own = subst (λ x. length (live_adds x (take s.peer rs)) ≤ 483) (sym before) h.signed_own;
        signed_peer = subst (λ x. length (live_adds (take s.peer rs) x) ≤ 483) (sym before) h.signed_peer;
      }

  -- one more of the peer's
  pub received : (o : Opening) (r : Role) (held : List Update) (u : Update) → (limits_of o r).accepted ≤ 483
      → update_fault o r rs (take a.own us) held u ≡ None → s.peer ≤ length rs → c.peer ≤ length rs
      → AreFew us (rs ++ u ∷ []) s a c
  received o r held u most none signed current =
      let before = take-append-le s.peer rs (u ∷ []) signed in
      let known = take-append-le c.peer rs (u ∷ []) current in
      record {
        own = subst (λ x. length (live_adds us x) ≤ 483) (sym known) h.own;
        peer = room o r rs (take a.own us) held u most h.peer none;
        signed_own = subst (λ x. length (live_adds (take s.own us) x) ≤ 483) (sym before) h.signed_own;
        signed_peer = subst (λ x. length (live_adds x (take s.own us)) ≤ 483) (sym before) h.signed_peer;
      }

  -- a signature covers all own ones, and what is current of the peer's
  pub signing : a.own ≤ length us → (length (live_adds (take (length us) us) (take c.peer rs)) ≤ 483)
      × (length (live_adds (take c.peer rs) (take (length us) us)) ≤ 483)
  signing acked =
      let own = front (length us) us (take c.peer rs) in
      let peer = front c.peer rs (take (length us) us) in
      let fewer = removing rs us a.own (length us) acked in
      let had = h.own in
      let some = h.peer in
      (omega (arith, own, had), omega (arith, peer, fewer, some))

  pub signed : a.own ≤ length us → AreFew us rs (record { own = length us; peer = c.peer }) a c
  signed acked =
      let both = signing acked in
      record { own = h.own; peer = h.peer; signed_own = both.0; signed_peer = both.1 }

  pub accepted : (d : Counts) → c.peer ≤ d.peer → AreFew us rs s a d
  accepted d le =
      let fewer = removing us rs c.peer d.peer le in
      let had = h.own in
      record { own = omega (arith, fewer, had); peer = h.peer; signed_own = h.signed_own; signed_peer = h.signed_peer }

  pub learned : (d : Counts) → a.own ≤ d.own → AreFew us rs s d c
  learned d le =
      let fewer = removing rs us a.own d.own le in
      let had = h.peer in
      record { own = h.own; peer = omega (arith, fewer, had); signed_own = h.signed_own; signed_peer = h.signed_peer }

  -- what no signature covers is gone
  pub dropped : a.own ≤ s.own → s.peer ≤ c.peer → AreFew (take s.own us) (take c.peer rs) s a c
  dropped acked covered =
      let own = front s.own us (take c.peer rs) in
      let peer = front c.peer rs (take a.own us) in
      let had = h.own in
      let some = h.peer in
      record {
        own = subst (λ x. length (live_adds (take s.own us) x) ≤ 483)
            (sym (take-take c.peer c.peer rs (omega arith))) (omega (arith, own, had));
        peer = subst (λ x. length (live_adds (take c.peer rs) x) ≤ 483)
            (sym (take-take a.own s.own us acked)) (omega (arith, peer, some));
        signed_own = subst (λ x. length (live_adds x (take s.peer (take c.peer rs))) ≤ 483)
            (sym (take-take s.own s.own us (omega arith)))
            (subst (λ x. length (live_adds (take s.own us) x) ≤ 483) (sym (take-take s.peer c.peer rs covered))
            h.signed_own);
        signed_peer = subst (λ x. length (live_adds (take s.peer (take c.peer rs)) x) ≤ 483)
            (sym (take-take s.own s.own us (omega arith)))
            (subst (λ x. length (live_adds x (take s.own us)) ≤ 483) (sym (take-take s.peer c.peer rs covered))
            h.signed_peer);
      }
