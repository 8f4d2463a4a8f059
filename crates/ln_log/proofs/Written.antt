-- Of a base that updates may lead to, lists that are worth it.
use Rattle.std.proofs.Common.{◌≡◌, ℕ, zero, suc, ◌+◌, ◌-◌, ◌≤◌, ◌<◌, List, [], ◌∷◌, ◌++◌, length, refl, sym, ap}
use Rattle.std.proofs.Common.{◌∙◌, subst, arith, true, cond, Some, None, inl, inr, append_assoc, append-nil}
use Rattle.std.proofs.Common.{Bool, length-append}
use Rattle.std.proofs.lemmas.Bool.{ne_eqb}
use Rattle.std.proofs.lemmas.Bool.Decides.{eqb_tells, leb_tells}
use Rattle.std.proofs.lemmas.List.Sums.{sum_by-cons}
use Rattle.std.specs.List.{cons_option}
use Rattle.ln_log.specs.declared.update.Add.{Add}
use Rattle.ln_log.specs.declared.update.Fee.{Fee}
use Rattle.ln_log.specs.declared.update.Fulfil.{Fulfil}
use Rattle.ln_log.specs.declared.update.Update.{Update}
use Rattle.ln_log.specs.declared.update.Update.TheVariants as update
use Rattle.ln_log.specs.declared.outcome.Outcome.{Outcome}
use Rattle.ln_log.specs.declared.outcome.Outcome.TheVariants.{Live, Fulfilled}
use Rattle.ln_log.specs.Updates.{offered, removed, is_some, next_id, add_with, outcome, outcome_by, is_live}
use Rattle.ln_log.specs.Updates.{is_fulfilled, is_failed, last_feerate, rate_after}
use Rattle.ln_log.specs.View.{live_of, live_adds}
use Rattle.ln_log.specs.Log.{number_after, HasId, AreNumbered, RemovesLive, AreRemovals, HasAmount, AreWithin}
use Rattle.ln_log.specs.Explained.{AreBetween, add_amount, in_flight, gone, gone_add, gone_adds, left_by, all_adds}
use Rattle.ln_log.specs.Explained.{removals_from, all_removals, fees_to, updates_to}
use Rattle.ln_log.proofs.Removing.{outcome-append, outcome-other, next-cons, number_is}
use Rattle.ln_log.proofs.Tallies.{amount, weight, tally, tally-append}
use Rattle.ln_log.proofs.Behind.{outcome_behind, live-append, next-append, rate_behind}
use Rattle.ln_log.proofs.Advancing.{within-append}

-- ---- lists of updates of one kind

abbrev pub Each : (Update → Type 0) → List Update → Type 0
Each P [] = Unit {0}
Each P (u ∷ us) = P u × Each P us

each-append : (P : Update → Type 0) (us vs : List Update) → Each P us → Each P vs → Each P (us ++ vs)
each-append P [] vs h g = g
each-append P (u ∷ us) vs h g = (h.0, each-append P us vs h.1 g)

abbrev pub OffersNone : Update → Type 0
OffersNone u = offered u ≡ None

abbrev pub RemovesNone : Update → Type 0
RemovesNone u = removed u ≡ None

abbrev pub KeepsRate : Update → Type 0
KeepsRate u = (rate : ℕ) → rate_after rate u ≡ rate

-- of these none offers an HTLC

no_live_htlcs : (us r : List Update) → Each OffersNone us → live_adds us r ≡ []
no_live_htlcs [] r h = refl
no_live_htlcs (u ∷ us) r h = ap (λ o. cons_option (live_of o r) (live_adds us r)) h.0 ∙ no_live_htlcs us r h.1

no_tally : (test : Outcome → Bool) (us r : List Update) → Each OffersNone us → tally amount test us r ≡ 0
no_tally test [] r h = refl
no_tally test (u ∷ us) r h = omega (arith, ap (weight amount test r) h.0, no_tally test us r h.1)

no_ids : (us : List Update) → Each OffersNone us → next_id us ≡ 0
no_ids [] h = refl
no_ids (u ∷ us) h = omega (arith, next-cons u us, ap (number_after 0) h.0, no_ids us h.1)

none_numbered : (n : ℕ) (us : List Update) → Each OffersNone us → AreNumbered n us
none_numbered n [] h = tt
none_numbered n (u ∷ us) h = (
  subst (HasId n) (sym h.0) tt,
  subst (λ o. AreNumbered (number_after n o) us) (sym h.0) (none_numbered n us h.1),
)

none_within : (most : ℕ) (us : List Update) → Each OffersNone us → AreWithin most us
none_within most [] h = tt
none_within most (u ∷ us) h = (subst (HasAmount most) (sym h.0) tt, none_within most us h.1)

-- of these none removes one

no_outcome : (id : ℕ) (us : List Update) → Each RemovesNone us → outcome id us ≡ Live
no_outcome id [] h = refl
no_outcome id (u ∷ us) h = ap (λ r. outcome_by id r (outcome id us)) h.0 ∙ no_outcome id us h.1

none_removed : (adds before us : List Update) → Each RemovesNone us → AreRemovals adds before us
none_removed adds before [] h = tt
none_removed adds before (u ∷ us) h = (
  subst (RemovesLive adds before) (sym h.0) tt,
  none_removed adds (before ++ u ∷ []) us h.1,
)

-- and of these none changes the fee

same_rate : (rate : ℕ) (us : List Update) → Each KeepsRate us → last_feerate rate us ≡ rate
same_rate rate [] h = refl
same_rate rate (u ∷ us) h = ap (λ r. last_feerate r us) (h.0 rate) ∙ same_rate rate us h.1

gone_each : (P : Update → Type 0) (from n g : ℕ) → ((a : Add) → P (update.Add a)) → Each P (gone_adds from n g)
gone_each P from zero g h = tt
gone_each P from (suc n) g h = (h (gone_add from g), gone_each P (from + 1) n 0 h)

adds_each : (P : Update → Type 0) (from to g : ℕ) (live_htlcs : List Add) → ((a : Add) → P (update.Add a))
    → Each P (all_adds from to g live_htlcs)
adds_each P from to g [] h = gone_each P from (to - from) g h
adds_each P from to g (a ∷ live_htlcs) h =
    each-append P (gone_adds from (a.id - from) g)
    (update.Add a ∷ all_adds (a.id + 1) to (left_by (a.id - from) g) live_htlcs) (gone_each P from (a.id - from) g h)
    (h a, adds_each P (a.id + 1) to (left_by (a.id - from) g) live_htlcs h)

from_each : (P : Update → Type 0) (from n : ℕ) → ((f : Fulfil) → P (update.Fulfil f)) → Each P (removals_from from n)
from_each P from zero h = tt
from_each P from (suc n) h = (h _, from_each P (from + 1) n h)

removals_each : (P : Update → Type 0) (from to : ℕ) (live_htlcs : List Add) → ((f : Fulfil) → P (update.Fulfil f))
    → Each P (all_removals from to live_htlcs)
removals_each P from to [] h = from_each P from (to - from) h
removals_each P from to (a ∷ live_htlcs) h =
    each-append P (removals_from from (a.id - from)) (all_removals (a.id + 1) to live_htlcs)
    (from_each P from (a.id - from) h) (removals_each P (a.id + 1) to live_htlcs h)

fees_each : (P : Update → Type 0) (rate n : ℕ) → ((f : Fee) → P (update.Fee f)) → Each P (fees_to rate n)
fees_each P rate zero h = tt
fees_each P rate (suc n) h = (h _, fees_each P rate n h)

-- ---- removals

hit : (from n id : ℕ) → from ≤ id → id < from + n → outcome id (removals_from from n) ≡ Fulfilled
hit from zero id le lt = absurd (omega (arith, le, lt))
hit from (suc n) id le lt = elim (eqb_tells from id) [
  | inl g ↦ ap (λ b. cond b Fulfilled (outcome id (removals_from (from + 1) n))) g.0
  | inr g ↦ ap (λ b. cond b Fulfilled (outcome id (removals_from (from + 1) n))) g.0
      ∙ hit (from + 1) n id (omega (arith, le, g.1)) (omega (arith, lt))
]

missed : (from n id : ℕ) → (from ≡ id → ⊥) → outcome id (removals_from (from + 1) n) ≡ Live
    → outcome id (removals_from from (suc n)) ≡ Live
missed from n id ne e = ap (λ b. cond b Fulfilled (outcome id (removals_from (from + 1) n))) (ne_eqb from id ne) ∙ e

low : (from n id : ℕ) → id < from → outcome id (removals_from from n) ≡ Live
low from zero id lt = refl
low from (suc n) id lt = missed from n id (λ e. omega (arith, e, lt)) (low (from + 1) n id (omega (arith, lt)))

high : (from n id : ℕ) → from + n ≤ id → outcome id (removals_from from n) ≡ Live
high from zero id le = refl
high from (suc n) id le = missed from n id (λ e. omega (arith, e, le)) (high (from + 1) n id (omega (arith, le)))

low_all : (from to : ℕ) (live_htlcs : List Add) (id : ℕ) → AreBetween from to live_htlcs → id < from
    → outcome id (all_removals from to live_htlcs) ≡ Live
low_all from to [] id b lt = low from (to - from) id lt
low_all from to (a ∷ live_htlcs) id b lt =
    outcome_behind id (removals_from from (a.id - from)) (all_removals (a.id + 1) to live_htlcs)
    (low from (a.id - from) id lt) ∙ low_all (a.id + 1) to live_htlcs id b.2 (omega (arith, lt, b.0))

pub high_all : (from to : ℕ) (live_htlcs : List Add) (id : ℕ) → AreBetween from to live_htlcs → to ≤ id
    → outcome id (all_removals from to live_htlcs) ≡ Live
high_all from to [] id b le = high from (to - from) id (omega (arith, le, b))
high_all from to (a ∷ live_htlcs) id b le =
    outcome_behind id (removals_from from (a.id - from)) (all_removals (a.id + 1) to live_htlcs)
    (high from (a.id - from) id (omega (arith, le, b.0, b.1))) ∙ high_all (a.id + 1) to live_htlcs id b.2 le

pub removals-append : (adds before us vs : List Update) → AreRemovals adds before us
    → AreRemovals adds (before ++ us) vs → AreRemovals adds before (us ++ vs)
removals-append adds before [] vs h g = subst (λ p. AreRemovals adds p vs) (append-nil before) g
removals-append adds before (u ∷ us) vs h g = (
  h.0,
  removals-append adds (before ++ u ∷ []) us vs h.1
      (subst (λ p. AreRemovals adds p vs) (sym (append_assoc before (u ∷ []) us)) g),
)

abbrev pub AreFound : List Update → ℕ → ℕ → Type 0
AreFound adds from to = (id : ℕ) → from ≤ id → id < to → is_some (add_with id adds) ≡ true

abbrev pub AreLiveFrom : ℕ → List Update → Type 0
AreLiveFrom from before = (id : ℕ) → from ≤ id → outcome id before ≡ Live

from_removes : (adds before : List Update) (from n : ℕ) → AreFound adds from (from + n) → AreLiveFrom from before
    → AreRemovals adds before (removals_from from n)
from_removes adds before from zero found live = tt
from_removes adds before from (suc n) found live = (
  (found from (omega arith) (omega arith), live from (omega arith)),
  from_removes adds (before ++ _ ∷ []) (from + 1) n (λ id le lt. found id (omega (arith, le)) (omega (arith, lt)))
      (λ id le. outcome-other id before _ _ refl (ne_eqb from id (λ e. omega (arith, e, le)))
      ∙ live id (omega (arith, le))),
)

all_remove : (adds before : List Update) (from to : ℕ) (live_htlcs : List Add) → AreBetween from to live_htlcs
    → AreFound adds from to → AreLiveFrom from before → AreRemovals adds before (all_removals from to live_htlcs)
all_remove adds before from to [] b found live =
    from_removes adds before from (to - from) (λ id le lt. found id le (omega (arith, le, lt))) live
all_remove adds before from to (a ∷ live_htlcs) b found live =
    removals-append adds before (removals_from from (a.id - from)) (all_removals (a.id + 1) to live_htlcs)
    (from_removes adds before from (a.id - from) (λ id le lt. found id le (omega (arith, lt, b.0, b.1))) live)
    (all_remove adds (before ++ removals_from from (a.id - from)) (a.id + 1) to live_htlcs b.2
    (λ id le lt. found id (omega (arith, le, b.0)) lt)
    (λ id le. outcome_behind id before (removals_from from (a.id - from)) (live id (omega (arith, le, b.0)))
    ∙ high from (a.id - from) id (omega (arith, le, b.0))))

-- ---- what becomes of the HTLCs

abbrev pub AllGone : List Update → ℕ → ℕ → Type 0
AllGone r from to = (id : ℕ) → from ≤ id → id < to → outcome id r ≡ Fulfilled

-- these updates remove all HTLCs of ids from one up to another but the live ones
abbrev pub AreTold : List Update → ℕ → ℕ → List Add → Type 0
AreTold r from to [] = AllGone r from to
AreTold r from to (a ∷ live_htlcs) = AllGone r from a.id × (outcome a.id r ≡ Live) × AreTold r (a.id + 1) to live_htlcs

pub record_form : (r : List Update) (from to : ℕ) (live_htlcs : List Add) → AreBetween from to live_htlcs
    → ((id : ℕ) → from ≤ id → id < to → outcome id r ≡ outcome id (all_removals from to live_htlcs))
    → AreTold r from to live_htlcs
record_form r from to [] b h = λ id le lt. h id le lt ∙ hit from (to - from) id le (omega (arith, le, lt))
record_form r from to (a ∷ live_htlcs) b h =
    let k = a.id - from in
    let rest = all_removals (a.id + 1) to live_htlcs in (
      (λ id le lt. h id le (omega (arith, lt, b.1)) ∙ outcome-append id (removals_from from k) rest
          ∙ ap (λ o. cond (is_live o) (outcome id rest) o) (hit from k id le (omega (arith, lt)))),
      h a.id b.0 b.1 ∙ outcome_behind a.id (removals_from from k) rest (high from k a.id (omega (arith, b.0)))
          ∙ low_all (a.id + 1) to live_htlcs a.id b.2 (omega arith),
      record_form r (a.id + 1) to live_htlcs b.2 (λ id le lt. h id (omega (arith, le, b.0)) lt
          ∙ outcome_behind id (removals_from from k) rest (high from k id (omega (arith, le, b.0)))),
    )

span : (r : List Update) (from to : ℕ) → AllGone r from to → AllGone r from (from + (to - from))
span r from to h = λ id le lt. h id le (omega (arith, le, lt))

next_gone : (r : List Update) (from n : ℕ) → AllGone r from (from + suc n) → AllGone r (from + 1) (from + 1 + n)
next_gone r from n h = λ id le lt. h id (omega (arith, le)) (omega (arith, lt))

first_gone : (r : List Update) (from n : ℕ) → AllGone r from (from + suc n) → outcome from r ≡ Fulfilled
first_gone r from n h = h from (omega arith) (omega arith)

gone_live : (from n g : ℕ) (r : List Update) → AllGone r from (from + n) → live_adds (gone_adds from n g) r ≡ []
gone_live from zero g r h = refl
gone_live from (suc n) g r h =
    ap (λ o. cons_option (cond (is_live o) (Some (gone_add from g)) None) (live_adds (gone_adds (from + 1) n 0) r))
    (first_gone r from n h) ∙ gone_live (from + 1) n 0 r (next_gone r from n h)

gone_failed : (from n g : ℕ) (r : List Update) → AllGone r from (from + n)
    → tally amount is_failed (gone_adds from n g) r ≡ 0
gone_failed from zero g r h = refl
gone_failed from (suc n) g r h = omega (
  arith,
  ap (λ o. cond (is_failed o) g 0) (first_gone r from n h),
  gone_failed (from + 1) n 0 r (next_gone r from n h),
)

gone_paid : (from n g : ℕ) (r : List Update) → AllGone r from (from + n)
    → tally amount is_fulfilled (gone_adds from n g) r + left_by n g ≡ g
gone_paid from zero g r h = omega arith
gone_paid from (suc n) g r h = omega (
  arith,
  ap (λ o. cond (is_fulfilled o) g 0) (first_gone r from n h),
  gone_paid (from + 1) n 0 r (next_gone r from n h),
)

adds_live : (from to g : ℕ) (live_htlcs : List Add) (r : List Update) → AreTold r from to live_htlcs
    → live_adds (all_adds from to g live_htlcs) r ≡ live_htlcs
adds_live from to g [] r h = gone_live from (to - from) g r (span r from to h)
adds_live from to g (a ∷ live_htlcs) r h =
    let k = a.id - from in
    let rest = all_adds (a.id + 1) to (left_by k g) live_htlcs in
    live-append (gone_adds from k g) (update.Add a ∷ rest) r
    ∙ ap (λ x. x ++ live_adds (update.Add a ∷ rest) r) (gone_live from k g r (span r from a.id h.0))
    ∙ ap (λ o. cons_option (cond (is_live o) (Some a) None) (live_adds rest r)) h.1
    ∙ ap (λ x. a ∷ x) (adds_live (a.id + 1) to (left_by k g) live_htlcs r h.2)

adds_failed : (from to g : ℕ) (live_htlcs : List Add) (r : List Update) → AreTold r from to live_htlcs
    → tally amount is_failed (all_adds from to g live_htlcs) r ≡ 0
adds_failed from to g [] r h = gone_failed from (to - from) g r (span r from to h)
adds_failed from to g (a ∷ live_htlcs) r h =
    let k = a.id - from in
    let rest = all_adds (a.id + 1) to (left_by k g) live_htlcs in
    omega (
      arith,
      tally-append amount is_failed (gone_adds from k g) (update.Add a ∷ rest) r,
      gone_failed from k g r (span r from a.id h.0),
      ap (λ o. cond (is_failed o) a.amount 0) h.1,
      adds_failed (a.id + 1) to (left_by k g) live_htlcs r h.2,
    )

left_none : (n : ℕ) → left_by n 0 ≡ 0
left_none zero = refl
left_none (suc n) = refl

left_twice : (n m g : ℕ) → left_by m (left_by n g) ≡ left_by (n + m) g
left_twice zero m g = ap (λ k. left_by k g) (omega arith)
left_twice (suc n) m g =
    let next : suc (n + m) ≡ suc n + m = omega arith in left_none m ∙ ap (λ k. left_by k g) next

left_at : (m n g : ℕ) → m ≡ n → left_by m g ≡ left_by n g
left_at m n g e = ap (λ k. left_by k g) e

-- one of them takes it all
carried : (n g : ℕ) → (1 ≤ g → 1 ≤ n) → left_by n g ≡ 0
carried zero g h = elim (leb_tells 1 g) [
  | inl g ↦ absurd (let le = h g.1 in omega (arith, le))
  | inr g ↦ (let lt = g.1 in omega (arith, lt))
]
carried (suc n) g h = refl

fits : (from to : ℕ) (live_htlcs : List Add) → AreBetween from to live_htlcs → from + length live_htlcs ≤ to
fits from to [] b = omega (arith, b)
fits from to (a ∷ live_htlcs) b = omega (arith, b.0, b.1, fits (a.id + 1) to live_htlcs b.2)

adds_paid : (from to g : ℕ) (live_htlcs : List Add) (r : List Update) → AreBetween from to live_htlcs
    → AreTold r from to live_htlcs
    → tally amount is_fulfilled (all_adds from to g live_htlcs) r + left_by (to - from - length live_htlcs) g ≡ g
adds_paid from to g [] r b h = omega (
  arith,
  gone_paid from (to - from) g r (span r from to h),
  left_at (to - from - length {A = Add} []) (to - from) g (omega arith),
)
adds_paid from to g (a ∷ live_htlcs) r b h =
    let k = a.id - from in
    let rest = all_adds (a.id + 1) to (left_by k g) live_htlcs in
    omega (
      arith,
      tally-append amount is_fulfilled (gone_adds from k g) (update.Add a ∷ rest) r,
      gone_paid from k g r (span r from a.id h.0),
      ap (λ o. cond (is_fulfilled o) a.amount 0) h.1,
      adds_paid (a.id + 1) to (left_by k g) live_htlcs r b.2 h.2,
      left_twice k (to - (a.id + 1) - length live_htlcs) g,
      left_at (k + (to - (a.id + 1) - length live_htlcs)) (to - from - length (a ∷ live_htlcs)) g
          (omega (arith, b.0, b.1, fits (a.id + 1) to live_htlcs b.2)),
    )

-- ---- ids, amounts and counts

gone_ids : (from n g : ℕ) → next_id (gone_adds from n g) ≡ n
gone_ids from zero g = refl
gone_ids from (suc n) g =
    omega (arith, next-cons (update.Add (gone_add from g)) (gone_adds (from + 1) n 0), gone_ids (from + 1) n 0)

gone_length : (from n g : ℕ) → length (gone_adds from n g) ≡ n
gone_length from zero g = refl
gone_length from (suc n) g = omega (arith, gone_length (from + 1) n 0)

gone_numbered : (from n g : ℕ) → AreNumbered from (gone_adds from n g)
gone_numbered from zero g = tt
gone_numbered from (suc n) g = (refl, gone_numbered (from + 1) n 0)

gone_within : (most from n g : ℕ) → g ≤ most → AreWithin most (gone_adds from n g)
gone_within most from zero g le = tt
gone_within most from (suc n) g le = (le, gone_within most (from + 1) n 0 (omega arith))

adds_ids : (from to g : ℕ) (live_htlcs : List Add) → AreBetween from to live_htlcs
    → next_id (all_adds from to g live_htlcs) + from ≡ to
adds_ids from to g [] b = omega (arith, gone_ids from (to - from) g, b)
adds_ids from to g (a ∷ live_htlcs) b =
    let k = a.id - from in
    let rest = all_adds (a.id + 1) to (left_by k g) live_htlcs in
    omega (
      arith,
      next-append (gone_adds from k g) (update.Add a ∷ rest),
      gone_ids from k g,
      next-cons (update.Add a) rest,
      adds_ids (a.id + 1) to (left_by k g) live_htlcs b.2,
      b.0,
    )

adds_length : (from to g : ℕ) (live_htlcs : List Add) → AreBetween from to live_htlcs
    → length (all_adds from to g live_htlcs) + from ≡ to
adds_length from to g [] b = omega (arith, gone_length from (to - from) g, b)
adds_length from to g (a ∷ live_htlcs) b =
    let k = a.id - from in
    let rest = all_adds (a.id + 1) to (left_by k g) live_htlcs in
    omega (
      arith,
      length-append (gone_adds from k g) (update.Add a ∷ rest),
      gone_length from k g,
      adds_length (a.id + 1) to (left_by k g) live_htlcs b.2,
      b.0,
    )

pub numbered-append : (n : ℕ) (us vs : List Update) → AreNumbered n us → AreNumbered (n + next_id us) vs
    → AreNumbered n (us ++ vs)
numbered-append n [] vs h g = subst (λ k. AreNumbered k vs) (omega arith) g
numbered-append n (u ∷ us) vs h g = (
  h.0,
  numbered-append (number_after n (offered u)) us vs h.1
      (subst (λ k. AreNumbered k vs) (omega (arith, next-cons u us, number_is n (offered u))) g),
)

adds_numbered : (from to g : ℕ) (live_htlcs : List Add) → AreBetween from to live_htlcs
    → AreNumbered from (all_adds from to g live_htlcs)
adds_numbered from to g [] b = gone_numbered from (to - from) g
adds_numbered from to g (a ∷ live_htlcs) b =
    let k = a.id - from in
    let rest = all_adds (a.id + 1) to (left_by k g) live_htlcs in
    let next : a.id ≡ from + next_id (gone_adds from k g) = omega (arith, gone_ids from k g, b.0) in
    numbered-append from (gone_adds from k g) (update.Add a ∷ rest) (gone_numbered from k g)
    (next, subst (λ i. AreNumbered (i + 1) rest) next (adds_numbered (a.id + 1) to (left_by k g) live_htlcs b.2))

left_le : (n g : ℕ) → left_by n g ≤ g
left_le zero g = omega arith
left_le (suc n) g = omega arith

adds_within : (most from to g : ℕ) (live_htlcs : List Add) → g ≤ most → in_flight live_htlcs ≤ most
    → AreWithin most (all_adds from to g live_htlcs)
adds_within most from to g [] le h = gone_within most from (to - from) g le
adds_within most from to g (a ∷ live_htlcs) le h =
    let k = a.id - from in
    within-append most (gone_adds from k g) (update.Add a ∷ all_adds (a.id + 1) to (left_by k g) live_htlcs)
    (gone_within most from k g le) (
      omega (arith, h, sum_by-cons add_amount a live_htlcs),
      adds_within most (a.id + 1) to (left_by k g) live_htlcs
          (omega (arith, le, left_le k g)) (omega (arith, h, sum_by-cons add_amount a live_htlcs)),
    )

from_length : (from n : ℕ) → length (removals_from from n) ≡ n
from_length from zero = refl
from_length from (suc n) = omega (arith, from_length (from + 1) n)

removals_length : (from to : ℕ) (live_htlcs : List Add) → AreBetween from to live_htlcs
    → length (all_removals from to live_htlcs) + length live_htlcs + from ≡ to
removals_length from to [] b = omega (arith, from_length from (to - from), b)
removals_length from to (a ∷ live_htlcs) b = omega (
  arith,
  length-append (removals_from from (a.id - from)) (all_removals (a.id + 1) to live_htlcs),
  from_length from (a.id - from),
  removals_length (a.id + 1) to live_htlcs b.2,
  b.0,
)

fees_length : (rate n : ℕ) → length (fees_to rate n) ≡ n
fees_length rate zero = refl
fees_length rate (suc n) = omega (arith, fees_length rate n)

fees_rate : (rate first n : ℕ) → (n ≡ 0 → rate ≡ first) → last_feerate first (fees_to rate n) ≡ rate
fees_rate rate first zero h = sym (h refl)
fees_rate rate first (suc n) h = fees_rate rate rate n (λ e. refl)

-- ---- the updates of a side

-- the id of the next HTLC, what a removed one amounts to, live HTLCs, changes of the fee, the other side's next id and
-- its live HTLCs
module _ (n g : ℕ) (live_htlcs : List Add) (rate fees m : ℕ) (others : List Add) where
  rest_offers : Each OffersNone (fees_to rate fees ++ all_removals 0 m others)
  rest_offers = each-append OffersNone (fees_to rate fees) (all_removals 0 m others)
      (fees_each OffersNone rate fees (λ f. refl)) (removals_each OffersNone 0 m others (λ f. refl))

  pub ids_are : AreBetween 0 n live_htlcs → next_id (updates_to n g live_htlcs rate fees m others) ≡ n
  ids_are b = omega (
    arith,
    next-append (all_adds 0 n g live_htlcs) (fees_to rate fees ++ all_removals 0 m others),
    adds_ids 0 n g live_htlcs b,
    no_ids (fees_to rate fees ++ all_removals 0 m others) rest_offers,
  )

  pub are_numbered : AreBetween 0 n live_htlcs → AreNumbered 0 (updates_to n g live_htlcs rate fees m others)
  are_numbered b =
      numbered-append 0 (all_adds 0 n g live_htlcs) (fees_to rate fees ++ all_removals 0 m others)
      (adds_numbered 0 n g live_htlcs b)
      (none_numbered (0 + next_id (all_adds 0 n g live_htlcs)) (fees_to rate fees
      ++ all_removals 0 m others) rest_offers)

  pub are_within : (most : ℕ) → g ≤ most → in_flight live_htlcs ≤ most
      → AreWithin most (updates_to n g live_htlcs rate fees m others)
  are_within most le h =
      within-append most (all_adds 0 n g live_htlcs) (fees_to rate fees ++ all_removals 0 m others)
      (adds_within most 0 n g live_htlcs le h)
      (none_within most (fees_to rate fees ++ all_removals 0 m others) rest_offers)

  pub length_is : AreBetween 0 n live_htlcs → AreBetween 0 m others
      → length (updates_to n g live_htlcs rate fees m others) ≡ n + gone m others + fees
  length_is b c = omega (
    arith,
    length-append (all_adds 0 n g live_htlcs) (fees_to rate fees ++ all_removals 0 m others),
    length-append (fees_to rate fees) (all_removals 0 m others),
    adds_length 0 n g live_htlcs b,
    fees_length rate fees,
    removals_length 0 m others c,
  )

  pub rate_is : (first : ℕ) → (fees ≡ 0 → rate ≡ first)
      → last_feerate first (updates_to n g live_htlcs rate fees m others) ≡ rate
  rate_is first h = rate_behind first (all_adds 0 n g live_htlcs) (fees_to rate fees ++ all_removals 0 m others)
      ∙ ap (λ r. last_feerate r (fees_to rate fees ++ all_removals 0 m others))
      (same_rate first (all_adds 0 n g live_htlcs) (adds_each KeepsRate 0 n g live_htlcs (λ a r. refl)))
      ∙ rate_behind first (fees_to rate fees) (all_removals 0 m others)
      ∙ same_rate (last_feerate first (fees_to rate fees)) (all_removals 0 m others)
      (removals_each KeepsRate 0 m others (λ f r. refl)) ∙ fees_rate rate first fees h

  adds_remove : Each RemovesNone (all_adds 0 n g live_htlcs)
  adds_remove = adds_each RemovesNone 0 n g live_htlcs (λ a. refl)

  fees_remove : Each RemovesNone (fees_to rate fees)
  fees_remove = fees_each RemovesNone rate fees (λ f. refl)

  pub outcome_is : (id : ℕ)
      → outcome id (updates_to n g live_htlcs rate fees m others) ≡ outcome id (all_removals 0 m others)
  outcome_is id =
      outcome_behind id (all_adds 0 n g live_htlcs) (fees_to rate fees ++ all_removals 0 m others)
      (no_outcome id (all_adds 0 n g live_htlcs) adds_remove)
      ∙ outcome_behind id (fees_to rate fees) (all_removals 0 m others) (no_outcome id (fees_to rate fees) fees_remove)

  pub are_removals : (adds : List Update) → AreBetween 0 m others → AreFound adds 0 m
      → AreRemovals adds [] (updates_to n g live_htlcs rate fees m others)
  are_removals adds b found =
      removals-append adds [] (all_adds 0 n g live_htlcs) (fees_to rate fees ++ all_removals 0 m others)
      (none_removed adds [] (all_adds 0 n g live_htlcs) adds_remove)
      (removals-append adds (all_adds 0 n g live_htlcs) (fees_to rate fees) (all_removals 0 m others)
      (none_removed adds (all_adds 0 n g live_htlcs) (fees_to rate fees) fees_remove)
      (all_remove adds (all_adds 0 n g live_htlcs ++ fees_to rate fees) 0 m others b found
      (λ id le. outcome_behind id (all_adds 0 n g live_htlcs) (fees_to rate fees)
      (no_outcome id (all_adds 0 n g live_htlcs) adds_remove) ∙ no_outcome id (fees_to rate fees) fees_remove)))

  pub live_htlcs_are : (r : List Update) → AreTold r 0 n live_htlcs
      → live_adds (updates_to n g live_htlcs rate fees m others) r ≡ live_htlcs
  live_htlcs_are r h =
      live-append (all_adds 0 n g live_htlcs) (fees_to rate fees ++ all_removals 0 m others) r
      ∙ ap (λ x. live_adds (all_adds 0 n g live_htlcs) r ++ x)
      (no_live_htlcs (fees_to rate fees ++ all_removals 0 m others) r rest_offers)
      ∙ append-nil (live_adds (all_adds 0 n g live_htlcs) r) ∙ adds_live 0 n g live_htlcs r h

  pub none_failed : (r : List Update) → AreTold r 0 n live_htlcs
      → tally amount is_failed (updates_to n g live_htlcs rate fees m others) r ≡ 0
  none_failed r h = omega (
    arith,
    tally-append amount is_failed (all_adds 0 n g live_htlcs) (fees_to rate fees ++ all_removals 0 m others) r,
    no_tally is_failed (fees_to rate fees ++ all_removals 0 m others) r rest_offers,
    adds_failed 0 n g live_htlcs r h,
  )

  pub paid_is : (r : List Update) → AreBetween 0 n live_htlcs → AreTold r 0 n live_htlcs → (1 ≤ g
      → 1 ≤ gone n live_htlcs)
      → tally amount is_fulfilled (updates_to n g live_htlcs rate fees m others) r ≡ g
  paid_is r b h some = omega (
    arith,
    tally-append amount is_fulfilled (all_adds 0 n g live_htlcs) (fees_to rate fees ++ all_removals 0 m others) r,
    no_tally is_fulfilled (fees_to rate fees ++ all_removals 0 m others) r rest_offers,
    adds_paid 0 n g live_htlcs r b h,
    left_at (n - 0 - length live_htlcs) (gone n live_htlcs) g (omega arith),
    carried (gone n live_htlcs) g some,
  )
