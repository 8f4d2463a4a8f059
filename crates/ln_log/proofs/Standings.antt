-- A standing moves as the lists do.
use Rattle.std.proofs.Common.{◌≡◌, ℕ, ◌+◌, ◌≤◌, ◌<◌, ◌^◌, List, [], ◌∷◌, ◌++◌, refl, sym, ap, ◌∙◌, subst, arith, Bool}
use Rattle.std.proofs.Common.{true, false, cond, Option, Some, None, append_assoc, append-nil}
use Rattle.ln_log.specs.declared.standing.Standing.{Standing}
use Rattle.ln_log.specs.declared.update.Add.{Add}
use Rattle.ln_log.specs.declared.update.Removal.{Removal}
use Rattle.ln_log.specs.declared.update.Update.{Update}
use Rattle.ln_log.specs.declared.update.Update.TheVariants as update
use Rattle.ln_log.specs.declared.outcome.Outcome.{Outcome}
use Rattle.ln_log.specs.declared.outcome.Outcome.TheVariants.{Live, Fulfilled, Failed}
use Rattle.ln_log.specs.Updates.{offered, removed, is_some, next_id, add_with, outcome, is_live, is_fulfilled}
use Rattle.ln_log.specs.Updates.{is_failed, is_any, total}
use Rattle.ln_log.specs.View.{balance, Pays}
use Rattle.ln_log.specs.Limits.{standing_of}
use Rattle.ln_log.specs.Standing.{with_add, paid_by, with_own, without, with_peer, with_all, WithoutFits, FoundFits}
use Rattle.ln_log.specs.Standing.{PeerFits, AllFit}
use Rattle.ln_log.specs.Log.{number_after, HasId, AreNumbered, RemovesLive, AreRemovals}
use Rattle.ln_log.proofs.Removing.{next-push}
use Rattle.ln_log.proofs.Tallies.{amount, one, weight, tally, total_is, live_is, tally-push, tally-none, tally-hit}
use Rattle.ln_log.proofs.Totals.{balance_more, pays_more}

pub standing_is : (s t : Standing) → s.next_id ≡ t.next_id → s.live ≡ t.live → s.in_flight ≡ t.in_flight
    → s.balance ≡ t.balance → s ≡ t
standing_is s t en el ef eb =
    ap (λ n. record { next_id = n; live = s.live; in_flight = s.in_flight; balance = s.balance }) en
    ∙ ap (λ n. record { next_id = t.next_id; live = n; in_flight = s.in_flight; balance = s.balance }) el
    ∙ ap (λ n. record { next_id = t.next_id; live = t.live; in_flight = n; balance = s.balance }) ef
    ∙ ap (λ n. record { next_id = t.next_id; live = t.live; in_flight = t.in_flight; balance = n }) eb

pub found_some : (o : Option Add) → is_some o ≡ true → (a : Add) × (o ≡ Some a)
found_some None e = absurd (cc)
found_some (Some a) e = (a, refl)

-- ---- a side proposes an add

weight_live : (w : Add → ℕ) (test : Outcome → Bool) (r : List Update) (a : Add) → outcome a.id r ≡ Live
    → weight w test r (Some a) ≡ cond (test Live) (w a) 0
weight_live w test r a e = ap (λ o. cond (test o) (w a) 0) e

-- by a further update of its own a side spends n and gets k
record Shifts (own seen : List Update) (u : Update) (n k : ℕ) : Type 0 where
  spent : total is_any (own ++ u ∷ []) seen ≡ total is_any own seen + n
  failed : total is_failed (own ++ u ∷ []) seen ≡ total is_failed own seen
  got : total is_fulfilled seen (own ++ u ∷ []) ≡ total is_fulfilled seen own + k

pushed : (test : Outcome → Bool) (own seen : List Update) (u : Update)
    → total test (own ++ u ∷ []) seen ≡ total test own seen + weight amount test seen (offered u)
pushed test own seen u = omega (
  arith,
  total_is test (own ++ u ∷ []) seen,
  total_is test own seen,
  tally-push amount test own u seen,
)

add_shifts : (own seen : List Update) (a : Add) → outcome a.id seen ≡ Live
    → Shifts own seen (update.Add a) a.amount 0
add_shifts own seen a live =
    let u : Update = update.Add a in
    record {
      spent = omega (arith, pushed is_any own seen u, weight_live amount is_any seen a live);
      failed = omega (arith, pushed is_failed own seen u, weight_live amount is_failed seen a live);
      got = omega (
        arith,
        total_is is_fulfilled seen (own ++ u ∷ []),
        total_is is_fulfilled seen own,
        tally-none amount is_fulfilled seen own u refl,
      );
    }

pub add_moves : (first : ℕ) (own seen : List Update) (a : Add) → outcome a.id seen ≡ Live
    → standing_of first (own ++ update.Add a ∷ []) seen ≡ with_add (standing_of first own seen) a
add_moves first own seen a live =
    let u : Update = update.Add a in
    let s = add_shifts own seen a live in
    standing_is _ _
    (next-push own u ∙ omega arith)
    (omega (
      arith,
      live_is (own ++ u ∷ []) seen,
      live_is own seen,
      tally-push one is_live own u seen,
      weight_live one is_live seen a live,
    ))
    (omega (arith, pushed is_live own seen u, weight_live amount is_live seen a live))
    (omega (arith, s.spent, s.failed, s.got))

pub add_pays : (first : ℕ) (own seen : List Update) (a : Add) → outcome a.id seen ≡ Live
    → a.amount ≤ balance first own seen → Pays first own seen → Pays first (own ++ update.Add a ∷ []) seen
add_pays first own seen a live le h =
    let s = add_shifts own seen a live in
    omega (arith, le, h, s.spent, s.failed, s.got)

-- ---- a side proposes another update, by which it gets k

nothing : (w : Add → ℕ) (test : Outcome → Bool) (r : List Update) (o : Option Add) → o ≡ None → weight w test r o ≡ 0
nothing w test r o e = ap (weight w test r) e

other_shifts : (own seen : List Update) (u : Update) (k : ℕ) → offered u ≡ None
    → tally amount is_fulfilled seen (own ++ u ∷ []) ≡ tally amount is_fulfilled seen own + k → Shifts own seen u 0 k
other_shifts own seen u k none got = record {
  spent = omega (arith, pushed is_any own seen u, nothing amount is_any seen (offered u) none);
  failed = omega (arith, pushed is_failed own seen u, nothing amount is_failed seen (offered u) none);
  got = omega (arith, got, total_is is_fulfilled seen (own ++ u ∷ []), total_is is_fulfilled seen own);
}

pub other_moves : (first : ℕ) (own seen : List Update) (u : Update) (k : ℕ) → offered u ≡ None
    → tally amount is_fulfilled seen (own ++ u ∷ []) ≡ tally amount is_fulfilled seen own + k → Pays first own seen
    → standing_of first (own ++ u ∷ []) seen ≡ record (standing_of first own seen)
    { balance = balance first own seen + k }
other_moves first own seen u k none got h =
    let s = other_shifts own seen u k none got in
    standing_is _ _
    (next-push own u ∙ ap (number_after (next_id own)) none)
    (omega (
      arith,
      live_is (own ++ u ∷ []) seen,
      live_is own seen,
      tally-push one is_live own u seen,
      nothing one is_live seen (offered u) none,
    ))
    (omega (arith, pushed is_live own seen u, nothing amount is_live seen (offered u) none))
    (omega (arith, h, s.spent, s.failed, s.got))

pub other_pays : (first : ℕ) (own seen : List Update) (u : Update) (k : ℕ) → offered u ≡ None
    → tally amount is_fulfilled seen (own ++ u ∷ []) ≡ tally amount is_fulfilled seen own + k → Pays first own seen
    → Pays first (own ++ u ∷ []) seen
other_pays first own seen u k none got h =
    let s = other_shifts own seen u k none got in
    omega (arith, h, s.spent, s.failed, s.got)

-- what a removal pays its side
abbrev pub gain : Outcome → Add → ℕ
gain o a = cond (is_fulfilled o) a.amount 0

pub removal_gains : (own seen : List Update) (u : Update) (x : Removal) (a : Add) → AreNumbered 0 seen
    → removed u ≡ Some x → add_with x.id seen ≡ Some a → outcome x.id own ≡ Live
    → tally amount is_fulfilled seen (own ++ u ∷ []) ≡ tally amount is_fulfilled seen own + gain x.outcome a
removal_gains own seen u x a ids e found live =
    omega (arith, tally-hit amount is_fulfilled 0 seen own u x a ids e found live)

pub fee_gains : (own seen : List Update) (u : Update) → removed u ≡ None
    → tally amount is_fulfilled seen (own ++ u ∷ []) ≡ tally amount is_fulfilled seen own + 0
fee_gains own seen u e = omega (arith, tally-none amount is_fulfilled seen own u e)

-- ---- a commitment covers an update of the other side's

-- one that removes nothing, and whose HTLC isn't fulfilled yet
pub kept_by_peer : (first : ℕ) (own peer : List Update) (u : Update) → removed u ≡ None
    → weight amount is_fulfilled own (offered u) ≡ 0
    → standing_of first own (peer ++ u ∷ []) ≡ standing_of first own peer
kept_by_peer first own peer u none new =
    let same = λ (w : Add → ℕ) (test : Outcome → Bool). tally-none w test own peer u none in
    standing_is _ _ refl
    (omega (arith, live_is own (peer ++ u ∷ []), live_is own peer, same one is_live))
    (omega (arith, total_is is_live own (peer ++ u ∷ []), total_is is_live own peer, same amount is_live))
    (omega (
      arith,
      total_is is_failed own (peer ++ u ∷ []),
      total_is is_failed own peer,
      same amount is_failed,
      total_is is_any own (peer ++ u ∷ []),
      total_is is_any own peer,
      same amount is_any,
      total_is is_fulfilled (peer ++ u ∷ []) own,
      total_is is_fulfilled peer own,
      tally-push amount is_fulfilled peer u own,
      new,
    ))

-- one that removes a live HTLC
pub removed_by_peer : (first : ℕ) (own peer : List Update) (u : Update) (x : Removal) (a : Add) → AreNumbered 0 own
    → removed u ≡ Some x → is_live x.outcome ≡ false → offered u ≡ None → add_with x.id own ≡ Some a
    → outcome x.id peer ≡ Live → Pays first own peer
    → standing_of first own (peer ++ u ∷ []) ≡ without (standing_of first own peer) x.outcome (Some a)
removed_by_peer first own peer u x a ids e gone none found live h =
    let hit = λ (w : Add → ℕ) (test : Outcome → Bool). tally-hit w test 0 own peer u x a ids e found live in
    let dead = λ (n : ℕ). ap (λ b. cond b n 0) gone in
    let got : tally amount is_fulfilled (peer ++ u ∷ []) own ≡ tally amount is_fulfilled peer own =
    tally-push amount is_fulfilled peer u own ∙ ap (λ n. tally amount is_fulfilled peer own + n)
    (nothing amount is_fulfilled own (offered u) none) ∙ omega arith in
    standing_is _ _ refl
    (omega (arith, live_is own (peer ++ u ∷ []), live_is own peer, hit one is_live, dead 1))
    (omega (arith, total_is is_live own (peer ++ u ∷ []), total_is is_live own peer, hit amount is_live, dead a.amount))
    (omega (
      arith,
      h,
      got,
      total_is is_failed own (peer ++ u ∷ []),
      total_is is_failed own peer,
      hit amount is_failed,
      total_is is_any own (peer ++ u ∷ []),
      total_is is_any own peer,
      hit amount is_any,
      total_is is_fulfilled (peer ++ u ∷ []) own,
      total_is is_fulfilled peer own,
    ))

pub removed_fits : (first : ℕ) (own peer : List Update) (u : Update) (x : Removal) (a : Add) → AreNumbered 0 own
    → removed u ≡ Some x → is_live x.outcome ≡ false → offered u ≡ None → add_with x.id own ≡ Some a
    → outcome x.id peer ≡ Live → Pays first own peer
    → balance first own (peer ++ u ∷ []) < 2 ^ 64 → WithoutFits (standing_of first own peer) x.outcome a
removed_fits first own peer u x a ids e gone none found live h bound =
    let hit = λ (w : Add → ℕ) (test : Outcome → Bool). tally-hit w test 0 own peer u x a ids e found live in
    let dead = λ (n : ℕ). ap (λ b. cond b n 0) gone in
    let moved = ap (λ (s : Standing). s.balance) (removed_by_peer first own peer u x a ids e gone none found live h) in
    record {
      live = omega (arith, live_is own peer, hit one is_live, dead 1);
      in_flight = omega (arith, total_is is_live own peer, hit amount is_live, dead a.amount);
      balance = omega (arith, moved, bound);
    }

-- ---- each kind of update of a side

-- what a further update of a side needs, after own and with seen of the other side's
abbrev pub MayAdd : ℕ → List Update → List Update → Update → Type 0
MayAdd first own seen (update.Add a) = (outcome a.id seen ≡ Live) × (a.amount ≤ balance first own seen)
MayAdd first own seen (update.Fulfil f) = Unit {0}
MayAdd first own seen (update.Fail f) = Unit {0}
MayAdd first own seen (update.Malformed m) = Unit {0}
MayAdd first own seen (update.Fee f) = Unit {0}

-- nothing is gained
still : (s : Standing) → record s { balance = s.balance + 0 } ≡ s
still s = standing_is _ _ refl refl refl (omega arith)

fulfilled_by : (first : ℕ) (own seen : List Update) (id : ℕ) (u : Update) (x : Removal) → AreNumbered 0 seen
    → offered u ≡ None → removed u ≡ Some x → x.outcome ≡ Fulfilled
    → RemovesLive seen own (Some x) → Pays first own seen
    → standing_of first (own ++ u ∷ []) seen ≡ paid_by (standing_of first own seen) (add_with x.id seen)
fulfilled_by first own seen id u x ids none e how h pays =
    let a = found_some (add_with x.id seen) h.0 in
    let gains = removal_gains own seen u x a.0 ids e a.1 h.1 in
    let is : gain x.outcome a.0 ≡ a.0.amount = ap (λ o. gain o a.0) how in
    other_moves first own seen u (gain x.outcome a.0) none gains pays
    ∙ ap (λ n. record (standing_of first own seen) { balance = balance first own seen + n }) is
    ∙ ap (paid_by (standing_of first own seen)) (sym a.1)

failed_by : (first : ℕ) (own seen : List Update) (u : Update) (x : Removal) → AreNumbered 0 seen → offered u ≡ None
    → removed u ≡ Some x → x.outcome ≡ Failed → RemovesLive seen own (Some x) → Pays first own seen
    → standing_of first (own ++ u ∷ []) seen ≡ standing_of first own seen
failed_by first own seen u x ids none e how h pays =
    let a = found_some (add_with x.id seen) h.0 in
    let gains = removal_gains own seen u x a.0 ids e a.1 h.1 in
    let is : gain x.outcome a.0 ≡ 0 = ap (λ o. gain o a.0) how in
    other_moves first own seen u (gain x.outcome a.0) none gains pays
    ∙ ap (λ n. record (standing_of first own seen) { balance = balance first own seen + n }) is
    ∙ still (standing_of first own seen)

pub own_moves : (first : ℕ) (own seen : List Update) (u : Update) → AreNumbered 0 seen
    → RemovesLive seen own (removed u) → MayAdd first own seen u → Pays first own seen
    → standing_of first (own ++ u ∷ []) seen ≡ with_own (standing_of first own seen) seen u
own_moves first own seen (update.Add a) ids h may pays = add_moves first own seen a may.0
own_moves first own seen (update.Fulfil f) ids h may pays =
    fulfilled_by first own seen f.id (update.Fulfil f) (record { id = f.id; outcome = Fulfilled })
    ids refl refl refl h pays
own_moves first own seen (update.Fail f) ids h may pays =
    failed_by first own seen (update.Fail f) (record { id = f.id; outcome = Failed }) ids refl refl refl h pays
own_moves first own seen (update.Malformed m) ids h may pays =
    failed_by first own seen (update.Malformed m) (record { id = m.id; outcome = Failed }) ids refl refl refl h pays
own_moves first own seen (update.Fee f) ids h may pays =
    other_moves first own seen (update.Fee f) 0 refl (fee_gains own seen (update.Fee f) refl) pays
    ∙ still (standing_of first own seen)

removal_pays : (first : ℕ) (own seen : List Update) (u : Update) (x : Removal) → AreNumbered 0 seen → offered u ≡ None
    → removed u ≡ Some x → RemovesLive seen own (Some x) → Pays first own seen → Pays first (own ++ u ∷ []) seen
removal_pays first own seen u x ids none e h pays =
    let a = found_some (add_with x.id seen) h.0 in
    other_pays first own seen u (gain x.outcome a.0) none (removal_gains own seen u x a.0 ids e a.1 h.1) pays

pub own_pays : (first : ℕ) (own seen : List Update) (u : Update) → AreNumbered 0 seen → RemovesLive seen own (removed u)
    → MayAdd first own seen u → Pays first own seen → Pays first (own ++ u ∷ []) seen
own_pays first own seen (update.Add a) ids h may pays = add_pays first own seen a may.0 may.1 pays
own_pays first own seen (update.Fulfil f) ids h may pays =
    removal_pays first own seen (update.Fulfil f) (record { id = f.id; outcome = Fulfilled }) ids refl refl h pays
own_pays first own seen (update.Fail f) ids h may pays =
    removal_pays first own seen (update.Fail f) (record { id = f.id; outcome = Failed }) ids refl refl h pays
own_pays first own seen (update.Malformed m) ids h may pays =
    removal_pays first own seen (update.Malformed m) (record { id = m.id; outcome = Failed }) ids refl refl h pays
own_pays first own seen (update.Fee f) ids h may pays =
    other_pays first own seen (update.Fee f) 0 refl (fee_gains own seen (update.Fee f) refl) pays

-- ---- each kind of update of the other side

-- what it asks of the lists after which it is covered
pub record Covers (first : ℕ) (own adds peer : List Update) : Type 0 where
  pub ids : AreNumbered 0 own
  pub found : (i : ℕ) → is_some (add_with i adds) ≡ true → add_with i own ≡ add_with i adds
  pub pays : Pays first own peer

new_weight : (own : List Update) (n : ℕ) (o : Option Add) → HasId n o → ((i : ℕ) → n ≤ i → outcome i own ≡ Live)
    → weight amount is_fulfilled own o ≡ 0
new_weight own n None id new = refl
new_weight own n (Some a) id new = ap (λ x. cond (is_fulfilled x) a.amount 0) (new a.id (omega (arith, id)))

step_removed : (first : ℕ) (own adds peer : List Update) (u : Update) (x : Removal) → Covers first own adds peer
    → offered u ≡ None → removed u ≡ Some x → is_live x.outcome ≡ false → RemovesLive adds peer (Some x)
    → balance first own (peer ++ u ∷ []) < 2 ^ 64
    → FoundFits (standing_of first own peer) x.outcome (add_with x.id adds)
    × (without (standing_of first own peer) x.outcome (add_with x.id adds) ≡ standing_of first own (peer ++ u ∷ []))
step_removed first own adds peer u x c none e gone h bound =
    let a = found_some (add_with x.id adds) h.0 in
    let found : add_with x.id own ≡ Some a.0 = c.found x.id h.0 ∙ a.1 in (
      subst (FoundFits (standing_of first own peer) x.outcome) (sym a.1)
          (removed_fits first own peer u x a.0 c.ids e gone none found h.1 c.pays bound),
      ap (without (standing_of first own peer) x.outcome) a.1
          ∙ sym (removed_by_peer first own peer u x a.0 c.ids e gone none found h.1 c.pays),
    )

pub peer_step : (first : ℕ) (own adds peer : List Update) (n : ℕ) (u : Update) → Covers first own adds peer
    → HasId n (offered u) → ((i : ℕ) → n ≤ i → outcome i own ≡ Live) → RemovesLive adds peer (removed u)
    → balance first own (peer ++ u ∷ []) < 2 ^ 64
    → PeerFits (standing_of first own peer) adds u
    × (with_peer (standing_of first own peer) adds u ≡ standing_of first own (peer ++ u ∷ []))
peer_step first own adds peer n (update.Add a) c id new h bound =
    (tt, sym (kept_by_peer first own peer (update.Add a) refl (new_weight own n (Some a) id new)))
peer_step first own adds peer n (update.Fulfil f) c id new h bound =
    step_removed first own adds peer (update.Fulfil f) (record { id = f.id; outcome = Fulfilled })
    c refl refl refl h bound
peer_step first own adds peer n (update.Fail f) c id new h bound =
    step_removed first own adds peer (update.Fail f) (record { id = f.id; outcome = Failed }) c refl refl refl h bound
peer_step first own adds peer n (update.Malformed m) c id new h bound =
    step_removed first own adds peer (update.Malformed m) (record { id = m.id; outcome = Failed })
    c refl refl refl h bound
peer_step first own adds peer n (update.Fee f) c id new h bound =
    (tt, sym (kept_by_peer first own peer (update.Fee f) refl refl))

up_to : (n : ℕ) (o : Option Add) → n ≤ number_after n o
up_to n None = omega arith
up_to n (Some a) = omega arith

-- and several of them
pub all_step : (first : ℕ) (own adds peer : List Update) (n : ℕ) (us : List Update) → Covers first own adds peer
    → AreNumbered n us → ((i : ℕ) → n ≤ i → outcome i own ≡ Live) → AreRemovals adds peer us
    → balance first own (peer ++ us) < 2 ^ 64
    → AllFit (standing_of first own peer) adds us
    × (with_all (standing_of first own peer) adds us ≡ standing_of first own (peer ++ us))
all_step first own adds peer n [] c ids new h bound = (tt, ap (standing_of first own) (sym (append-nil peer)))
all_step first own adds peer n (u ∷ us) c ids new h bound =
    let lists : (peer ++ u ∷ []) ++ us ≡ peer ++ u ∷ us = append_assoc peer (u ∷ []) us in
    let bound_all : balance first own ((peer ++ u ∷ []) ++ us) < 2 ^ 64 =
    subst (λ p. balance first own p < 2 ^ 64) (sym lists) bound in
    let bound_one : balance first own (peer ++ u ∷ []) < 2 ^ 64 =
    omega (arith, bound_all, balance_more first own (peer ++ u ∷ []) us) in
    let one_step = peer_step first own adds peer n u c ids.0 new h.0 bound_one in
    let rest = all_step first own adds (peer ++ u ∷ []) (number_after n (offered u)) us
    (record { ids = c.ids; found = c.found; pays = pays_more first own peer (u ∷ []) c.pays }) ids.1
    (λ i le. new i (omega (arith, le, up_to n (offered u)))) h.1 bound_all in (
      (one_step.0, subst (λ s. AllFit s adds us) (sym one_step.1) rest.0),
      ap (λ s. with_all s adds us) one_step.1 ∙ rest.1 ∙ ap (standing_of first own) lists,
    )
