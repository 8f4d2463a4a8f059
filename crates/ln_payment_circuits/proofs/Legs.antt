-- What a book reads off one end, of an HTLC that came in.
use Rattle.std.proofs.Common.{◌≡◌, ◌⊎◌, inl, inr, ℕ, ◌+◌, List, [], ◌∷◌, ◌++◌, take, drop, map}
use Rattle.std.proofs.Common.{filter, refl, sym, ap, ◌∙◌, subst, arith, Bool, true, false, cond, ◌==◌, ◌||◌}
use Rattle.std.proofs.Common.{Option, Some, None}
use Rattle.std.specs.List.{cons_option, find}
use Rattle.std.proofs.lemmas.Bool.{eqb-true, eq-eqb}
use Rattle.std.proofs.lemmas.Bool.Decides.{eqb_tells}
use Rattle.std.proofs.lemmas.List.{take-append-drop, take_rest}
use Rattle.ln_log.specs.declared.log.Side.TheVariants as side
use Rattle.ln_log.specs.declared.mark.Settlement.{Settlement}
use Rattle.ln_log.specs.declared.outcome.Outcome.{Outcome}
use Rattle.ln_log.specs.declared.outcome.Outcome.TheVariants.{Live, Fulfilled, Failed}
use Rattle.ln_log.specs.declared.update.Add.{Add}
use Rattle.ln_log.specs.declared.update.Removal.{Removal as Removing}
use Rattle.ln_log.specs.declared.update.Update.{Update}
use Rattle.ln_log.specs.declared.update.Update.TheVariants as update
use Rattle.ln_log.specs.Updates.{offered, removed, is_some, add_with, found_or, outcome, is_live}
use Rattle.ln_log.specs.View.{live_of, live_adds}
use Rattle.ln_log.specs.Window.{live_htlcs, first_live_htlcs}
use Rattle.ln_log.specs.Log.{Log, AreNumbered, HasId, number_after}
use Rattle.ln_log.proofs.Removing.{add_with-append, or_else, below}
use Rattle.ln_log.proofs.Behind.{found}
use Rattle.ln_hooks.specs.declared.event.How.{How}
use Rattle.ln_hooks.specs.declared.event.How.TheVariants as how
use Rattle.ln_book_tables.specs.declared.htlc.Key.{Key}
use Rattle.ln_book_tables.specs.declared.htlc.OutgoingLeg.TheVariants as outgoing
use Rattle.ln_book.specs.declared.recovery.leg.Leg.{Leg}
use Rattle.ln_book_tables.specs.Replay.{same_key}
use Rattle.ln_book.specs.Kept.{own_window, own_updates}
use Rattle.ln_book.specs.Rebuild.{key_at, key_of, leg_from, leg_of, legs_offered, how_of, leg_resolved}
use Rattle.ln_book.specs.Rebuild.{legs_resolved}
use Rattle.ln_book.specs.Rebuild.{peer_window, peer_updates}
use Rattle.ln_book.specs.Rebuild.{is_for}
use Rattle.ln_payment.specs.Parts.{By, Stage}
use Rattle.ln_payment_circuits.specs.Circuit.{Forwards}
use Rattle.ln_payment_circuits.specs.Snapshot.{IsIn, All}
use Rattle.ln_payment_circuits.proofs.Parts.{HasAdd, has_result, removal_by}
use Rattle.ln_payment_circuits.proofs.Results.{IsTrue, AreOnce}
use Rattle.ln_payment_circuits.proofs.Entries.{key_is, is_key, kind_of}
use Rattle.ln_payment_circuits.proofs.Lists.{among_more}

-- ---- an add that stands in a list is found by its id

pub among_found : (n : ℕ) (us : List Update) (u : Update) (a : Add) → AreNumbered n us → IsIn u us
    → offered u ≡ Some a → add_with a.id us ≡ Some a
among_found n [] u a h k e = absurd k
among_found n (v ∷ us) u a h (inl is) e =
    ap (λ o. found_or a.id o (add_with a.id us)) (ap offered is ∙ e)
    ∙ ap (λ b. cond b (Some a) (add_with a.id us)) (eq-eqb a.id a.id refl)
among_found n (v ∷ us) u a h (inr k) e = cases (offered v) h.0
    (among_found (number_after n (offered v)) us u a h.1 k e) h.1
  where
    cases : (o : Option Add) → HasId n o → add_with a.id us ≡ Some a → AreNumbered (number_after n o) us
        → found_or a.id o (add_with a.id us) ≡ Some a
    cases None i rest ids = rest
    cases (Some b) i rest ids = elim (eqb_tells b.id a.id) [
      | inl g ↦ absurd (let low = below (n + 1) a.id us ids (let same = g.1 in omega (arith, same, i)) in
          let nothing : None ≡ Some a = sym low ∙ rest in cc)
      | inr g ↦ ap (λ t. cond t (Some b) (add_with a.id us)) g.0 ∙ rest
    ]

-- those that are live stand in the list
live_stands : (us p : List Update) (u : Update) (a : Add) → IsIn u (live_htlcs us p) → offered u ≡ Some a
    → (v : Update) × IsIn v us × (offered v ≡ Some a)
live_stands [] p u a k e = absurd k
live_stands (w ∷ us) p u a k e = cases (offered w) refl k (λ r. live_stands us p u a r e)
  where
    later : (v : Update) × IsIn v us × (offered v ≡ Some a) → (v : Update) × IsIn v (w ∷ us) × (offered v ≡ Some a)
    later r = (r.0, inr r.1, r.2)

    here : (b : Add) → offered w ≡ Some b → (t : Bool)
        → IsIn u (map (λ x. update.Add x) (cons_option (cond t (Some b) None) (live_adds us p)))
        → (IsIn u (live_htlcs us p) → (v : Update) × IsIn v us × (offered v ≡ Some a))
        → (v : Update) × IsIn v (w ∷ us) × (offered v ≡ Some a)
    here b is true (inl same) rest = (w, inl refl, is ∙ ap offered same ∙ e)
    here b is true (inr r) rest = later (rest r)
    here b is false r rest = later (rest r)

    cases : (o : Option Add) → offered w ≡ o → IsIn u (map (λ x. update.Add x)
        (cons_option (live_of o p) (live_adds us p)))
        → (IsIn u (live_htlcs us p) → (v : Update) × IsIn v us × (offered v ≡ Some a))
        → (v : Update) × IsIn v (w ∷ us) × (offered v ≡ Some a)
    cases None is r rest = later (rest r)
    cases (Some b) is r rest = here b is (is_live (outcome b.id p)) r rest

among_append : (u : Update) (us vs : List Update) → IsIn u (us ++ vs) → IsIn u us ⊎ IsIn u vs
among_append u [] vs k = inr k
among_append u (w ∷ us) vs (inl e) = inl (inl e)
among_append u (w ∷ us) vs (inr k) = elim (among_append u us vs k) [ inl r ↦ inl (inr r) | inr r ↦ inr r ]

among_left : (u : Update) (us vs : List Update) → IsIn u us → IsIn u (us ++ vs)
among_left u [] vs k = absurd k
among_left u (w ∷ us) vs (inl e) = inl e
among_left u (w ∷ us) vs (inr k) = inr (among_left u us vs k)

-- ---- the own adds that an end has

window_is : (l : Log) → own_window l ≡ drop l.first.own l.own
window_is l = take_rest l.own l.first.own

-- each is found in the whole list
pub own_stands : (l : Log) (u : Update) (a : Add) → AreNumbered 0 l.own → IsIn u (own_updates l) → offered u ≡ Some a
    → add_with a.id l.own ≡ Some a
own_stands l u a ids k e = elim (among_append u (first_live_htlcs side.Own l) (own_window l) k) [
  | inl r ↦ let v = live_stands (take l.first.own l.own) (take l.first.peer l.received) u a r e in
      among_found 0 l.own v.0 a ids
      (subst (IsIn v.0) (take-append-drop l.first.own l.own) (among_left v.0 (take l.first.own l.own)
      (drop l.first.own l.own) v.1))
      v.2
  | inr r ↦ among_found 0 l.own u a ids
      (subst (IsIn u) (take-append-drop l.first.own l.own)
      (among_more u (take l.first.own l.own) (drop l.first.own l.own) (subst (IsIn u) (window_is l) r))) e
]

-- one that isn't removed in the base is there
pub own_found : (l : Log) (i : ℕ) → outcome i (take l.first.peer l.received) ≡ Live
    → add_with i (own_updates l) ≡ add_with i l.own
own_found l i live =
    add_with-append i (first_live_htlcs side.Own l) (own_window l)
    ∙ ap (λ o. or_else o (add_with i (own_window l))) (found i (take l.first.own l.own) (take l.first.peer l.received)
    ∙ ap (λ o. cond (is_live o) (add_with i (take l.first.own l.own)) None) live)
    ∙ ap (λ us. or_else (add_with i (take l.first.own l.own)) (add_with i us)) (window_is l)
    ∙ sym (add_with-append i (take l.first.own l.own) (drop l.first.own l.own))
    ∙ ap (add_with i) (take-append-drop l.first.own l.own)

-- the same of the peer's
pub peer_found : (l : Log) (i : ℕ) → outcome i (take l.first.own l.own) ≡ Live
    → add_with i (peer_updates l) ≡ add_with i l.received
peer_found l i live =
    add_with-append i (first_live_htlcs side.Peer l) (peer_window l)
    ∙ ap (λ o. or_else o (add_with i (peer_window l))) (found i (take l.first.peer l.received) (take l.first.own l.own)
    ∙ ap (λ o. cond (is_live o) (add_with i (take l.first.peer l.received)) None) live)
    ∙ ap (λ us. or_else (add_with i (take l.first.peer l.received)) (add_with i us)) (take_rest l.received l.first.peer)
    ∙ sym (add_with-append i (take l.first.peer l.received) (drop l.first.peer l.received))
    ∙ ap (add_with i) (take-append-drop l.first.peer l.received)

-- ---- legs that forward an HTLC

-- of an add that an end has
pub record IsLegOf (ch : List ℕ) (o : List ℕ × ℕ) (us : List Update) (g : Leg) : Type 0 where
  pub update : Update
  pub add : Add
  pub stands : IsIn update us
  pub offers : offered update ≡ Some add
  pub from : add.origin ≡ Some o
  pub origin : g.origin ≡ key_of o
  pub outgoing : g.outgoing ≡ outgoing.Offered (key_at ch add.id)

pair_is : (o q : List ℕ × ℕ) → same_key (key_of o) (key_of q) ≡ true → q ≡ o
pair_is o q e =
    let is = key_is (key_of o) (key_of q) e in
    sym (ap (λ (k : Key). (k.channel, k.id)) is)

find_leg : (ch : List ℕ) (o : List ℕ × ℕ) (us : List Update) (g : Leg)
    → find (is_for (key_of o)) (legs_offered ch us) ≡ Some g → IsLegOf ch o us g
find_leg ch o [] g e = absurd (cc)
find_leg ch o (u ∷ us) g e = cases (offered u) refl e (λ r. find_leg ch o us g r)
  where
    later : IsLegOf ch o us g → IsLegOf ch o (u ∷ us) g
    later r = record {
      update = r.update;
      add = r.add;
      stands = inr r.stands;
      offers = r.offers;
      from = r.from;
      origin = r.origin;
      outgoing = r.outgoing;
    }

    here : (a : Add) (q : List ℕ × ℕ) → offered u ≡ Some a → a.origin ≡ Some q → (t : Bool)
        → same_key (key_of o) (key_of q) ≡ t
        → cond t (Some (record { origin = key_of q; outgoing = outgoing.Offered (key_at ch a.id) }))
        (find (is_for (key_of o)) (legs_offered ch us)) ≡ Some g
        → (find (is_for (key_of o)) (legs_offered ch us) ≡ Some g → IsLegOf ch o us g) → IsLegOf ch o (u ∷ us) g
    here a q is from true same e rest =
        let leg : ◌≡◌ {A = Leg} (record { origin = key_of q; outgoing = outgoing.Offered (key_at ch a.id) }) g = cc in
        record {
          update = u;
          add = a;
          stands = inl refl;
          offers = is;
          from = from ∙ ap Some (pair_is o q same);
          origin = sym (ap (λ (z : Leg). z.origin) leg) ∙ ap key_of (pair_is o q same);
          outgoing = sym (ap (λ (z : Leg). z.outgoing) leg);
        }
    here a q is from false same e rest = later (rest e)

    by_origin : (a : Add) → offered u ≡ Some a → (q : Option (List ℕ × ℕ)) → a.origin ≡ q
        → find (is_for (key_of o)) (cons_option (leg_from ch a.id q) (legs_offered ch us)) ≡ Some g
        → (find (is_for (key_of o)) (legs_offered ch us) ≡ Some g → IsLegOf ch o us g) → IsLegOf ch o (u ∷ us) g
    by_origin a is None from e rest = later (rest e)
    by_origin a is (Some q) from e rest = here a q is from (same_key (key_of o) (key_of q)) refl e rest

    cases : (w : Option Add) → offered u ≡ w
        → find (is_for (key_of o)) (cons_option (leg_of ch w) (legs_offered ch us)) ≡ Some g
        → (find (is_for (key_of o)) (legs_offered ch us) ≡ Some g → IsLegOf ch o us g) → IsLegOf ch o (u ∷ us) g
    cases None is e rest = later (rest e)
    cases (Some a) is e rest = by_origin a is a.origin refl e rest

-- so it is one of the end's
pub offered_leg : (ch : List ℕ) (o : List ℕ × ℕ) (l : Log) (g : Leg) → AreNumbered 0 l.own
    → find (is_for (key_of o)) (legs_offered ch (own_updates l)) ≡ Some g
    → (i : ℕ) × HasAdd o i l × (g.outgoing ≡ outgoing.Offered (key_at ch i))
offered_leg ch o l g ids e =
    let r = find_leg ch o (own_updates l) g e in (
      r.add.id,
      subst (Forwards o) (sym (own_stands l r.update r.add ids r.stands r.offers)) r.from,
      r.outgoing,
    )

-- and each of the end's that isn't removed in the base has one
found_leg : (ch : List ℕ) (o : List ℕ × ℕ) (i : ℕ) (us : List Update) → Forwards o (add_with i us)
    → is_some (find (is_for (key_of o)) (legs_offered ch us)) ≡ true
found_leg ch o i [] f = absurd f
found_leg ch o i (u ∷ us) f = cases (offered u) f (λ r. found_leg ch o i us r)
  where
    or_later : (q : Option (List ℕ × ℕ)) (n : ℕ) → is_some (find (is_for (key_of o)) (legs_offered ch us)) ≡ true
        → is_some (find (is_for (key_of o)) (cons_option (leg_from ch n q) (legs_offered ch us))) ≡ true
    or_later None n e = e
    or_later (Some q) n e = either (same_key (key_of o) (key_of q))
      where
        either : (t : Bool) → is_some (cond t (Some (record {
          origin = key_of q;
          outgoing = outgoing.Offered
              (key_at ch n);
        }))
            (find (is_for (key_of o)) (legs_offered ch us))) ≡ true
        either true = refl
        either false = e

    at_once : (q : Option (List ℕ × ℕ)) (n : ℕ) → q ≡ Some o
        → is_some (find (is_for (key_of o)) (cons_option (leg_from ch n q) (legs_offered ch us))) ≡ true
    at_once None n e = absurd (cc)
    at_once (Some q) n e =
        let same : q ≡ o = cc in
        ap (λ t. is_some (cond t (Some (record { origin = key_of q; outgoing = outgoing.Offered (key_at ch n) }))
        (find (is_for (key_of o)) (legs_offered ch us))))
        (ap (λ z. same_key (key_of o) (key_of z)) same ∙ is_key (key_of o))

    cases : (w : Option Add) → Forwards o (found_or i w (add_with i us))
        → (Forwards o (add_with i us) → is_some (find (is_for (key_of o)) (legs_offered ch us)) ≡ true)
        → is_some (find (is_for (key_of o)) (cons_option (leg_of ch w) (legs_offered ch us))) ≡ true
    cases None f rest = rest f
    cases (Some a) f rest = either (a.id == i) f
      where
        either : (t : Bool) → Forwards o (cond t (Some a) (add_with i us))
            → is_some (find (is_for (key_of o)) (cons_option (leg_from ch a.id a.origin) (legs_offered ch us))) ≡ true
        either true k = at_once a.origin a.id k
        either false k = or_later a.origin a.id (rest k)

pub leg_offered : (ch : List ℕ) (o : List ℕ × ℕ) (i : ℕ) (l : Log) → HasAdd o i l
    → outcome i (take l.first.peer l.received) ≡ Live
    → is_some (find (is_for (key_of o)) (legs_offered ch (own_updates l))) ≡ true
leg_offered ch o i l has live = found_leg ch o i (own_updates l) (subst (Forwards o) (sym (own_found l i live)) has)

-- ---- legs that are over

-- how an update removes, as a kind
abbrev outcome_in : Option Removing → Outcome
outcome_in None = Live
outcome_in (Some r) = r.outcome

pub how_kind : (u : Update) (r : Removing) (w : How) → removed u ≡ Some r → how_of u ≡ Some w → (s : Stage)
    → removal_by r.outcome s ≡ By (kind_of w) s
how_kind (update.Add a) r w e f s = absurd (cc)
how_kind (update.Fulfil x) r w e f s =
    let o : Fulfilled ≡ r.outcome = ap outcome_in e in
    let k : how.Fulfilled x.preimage ≡ w = cc in
    ap (λ z. removal_by z s) (sym o) ∙ ap (λ z. By (kind_of z) s) k
how_kind (update.Fail x) r w e f s =
    let o : Failed ≡ r.outcome = ap outcome_in e in
    let k : how.Failed x.reason ≡ w = cc in
    ap (λ z. removal_by z s) (sym o) ∙ ap (λ z. By (kind_of z) s) k
how_kind (update.Malformed x) r w e f s =
    let o : Failed ≡ r.outcome = ap outcome_in e in
    let k : how.Malformed x.sha256_of_onion x.failure_code ≡ w = cc in
    ap (λ z. removal_by z s) (sym o) ∙ ap (λ z. By (kind_of z) s) k
how_kind (update.Fee x) r w e f s = absurd (cc)

has_how : (u : Update) (r : Removing) → removed u ≡ Some r → (w : How) × (how_of u ≡ Some w)
has_how (update.Add a) r e = absurd (cc)
has_how (update.Fulfil f) r e = (how.Fulfilled f.preimage, refl)
has_how (update.Fail f) r e = (how.Failed f.reason, refl)
has_how (update.Malformed m) r e = (how.Malformed m.sha256_of_onion m.failure_code, refl)
has_how (update.Fee f) r e = absurd (cc)

abbrev pub resolved_leg : List ℕ → Settlement → How → Leg
resolved_leg ch s w = record { origin = key_of s.origin; outgoing = outgoing.Resolved (key_at ch s.id) w }

-- of results that are true
pub record IsOver (ch : List ℕ) (o : List ℕ × ℕ) (own held : List Update) (ss : List Settlement)
    (g : Leg) : Type 0 where
  pub settlement : Settlement
  pub how : How
  pub told : how_of settlement.removal ≡ Some how
  pub from : settlement.origin ≡ o
  pub true_result : IsTrue own held settlement
  pub there : has_result settlement.id ss ≡ true
  pub leg : g ≡ resolved_leg ch settlement how

module _ (ch : List ℕ) (o : List ℕ × ℕ) (own held : List Update) where
  over_later : (s : Settlement) (ss : List Settlement) (g : Leg) → IsOver ch o own held ss g
      → IsOver ch o own held (s ∷ ss) g
  over_later s ss g r = record {
    settlement = r.settlement;
    how = r.how;
    told = r.told;
    from = r.from;
    true_result = r.true_result;
    there = cases (s.id == r.settlement.id) r.there;
    leg = r.leg;
  }
    where
      cases : (b : Bool) → has_result r.settlement.id ss ≡ true → (b || has_result r.settlement.id ss) ≡ true
      cases true e = refl
      cases false e = e

  over_here : (s : Settlement) (ss : List Settlement) (w : How) → how_of s.removal ≡ Some w → s.origin ≡ o
      → IsTrue own held s
      → IsOver ch o own held (s ∷ ss) (resolved_leg ch s w)
  over_here s ss w told from is = record {
    settlement = s;
    how = w;
    told = told;
    from = from;
    true_result = is;
    there = ap (λ b. b || has_result s.id ss) (eq-eqb s.id s.id refl);
    leg = refl;
  }

  all_later : (s : Settlement) (ss : List Settlement) (gs : List Leg) → All (λ g. IsOver ch o own held ss g) gs
      → All (λ g. IsOver ch o own held (s ∷ ss) g) gs
  all_later s ss [] h = tt
  all_later s ss (g ∷ gs) h = (over_later s ss g h.0, all_later s ss gs h.1)

  -- each leg that forwards it is one
  pub all_over : (ss : List Settlement) → All (IsTrue own held) ss
      → All (λ g. IsOver ch o own held ss g) (filter (is_for (key_of o)) (legs_resolved ch ss))
  all_over [] h = tt
  all_over (s ∷ ss) h = cases (how_of s.removal) refl (all_later s ss (filter (is_for (key_of o)) (legs_resolved ch ss))
      (all_over ss h.1))
    where
      rest : List Leg
      rest = filter (is_for (key_of o)) (legs_resolved ch ss)

      either : (w : How) → how_of s.removal ≡ Some w → (t : Bool) → same_key (key_of o) (key_of s.origin) ≡ t
          → All (λ g. IsOver ch o own held (s ∷ ss) g) rest
          → All (λ g. IsOver ch o own held (s ∷ ss) g) (cond t (resolved_leg ch s w ∷ rest) rest)
      either w told true same k = (over_here s ss w told (pair_is o s.origin same) h.0, k)
      either w told false same k = k

      cases : (w : Option How) → how_of s.removal ≡ w → All (λ g. IsOver ch o own held (s ∷ ss) g) rest
          → All (λ g. IsOver ch o own held (s ∷ ss) g)
          (filter (is_for (key_of o)) (cons_option (leg_resolved ch s w) (legs_resolved ch ss)))
      cases None told k = k
      cases (Some w) told k = either w told (same_key (key_of o) (key_of s.origin)) refl k

  -- where they are all of one own HTLC there is one at most
  pub once_over : (i : ℕ) (ss : List Settlement) → All (IsTrue own held) ss → AreOnce ss
      → ((s : Settlement) → s.origin ≡ o → IsTrue own held s → s.id ≡ i)
      → (has_result i ss ≡ false → filter (is_for (key_of o)) (legs_resolved ch ss) ≡ [])
      × ((g : Leg) (gs : List Leg) → filter (is_for (key_of o)) (legs_resolved ch ss) ≡ g ∷ gs → gs ≡ [])
  once_over i [] h k one = ((λ e. refl), (λ g gs e. absurd (cc)))
  once_over i (s ∷ ss) h k one = cases (how_of s.removal) refl (once_over i ss h.1 k.1 one)
    where
      rest : List Leg
      rest = filter (is_for (key_of o)) (legs_resolved ch ss)

      Both : List Leg → List Settlement → Type 0
      Both ls zs = (has_result i zs ≡ false → ls ≡ []) × ((g : Leg) (gs : List Leg) → ls ≡ g ∷ gs → gs ≡ [])

      less : (b : Bool) → (b || has_result i ss) ≡ false → has_result i ss ≡ false
      less true e = absurd (cc)
      less false e = e

      either : (w : How) (t : Bool) → same_key (key_of o) (key_of s.origin) ≡ t → Both rest ss
          → Both (cond t (resolved_leg ch s w ∷ rest) rest) (s ∷ ss)
      either w true same k2 =
          let id = one s (pair_is o s.origin same) h.0 in
          let none : rest ≡ [] = k2.0 (ap (λ n. has_result n ss) (sym id) ∙ k.0) in (
            (λ e. absurd (let first : (s.id == i) ≡ true = eq-eqb s.id i id in
                let no : true ≡ false = sym (ap (λ b. b || has_result i ss) first) ∙ e in cc)),
            (λ g gs e. let same_tail : rest ≡ gs = cc in sym same_tail ∙ none),
          )
      either w false same k2 = ((λ e. k2.0 (less (s.id == i) e)), k2.1)

      cases : (w : Option How) → how_of s.removal ≡ w → Both rest ss
          → Both (filter (is_for (key_of o)) (cons_option (leg_resolved ch s w) (legs_resolved ch ss))) (s ∷ ss)
      cases None told k2 = ((λ e. k2.0 (less (s.id == i) e)), k2.1)
      cases (Some w) told k2 = either w (same_key (key_of o) (key_of s.origin)) refl k2

  -- and one, where there is a result of it
  pub some_over : (i : ℕ) (ss : List Settlement) → All (IsTrue own held) ss → Forwards o (add_with i own)
      → has_result i ss ≡ true → is_some (find (is_for (key_of o)) (legs_resolved ch ss)) ≡ true
  some_over i [] h f e = absurd (cc)
  some_over i (s ∷ ss) h f e = cases (how_of s.removal) refl (s.id == i) refl (λ r. some_over i ss h.1 f r)
    where
      rest : Option Leg
      rest = find (is_for (key_of o)) (legs_resolved ch ss)

      origin_is : (x : Option Add) → Forwards s.origin x → Forwards o x → s.origin ≡ o
      origin_is None a b = absurd a
      origin_is (Some x) a b = let same : Some s.origin ≡ Some o = sym a ∙ b in cc

      either : (t : Bool) → is_some rest ≡ true → (w : How) → is_some (cond t (Some (resolved_leg ch s w)) rest) ≡ true
      either true e w = refl
      either false e w = e

      cases : (w : Option How) → how_of s.removal ≡ w → (b : Bool) → (s.id == i) ≡ b
          → (has_result i ss ≡ true → is_some rest ≡ true)
          → is_some (find (is_for (key_of o)) (cons_option (leg_resolved ch s w) (legs_resolved ch ss))) ≡ true
      cases None told b is go = absurd (let w = has_how s.removal h.0.removal h.0.removes in
          let no : None ≡ Some w.0 = sym told ∙ w.1 in cc)
      cases (Some w) told true is go =
          let id = eqb-true s.id i is in
          let from : s.origin ≡ o = origin_is (add_with i own)
          (subst (λ n. Forwards s.origin (add_with n own)) id h.0.forwards) f in
          ap (λ t. is_some (cond t (Some (resolved_leg ch s w)) rest))
          (ap (λ z. same_key (key_of o) (key_of z)) from ∙ is_key (key_of o))
      cases (Some w) told false is go = either (same_key (key_of o) (key_of s.origin))
          (go (sym (ap (λ b. b || has_result i ss) is) ∙ e)) w
