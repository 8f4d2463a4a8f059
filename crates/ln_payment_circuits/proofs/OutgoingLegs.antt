-- Where an HTLC goes out, as a book reads it off all ends of a node.
use Rattle.std.proofs.Common.{◌≡◌, inl, inr, ℕ, List, [], ◌∷◌, take, filter, refl, sym, ap, ◌∙◌, subst}
use Rattle.std.proofs.Common.{Bool, true, false, cond, Option, Some, None}
use Rattle.std.specs.List.{find}
use Rattle.std.proofs.lemmas.List.{take-take}
use Rattle.ln_log.specs.declared.outcome.Outcome.{Outcome}
use Rattle.ln_log.specs.declared.outcome.Outcome.TheVariants.{Live, Fulfilled, Failed}
use Rattle.ln_log.specs.Updates.{add_with, outcome, is_some}
use Rattle.ln_log.specs.Log.{Log}
use Rattle.ln_hooks.specs.declared.event.How.{How}
use Rattle.ln_channel.specs.End.{End}
use Rattle.ln_book_tables.specs.declared.htlc.Key.{Key}
use Rattle.ln_book_tables.specs.declared.htlc.OutgoingLeg.TheVariants as outgoing
use Rattle.ln_book.specs.declared.recovery.leg.Leg.{Leg}
use Rattle.ln_book.specs.Rebuild.{ChannelSnapshot, channel_snapshot_of, is_for, or_leg, result_for, offer_for}
use Rattle.ln_book.specs.Rebuild.{outgoing_along, outgoing_for}
use Rattle.ln_book.specs.Rebuild.{legs_resolved}
use Rattle.ln_payment.specs.Parts.{Kind, Fulfils, Fails, Proposed, By, Course, Uncovered, Covered, Ended, Out}
use Rattle.ln_payment.specs.Parts.{Absent, Offered, Resolved}
use Rattle.ln_payment.specs.Rebuild.{outgoing_by, outgoing_of}
use Rattle.ln_payment_circuits.specs.Circuit.{Forwards}
use Rattle.ln_payment_circuits.specs.Snapshot.{Incoming, All, IsFit, key_at, key_of}
use Rattle.ln_payment_circuits.proofs.Updates.{front_live}
use Rattle.ln_payment_circuits.proofs.Parts.{HasAdd, some_of, has_result, course_of, course_by, ended_by, removal_by}
use Rattle.ln_payment_circuits.proofs.Links.{Side, Links, HasOut, HasAddAt, AreOuts, course_at}
use Rattle.ln_payment_circuits.proofs.Shifts.{side_of, IsTidy}
use Rattle.ln_payment_circuits.proofs.Entries.{kind_of, IsOutgoingOf}
use Rattle.ln_payment_circuits.proofs.Legs.{offered_leg, leg_offered, IsOver, all_over, some_over, how_kind}
use Rattle.ln_payment_circuits.specs.Snapshot.{IsIn, AreDistinct, snapshots, origin}

pub find_first : {A : Type 0} (p : A → Bool) (xs : List A) (x : A) → find p xs ≡ Some x
    → (ys : List A) × (filter p xs ≡ x ∷ ys)
find_first p [] x e = absurd (cc)
find_first p (y ∷ xs) x e = cases (p y) e (λ r. find_first p xs x r)
  where
    cases : (b : Bool) → cond b (Some y) (find p xs) ≡ Some x
        → (find p xs ≡ Some x → (ys : List _) × (filter p xs ≡ x ∷ ys))
        → (ys : List _) × (cond b (y ∷ filter p xs) (filter p xs) ≡ x ∷ ys)
    cases true is rest = let same : y ≡ x = cc in (filter p xs, ap (λ z. z ∷ filter p xs) same)
    cases false is rest = rest is

pub none_found : {A : Type 0} (p : A → Bool) (xs : List A) → find p xs ≡ None → filter p xs ≡ []
none_found p [] e = refl
none_found p (y ∷ xs) e = cases (p y) e (λ r. none_found p xs r)
  where
    cases : (b : Bool) → cond b (Some y) (find p xs) ≡ None → (find p xs ≡ None → filter p xs ≡ [])
        → cond b (y ∷ filter p xs) (filter p xs) ≡ []
    cases true is rest = absurd (cc)
    cases false is rest = rest is

pub first_all : {A : Type 0} (P : A → Type 0) (xs : List A) (x : A) (ys : List A) → xs ≡ x ∷ ys → All P xs → P x
first_all P [] x ys e h = absurd (cc)
first_all P (z ∷ xs) x ys e h = let same : z ≡ x = cc in subst P same h.0

pub of_member : {A : Type 0} (P : A → Type 0) (xs : List A) (x : A) → All P xs → IsIn x xs → P x
of_member P [] x h k = absurd k
of_member P (y ∷ ys) x h (inl e) = subst P e h.0
of_member P (y ∷ ys) x h (inr k) = of_member P ys x h.1 k

-- ---- the first over all ends

module _ (k : Key) where
  -- of legs of one kind, as a book finds them
  module _ (legs : ChannelSnapshot → List Leg) (over : List ChannelSnapshot → Option Leg)
      (next : (r : ChannelSnapshot) (rs : List ChannelSnapshot)
      → over (r ∷ rs) ≡ or_leg (find (is_for k) (legs r)) (over rs))
    where
      leg_where : over [] ≡ None → (es : List (ℕ × End)) (g : Leg) → over (snapshots es) ≡ Some g
          → (x : ℕ × End) × IsIn x es × (find (is_for k) (legs (channel_snapshot_of x.1)) ≡ Some g)
      leg_where none [] g e = absurd (let no : None ≡ Some g = sym none ∙ e in cc)
      leg_where none (x ∷ es) g e = cases (find (is_for k) (legs (channel_snapshot_of x.1))) refl
          (sym (next (channel_snapshot_of x.1) (snapshots es)) ∙ e) (λ r. leg_where none es g r)
        where
          cases : (o : Option Leg) → find (is_for k) (legs (channel_snapshot_of x.1)) ≡ o
              → or_leg o (over (snapshots es)) ≡ Some g
              → (over (snapshots es) ≡ Some g
              → (y : ℕ × End) × IsIn y es × (find (is_for k) (legs (channel_snapshot_of y.1)) ≡ Some g))
              → (y : ℕ × End) × IsIn y (x ∷ es) × (find (is_for k) (legs (channel_snapshot_of y.1)) ≡ Some g)
          cases None is r rest = let q = rest r in (q.0, inr q.1, q.2)
          cases (Some z) is r rest = (x, inl refl, is ∙ r)

      leg_some : (es : List (ℕ × End)) (x : ℕ × End) → IsIn x es
          → is_some (find (is_for k) (legs (channel_snapshot_of x.1))) ≡ true → is_some (over (snapshots es)) ≡ true
      leg_some [] x m e = absurd m
      leg_some (y ∷ es) x (inl same) e = ap is_some (next (channel_snapshot_of y.1) (snapshots es))
          ∙ first (find (is_for k) (legs (channel_snapshot_of y.1)))
          (ap (λ (z : ℕ × End). is_some (find (is_for k) (legs (channel_snapshot_of z.1)))) same ∙ e)
        where
          first : (o : Option Leg) → is_some o ≡ true → is_some (or_leg o (over (snapshots es))) ≡ true
          first None f = absurd (cc)
          first (Some z) f = refl
      leg_some (y ∷ es) x (inr m) e = ap is_some (next (channel_snapshot_of y.1) (snapshots es))
          ∙ later (find (is_for k) (legs (channel_snapshot_of y.1))) (leg_some es x m e)
        where
          later : (o : Option Leg) → is_some (over (snapshots es)) ≡ true
              → is_some (or_leg o (over (snapshots es))) ≡ true
          later None f = f
          later (Some z) f = refl

  pub result_where : (es : List (ℕ × End)) (g : Leg) → result_for k (snapshots es) ≡ Some g
      → (x : ℕ × End) × IsIn x es × (find (is_for k) (channel_snapshot_of x.1).results ≡ Some g)
  result_where = leg_where (λ (r : ChannelSnapshot). r.results) (result_for k) (λ r rs. refl) refl

  pub result_some : (es : List (ℕ × End)) (x : ℕ × End) → IsIn x es
      → is_some (find (is_for k) (channel_snapshot_of x.1).results) ≡ true
      → is_some (result_for k (snapshots es)) ≡ true
  result_some = leg_some (λ (r : ChannelSnapshot). r.results) (result_for k) (λ r rs. refl)

  pub offer_where : (es : List (ℕ × End)) (g : Leg) → offer_for k (snapshots es) ≡ Some g
      → (x : ℕ × End) × IsIn x es × (find (is_for k) (channel_snapshot_of x.1).offered ≡ Some g)
  offer_where = leg_where (λ (r : ChannelSnapshot). r.offered) (offer_for k) (λ r rs. refl) refl

  pub offer_some : (es : List (ℕ × End)) (x : ℕ × End) → IsIn x es
      → is_some (find (is_for k) (channel_snapshot_of x.1).offered) ≡ true → is_some (offer_for k (snapshots es)) ≡ true
  offer_some = leg_some (λ (r : ChannelSnapshot). r.offered) (offer_for k) (λ r rs. refl)

-- ---- the ends of a node, as they come back

module _ (id_of : ℕ → List ℕ) where
  pub record IsIncoming (t : Links) (x : ℕ × End) : Type 0 where
    pub side : t.sides x.0 ≡ Some (side_of x.1)
    pub channel : x.1.dance.channel ≡ id_of x.0
    pub tidy : IsTidy x.1
    pub fit : IsFit x.1
    pub all_signed : take x.1.dance.log.signed.own x.1.dance.log.own ≡ x.1.dance.log.own

  pub record AreBack (t : Links) (es : List (ℕ × End)) : Type 0 where
    pub once : AreDistinct es
    pub each : All (IsIncoming t) es
    pub every : (c : ℕ) (s : Side) → t.sides c ≡ Some s → (e : End) × IsIn (c, e) es

  module _ (h : Incoming) (t : Links) (es : List (ℕ × End)) (b : AreBack t es) where
    abbrev pub k : Key
    k = key_of id_of h

    pub incoming_leg_of : (x : ℕ × End) → IsIn x es → IsIncoming t x
    incoming_leg_of x m = of_member (IsIncoming t) es x b.each m

    pub has_at : (x : ℕ × End) (m : IsIn x es) (i : ℕ) → HasAdd (origin id_of h) i x.1.dance.log
        → HasOut (origin id_of) h x.0 i t
    has_at x m i a = subst (HasAddAt (origin id_of h) i) (sym (incoming_leg_of x m).side) a

    -- what a result is of
    pub record ResultOf (g : Leg) : Type 0 where
      pub end : ℕ × End
      pub member : IsIn end es
      pub id : ℕ
      pub how : How
      pub has : HasOut (origin id_of) h end.0 id t
      pub outgoing : g.outgoing ≡ outgoing.Resolved (key_at id_of end.0 id) how
      pub course : course_of id end.1.dance.log end.1.ledger.results ≡ Ended (kind_of how) true

    ended_so : (o : Outcome) (w : Kind) (r : Bool) → removal_by o Proposed ≡ By w Proposed → ended_by o r ≡ Ended w r
    ended_so Live w r e = absurd (cc)
    ended_so Fulfilled w r e = let is : Fulfils ≡ w = cc in ap (λ z. Ended z r) is
    ended_so Failed w r e = let is : Fails ≡ w = cc in ap (λ z. Ended z r) is

    -- all adds are covered
    covered_so : (x : ℕ × End) (m : IsIn x es) (i : ℕ) → HasAdd (origin id_of h) i x.1.dance.log
        → is_some (add_with i (take x.1.dance.log.signed.own x.1.dance.log.own)) ≡ true
    covered_so x m i a = ap (λ us. is_some (add_with i us)) (incoming_leg_of x m).all_signed
        ∙ some_of (origin id_of h) (add_with i x.1.dance.log.own) a

    pub over_is : (x : ℕ × End) (m : IsIn x es) (g : Leg)
        → IsOver x.1.dance.channel (origin id_of h) x.1.dance.log.own
        (take x.1.dance.log.acknowledged.peer x.1.dance.log.received) x.1.ledger.results g
        → (r : ResultOf g) × (r.end ≡ x)
    over_is x m g o =
        let z = o.settlement in
        let l = x.1.dance.log in
        let has : HasAdd (origin id_of h) z.id l = subst (λ q. Forwards q (add_with z.id l.own)) o.from
        o.true_result.forwards in (
          record {
            end = x;
            member = m;
            id = z.id;
            how = o.how;
            has = has_at x m z.id has;
            outgoing = ap (λ (y : Leg). y.outgoing) o.leg
                ∙ ap (λ c. outgoing.Resolved (record { channel = c; id = z.id }) o.how)
                (incoming_leg_of x m).channel;
            course = ap (λ v. course_by v (ended_by (outcome z.id (take l.acknowledged.peer l.received))
                (has_result z.id x.1.ledger.results))) (covered_so x m z.id has)
                ∙ ap (λ v. ended_by v (has_result z.id x.1.ledger.results)) o.true_result.fate
                ∙ ended_so o.true_result.removal.outcome (kind_of o.how) (has_result z.id x.1.ledger.results)
                (how_kind z.removal o.true_result.removal o.how o.true_result.removes o.told Proposed)
                ∙ ap (Ended (kind_of o.how)) o.there;
          },
          refl,
        )

    result_of : {g : Leg} {x : ℕ × End} → (r : ResultOf g) × (r.end ≡ x) → ResultOf g
    result_of r = r.0

    pub result_is : (g : Leg) → result_for k (snapshots es) ≡ Some g → ResultOf g
    result_is g e =
        let r = result_where k es g e in
        let x = r.0 in
        let f = find_first (is_for k) (legs_resolved x.1.dance.channel x.1.ledger.results) g r.2 in
        result_of (over_is x r.1 g (first_all (λ y. IsOver x.1.dance.channel (origin id_of h) x.1.dance.log.own
        (take x.1.dance.log.acknowledged.peer x.1.dance.log.received) x.1.ledger.results y)
        (filter (is_for k) (legs_resolved x.1.dance.channel x.1.ledger.results)) g f.0 f.1
        (all_over x.1.dance.channel (origin id_of h) x.1.dance.log.own
        (take x.1.dance.log.acknowledged.peer x.1.dance.log.received) x.1.ledger.results
        (incoming_leg_of x r.1).tidy.true_results)))

    -- one that has ended and has its result is found by that
    result_there : (x : ℕ × End) (m : IsIn x es) (i : ℕ) → HasAdd (origin id_of h) i x.1.dance.log
        → has_result i x.1.ledger.results ≡ true → is_some (result_for k (snapshots es)) ≡ true
    result_there x m i a e = result_some k es x m
        (some_over x.1.dance.channel (origin id_of h) x.1.dance.log.own
        (take x.1.dance.log.acknowledged.peer x.1.dance.log.received) i x.1.ledger.results
        (incoming_leg_of x m).tidy.true_results a e)

    -- what an offer is of
    pub record OfferOf (g : Leg) : Type 0 where
      pub end : ℕ × End
      pub member : IsIn end es
      pub id : ℕ
      pub has : HasOut (origin id_of) h end.0 id t
      pub outgoing : g.outgoing ≡ outgoing.Offered (key_at id_of end.0 id)

    pub offer_is : (g : Leg) → offer_for k (snapshots es) ≡ Some g → OfferOf g
    offer_is g e =
        let r = offer_where k es g e in
        let x = r.0 in
        let o = offered_leg x.1.dance.channel (origin id_of h) x.1.dance.log g
        (incoming_leg_of x r.1).fit.sound.own_ids r.2 in
        record {
          end = x;
          member = r.1;
          id = o.0;
          has = has_at x r.1 o.0 o.1;
          outgoing = o.2 ∙ ap (λ c. outgoing.Offered (record { channel = c; id = o.0 }))
              (incoming_leg_of x r.1).channel;
        }

    -- one that hasn't ended is found by its offer
    offer_there : (x : ℕ × End) (m : IsIn x es) (i : ℕ) → HasAdd (origin id_of h) i x.1.dance.log
        → outcome i (take x.1.dance.log.acknowledged.peer x.1.dance.log.received) ≡ Live
        → is_some (offer_for k (snapshots es)) ≡ true
    offer_there x m i a live = offer_some k es x m
        (leg_offered x.1.dance.channel (origin id_of h) i x.1.dance.log a
        (ap (outcome i) (sym (take-take x.1.dance.log.first.peer x.1.dance.log.acknowledged.peer x.1.dance.log.received
        (incoming_leg_of x m).fit.peer_first))
        ∙ front_live i x.1.dance.log.first.peer (take x.1.dance.log.acknowledged.peer x.1.dance.log.received) live))

    -- ---- the way

    course_there : (x : ℕ × End) (m : IsIn x es) (i : ℕ)
        → course_at i (t.sides x.0) ≡ course_of i x.1.dance.log x.1.ledger.results
    course_there x m i = ap (course_at i) (incoming_leg_of x m).side

    -- it is over
    outgoing_over : (q : Out) (g : Leg) → ResultOf g → AreOuts (origin id_of) h t (q ∷ []) → (b : Bool)
        → IsOutgoingOf id_of g.outgoing (outgoing_of b (q ∷ []))
    outgoing_over q g r o b =
        let at = o.2 r.end.0 r.id r.has in
        let course : q.course ≡ Ended (kind_of r.how) true =
        o.1 ∙ ap (λ c. course_at q.id (t.sides c)) (sym at.0) ∙ ap (λ i. course_at i (t.sides r.end.0)) (sym at.1)
        ∙ course_there r.end r.member r.id ∙ r.course in
        subst (λ c. IsOutgoingOf id_of g.outgoing (outgoing_by b q Absent c)) (sym course)
        (subst (λ w. IsOutgoingOf id_of w (Resolved q.channel q.id (kind_of r.how))) (sym r.outgoing)
        (ap (λ c. key_at id_of c r.id) at.0 ∙ ap (key_at id_of q.channel) at.1, refl))

    outgoing_offered : (q : Out) (g : Leg) → OfferOf g → AreOuts (origin id_of) h t (q ∷ [])
        → IsOutgoingOf id_of g.outgoing (Offered q.channel q.id)
    outgoing_offered q g r o =
        let at = o.2 r.end.0 r.id r.has in
        subst (λ w. IsOutgoingOf id_of w (Offered q.channel q.id)) (sym r.outgoing)
        (ap (λ c. key_at id_of c r.id) at.0 ∙ ap (key_at id_of q.channel) at.1)

    -- the end at which it goes out
    end_there : (q : Out) → HasOut (origin id_of) h q.channel q.id t
        → (e : End) × IsIn (q.channel, e) es × HasAdd (origin id_of h) q.id e.dance.log
    end_there q a = cases (t.sides q.channel) refl a
      where
        cases : (s : Option Side) → t.sides q.channel ≡ s → HasAddAt (origin id_of h) q.id s
            → (e : End) × IsIn (q.channel, e) es × HasAdd (origin id_of h) q.id e.dance.log
        cases None is f = absurd f
        cases (Some s) is f =
            let r = b.every q.channel s is in
            let same : Some s ≡ Some (side_of r.0) = sym is ∙ (incoming_leg_of (q.channel, r.0) r.1).side in
            let is_side : s ≡ side_of r.0 = cc in
            (r.0, r.1, subst (λ (z : Side). HasAdd (origin id_of h) q.id z.log) is_side f)

    not_over : (q : Out) → AreOuts (origin id_of) h t (q ∷ []) → result_for k (snapshots es) ≡ None → (o : Option Leg)
        → offer_for k (snapshots es) ≡ o → IsOutgoingOf id_of (outgoing_along o) (outgoing_of (is_some o) (q ∷ []))
    not_over q a none o is = cases q.course refl o is
      where
        e : (e : End) × IsIn (q.channel, e) es × HasAdd (origin id_of h) q.id e.dance.log
        e = end_there q a.0

        l : Log
        l = e.0.dance.log

        course : q.course ≡ course_by true (ended_by (outcome q.id (take l.acknowledged.peer l.received))
            (has_result q.id e.0.ledger.results))
        course = a.1 ∙ course_there (q.channel, e.0) e.1 q.id
            ∙ ap (λ v. course_by v (ended_by (outcome q.id (take l.acknowledged.peer l.received))
            (has_result q.id e.0.ledger.results))) (covered_so (q.channel, e.0) e.1 q.id e.2)

        -- what its course says of the peer's removals and of results
        live_by : (z : Outcome) (r : Bool) → Covered ≡ ended_by z r → z ≡ Live
        live_by Live r f = refl
        live_by Fulfilled r f = absurd (cc)
        live_by Failed r f = absurd (cc)

        never : (z : Outcome) (r : Bool) → Uncovered ≡ ended_by z r → ⊥
        never Live r f = absurd (cc)
        never Fulfilled r f = absurd (cc)
        never Failed r f = absurd (cc)

        result_by : (z : Outcome) (r : Bool) (m : Kind) → Ended m true ≡ ended_by z r → r ≡ true
        result_by Live r m f = absurd (cc)
        result_by Fulfilled r m f = let same : true ≡ r = cc in sym same
        result_by Failed r m f = let same : true ≡ r = cc in sym same

        missing : {A : Type 0} (z : Option A) → z ≡ None → is_some z ≡ true → ⊥
        missing None f g = absurd (cc)
        missing (Some y) f g = absurd (cc)

        cases : (c : Course) → q.course ≡ c → (o : Option Leg) → offer_for k (snapshots es) ≡ o
            → IsOutgoingOf id_of (outgoing_along o) (outgoing_by (is_some o) q Absent q.course)
        cases Uncovered c o is = absurd (never (outcome q.id (take l.acknowledged.peer l.received))
            (has_result q.id e.0.ledger.results) (sym c ∙ course))
        cases Covered c None is = absurd (missing (offer_for k (snapshots es)) is
            (offer_there (q.channel, e.0) e.1 q.id e.2 (live_by (outcome q.id (take l.acknowledged.peer l.received))
            (has_result q.id e.0.ledger.results) (sym c ∙ course))))
        cases Covered c (Some g) is = subst (λ z. IsOutgoingOf id_of g.outgoing (outgoing_by true q Absent z)) (sym c)
            (outgoing_offered q g (offer_is g is) a)
        cases (Ended m true) c o is = absurd (missing (result_for k (snapshots es)) none
            (result_there (q.channel, e.0) e.1 q.id e.2 (result_by (outcome q.id (take l.acknowledged.peer l.received))
            (has_result q.id e.0.ledger.results) m (sym c ∙ course))))
        cases (Ended m false) c None is = subst (λ z. IsOutgoingOf id_of outgoing.Absent
            (outgoing_by false q Absent z)) (sym c) tt
        cases (Ended m false) c (Some g) is = subst (λ z. IsOutgoingOf id_of g.outgoing
            (outgoing_by true q Absent z)) (sym c)
            (outgoing_offered q g (offer_is g is) a)

    pub outgoing_is : (qs : List Out) → AreOuts (origin id_of) h t qs
        → IsOutgoingOf id_of (outgoing_for k (snapshots es)) (outgoing_of (is_some (offer_for k (snapshots es))) qs)
    outgoing_is [] a = cases (result_for k (snapshots es)) refl (offer_for k (snapshots es)) refl
      where
        cases : (r : Option Leg) → result_for k (snapshots es) ≡ r → (o : Option Leg) → offer_for k (snapshots es) ≡ o
            → IsOutgoingOf id_of (outgoing_along (or_leg r o)) Absent
        cases (Some g) e o f = let r = result_is g e in absurd (a r.end.0 r.id r.has)
        cases None e (Some g) f = let r = offer_is g f in absurd (a r.end.0 r.id r.has)
        cases None e None f = tt
    outgoing_is (q ∷ []) a = cases (result_for k (snapshots es)) refl (offer_for k (snapshots es)) refl
      where
        cases : (r : Option Leg) → result_for k (snapshots es) ≡ r → (o : Option Leg) → offer_for k (snapshots es) ≡ o
            → IsOutgoingOf id_of (outgoing_along (or_leg r o)) (outgoing_of (is_some o) (q ∷ []))
        cases (Some g) e o f = outgoing_over q g (result_is g e) a (is_some o)
        cases None e o f = not_over q a e o f
    outgoing_is (q ∷ r ∷ qs) a = absurd a
