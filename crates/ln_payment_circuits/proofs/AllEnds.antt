-- What a book begins with of one HTLC, over all ends of its node.
use Rattle.std.proofs.Common.{◌≡◌, inl, inr, ℕ, List, [], ◌∷◌, ◌++◌, take, map, filter, refl, sym, ap}
use Rattle.std.proofs.Common.{◌∙◌, subst, arith, Bool, true, false, cond, not, ◌==◌, ◌&&◌, ◌||◌, Option, Some, None}
use Rattle.std.proofs.Common.{append-nil}
use Rattle.std.specs.List.{cons_option, find, list_any}
use Rattle.std.proofs.lemmas.Bool.{eqb-true, eq-eqb}
use Rattle.std.proofs.lemmas.List.Elements.{filter-append}
use Rattle.std.proofs.Math.Bool.{or-true}
use Rattle.ln_log.specs.declared.mark.Decision.{Decision as LogDecision}
use Rattle.ln_log.specs.declared.mark.Mark.TheVariants as mark
use Rattle.ln_log.specs.declared.update.Add.{Add}
use Rattle.ln_log.specs.Updates.{add_with, is_some, next_id}
use Rattle.ln_log.proofs.Removing.{next-front}
use Rattle.ln_log.proofs.Behind.{offered_below}
use Rattle.ln_channel.specs.End.{End}
use Rattle.ln_book_tables.specs.declared.htlc.Key.{Key}
use Rattle.ln_book_tables.specs.declared.htlc.IncomingLeg.TheVariants as incoming
use Rattle.ln_book_tables.specs.declared.htlc.Htlc.{Htlc}
use Rattle.ln_log.specs.Mark.{is_held}
use Rattle.ln_book_tables.specs.Replay.{same, same_key, is_htlc, has_no_outgoing, is_settled, is_over}
use Rattle.ln_book.specs.declared.recovery.leg.Leg.{Leg}
use Rattle.ln_book.specs.Rebuild.{ChannelSnapshot, channel_snapshot_of, is_for, or_leg, result_for, offer_for}
use Rattle.ln_book.specs.Rebuild.{outgoing_along, outgoing_for}
use Rattle.ln_book.specs.Rebuild.{outgoing_read, led, unfinished, all_unfinished, is_read, htlc_left, left}
use Rattle.ln_book.specs.Rebuild.{all_left}
use Rattle.ln_book.specs.Rebuild.{rebuilt_htlcs, decided_in, decided_by, htlc_by, incoming_in, incoming_by}
use Rattle.ln_book.specs.Rebuild.{peer_updates}
use Rattle.ln_book.specs.Rebuild.{holds_removal}
use Rattle.ln_book.specs.Kept.{has_own_removal}
use Rattle.ln_payment.specs.Parts.{Undecided, Decided, Past, OutgoingLeg, Absent}
use Rattle.ln_payment.specs.Parts.{Refused, Offered, Resolved, Out, Payment}
use Rattle.ln_payment.specs.Rebuild.{incoming_leg_of, outgoing_of, note_by, note_of_result, note_read}
use Rattle.ln_payment.proofs.Invariant.{IsKept, IsEarly}
use Rattle.ln_log.specs.declared.outcome.Outcome.TheVariants.{Live}
use Rattle.ln_log.specs.Updates.{outcome}
use Rattle.ln_payment_circuits.specs.Snapshot.{is_gone, Incoming, All, key_of, IsIn, snapshots, origin, AreDistinct}
use Rattle.ln_payment_circuits.specs.Circuit.{Forwards}
use Rattle.ln_payment_circuits.proofs.Parts.{removal_of}
use Rattle.ln_payment_circuits.proofs.Links.{Side, Links, HasOut, AreOuts, IsOfLinks, decided_as, decision_by}
use Rattle.ln_payment_circuits.proofs.Links.{decision_at, removal_at}
use Rattle.ln_payment_circuits.proofs.Links.{has_mark}
use Rattle.ln_payment_circuits.proofs.Rising.{one_of_id}
use Rattle.ln_payment_circuits.proofs.Waiting.{waiting_ids}
use Rattle.ln_payment_circuits.proofs.Shifts.{side_of}
use Rattle.ln_payment_circuits.proofs.Entries.{key_is, same_is, incoming_as, IsOutgoingOf, IsEntry, AreEntries}
use Rattle.ln_payment_circuits.proofs.Legs.{IsOver, all_over, once_over, peer_found}
use Rattle.ln_payment_circuits.proofs.OutgoingLegs.{IsIncoming, AreBack, ResultOf, OfferOf, over_is, outgoing_is}
use Rattle.ln_payment_circuits.proofs.OutgoingLegs.{result_is, offer_is}
use Rattle.ln_payment_circuits.proofs.IncomingLegs.{back_is, of_id, of_none, below_all, found_id, none_of_id}
use Rattle.ln_payment_circuits.proofs.IncomingLegs.{member_all, add_id}
use Rattle.ln_payment_circuits.proofs.Rebuilt.{read_one}
use Rattle.ln_payment_circuits.proofs.OutgoingLegs as outgoings

-- ---- lists of HTLCs that are read

unfinished_append : (all : List ChannelSnapshot) (xs ys : List Htlc)
    → unfinished all (xs ++ ys) ≡ unfinished all xs ++ unfinished all ys
unfinished_append all [] ys = refl
unfinished_append all (x ∷ xs) ys = cases (is_over (led all x)) (unfinished_append all xs ys)
  where
    cases : (b : Bool) → unfinished all (xs ++ ys) ≡ unfinished all xs ++ unfinished all ys
        → cond b (unfinished all (xs ++ ys)) (led all x ∷ unfinished all (xs ++ ys))
        ≡ cond b (unfinished all xs) (led all x ∷ unfinished all xs) ++ unfinished all ys
    cases true e = e
    cases false e = ap (λ z. led all x ∷ z) e

unfinished_turn : (k : Key) (all : List ChannelSnapshot) (xs : List Htlc)
    → filter (is_htlc k) (unfinished all xs) ≡ unfinished all (filter (is_htlc k) xs)
unfinished_turn k all [] = refl
unfinished_turn k all (x ∷ xs) = cases (is_over (led all x)) refl (is_htlc k x) refl (unfinished_turn k all xs)
  where
    q : Htlc → Bool
    q = is_htlc k

    cases : (b : Bool) → is_over (led all x) ≡ b → (t : Bool) → is_htlc k x ≡ t
        → filter q (unfinished all xs) ≡ unfinished all (filter q xs)
        → filter q (cond b (unfinished all xs) (led all x ∷ unfinished all xs)) ≡ unfinished all
        (cond t (x ∷ filter q xs) (filter q xs))
    cases true o true e h = h ∙ sym (ap (λ z. cond z (unfinished all (filter q xs))
        (led all x ∷ unfinished all (filter q xs))) o)
    cases true o false e h = h
    cases false o true e h =
        ap (λ z. cond z (led all x ∷ filter q (unfinished all xs)) (filter q (unfinished all xs))) e
        ∙ ap (λ z. led all x ∷ z) h
        ∙ sym (ap (λ z. cond z (unfinished all (filter q xs)) (led all x ∷ unfinished all (filter q xs))) o)
    cases false o false e h =
        ap (λ z. cond z (led all x ∷ filter q (unfinished all xs)) (filter q (unfinished all xs))) e ∙ h

-- those that the ends have decided, and the legs that are over, of one HTLC
abbrev decided_of : Key → List (ℕ × End) → List Htlc
decided_of k [] = []
decided_of k (x ∷ es) = filter (is_htlc k) (channel_snapshot_of x.1).decided ++ decided_of k es

abbrev legs_of : Key → List (ℕ × End) → List Leg
legs_of k [] = []
legs_of k (x ∷ es) = filter (is_for k) (channel_snapshot_of x.1).results ++ legs_of k es

all_turn : (k : Key) (all : List ChannelSnapshot) (es : List (ℕ × End))
    → filter (is_htlc k) (all_unfinished all (snapshots es)) ≡ unfinished all (decided_of k es)
all_turn k all [] = refl
all_turn k all (x ∷ es) =
    let r = channel_snapshot_of x.1 in
    filter-append (is_htlc k) (unfinished all r.decided) (all_unfinished all (snapshots es))
    ∙ ap (λ z. z ++ filter (is_htlc k) (all_unfinished all (snapshots es))) (unfinished_turn k all r.decided)
    ∙ ap (λ z. unfinished all (filter (is_htlc k) r.decided) ++ z) (all_turn k all es)
    ∙ sym (unfinished_append all (filter (is_htlc k) r.decided) (decided_of k es))

-- ---- results that are left

key_turned : (j k : Key) → same_key k j ≡ false → same_key k j ≡ same_key k j
key_turned j k e = refl

left_turn : (k : Key) (all : List ChannelSnapshot) (ls : List Leg)
    → filter (is_htlc k) (left all ls) ≡ cond (is_read k all) [] (map htlc_left (filter (is_for k) ls))
left_turn k all [] = both (is_read k all)
  where
    both : (b : Bool) → [] ≡ cond b [] (map htlc_left [])
    both true = refl
    both false = refl
left_turn k all (l ∷ ls) = cases (is_for k l) refl (is_read l.origin all) refl (left_turn k all ls)
  where
    q : Htlc → Bool
    q = is_htlc k

    rest : List Htlc
    rest = filter q (left all ls)

    cases : (t : Bool) → is_for k l ≡ t → (r : Bool) → is_read l.origin all ≡ r
        → rest ≡ cond (is_read k all) [] (map htlc_left (filter (is_for k) ls))
        → filter q (cond r (left all ls) (htlc_left l ∷ left all ls))
        ≡ cond (is_read k all) [] (map htlc_left (cond t (l ∷ filter (is_for k) ls) (filter (is_for k) ls)))
    cases true e true f h =
        let read : is_read k all ≡ true = ap (λ z. is_read z all) (key_is k l.origin e) ∙ f in
        h ∙ ap (λ z. cond z [] (map htlc_left (filter (is_for k) ls))) read
        ∙ sym (ap (λ z. cond z [] (map htlc_left (l ∷ filter (is_for k) ls))) read)
    cases true e false f h =
        let read : is_read k all ≡ false = ap (λ z. is_read z all) (key_is k l.origin e) ∙ f in
        ap (λ z. cond z (htlc_left l ∷ rest) rest) e
        ∙ ap (λ z. htlc_left l ∷ z) (h ∙ ap (λ z. cond z [] (map htlc_left (filter (is_for k) ls))) read)
        ∙ sym (ap (λ z. cond z [] (map htlc_left (l ∷ filter (is_for k) ls))) read)
    cases false e true f h = h
    cases false e false f h = ap (λ z. cond z (htlc_left l ∷ rest) rest) e ∙ h

map_append : (xs ys : List Leg) → map htlc_left (xs ++ ys) ≡ map htlc_left xs ++ map htlc_left ys
map_append [] ys = refl
map_append (x ∷ xs) ys = ap (λ z. htlc_left x ∷ z) (map_append xs ys)

all_left_turn : (k : Key) (all : List ChannelSnapshot) (es : List (ℕ × End))
    → filter (is_htlc k) (all_left all (snapshots es)) ≡ cond (is_read k all) [] (map htlc_left (legs_of k es))
all_left_turn k all [] = both (is_read k all)
  where
    both : (b : Bool) → [] ≡ cond b [] (map htlc_left [])
    both true = refl
    both false = refl
all_left_turn k all (x ∷ es) =
    let r = channel_snapshot_of x.1 in
    filter-append (is_htlc k) (left all r.results) (all_left all (snapshots es))
    ∙ ap (λ z. z ++ filter (is_htlc k) (all_left all (snapshots es))) (left_turn k all r.results)
    ∙ ap (λ z. cond (is_read k all) [] (map htlc_left (filter (is_for k) r.results)) ++ z) (all_left_turn k all es)
    ∙ both (is_read k all)
  where
    a : List Leg
    a = filter (is_for k) (channel_snapshot_of x.1).results

    both : (b : Bool) → cond b [] (map htlc_left a) ++ cond b [] (map htlc_left (legs_of k es))
        ≡ cond b [] (map htlc_left (a ++ legs_of k es))
    both true = refl
    both false = sym (map_append a (legs_of k es))

-- ---- whether one is read

some_any : {A : Type 0} (p : A → Bool) (xs : List A) (y : A) (ys : List A) → filter p xs ≡ y ∷ ys → list_any p xs ≡ true
some_any p [] y ys e = absurd (cc)
some_any p (x ∷ xs) y ys e = cases (p x) e (λ r. some_any p xs y ys r)
  where
    cases : (b : Bool) → cond b (x ∷ filter p xs) (filter p xs) ≡ y ∷ ys → (filter p xs ≡ y ∷ ys → list_any p xs ≡ true)
        → (b || list_any p xs) ≡ true
    cases true f rest = refl
    cases false f rest = rest f

none_any : {A : Type 0} (p : A → Bool) (xs : List A) → filter p xs ≡ [] → list_any p xs ≡ false
none_any p [] e = refl
none_any p (x ∷ xs) e = cases (p x) e (λ r. none_any p xs r)
  where
    cases : (b : Bool) → cond b (x ∷ filter p xs) (filter p xs) ≡ [] → (filter p xs ≡ [] → list_any p xs ≡ false)
        → (b || list_any p xs) ≡ false
    cases true f rest = absurd (cc)
    cases false f rest = rest f

parts_nil : {A : Type 0} (xs ys : List A) → xs ++ ys ≡ [] → (xs ≡ []) × (ys ≡ [])
parts_nil [] ys e = (refl, e)
parts_nil (x ∷ xs) ys e = absurd (cc)

none_read : (k : Key) (es : List (ℕ × End)) → decided_of k es ≡ [] → is_read k (snapshots es) ≡ false
none_read k [] e = refl
none_read k (x ∷ es) e =
    let p = parts_nil (filter (is_htlc k) (channel_snapshot_of x.1).decided) (decided_of k es) e in
    ap (λ b. b || is_read k (snapshots es)) (none_any (is_htlc k) (channel_snapshot_of x.1).decided p.0)
    ∙ none_read k es p.1

one_read : (k : Key) (es : List (ℕ × End)) (y : Htlc) (ys : List Htlc) → decided_of k es ≡ y ∷ ys
    → is_read k (snapshots es) ≡ true
one_read k [] y ys e = absurd (cc)
one_read k (x ∷ es) y ys e = cases (filter (is_htlc k) (channel_snapshot_of x.1).decided) refl e
    (λ r. one_read k es y ys r)
  where
    any : Bool
    any = list_any (is_htlc k) (channel_snapshot_of x.1).decided

    cases : (zs : List Htlc) → filter (is_htlc k) (channel_snapshot_of x.1).decided ≡ zs
        → zs ++ decided_of k es ≡ y ∷ ys
        → (decided_of k es ≡ y ∷ ys → is_read k (snapshots es) ≡ true) → (any || is_read k (snapshots es)) ≡ true
    cases [] is f rest = ap (λ b. any || b) (rest f) ∙ or-true any
    cases (z ∷ zs) is f rest = ap (λ b. b || is_read k (snapshots es))
        (some_any (is_htlc k) (channel_snapshot_of x.1).decided z zs is)

-- ---- of a node whose ends come back

module _ (id_of : ℕ → List ℕ) (one : (c d : ℕ) → id_of c ≡ id_of d → c ≡ d) where
  module _ (h : Incoming) (t : Links) where
    abbrev q : Key
    q = key_of id_of h

    apart_here : (x : ℕ × End) → IsIncoming id_of t x → (h.channel == x.0) ≡ false
        → filter (is_htlc q) (channel_snapshot_of x.1).decided ≡ []
    apart_here x b other =
        let l = x.1.dance.log in
        of_none x.1.dance.channel (id_of h.channel) l h.id (different (same (id_of h.channel) x.1.dance.channel) refl)
        x.1.ledger.decisions
      where
        different : (s : Bool) → same (id_of h.channel) x.1.dance.channel ≡ s
            → same (id_of h.channel) x.1.dance.channel ≡ false
        different false e = e
        different true e = absurd (
            let at : h.channel ≡ x.0 = one h.channel x.0 (same_is (id_of h.channel) x.1.dance.channel e ∙ b.channel) in
            let no : true ≡ false = sym (eq-eqb h.channel x.0 at) ∙ other in cc)

    none_there : (es : List (ℕ × End)) → All (IsIncoming id_of t) es → All (λ y. (h.channel == y.0) ≡ false) es
        → decided_of q es ≡ []
    none_there [] b a = refl
    none_there (x ∷ es) b a =
        ap (λ z. z ++ decided_of q es) (apart_here x b.0 a.0) ∙ none_there es b.1 a.1

    -- of the end by which it came
    one_there : (es : List (ℕ × End)) → All (IsIncoming id_of t) es → AreDistinct es → (e : End)
        → IsIn (h.channel, e) es
        → decided_of q es ≡ filter (is_htlc q) (channel_snapshot_of e).decided
    one_there [] b d e m = absurd m
    one_there (x ∷ es) b d e (inl is) =
        let at : x.0 ≡ h.channel = ap (λ (z : ℕ × End). z.0) is in
        ap (λ (z : ℕ × End). filter (is_htlc q) (channel_snapshot_of z.1).decided ++ decided_of q es) is
        ∙ ap (λ z. filter (is_htlc q) (channel_snapshot_of e).decided ++ z) (none_there es b.1 (others es d.0))
        ∙ append-nil (filter (is_htlc q) (channel_snapshot_of e).decided)
      where
        others : (ys : List (ℕ × End)) → All (λ y. (y.0 == x.0) ≡ false) ys → All (λ y. (h.channel == y.0) ≡ false) ys
        others [] a = tt
        others (y ∷ ys) a = (turned (h.channel == y.0) refl, others ys a.1)
          where
            turned : (s : Bool) → (h.channel == y.0) ≡ s → (h.channel == y.0) ≡ false
            turned false e = e
            turned true e = absurd (
                let same_at : y.0 ≡ x.0 = sym (eqb-true h.channel y.0 e) ∙ sym (ap (λ (z : ℕ × End). z.0) is) in
                let no : true ≡ false = sym (eq-eqb y.0 x.0 same_at) ∙ a.0 in cc)
    one_there (x ∷ es) b d e (inr m) =
        ap (λ z. z ++ decided_of q es) (apart_here x b.0 (differs es d.0 m)) ∙ one_there es b.1 d.1 e m
      where
        differs : (ys : List (ℕ × End)) → All (λ y. (y.0 == x.0) ≡ false) ys → IsIn (h.channel, e) ys
            → (h.channel == x.0) ≡ false
        differs [] a m = absurd m
        differs (y ∷ ys) a (inl is) = ap (λ (z : ℕ × End). z.0 == x.0) (sym is) ∙ a.0
        differs (y ∷ ys) a (inr m) = differs ys a.1 m

    -- ---- results: there is one at most
    abbrev Only : Type 0
    Only = (c i d j : ℕ) → HasOut (origin id_of) h c i t → HasOut (origin id_of) h d j t → (c ≡ d) × (i ≡ j)

    first_leg : (es : List (ℕ × End)) → result_for q (snapshots es) ≡ None → legs_of q es ≡ []
    first_leg [] e = refl
    first_leg (x ∷ es) e = cases (find (is_for q) (channel_snapshot_of x.1).results) refl e (λ r. first_leg es r)
      where
        cases : (o : Option Leg) → find (is_for q) (channel_snapshot_of x.1).results ≡ o
            → or_leg o (result_for q (snapshots es)) ≡ None
            → (result_for q (snapshots es) ≡ None → legs_of q es ≡ [])
            → filter (is_for q) (channel_snapshot_of x.1).results ++ legs_of q es ≡ []
        cases None is f rest =
            ap (λ z. z ++ legs_of q es) (outgoings.none_found (is_for q) (channel_snapshot_of x.1).results is) ∙ rest f
        cases (Some g) is f rest = absurd (cc)

    -- each leg is of a result
    legs_are : (es all : List (ℕ × End)) (b : AreBack id_of t all) → ((x : ℕ × End) → IsIn x es → IsIn x all)
        → All (λ g. (r : ResultOf id_of h t all b g) × IsIn r.end es) (legs_of q es)
    legs_are [] all b m = tt
    legs_are (x ∷ es) all b m =
        both (filter (is_for q) (channel_snapshot_of x.1).results) (legs_of q es)
        (these (filter (is_for q) (channel_snapshot_of x.1).results)
        (all_over x.1.dance.channel (origin id_of h) x.1.dance.log.own
        (take x.1.dance.log.acknowledged.peer x.1.dance.log.received) x.1.ledger.results
        (outgoings.incoming_leg_of id_of h t all b x (m x (inl refl))).tidy.true_results))
        (later (legs_of q es) (legs_are es all b (λ y k. m y (inr k))))
      where
        both : (xs ys : List Leg) → All (λ g. (r : ResultOf id_of h t all b g) × IsIn r.end (x ∷ es)) xs
            → All (λ g. (r : ResultOf id_of h t all b g) × IsIn r.end (x ∷ es)) ys
            → All (λ g. (r : ResultOf id_of h t all b g) × IsIn r.end (x ∷ es)) (xs ++ ys)
        both [] ys a c = c
        both (z ∷ xs) ys a c = (a.0, both xs ys a.1 c)

        these : (ls : List Leg) → All (λ g. IsOver x.1.dance.channel (origin id_of h) x.1.dance.log.own
            (take x.1.dance.log.acknowledged.peer x.1.dance.log.received) x.1.ledger.results g) ls
            → All (λ g. (r : ResultOf id_of h t all b g) × IsIn r.end (x ∷ es)) ls
        these [] a = tt
        these (g ∷ ls) a = let o = over_is id_of h t all b x (m x (inl refl)) g a.0 in
            ((o.0, inl (sym o.1)), these ls a.1)

        later : (ls : List Leg) → All (λ g. (r : ResultOf id_of h t all b g) × IsIn r.end es) ls
            → All (λ g. (r : ResultOf id_of h t all b g) × IsIn r.end (x ∷ es)) ls
        later [] a = tt
        later (g ∷ ls) a = ((a.0.0, inr a.0.1), later ls a.1)

    only_leg : (es all : List (ℕ × End)) (b : AreBack id_of t all) → ((x : ℕ × End) → IsIn x es → IsIn x all)
        → AreDistinct es → Only → (g : Leg) (gs : List Leg) → legs_of q es ≡ g ∷ gs → gs ≡ []
    only_leg [] all b m d only g gs e = absurd (cc)
    only_leg (x ∷ es) all b m d only g gs e =
        cases (filter (is_for q) (channel_snapshot_of x.1).results) refl e
        (λ r. only_leg es all b (λ y k. m y (inr k)) d.1 only g gs r)
      where
        incoming : IsIncoming id_of t x
        incoming = outgoings.incoming_leg_of id_of h t all b x (m x (inl refl))

        over : List Leg → Type 0
        over ls = All (λ l. IsOver x.1.dance.channel (origin id_of h) x.1.dance.log.own
            (take x.1.dance.log.acknowledged.peer x.1.dance.log.received) x.1.ledger.results l) ls

        all_these : over (filter (is_for q) (channel_snapshot_of x.1).results)
        all_these = all_over x.1.dance.channel (origin id_of h) x.1.dance.log.own
            (take x.1.dance.log.acknowledged.peer x.1.dance.log.received) x.1.ledger.results incoming.tidy.true_results

        differs : (ys : List (ℕ × End)) (y : ℕ × End) → All (λ z. (z.0 == x.0) ≡ false) ys → IsIn y ys → y.0 ≡ x.0 → ⊥
        differs [] y a k f = k
        differs (z ∷ ys) y a (inl is) f = let no : true ≡ false = sym (eq-eqb y.0 x.0 f)
            ∙ ap (λ (w : ℕ × End). w.0 == x.0) (sym is) ∙ a.0 in absurd (cc)
        differs (z ∷ ys) y a (inr k) f = differs ys y a.1 k f

        no_more : (i : ℕ) → HasOut (origin id_of) h x.0 i t → (ls : List Leg)
            → All (λ l. (s : ResultOf id_of h t all b l) × IsIn s.end es) ls → ls ≡ []
        no_more i has [] a = refl
        no_more i has (l ∷ ls) a =
            let s = a.0.0 in
            absurd (differs es s.end d.0 a.0.1 (only s.end.0 s.id x.0 i s.has has).0)

        cases : (ls : List Leg) → filter (is_for q) (channel_snapshot_of x.1).results ≡ ls → ls ++ legs_of q es ≡ g ∷ gs
            → (legs_of q es ≡ g ∷ gs → gs ≡ []) → gs ≡ []
        cases [] is f rest = rest f
        cases (l ∷ ls) is f rest =
            let same_leg : l ≡ g = cc in
            let tail : ls ++ legs_of q es ≡ gs = cc in
            let o : IsOver x.1.dance.channel (origin id_of h) x.1.dance.log.own
            (take x.1.dance.log.acknowledged.peer x.1.dance.log.received) x.1.ledger.results l =
            (subst over is all_these).0 in
            let both = over_is id_of h t all b x (m x (inl refl)) l o in
            let r = both.0 in
            let has : HasOut (origin id_of) h x.0 r.id t = subst
            (λ (z : ℕ × End). HasOut (origin id_of) h z.0 r.id t) both.1 r.has in
            let once = once_over x.1.dance.channel (origin id_of h) x.1.dance.log.own
            (take x.1.dance.log.acknowledged.peer x.1.dance.log.received) r.id x.1.ledger.results
            incoming.tidy.true_results
            incoming.tidy.once (λ s from true_one.
            (only x.0 s.id x.0 r.id (outgoings.has_at id_of h t all b x (m x (inl refl)) s.id
            (subst (λ z. Forwards z (add_with s.id x.1.dance.log.own)) from true_one.forwards)) has).1) in
            let none_here : ls ≡ [] = once.1 l ls is in
            sym tail ∙ ap (λ z. z ++ legs_of q es) none_here
            ∙ no_more r.id has (legs_of q es) (legs_are es all b (λ y k. m y (inr k)))

    -- ---- all of it

    only_of : (qs : List Out) → AreOuts (origin id_of) h t qs → Only
    only_of [] a c i d j m n = absurd (a c i m)
    only_of (o ∷ []) a c i d j m n =
        ((a.2 c i m).0 ∙ sym (a.2 d j n).0, (a.2 c i m).1 ∙ sym (a.2 d j n).1)
    only_of (o ∷ r ∷ qs) a c i d j m n = absurd a

    module _ (es : List (ℕ × End)) (b : AreBack id_of t es) (p : Payment) (kept : IsKept p)
        (s : IsOfLinks (origin id_of) h t p)
      where
        abbrev all : List ChannelSnapshot
        all = snapshots es

        abbrev still : Bool
        still = is_some (offer_for q all)

        abbrev found : List Htlc
        found = filter (is_htlc q) (rebuilt_htlcs all)

        found_so : found ≡ unfinished all (decided_of q es) ++ cond (is_read q all) [] (map htlc_left (legs_of q es))
        found_so = filter-append (is_htlc q) (all_unfinished all all) (all_left all all)
            ∙ ap (λ z. z ++ filter (is_htlc q) (all_left all all)) (all_turn q all es)
            ∙ ap (λ z. unfinished all (decided_of q es) ++ z) (all_left_turn q all es)

        ways_so : IsOutgoingOf id_of (outgoing_for q all) (outgoing_of still p.outs)
        ways_so = outgoing_is id_of h t es b p.outs s.outs

        result_none : p.outs ≡ [] → result_for q all ≡ None
        result_none none = cases (result_for q all) refl
          where
            cases : (o : Option Leg) → result_for q all ≡ o → result_for q all ≡ None
            cases None e = e
            cases (Some g) e = let r = result_is id_of h t es b g e in
                absurd (subst (AreOuts (origin id_of) h t) none s.outs r.end.0 r.id r.has)

        -- no decision is there
        nothing : decided_of q es ≡ [] → legs_of q es ≡ [] → found ≡ []
        nothing none legs = found_so ∙ ap (λ z. unfinished all z ++ cond (is_read q all) []
            (map htlc_left (legs_of q es))) none
            ∙ ap (λ z. cond (is_read q all) [] (map htlc_left z)) legs ∙ both (is_read q all)
          where
            both : (c : Bool) → cond c [] (map htlc_left []) ≡ []
            both true = refl
            both false = refl

        none_note : decided_of q es ≡ [] → p.decision ≡ Undecided
            → AreEntries id_of found (note_read p.decision (outgoing_of still p.outs) p.removal)
        none_note none d =
            let early : p.outs ≡ [] = (subst (λ z. IsEarly z p.removal p.outs p.note) d kept.early).1 in
            subst (λ z. AreEntries id_of z (note_read p.decision (outgoing_of still p.outs) p.removal))
            (sym (nothing none (first_leg es (result_none early))))
            (ap (λ z. note_read z (outgoing_of still p.outs) p.removal) d)

        not_over : (o : Option Leg) → offer_for q all ≡ o → (w : OutgoingLeg) → IsOutgoingOf id_of (outgoing_along o) w
            → note_of_result w ≡ None
        not_over o e Absent is = refl
        not_over o e Refused is = refl
        not_over o e (Offered c i) is = refl
        not_over None e (Resolved c i m) is = absurd is
        not_over (Some g) e (Resolved c i m) is =
            let r = offer_is id_of h t es b g e in
            absurd (subst (λ z. IsOutgoingOf id_of z (Resolved c i m)) r.outgoing is)

        left_one : (g : Leg) → ResultOf id_of h t es b g → (w : OutgoingLeg) → IsOutgoingOf id_of g.outgoing w
            → IsEntry id_of (htlc_left g) (note_of_result w)
        left_one g r Absent is = absurd (subst (λ z. IsOutgoingOf id_of z Absent) r.outgoing is)
        left_one g r Refused is = absurd (subst (λ z. IsOutgoingOf id_of z Refused) r.outgoing is)
        left_one g r (Offered c i) is = absurd (subst (λ z. IsOutgoingOf id_of z (Offered c i)) r.outgoing is)
        left_one g r (Resolved c i m) is = (refl, record { mark = refl; outgoing = is; incoming = refl })

        first_some : (ys : List (ℕ × End)) (g : Leg) → result_for q (snapshots ys) ≡ Some g
            → (gs : List Leg) × (legs_of q ys ≡ g ∷ gs)
        first_some [] g e = absurd (cc)
        first_some (x ∷ ys) g e = cases (find (is_for q) (channel_snapshot_of x.1).results) refl e
            (λ r. first_some ys g r)
          where
            cases : (o : Option Leg) → find (is_for q) (channel_snapshot_of x.1).results ≡ o
                → or_leg o (result_for q (snapshots ys)) ≡ Some g
                → (result_for q (snapshots ys) ≡ Some g → (gs : List Leg) × (legs_of q ys ≡ g ∷ gs))
                → (gs : List Leg) × (filter (is_for q) (channel_snapshot_of x.1).results ++ legs_of q ys ≡ g ∷ gs)
            cases None is f rest = let r = rest f in (
              r.0,
              ap (λ z. z ++ legs_of q ys) (outgoings.none_found (is_for q)
                  (channel_snapshot_of x.1).results is) ∙ r.1,
            )
            cases (Some z) is f rest =
                let same_leg : z ≡ g = cc in
                let r = outgoings.find_first (is_for q) (channel_snapshot_of x.1).results z is in
                (r.0 ++ legs_of q ys, ap (λ w. w ++ legs_of q ys) r.1 ∙ ap (λ w. w ∷ r.0 ++ legs_of q ys) same_leg)

        past_note : decided_of q es ≡ [] → p.decision ≡ Past
            → AreEntries id_of found (note_read p.decision (outgoing_of still p.outs) p.removal)
        past_note none d =
            subst (λ z. AreEntries id_of found (note_read z (outgoing_of still p.outs) p.removal)) (sym d)
            (cases (result_for q all) refl)
          where
            cases : (o : Option Leg) → result_for q all ≡ o → AreEntries id_of found
                (note_of_result (outgoing_of still p.outs))
            cases None e =
                subst (λ z. AreEntries id_of z (note_of_result (outgoing_of still p.outs)))
                (sym (nothing none (first_leg es e)))
                (not_over (offer_for q all) refl (outgoing_of still p.outs)
                (subst (λ z. IsOutgoingOf id_of (outgoing_along (or_leg z (offer_for q all)))
                (outgoing_of still p.outs)) e ways_so))
            cases (Some g) e =
                let r = first_some es g e in
                let tail = only_leg es es b (λ x m. m) b.once (only_of p.outs s.outs) g r.0 r.1 in
                let whole : found ≡ htlc_left g ∷ [] =
                found_so ∙ ap (λ z. unfinished all z ++ cond (is_read q all) [] (map htlc_left (legs_of q es))) none
                ∙ ap (λ z. cond z [] (map htlc_left (legs_of q es))) (none_read q es none)
                ∙ ap (map htlc_left) (r.1 ∙ ap (λ z. g ∷ z) tail) in
                subst (λ z. AreEntries id_of z (note_of_result (outgoing_of still p.outs))) (sym whole)
                (left_one g (result_is id_of h t es b g e) (outgoing_of still p.outs)
                (subst (λ z. IsOutgoingOf id_of (outgoing_along (or_leg z (offer_for q all)))
                (outgoing_of still p.outs)) e ways_so))

        -- one is
        never_gone : (x y : Bool) → incoming_by x y ≡ incoming.RemovalRefused → ⊥
        never_gone true y e = absurd (cc)
        never_gone false true e = absurd (cc)
        never_gone false false e = absurd (cc)

        some_add : (o : Option Add) → is_some o ≡ true → (a : Add) × (o ≡ Some a)
        some_add None e = absurd (cc)
        some_add (Some a) e = (a, refl)

        decided_note : (e : End) → IsIn (h.channel, e) es → (d : LogDecision)
            → find (λ z. z.id == h.id) e.ledger.decisions ≡ Some d
            → AreEntries id_of found (note_read p.decision (outgoing_of still p.outs) p.removal)
        decided_note e m d f =
            let incoming = outgoings.incoming_leg_of id_of h t es b (h.channel, e) m in
            let l = e.dance.log in
            let ch = e.dance.channel in
            let id = found_id h.id e.ledger.decisions d f in
            let live = member_all (λ z. outcome z.id (take l.first.own l.own) ≡ Live) h.id e.ledger.decisions d
            incoming.tidy.open_still f in
            let below = below_all 0 e.ledger.decisions (waiting_ids l.received e.ledger.undecided)
            (next_id (take l.acknowledged.peer l.received)) h.id d incoming.tidy.ids f in
            let front = next-front l.acknowledged.peer l.received in
            let there : is_some (add_with d.id l.received) ≡ true =
            (offered_below d.id l.received incoming.fit.peer_ids).1 (omega (arith, below, front)) in
            let a = some_add (add_with d.id (peer_updates l)) (ap is_some (peer_found l d.id live) ∙ there) in
            let n = has_mark d.mark (member_all (λ z. z.mark ≡ mark.None → ⊥) h.id e.ledger.decisions d
            incoming.tidy.marks f) in
            let x = htlc_by ch d.mark (incoming_in d.id l) a.0 in
            let key : x.key ≡ q = ap (λ c. record { channel = c; id = a.0.id }) incoming.channel
            ∙ ap (λ i. record { channel = id_of h.channel; id = i }) (add_id d.id (peer_updates l) a.0 a.1 ∙ id) in
            let only : filter (λ z. z.id == h.id) e.ledger.decisions ≡ d ∷ [] =
            one_of_id (λ z. z.id) 0 e.ledger.decisions (waiting_ids l.received e.ledger.undecided)
            (next_id (take l.acknowledged.peer l.received)) h.id incoming.tidy.ids d f in
            let these : decided_of q es ≡ x ∷ [] =
            one_there es b.each b.once e m
            ∙ ap (λ c. filter (is_htlc (record { channel = c; id = h.id })) (decided_in ch l e.ledger.decisions))
            (sym incoming.channel)
            ∙ of_id ch l h.id e.ledger.decisions ∙ ap (decided_in ch l) only
            ∙ ap (λ o. cons_option (decided_by ch d.mark (incoming_in d.id l) o) []) a.1 in
            let whole : found ≡ unfinished all (x ∷ []) =
            found_so ∙ ap (λ z. unfinished all z ++ cond (is_read q all) [] (map htlc_left (legs_of q es))) these
            ∙ ap (λ z. unfinished all (x ∷ []) ++ cond z [] (map htlc_left (legs_of q es))) (one_read q es x [] these)
            ∙ append-nil (unfinished all (x ∷ [])) in
            let decision : p.decision ≡ Decided n.0 =
            s.decision ∙ ap (decision_at h.id) incoming.side
            ∙ ap (λ o. decision_by o (is_gone h.id (take l.first.own l.own))) f ∙ ap decided_as n.1 in
            let removal : p.removal ≡ removal_of d.id l =
            s.removal ∙ ap (removal_at h.id) incoming.side ∙ ap (λ i. removal_of i l) (sym id) in
            let backs : incoming_as x.incoming ≡ incoming_leg_of p.removal =
            back_is l d.id live incoming.fit.peer_ids incoming.fit.sound.own_first ∙ ap incoming_leg_of (sym removal) in
            subst (λ z. AreEntries id_of z (note_read p.decision
            (outgoing_of still p.outs) p.removal)) (sym whole)
            (subst (λ z. AreEntries id_of (unfinished all (x ∷ []))
            (note_read z (outgoing_of still p.outs) p.removal)) (sym decision)
            (subst (λ v. AreEntries id_of (cond (is_settled (incoming_in d.id l) &&
            (has_no_outgoing (outgoing_read d.mark (incoming_in d.id l) v) && not (is_held d.mark))) []
            (record x { outgoing = outgoing_read d.mark (incoming_in d.id l) v } ∷ []))
            (note_by n.0 (outgoing_of still p.outs) (incoming_leg_of p.removal)))
            (ap (λ z. outgoing_for z all) (sym key))
            (read_one id_of x n.0 (outgoing_for q all) (outgoing_of still p.outs)
            (incoming_leg_of p.removal) n.1 ways_so backs
            (never_gone (holds_removal d.id l) (has_own_removal d.id l)) refl)))

        pub read_so : AreEntries id_of found (note_read p.decision (outgoing_of still p.outs) p.removal)
        read_so = cases (t.sides h.channel) refl
          where
            absent : (ys : List (ℕ × End)) → All (IsIncoming id_of t) ys → t.sides h.channel ≡ None
                → All (λ y. (h.channel == y.0) ≡ false) ys
            absent [] a e = tt
            absent (y ∷ ys) a e = (other (h.channel == y.0) refl, absent ys a.1 e)
              where
                other : (c : Bool) → (h.channel == y.0) ≡ c → (h.channel == y.0) ≡ false
                other false k = k
                other true k = absurd (let no : None ≡ Some (side_of y.1) =
                    sym e ∙ ap (λ n. t.sides n) (eqb-true h.channel y.0 k) ∙ a.0.side in cc)

            of_side : (e : End) → IsIn (h.channel, e) es → (o : Option LogDecision)
                → find (λ z. z.id == h.id) e.ledger.decisions ≡ o
                → AreEntries id_of found (note_read p.decision (outgoing_of still p.outs) p.removal)
            of_side e m (Some d) f = decided_note e m d f
            of_side e m None f =
                let incoming = outgoings.incoming_leg_of id_of h t es b (h.channel, e) m in
                let l = e.dance.log in
                let none : decided_of q es ≡ [] =
                one_there es b.each b.once e m
                ∙ ap (λ c. filter (is_htlc (record { channel = c; id = h.id }))
                (decided_in e.dance.channel l e.ledger.decisions))
                (sym incoming.channel)
                ∙ of_id e.dance.channel l h.id e.ledger.decisions
                ∙ ap (decided_in e.dance.channel l) (none_of_id h.id e.ledger.decisions f) in
                let decision : p.decision ≡ decision_by None (is_gone h.id (take l.first.own l.own)) =
                s.decision ∙ ap (decision_at h.id) incoming.side
                ∙ ap (λ o. decision_by o (is_gone h.id (take l.first.own l.own))) f in
                either none (is_gone h.id (take l.first.own l.own)) decision
              where
                either : decided_of q es ≡ [] → (g : Bool) → p.decision ≡ decision_by None g
                    → AreEntries id_of found (note_read p.decision (outgoing_of still p.outs) p.removal)
                either none true d = past_note none d
                either none false d = none_note none d

            cases : (o : Option Side) → t.sides h.channel ≡ o
                → AreEntries id_of found (note_read p.decision (outgoing_of still p.outs) p.removal)
            cases None e = none_note (none_there es b.each (absent es b.each e)) (s.decision ∙ ap (decision_at h.id) e)
            cases (Some z) e = let r = b.every h.channel z e in of_side r.0 r.1
                (find (λ z. z.id == h.id) r.0.ledger.decisions) refl
