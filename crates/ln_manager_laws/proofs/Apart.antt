-- No two links of a manager have one id, so each is found by its own.
use Rattle.std.proofs.Common.{◌≡◌, inl, inr, ℕ, List, [], ◌∷◌, ◌++◌, map, refl, sym, ap, ◌∙◌, subst, Bool, true, false}
use Rattle.std.proofs.Common.{cond, Option, Some, None}
use Rattle.std.specs.List.{find}
use Rattle.ln_channel.specs.End.{End}
use Rattle.ln_payment_circuits.specs.Snapshot.{All, IsIn, NonePasses}
use Rattle.ln_payment_circuits.proofs.Entries.{is_same, same_is}
use Rattle.ln_payment_circuits.proofs.Lists.{either}
use Rattle.ln_manager_laws.specs.Calls.{Seat}
use Rattle.ln_manager_laws.specs.Manager.{has_id, seat_of, seat_id, id_by, agreed_id}

-- ---- ids

abbrev pub Other : Option (List ℕ) → Option (List ℕ) → Type 0
Other None b = Unit {0}
Other (Some a) None = Unit {0}
Other (Some a) (Some b) = a ≡ b → ⊥

pub others_turn : (a b : Option (List ℕ)) → Other a b → Other b a
others_turn None None h = tt
others_turn None (Some b) h = tt
others_turn (Some a) None h = tt
others_turn (Some a) (Some b) h = λ e. h (sym e)

none_other : (a : Option (List ℕ)) → Other a None
none_other None = tt
none_other (Some a) = tt

abbrev pub AreApart : List (Option (List ℕ)) → Type 0
AreApart [] = Unit {0}
AreApart (a ∷ us) = All (Other a) us × AreApart us

all_split : {A : Type 0} (P : A → Type 0) (xs : List A) (y : A) (ys : List A) → All P (xs ++ y ∷ ys)
    → All P xs × (P y × All P ys)
all_split P [] y ys h = (tt, h)
all_split P (x ∷ xs) y ys h = let r = all_split P xs y ys h.1 in ((h.0, r.0), r.1)

all_join : {A : Type 0} (P : A → Type 0) (xs : List A) (y : A) (ys : List A) → All P xs → P y → All P ys
    → All P (xs ++ y ∷ ys)
all_join P [] y ys h k l = (k, l)
all_join P (x ∷ xs) y ys h k l = (h.0, all_join P xs y ys h.1 k l)

-- one of them is apart from the others
pub apart_split : (us : List (Option (List ℕ))) (b : Option (List ℕ)) (bs : List (Option (List ℕ)))
    → AreApart (us ++ b ∷ bs) → All (Other b) us × All (Other b) bs
apart_split [] b bs h = (tt, h.0)
apart_split (a ∷ us) b bs h =
    let here = all_split (Other a) us b bs h.0 in
    let rest = apart_split us b bs h.1 in
    ((others_turn a b here.1.0, rest.0), rest.1)

-- and another one may stand in its place
pub apart_join : (us : List (Option (List ℕ))) (b c : Option (List ℕ)) (bs : List (Option (List ℕ)))
    → AreApart (us ++ b ∷ bs) → All (Other c) us → All (Other c) bs → AreApart (us ++ c ∷ bs)
apart_join [] b c bs h before after = (after, h.1)
apart_join (a ∷ us) b c bs h before after =
    let here = all_split (Other a) us b bs h.0 in (
      all_join (Other a) us c bs here.0 (others_turn c a before.0) here.1.1,
      apart_join us b c bs h.1 before.1 after,
    )

all_none : (us : List (Option (List ℕ))) → All (Other None) us
all_none [] = tt
all_none (a ∷ us) = (tt, all_none us)

pub apart_lost : (us : List (Option (List ℕ))) (b : Option (List ℕ)) (bs : List (Option (List ℕ)))
    → AreApart (us ++ b ∷ bs) → AreApart (us ++ None ∷ bs)
apart_lost us b bs h = apart_join us b None bs h (all_none us) (all_none bs)

-- ---- seats

module _ {K : Type 0} where
  abbrev pub ids : List (Seat K) → List (Option (List ℕ))
  ids xs = map seat_id xs

  pub ids_split : (xs : List (Seat K)) (y : Seat K) (ys : List (Seat K))
      → ids (xs ++ y ∷ ys) ≡ ids xs ++ seat_id y ∷ ids ys
  ids_split [] y ys = refl
  ids_split (x ∷ xs) y ys = ap (λ us. seat_id x ∷ us) (ids_split xs y ys)

  -- a seat with an end has its id
  pub id_is : (id : List ℕ) (x : Seat K) → has_id id x.end ≡ true → seat_id x ≡ Some id
  id_is id x h = cases x.end (agreed_id x.link) h
    where
      cases : (o : Option End) (agreed : Option (List ℕ)) → has_id id o ≡ true → id_by o agreed ≡ Some id
      cases None agreed e = absurd (cc)
      cases (Some e) agreed is = ap Some (sym (same_is id e.dance.channel is))

  none_has : (id : List ℕ) (xs : List (Seat K)) → All (Other (Some id)) (ids xs)
      → NonePasses (λ (x : Seat K). has_id id x.end) xs
  none_has id [] h = tt
  none_has id (x ∷ xs) h = (
    elim (either (has_id id x.end)) [
      | inl is ↦ absurd (let other : Other (Some id) (Some id) = subst (Other (Some id)) (id_is id x is) h.0
          in other refl)
      | inr isnt ↦ isnt
    ],
    none_has id xs h.1,
  )

  pub found_here : (id : List ℕ) (xs : List (Seat K)) (y : Seat K) (ys : List (Seat K))
      → NonePasses (λ (x : Seat K). has_id id x.end) xs → has_id id y.end ≡ true → seat_of id (xs ++ y ∷ ys) ≡ Some y
  found_here id [] y ys none is =
      ap (λ b. cond b (Some y) (find (λ (x : Seat K). has_id id x.end) ys)) is
  found_here id (x ∷ xs) y ys none is =
      ap (λ b. cond b (Some x) (find (λ (x : Seat K). has_id id x.end) (xs ++ y ∷ ys))) none.0
      ∙ found_here id xs y ys none.1 is

  pub found_there : (id : List ℕ) (xs : List (Seat K)) (y z : Seat K) (ys : List (Seat K)) → has_id id y.end ≡ false
      → has_id id z.end ≡ false → seat_of id (xs ++ z ∷ ys) ≡ seat_of id (xs ++ y ∷ ys)
  found_there id [] y z ys off off' =
      ap (λ b. cond b (Some z) (find (λ (x : Seat K). has_id id x.end) ys)) off'
      ∙ sym (ap (λ b. cond b (Some y) (find (λ (x : Seat K). has_id id x.end) ys)) off)
  found_there id (x ∷ xs) y z ys off off' = ap (cond (has_id id x.end) (Some x)) (found_there id xs y z ys off off')

  -- the one of the middle is found by its id
  pub found_by : (id : List ℕ) (xs : List (Seat K)) (y : Seat K) (ys : List (Seat K)) → AreApart (ids (xs ++ y ∷ ys))
      → has_id id y.end ≡ true → seat_of id (xs ++ y ∷ ys) ≡ Some y
  found_by id xs y ys apart here =
      let parts = apart_split (ids xs) (seat_id y) (ids ys) (subst AreApart (ids_split xs y ys) apart) in
      found_here id xs y ys (none_has id xs (subst (λ a. All (Other a) (ids xs)) (id_is id y here) parts.0)) here

  has_own : (y : Seat K) (e : End) → y.end ≡ Some e → has_id e.dance.channel y.end ≡ true
  has_own y e is = ap (has_id e.dance.channel) is ∙ is_same e.dance.channel e.dance.channel refl

  -- none of them has it
  none_there : (id : List ℕ) (ys : List (Seat K)) → NonePasses (λ (x : Seat K). has_id id x.end) ys
      → seat_of id ys ≡ None
  none_there id [] none = refl
  none_there id (y ∷ ys) none =
      ap (λ b. cond b (Some y) (find (λ (x : Seat K). has_id id x.end) ys)) none.0 ∙ none_there id ys none.1

  none_in : (id : List ℕ) (xs : List (Seat K)) (y : Seat K) (ys : List (Seat K))
      → NonePasses (λ (x : Seat K). has_id id x.end) xs → has_id id y.end ≡ false
      → NonePasses (λ (x : Seat K). has_id id x.end) ys → seat_of id (xs ++ y ∷ ys) ≡ None
  none_in id [] y ys before off after =
      ap (λ b. cond b (Some y) (find (λ (x : Seat K). has_id id x.end) ys)) off ∙ none_there id ys after
  none_in id (x ∷ xs) y ys before off after =
      ap (λ b. cond b (Some x) (find (λ (x : Seat K). has_id id x.end) (xs ++ y ∷ ys))) before.0
      ∙ none_in id xs y ys before.1 off after

  -- where another one stood in the place of the one that has it
  pub none_before : (id : List ℕ) (xs : List (Seat K)) (x y : Seat K) (ys : List (Seat K))
      → AreApart (ids (xs ++ y ∷ ys)) → has_id id y.end ≡ true → has_id id x.end ≡ false
      → seat_of id (xs ++ x ∷ ys) ≡ None
  none_before id xs x y ys apart here off =
      let parts = apart_split (ids xs) (seat_id y) (ids ys) (subst AreApart (ids_split xs y ys) apart) in
      none_in id xs x ys (none_has id xs (subst (λ a. All (Other a) (ids xs)) (id_is id y here) parts.0)) off
      (none_has id ys (subst (λ a. All (Other a) (ids ys)) (id_is id y here) parts.1))

  pub found_more : (id : List ℕ) (xs : List (Seat K)) (y : Seat K) → has_id id y.end ≡ false
      → seat_of id (xs ++ y ∷ []) ≡ seat_of id xs
  found_more id [] y off = ap (λ b. cond b (Some y) None) off
  found_more id (x ∷ xs) y off = ap (cond (has_id id x.end) (Some x)) (found_more id xs y off)

  -- what is found is there, and has the id
  pub found_is : (id : List ℕ) (xs : List (Seat K)) (x : Seat K) → seat_of id xs ≡ Some x
      → IsIn x xs × (has_id id x.end ≡ true)
  found_is id [] x e = absurd (cc)
  found_is id (y ∷ xs) x e = cases (has_id id y.end) refl e (λ f. found_is id xs x f)
    where
      cases : (b : Bool) → has_id id y.end ≡ b → cond b (Some y) (find (λ (x : Seat K). has_id id x.end) xs) ≡ Some x
          → (seat_of id xs ≡ Some x → IsIn x xs × (has_id id x.end ≡ true))
          → IsIn x (y ∷ xs) × (has_id id x.end ≡ true)
      cases true is f rest =
          let same_seat : y ≡ x = cc in (inl same_seat, subst (λ (z : Seat K). has_id id z.end ≡ true) same_seat is)
      cases false isnt f rest = let r = rest f in (inr r.0, r.1)

  -- one of these stands between the others
  pub split_at : (x : Seat K) (xs : List (Seat K)) → IsIn x xs
      → (before : List (Seat K)) × (after : List (Seat K)) × (xs ≡ before ++ x ∷ after)
  split_at x [] m = absurd m
  split_at x (y ∷ xs) (inl e) = ([], xs, ap (λ z. z ∷ xs) e)
  split_at x (y ∷ xs) (inr m) = let r = split_at x xs m in (y ∷ r.0, r.1, ap (λ zs. y ∷ zs) r.2)

  pub found_in : (x : Seat K) (xs : List (Seat K)) (e : End) → AreApart (ids xs) → IsIn x xs → x.end ≡ Some e
      → seat_of e.dance.channel xs ≡ Some x
  found_in x xs e apart m is =
      let r = split_at x xs m in
      ap (seat_of e.dance.channel) r.2
      ∙ found_by e.dance.channel r.0 x r.1 (subst (λ zs. AreApart (ids zs)) r.2 apart) (has_own x e is)
