-- How far the base of an end may move, by which events are undecided: these, or fewer, or new ones after them.
use Rattle.std.proofs.Common.{◌≡◌, ◌⊎◌, inl, inr, ℕ, zero, suc, ◌+◌, ◌<◌, ◌≤◌, List, [], ◌∷◌, ◌++◌, length, take, drop}
use Rattle.std.proofs.Common.{refl, sym, ap, ◌∙◌, subst, arith, Bool, true, false, cond, Option, Some, None, option_map}
use Rattle.std.proofs.Common.{nat_lt, is_some}
use Rattle.std.proofs.lemmas.Bool.{lt-ltb, le-ltb, le-leb}
use Rattle.std.specs.List.{cons_option}
use Rattle.ln_log.specs.declared.update.Add.{Add}
use Rattle.ln_log.specs.declared.update.Fee.{Fee}
use Rattle.ln_log.specs.declared.update.Update.{Update as Change}
use Rattle.ln_log.specs.declared.update.Update.TheVariants as update
use Rattle.ln_log.specs.declared.mark.EventRef.{EventRef}
use Rattle.ln_log.specs.Log.{AreWithin}
use Rattle.ln_hooks.specs.Amount.{greatest_amount}
use Rattle.ln_hooks.specs.declared.event.ChannelEvent.{ChannelEvent}
use Rattle.ln_hooks.specs.declared.event.ChannelEvent.TheVariants as event
use Rattle.ln_hooks.specs.Event.{event_of}
use Rattle.ln_channel.specs.Base.{own_number, peer_number, lesser, least_own, least_peer}
use Rattle.ln_channel.specs.Ledger.{ref_of, refs_of}
use Rattle.ln_channel_laws.proofs.Bases.BaseStands.{lesser_le}
use Rattle.ln_channel_laws.proofs.All.{All}

-- ---- of every rest of a list of events

abbrev pub EachRest : (List EventRef → Type 0) → List EventRef → Type 0
EachRest P [] = P []
EachRest P (r ∷ rs) = P (r ∷ rs) × EachRest P rs

pub whole_rest : (P : List EventRef → Type 0) (rs : List EventRef) → EachRest P rs → P rs
whole_rest P [] h = h
whole_rest P (r ∷ rs) h = h.0

pub rest-drop : (P : List EventRef → Type 0) (n : ℕ) (rs : List EventRef) → EachRest P rs → EachRest P (drop n rs)
rest-drop P zero rs h = h
rest-drop P (suc n) [] h = h
rest-drop P (suc n) (r ∷ rs) h = rest-drop P n rs h.1

pub rests_so : (P Q : List EventRef → Type 0) → ((rs : List EventRef) → P rs → Q rs) → (rs : List EventRef)
    → EachRest P rs → EachRest Q rs
rests_so P Q f [] h = f [] h
rests_so P Q f (r ∷ rs) h = (f (r ∷ rs) h.0, rests_so P Q f rs h.1)

-- with more after them
rests-append : (P Q : List EventRef → Type 0) (R : EventRef → Type 0) (ss : List EventRef)
    → ((rs : List EventRef) → All R rs → P rs → Q (rs ++ ss)) → EachRest Q ss → (rs : List EventRef) → All R rs
    → EachRest P rs → EachRest Q (rs ++ ss)
rests-append P Q R ss f g [] a h = g
rests-append P Q R ss f g (r ∷ rs) a h = (f (r ∷ rs) a h.0, rests-append P Q R ss f g rs a.1 h.1)

-- ---- the least number of events, of those that have one

abbrev pub least : (EventRef → Option ℕ) → ℕ → List EventRef → ℕ
least f n [] = n
least f n (r ∷ rs) = least f (lesser (f r) n) rs

pub own_least : (n : ℕ) (rs : List EventRef) → least_own n rs ≡ least own_number n rs
own_least n [] = refl
own_least n (r ∷ rs) = own_least (lesser (own_number r) n) rs

pub peer_least : (n : ℕ) (rs : List EventRef) → least_peer n rs ≡ least peer_number n rs
peer_least n [] = refl
peer_least n (r ∷ rs) = peer_least (lesser (peer_number r) n) rs

abbrev pub IsBelow : ℕ → Option ℕ → Type 0
IsBelow n None = Unit {0}
IsBelow n (Some m) = m < n

abbrev pub IsFrom : ℕ → Option ℕ → Type 0
IsFrom n None = Unit {0}
IsFrom n (Some m) = n ≤ m

low : (m n : ℕ) → m < n → lesser (Some m) n ≡ m
low m n lt = ap (λ (b : Bool). cond b m n) (lt-ltb m n lt)

high : (m n : ℕ) → n ≤ m → lesser (Some m) n ≡ n
high m n le = ap (λ (b : Bool). cond b m n) (le-ltb m n le)

no_less : (o : Option ℕ) (n : ℕ) → IsFrom n o → lesser o n ≡ n
no_less None n h = refl
no_less (Some m) n h = high m n h

lesser_from : (c n : ℕ) (o : Option ℕ) → c ≤ n → IsFrom c o → c ≤ lesser o n
lesser_from c n None le h = le
lesser_from c n (Some m) le h = by (nat_lt m n)
  where
    by : (b : Bool) → c ≤ cond b m n
    by true = h
    by false = le

module _ (f : EventRef → Option ℕ) where
  pub least_le : (n : ℕ) (rs : List EventRef) → least f n rs ≤ n
  least_le n [] = omega arith
  least_le n (r ∷ rs) =
      let less = lesser_le (f r) n in
      let rest = least_le (lesser (f r) n) rs in
      omega (arith, less, rest)

  pub least-append : (n : ℕ) (rs ss : List EventRef) → least f n (rs ++ ss) ≡ least f (least f n rs) ss
  least-append n [] ss = refl
  least-append n (r ∷ rs) ss = least-append (lesser (f r) n) rs ss

  -- none of them is less
  none_less : (n c : ℕ) (rs : List EventRef) → n ≤ c → All (λ r. IsFrom c (f r)) rs → least f n rs ≡ n
  none_less n c [] le h = refl
  none_less n c (r ∷ rs) le h =
      ap (λ k. least f k rs) (no_less (f r) n (later (f r) h.0)) ∙ none_less n c rs le h.1
    where
      later : (o : Option ℕ) → IsFrom c o → IsFrom n o
      later None k = tt
      later (Some m) k = omega (arith, le, k)

  pub least_from : (c n : ℕ) (rs : List EventRef) → c ≤ n → All (λ r. IsFrom c (f r)) rs → c ≤ least f n rs
  least_from c n [] le h = le
  least_from c n (r ∷ rs) le h = least_from c (lesser (f r) n) rs (lesser_from c n (f r) le h.0) h.1

  none_told : (n : ℕ) (rs : List EventRef) → All (λ r. f r ≡ None) rs → least f n rs ≡ n
  none_told n [] h = refl
  none_told n (r ∷ rs) h = ap (λ o. least f (lesser o n) rs) h.0 ∙ none_told n rs h.1

  -- new events from c on come after events below c: the least of the first stays, where one of them has a number; and
  -- else the least of the new ones is it
  module _ (c d : ℕ) (up : c ≤ d) (ss : List EventRef) (new : All (λ r. IsFrom c (f r)) ss) where
    abbrev Grows : List EventRef → Type 0
    Grows rs = (least f d (rs ++ ss) ≡ least f c rs)
        ⊎ ((least f c rs ≡ c) × (least f d (rs ++ ss) ≡ least f d ss))

    one_grows : (o : Option ℕ) (rs : List EventRef) → IsBelow c o → Grows rs
        → (least f (lesser o d) (rs ++ ss) ≡ least f (lesser o c) rs)
        ⊎ ((least f (lesser o c) rs ≡ c) × (least f (lesser o d) (rs ++ ss) ≡ least f d ss))
    one_grows None rs h g = g
    one_grows (Some m) rs h g =
        let le = least_le m rs in
        inl (ap (λ k. least f k (rs ++ ss)) (low m d (omega (arith, h, up))) ∙ least-append m rs ss
        ∙ none_less (least f m rs) c ss (omega (arith, le, h)) new ∙ ap (λ k. least f k rs) (sym (low m c h)))

    grows : (rs : List EventRef) → All (λ r. IsBelow c (f r)) rs → Grows rs
    grows [] h = inr (refl, refl)
    grows (r ∷ rs) h = one_grows (f r) rs h.0 (grows rs h.1)

-- ---- what may be a base as one side's part grows from c to d: C says which counts, this side's first; of the new
-- events each is of this side and from c on
module _ (f g : EventRef → Option ℕ) (C : ℕ → ℕ → Type 0) (c d p : ℕ) (up : c ≤ d) (ss : List EventRef)
    (new : All (λ r. IsFrom c (f r)) ss) (others : All (λ r. g r ≡ None) ss)
    (square : (a : ℕ) → c ≤ a → a ≤ d → C a p) (over : (b : ℕ) → C c b → C (least f d ss) b) where
  behind : (rs : List EventRef) → All (λ r. IsBelow c (f r)) rs → C (least f c rs) (least g p rs)
      → C (least f d (rs ++ ss)) (least g p (rs ++ ss))
  behind rs low_ h =
      let same : least g p (rs ++ ss) ≡ least g p rs = least-append g p rs ss
      ∙ none_told g (least g p rs) ss others in
      subst (λ b. C (least f d (rs ++ ss)) b) (sym same)
      (elim (grows f c d up ss new rs low_) [
        | inl e ↦ subst (λ a. C a (least g p rs)) (sym e) h
        | inr e ↦
            subst (λ a. C a (least g p rs)) (sym e.1)
            (over (least g p rs) (subst (λ a. C a (least g p rs)) e.0 h))
      ])

  among : (rs : List EventRef) → All (λ r. IsFrom c (f r)) rs → All (λ r. g r ≡ None) rs
      → EachRest (λ qs. C (least f d qs) (least g p qs)) rs
  among [] h k = square d up (omega arith)
  among (r ∷ rs) h k = (
    subst (λ b. C (least f d (r ∷ rs)) b) (sym (none_told g p (r ∷ rs) k))
        (square (least f d (r ∷ rs)) (least_from f c d (r ∷ rs) up h) (least_le f d (r ∷ rs))),
    among rs h.1 k.1,
  )

  pub rests_grow : (rs : List EventRef) → All (λ r. IsBelow c (f r)) rs
      → EachRest (λ qs. C (least f c qs) (least g p qs)) rs
      → EachRest (λ qs. C (least f d qs) (least g p qs)) (rs ++ ss)
  rests_grow = rests-append (λ qs. C (least f c qs) (least g p qs)) (λ qs. C (least f d qs) (least g p qs))
      (λ r. IsBelow c (f r)) ss behind (among ss new others)

-- ---- the events of updates

pub all_refs : (P : EventRef → Type 0) (own : Bool) (n : ℕ) (us : List Change)
    → ((k : ℕ) → n ≤ k → P (ref_of own k)) → All P (refs_of own n us)
all_refs P own n [] h = tt
all_refs P own n (u ∷ us) h =
    one (event_of own u) (all_refs P own (n + 1) us (λ k le. h k (omega (arith, le))))
  where
    one : (o : Option ChannelEvent) → All P (refs_of own (n + 1) us)
        → All P (cons_option (option_map (λ e. ref_of own n) o) (refs_of own (n + 1) us))
    one None rest = rest
    one (Some e) rest = (h n (omega arith), rest)

-- what isn't a fee is an event, where an add is within the bound
add_told : (own : Bool) (most : ℕ) (a : Add) → most ≤ greatest_amount → a.amount ≤ most
    → is_some (event_of own (update.Add a)) ≡ true
add_told own most a few le =
    ap (λ b. is_some (option_map (λ n. event.Added own a.id n a.hash a.expiry a.onion) (cond b (Some a.amount) None)))
    (le-leb a.amount greatest_amount (omega (arith, few, le)))

next_drop : (n : ℕ) (us : List Change) (u : Change) (vs : List Change) → drop n us ≡ u ∷ vs → drop (suc n) us ≡ vs
next_drop zero [] u vs e = absurd (cc)
next_drop zero (v ∷ us) u vs e = ap (drop 1) e
next_drop (suc n) [] u vs e = absurd (cc)
next_drop (suc n) (v ∷ us) u vs e = next_drop n us u vs e

next_take : (n : ℕ) (us : List Change) (u : Change) (vs : List Change) → drop n us ≡ u ∷ vs
    → take (suc n) us ≡ take n us ++ u ∷ []
next_take zero [] u vs e = absurd (cc)
next_take zero (v ∷ us) u vs e = ap (take 1) e
next_take (suc n) [] u vs e = absurd (cc)
next_take (suc n) (v ∷ us) u vs e = ap (λ ws. v ∷ ws) (next_take n us u vs e)

pub one_more : (n : ℕ) (us : List Change) (u : Change) (vs : List Change) → drop n us ≡ u ∷ vs
    → take (n + 1) us ≡ take n us ++ u ∷ []
one_more n us u vs e = let is : n + 1 ≡ suc n = omega arith in ap (λ k. take k us) is ∙ next_take n us u vs e

-- from n on, up to the first of these updates that is an event, or up to d, P holds, as it holds with each fee
module _ (f : EventRef → Option ℕ) (own : Bool) (told : (k : ℕ) → f (ref_of own k) ≡ Some k) (most : ℕ)
    (few : most ≤ greatest_amount) (list : List Change) (P : ℕ → Type 0)
    (fee : (n : ℕ) (x : Fee) (vs : List Change) → drop n list ≡ update.Fee x ∷ vs → P n → P (n + 1)) where
  stops : (n d : ℕ) (o : Option ChannelEvent) (us : List Change) → is_some o ≡ true → n < d → P n
      → P (least f d (cons_option (option_map (λ e. ref_of own n) o) (refs_of own (n + 1) us)))
  stops n d None us is lt h = absurd (cc)
  stops n d (Some e) us is lt h =
      let rest = refs_of own (n + 1) us in
      let all : All (λ r. IsFrom n (f r)) rest = all_refs (λ r. IsFrom n (f r)) own (n + 1) us
      (λ k le. subst (IsFrom n) (sym (told k)) (omega (arith, le))) in
      subst P (sym (ap (λ o. least f (lesser o d) rest) (told n) ∙ ap (λ k. least f k rest) (low n d lt)
      ∙ none_less f n n rest (omega arith) all)) h

  pub passes : (n d : ℕ) (us rest : List Change) → drop n list ≡ us ++ rest → n + length us ≡ d → AreWithin most us
      → P n → P (least f d (refs_of own n us))
  passes n d [] rest e len w h = subst P (omega (arith, len)) h
  passes n d (update.Add a ∷ us) rest e len w h =
      stops n d (event_of own (update.Add a)) us (add_told own most a few w.0) (omega (arith, len)) h
  passes n d (update.Fulfil x ∷ us) rest e len w h =
      stops n d (event_of own (update.Fulfil x)) us refl (omega (arith, len)) h
  passes n d (update.Fail x ∷ us) rest e len w h =
      stops n d (event_of own (update.Fail x)) us refl (omega (arith, len)) h
  passes n d (update.Malformed x ∷ us) rest e len w h =
      stops n d (event_of own (update.Malformed x)) us refl (omega (arith, len)) h
  passes n d (update.Fee x ∷ us) rest e len w h =
      let on : n + 1 ≡ suc n = omega arith in
      passes (n + 1) d us rest (ap (λ k. drop k list) on ∙ next_drop n list (update.Fee x) (us ++ rest) e)
      (omega (arith, len)) w.1 (fee n x (us ++ rest) e h)
