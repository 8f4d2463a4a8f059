-- What is kept of dispatchers, by its places.
use Rattle.std.proofs.Common.{◌≡◌, ℕ, zero, suc, ◌+◌, ◌-◌, ◌<◌, ◌≤◌, List, [], ◌∷◌, ◌++◌, length, get_or, set, map}
use Rattle.std.proofs.Common.{refl, sym, ap, ◌∙◌, subst, arith, Bool, true, false, cond, not, ◌&&◌, nat_lt, nat_le, max}
use Rattle.std.proofs.Common.{Option, Some, None, option_map, position, take, drop, append-nil}
use Rattle.std.specs.List.{position_or_len}
use Rattle.std.proofs.Math.ListN.{get_or-map, length-map}
use Rattle.std.proofs.lemmas.Bool.{ltb-true}
use Rattle.std.proofs.lemmas.List.{map-set}
use Rattle.ln_hooks.specs.declared.event.ChannelEvent.{ChannelEvent}
use Rattle.ln_hooks.specs.declared.verdict.Verdict.{Verdict}
use Rattle.ln_world_channels.specs.declared.step.End.{End}
use Rattle.ln_world_channels.specs.Promises.{Each}
use Rattle.ln_world_channels.specs.World.{World as Channels}
use Rattle.ln_world_dispatch.specs.declared.hook_slot.HookSlot.{HookSlot}
use Rattle.ln_world_dispatch.specs.declared.served.Served.{Served}
use Rattle.ln_world_dispatch.specs.Dispatcher.{Dispatcher, next, is_at, dispatcher_at, at_dispatcher}
use Rattle.ln_world_dispatch.specs.World.{item, both_of, served_in}
use Rattle.ln_world_dispatch.specs.Kept.{KeptDispatcher, epoch_of, dispatchers_of, decided_at, Keeps}
use Rattle.ln_world_dispatch.proofs.Found.{dispatcher_none, dispatcher_found, moves_none, moves_found}

-- ---- lists

item_behind : {A : Type 0} (xs ys : List A) (n : ℕ) → item (length xs + n) (xs ++ ys) ≡ item n ys
item_behind [] ys n = ap (λ k. item k ys) (let e : 0 + n ≡ n = omega arith in e)
item_behind (x ∷ xs) ys n =
    ap (λ k. item k (x ∷ xs ++ ys)) (let e : length (x ∷ xs) + n ≡ suc (length xs + n) = omega arith in e)
    ∙ item_behind xs ys n

item_here : {A : Type 0} (xs : List A) (n : ℕ) (d : A) → n < length xs → item n xs ≡ Some (get_or xs n d)
item_here [] n d lt = absurd (omega (arith, lt))
item_here (x ∷ xs) zero d lt = refl
item_here (x ∷ xs) (suc n) d lt = item_here xs n d (omega (arith, lt))

item_map : {A B : Type 0} (f : A → B) (n : ℕ) (xs : List A) → item n (map f xs) ≡ option_map f (item n xs)
item_map f n [] = refl
item_map f zero (x ∷ xs) = refl
item_map f (suc n) (x ∷ xs) = item_map f n xs

or_len_so : {X Y : Type 0} (f : X → Y) (p : Y → Bool) (xs : List X)
    → position_or_len p (map f xs) ≡ position_or_len (λ x. p (f x)) xs
or_len_so f p [] = refl
or_len_so f p (x ∷ xs) = ap (λ n. cond (not (p (f x))) (1 + n) 0) (or_len_so f p xs)

pub place_so : {X Y : Type 0} (f : X → Y) (p : Y → Bool) (xs : List X)
    → position (λ x. p (f x)) xs ≡ position p (map f xs)
place_so f p xs =
    let i = position_or_len (λ x. p (f x)) xs in
    ap (λ n. cond (nat_lt i n) (Some i) None) (sym (length-map xs f))
    ∙ ap (λ j. cond (nat_lt j (length (map f xs))) (Some j) None) (sym (or_len_so f p xs))

pub each-to : {A : Type 0} (P Q : A → Type 0) (f : (x : A) → P x → Q x) (xs : List A) → Each P xs → Each Q xs
each-to P Q f [] h = tt
each-to P Q f (x ∷ xs) h = (f x h.0, each-to P Q f xs h.1)

-- of a list that was equal to this one
pub place_among : {X Y : Type 0} (f : X → Y) (p : Y → Bool) (xs was : List X) → was ≡ xs
    → position (λ x. p (f x)) was ≡ position p (map f xs)
place_among f p xs was is = ap (position (λ x. p (f x))) is ∙ place_so f p xs

none_behind : {A : Type 0} (m : ℕ) (xs : List A) → length xs ≤ m → drop m xs ≡ []
none_behind zero [] h = refl
none_behind (suc m) [] h = refl
none_behind zero (x ∷ xs) h = absurd (omega (arith, h))
none_behind (suc m) (x ∷ xs) h = none_behind m xs (omega (arith, h))

all_taken : {A : Type 0} (xs : List A) (n : ℕ) → n ≡ length xs → take n xs ≡ xs
all_taken [] zero h = refl
all_taken [] (suc n) h = refl
all_taken (x ∷ xs) zero h = absurd (omega (arith, h))
all_taken (x ∷ xs) (suc n) h = ap (λ (ys : List _). x ∷ ys) (all_taken xs n (omega (arith, h)))

-- what a slice of the whole list leaves is the list after it
back_is : {A : Type 0} (xs now : List A) (n : ℕ) → length now ≡ length xs → n ≡ length xs
    → take n (now ++ drop (length now) xs) ≡ now
back_is xs now n same is =
    ap (λ ys. take n (now ++ ys)) (none_behind (length now) xs (omega (arith, same)))
    ∙ ap (take n) (append-nil now) ∙ all_taken now n (omega (arith, same, is))

pub so_behind : {A : Type 0} (P : List A → Type 0) (xs now : List A) (n : ℕ) → P now → length now ≡ length xs
    → n ≡ length xs → P (take n (now ++ drop (length now) xs))
so_behind P xs now n h same is = subst P (sym (back_is xs now n same is)) h

pub kept_behind : {A : Type 0} (P : List A → Type 0) (xs was now : List A) (n : ℕ) → (P was → P now) → P xs
    → was ≡ xs → length now ≡ length xs → n ≡ length xs → P (take n (now ++ drop (length now) xs))
kept_behind P xs was now n keep h before same is = so_behind P xs now n (keep (subst P (sym before) h)) same is

pub each_set : {A : Type 0} (P : A → Type 0) (xs : List A) (i : ℕ) (x : A) → Each P xs → P x
    → Each P (set xs i x)
each_set P [] i x h p = h
each_set P (y ∷ ys) zero x h p = (p, h.1)
each_set P (y ∷ ys) (suc i) x h p = (h.0, each_set P ys i x h.1 p)

pub each_get : {A : Type 0} (P : A → Type 0) (xs : List A) (i : ℕ) (d : A) → i < length xs → Each P xs
    → P (get_or xs i d)
each_get P [] i d lt h = absurd (omega (arith, lt))
each_get P (x ∷ xs) zero d lt h = h.0
each_get P (x ∷ xs) (suc i) d lt h = each_get P xs i d (omega (arith, lt)) h.1

pub each_more : {A : Type 0} (P : A → Type 0) (xs : List A) (i : ℕ) (x : A) → i < length xs → Each P (take i xs)
    → P x → Each P (take (suc i) (set xs i x))
each_more P [] i x lt h p = absurd (omega (arith, lt))
each_more P (y ∷ ys) zero x lt h p = (p, tt)
each_more P (y ∷ ys) (suc i) x lt h p = (h.0, each_more P ys i x (omega (arith, lt)) h.1 p)

pub each_of_all : {A : Type 0} (P : A → Type 0) (xs : List A) (n : ℕ) → length xs ≤ n → Each P (take n xs)
    → Each P xs
each_of_all P [] n le h = tt
each_of_all P (x ∷ xs) zero le h = absurd (omega (arith, le))
each_of_all P (x ∷ xs) (suc n) le h = (h.0, each_of_all P xs n (omega (arith, le)) h.1)

-- ---- an event that is kept

there_by : (b : Bool) (o : Option (ChannelEvent × Verdict)) → b ≡ true → o ≡ cond b o None
there_by true o h = refl
there_by false o h = absurd (cc)

not_above : (m n : ℕ) → m ≤ n → nat_le m n ≡ true
not_above m n le = grind (arith, le)

-- of the events of an epoch, those before the first one that is kept are gone
pub served_so : (start : ℕ) (gone kept : List Served) (slots : List HookSlot) (n first : ℕ) (s : Served)
    → first ≡ start + length gone → first ≤ n → n - first < length kept → s ≡ get_or kept (n - first) s
    → ◌≡◌ {A = Option (ChannelEvent × Verdict)} (Some (s.event, s.verdict))
    (served_in n (epoch_of start (gone ++ kept) slots))
served_so start gone kept slots n first s is le lt found =
    let all = gone ++ kept in
    let i = n - start in
    let back : i ≡ length gone + (n - first) = omega (arith, is, le) in
    let here : item i all ≡ Some s =
    ap (λ k. item k all) back ∙ item_behind gone kept (n - first) ∙ item_here kept (n - first) s lt
    ∙ ap Some (sym found) in
    let both = both_of (item i (map (λ (x : Served). x.event) all)) (item i (map (λ (x : Served). x.verdict) all)) in
    let within : start ≤ n = omega (arith, is, le) in
    sym (ap (λ o. both_of o (item i (map (λ (x : Served). x.verdict) all)))
    (item_map (λ (x : Served). x.event) i all ∙ ap (option_map (λ (x : Served). x.event)) here)
    ∙ ap (λ o. both_of (Some s.event) o)
    (item_map (λ (x : Served). x.verdict) i all ∙ ap (option_map (λ (x : Served). x.verdict)) here))
    ∙ there_by (nat_le start n) both (not_above start n within)

-- ---- dispatchers

gone_to : (a b : Bool) (first start n : ℕ) → (a ≡ true → first < n) → first ≤ max start n
    → cond (a && b) (first + 1) first ≤ max start n
gone_to true true first start n lt le = let below = lt refl in omega (arith, below)
gone_to true false first start n lt le = le
gone_to false b first start n lt le = le

-- what its end has decided is all that it lets go of
pub lets_go_so : {K : Type 0} (w : Channels K) (old new : KeptDispatcher) (n : ℕ) → new.dispatcher ≡ old.dispatcher
    → n ≡ decided_at w old.dispatcher.end old.dispatcher.side
    → new.first ≡ cond (nat_lt old.first n && nat_lt old.first (next old.dispatcher.epoch)) (old.first + 1) old.first
    → Keeps (decided_at w) old → Keeps (decided_at w) new
lets_go_so w old new n same is moves keeps =
    let start = old.dispatcher.epoch.start in
    let before = subst (λ m. old.first ≤ max start m) (sym is) keeps in
    let behind =
    gone_to (nat_lt old.first n) (nat_lt old.first (next old.dispatcher.epoch)) old.first start n
    (λ e. ltb-true old.first n e) before in
    subst (λ (d : Dispatcher). new.first ≤ max d.epoch.start (decided_at w d.end d.side)) (sym same)
    (subst (λ m. new.first ≤ max start m) is (subst (λ m. m ≤ max start n) (sym moves) behind))

pub kept_none : (e : End) (ds : List KeptDispatcher) → position (λ d. is_at e d.dispatcher) ds ≡ None
    → dispatcher_at e (dispatchers_of ds) ≡ None
kept_none e ds is =
    dispatcher_none e (dispatchers_of ds) (sym (place_so (λ (d : KeptDispatcher). d.dispatcher) (is_at e) ds) ∙ is)

pub kept_found : (e : End) (ds : List KeptDispatcher) (i : ℕ) (d : KeptDispatcher)
    → Some i ≡ position (λ d. is_at e d.dispatcher) ds
    → dispatcher_at e (dispatchers_of ds) ≡ Some (get_or ds i d).dispatcher
kept_found e ds i d is =
    dispatcher_found e (dispatchers_of ds) i d.dispatcher (is
    ∙ place_so (λ (x : KeptDispatcher). x.dispatcher) (is_at e) ds)
    ∙ ap Some (get_or-map (λ (x : KeptDispatcher). x.dispatcher) ds i d)

pub kept_stay : (e : End) (f : Dispatcher → Dispatcher) (ds : List KeptDispatcher)
    → position (λ d. is_at e d.dispatcher) ds ≡ None
    → dispatchers_of ds ≡ at_dispatcher e f (dispatchers_of ds)
kept_stay e f ds is =
    moves_none e f (dispatchers_of ds) (sym (place_so (λ (d : KeptDispatcher). d.dispatcher) (is_at e) ds) ∙ is)

pub kept_moves : (e : End) (f : Dispatcher → Dispatcher) (ds : List KeptDispatcher) (i : ℕ) (d x : KeptDispatcher)
    → Some i ≡ position (λ d. is_at e d.dispatcher) ds → x.dispatcher ≡ f (get_or ds i d).dispatcher
    → dispatchers_of (set ds i x) ≡ at_dispatcher e f (dispatchers_of ds)
kept_moves e f ds i d x is same =
    map-set (λ (y : KeptDispatcher). y.dispatcher) ds i x
    ∙ moves_found e f (dispatchers_of ds) i d.dispatcher x.dispatcher (is
    ∙ place_so (λ (y : KeptDispatcher). y.dispatcher) (is_at e) ds)
    (same ∙ ap f (sym (get_or-map (λ (y : KeptDispatcher). y.dispatcher) ds i d)))
