-- How many slots hold something, and where an index stays exact.
use Rattle.std.proofs.Common.{◌≡◌, ℕ, ◌+◌, ◌<◌, ◌≤◌, List, [], ◌∷◌, ◌++◌, zero, suc, length, get_or, set, take}
use Rattle.std.proofs.Common.{refl, sym, ap, ◌∙◌, arith, Bool, true, false, cond, Option, None, Some, rules, IsTrue}
use Rattle.std.proofs.Common.{is_some, subst}
use Rattle.std.specs.Prelude.{filter, map, not, nat_eq}
use Rattle.std.specs.Option.{option_map}
use Rattle.std.proofs.lemmas.Bool.{eqb-true}
use Rattle.std.proofs.lemmas.List.{length-set, length-append}
use Rattle.ln_book_tables.specs.declared.htlc.Key.{Key}
use Rattle.ln_book_tables.specs.declared.htlc.Htlc.{Htlc}
use Rattle.ln_book_tables.specs.declared.key_index.KeyIndex.{KeyIndex}
use Rattle.ln_book_tables.specs.declared.lists.Change.{Change}
use Rattle.ln_book_tables.specs.declared.lists.Change.TheVariants as change
use Rattle.ln_book_tables.specs.declared.indices.Indices.{Indices}
use Rattle.ln_book_tables.specs.Replay.{left_out}
use Rattle.ln_book_tables.specs.Lists.{changed_by}
use Rattle.ln_book_tables.specs.Slots.{passes}
use Rattle.ln_book_tables.specs.KeyIndex.{is_key, is_named, is_place, place_of, put_at, IsIndexOf}
use Rattle.ln_book_tables.specs.Indices.{names, names_at, IsIndexed}
use Rattle.ln_book_tables.specs.Filled.{one_or_none, count_in, room_in, held_in, StandApart}
use Rattle.ln_book_tables.specs.Filled.{IsCounted, IsExact, IsHalfFull, IsKept}
use Rattle.ln_book_tables.proofs.Keyed.{is_there}
use Rattle.ln_book_tables.proofs.Named.{push_by, name_cond, beyond}

-- ---- how many slots hold something

pub held_set : (ss : List (Option Htlc)) (i : ℕ) (s : Option Htlc) → i < length ss
    → held_in (set ss i s) + one_or_none (names (get_or ss i None)).key ≡ held_in ss + one_or_none (names s).key
held_set [] i s lt = absurd (omega (arith, lt))
held_set (None ∷ ss) zero None lt = refl
held_set (None ∷ ss) zero (Some h) lt = omega arith
held_set (Some g ∷ ss) zero None lt = omega arith
held_set (Some g ∷ ss) zero (Some h) lt = refl
held_set (None ∷ ss) (suc i) s lt = held_set ss i s (omega (arith, lt))
held_set (Some g ∷ ss) (suc i) s lt = omega (arith, held_set ss i s (omega (arith, lt)))

pub held_pushed : (ss : List (Option Htlc)) (s : Option Htlc)
    → held_in (ss ++ s ∷ []) ≡ held_in ss + one_or_none (names s).key
held_pushed [] None = refl
held_pushed [] (Some h) = refl
held_pushed (None ∷ ss) s = held_pushed ss s
held_pushed (Some g ∷ ss) s = omega (arith, held_pushed ss s)

pub held_taken : (n : ℕ) (ss : List (Option Htlc)) → held_in (take n ss) ≤ held_in ss
held_taken zero ss = omega arith
held_taken (suc n) [] = omega arith
held_taken (suc n) (None ∷ ss) = held_taken n ss
held_taken (suc n) (Some h ∷ ss) = omega (arith, held_taken n ss)

pub held_at_most : (ss : List (Option Htlc)) → held_in ss ≤ length ss
held_at_most [] = omega arith
held_at_most (None ∷ ss) = omega (arith, held_at_most ss)
held_at_most (Some h ∷ ss) = omega (arith, held_at_most ss)

left_by : (b : Bool) (h : Htlc) (ss ts : List (Option Htlc)) → held_in ts ≤ held_in ss
    → held_in (cond b (Some h ∷ ts) ts) ≤ suc (held_in ss)
left_by true h ss ts le = omega (arith, le)
left_by false h ss ts le = omega (arith, le)

pub held_left : (p : Htlc → Bool) (ss : List (Option Htlc)) → held_in (left_out (passes p) ss) ≤ held_in ss
held_left p [] = omega arith
held_left p (None ∷ ss) = held_left p ss
held_left p (Some h ∷ ss) = left_by (not (p h)) h ss (left_out (passes p) ss) (held_left p ss)

-- none is empty
pub all_hold : (ss : List (Option Htlc)) → length (filter is_some ss) ≡ held_in ss
all_hold [] = refl
all_hold (None ∷ ss) = all_hold ss
all_hold (Some h ∷ ss) = ap (λ n. suc n) (all_hold ss)

pub at_most_one : (b : Bool) → cond b 1 0 ≤ 1
at_most_one true = omega arith
at_most_one false = omega arith

pub at_most_one_key : (k : Option Key) → one_or_none k ≤ 1
at_most_one_key None = omega arith
at_most_one_key (Some k) = omega arith

-- ---- where keys stand

pub same_name : (c : Change) (s : Option Htlc) → (names (option_map (changed_by c) s)).key ≡ (names s).key
same_name c None = refl
same_name change.Decide (Some h) = refl
same_name (change.Outgoing w) (Some h) = refl
same_name (change.Incoming b) (Some h) = refl
same_name (change.Mark m) (Some h) = refl

pub itself : (k : Key) → is_key k k ≡ true
itself k = search rules

pub apart_as : (at bt : ℕ → Option Key) → ((i : ℕ) → bt i ≡ at i) → StandApart at → StandApart bt
apart_as at bt same apart k i j one other =
    apart k i j (ap (is_named k) (sym (same i)) ∙ one) (ap (is_named k) (sym (same j)) ∙ other)

stays_by : (e : Bool) (at : ℕ → Option Key) (place i : ℕ) (key : Option Key) (k : Key) → nat_eq i place ≡ e
    → at place ≡ None → is_named k (at i) ≡ true → is_named k (cond e key (at i)) ≡ true
stays_by true at place i key k e none is = absurd (
    let no : true ≡ false = sym is ∙ ap (λ n. is_named k (at n)) (eqb-true i place e) ∙ ap (is_named k) none in
    cc
    )
stays_by false at place i key k e none is = is

-- nothing stands there yet, and what comes there stands nowhere else
pub apart_before : (at : ℕ → Option Key) (place : ℕ) (key : Option Key) → at place ≡ None
    → StandApart (put_at place key at) → StandApart at
apart_before at place key none apart k i j one other =
    apart k i j (stays_by (nat_eq i place) at place i key k refl none one)
    (stays_by (nat_eq j place) at place j key k refl none other)

itself_place : (j : ℕ) → nat_eq j j ≡ true
itself_place j = search rules

-- where a key stands by the index, it stands
stands_there : (at : ℕ → Option Key) (key : Key) (x : KeyIndex) (j : ℕ) → IsIndexOf at x → IsTrue x.exact
    → place_of key x ≡ Some j → is_named key (at j) ≡ true
stands_there at key x j indexed exact e =
    indexed exact key j ∙ ap (is_place j) e ∙ itself_place j

nowhere_by : (at : ℕ → Option Key) (place : ℕ) (key : Key) (x : KeyIndex) (o : Option ℕ) → at place ≡ None
    → IsIndexOf at x → IsTrue x.exact → StandApart (put_at place (Some key) at) → place_of key x ≡ o → o ≡ None
nowhere_by at place key x None none indexed exact apart e = refl
nowhere_by at place key x (Some j) none indexed exact apart e =
    let there = stands_there at key x j indexed exact e in
    let here : is_named key (put_at place (Some key) at place) ≡ true =
    ap (λ b. is_named key (cond b (Some key) (at place))) (itself_place place) ∙ itself key in
    let same : place ≡ j =
    apart key place j here (stays_by (nat_eq j place) at place j (Some key) key refl none there) in
    let no : true ≡ false = sym there ∙ ap (λ n. is_named key (at n)) (sym same) ∙ ap (is_named key) none in
    absurd (cc)

pub stood_nowhere : (at : ℕ → Option Key) (place : ℕ) (key : Key) (x : KeyIndex) → at place ≡ None → IsIndexOf at x
    → IsTrue x.exact → StandApart (put_at place (Some key) at) → place_of key x ≡ None
stood_nowhere at place key x none indexed exact apart =
    nowhere_by at place key x (place_of key x) none indexed exact apart refl

pub stands_here : (at : ℕ → Option Key) (place : ℕ) (key : Key) (x : KeyIndex) → at place ≡ Some key → IsIndexOf at x
    → IsTrue x.exact → place_of key x ≡ Some place
stands_here at place key x is indexed exact =
    is_there place (place_of key x)
    (sym (indexed exact key place) ∙ ap (is_named key) is ∙ itself key)

-- ---- one is changed, and its key stays

held_changed : (c : Change) (ss : List (Option Htlc)) (i : ℕ)
    → held_in (set ss i (option_map (changed_by c) (get_or ss i None))) ≡ held_in ss
held_changed c [] i = refl
held_changed c (None ∷ ss) zero = refl
held_changed c (Some h ∷ ss) zero = refl
held_changed c (None ∷ ss) (suc i) = held_changed c ss i
held_changed c (Some h ∷ ss) (suc i) = ap (λ n. suc n) (held_changed c ss i)

names_changed : (c : Change) (ss : List (Option Htlc)) (i j : ℕ)
    → names_at (set ss i (option_map (changed_by c) (get_or ss i None))) (λ n. n.key) j ≡ names_at ss (λ n. n.key) j
names_changed c [] i j = refl
names_changed c (s ∷ ss) zero zero = same_name c s
names_changed c (s ∷ ss) zero (suc j) = refl
names_changed c (s ∷ ss) (suc i) zero = refl
names_changed c (s ∷ ss) (suc i) (suc j) = names_changed c ss i j

pub kept_changed : (c : Change) (ss ts : List (Option Htlc)) (i : ℕ) (old new : Indices) → IsKept ss old
    → ts ≡ set ss i (option_map (changed_by c) (get_or ss i None)) → IsIndexed ts new → new.by_key ≡ old.by_key
    → IsKept ts new
kept_changed c ss ts i old new kept e indexed same =
    let held : held_in ts ≡ held_in ss = ap held_in e ∙ held_changed c ss i in
    record {
      indexed = indexed;
      counted = record {
        count = λ exact. omega (
          arith,
          held,
          ap count_in same,
          kept.counted.count (subst IsTrue (ap (λ x. x.exact) same) exact),
        );
        room = omega (arith, held, ap room_in same, kept.counted.room);
      };
      exact = λ apart. subst IsTrue (sym (ap (λ x. x.exact) same))
          (kept.exact (apart_as (names_at ts (λ n. n.key)) (names_at ss (λ n. n.key))
          (λ j. sym (ap (λ us. names_at us (λ n. n.key) j) e ∙ names_changed c ss i j)) apart));
      half = omega (
        arith,
        held,
        ap length e,
        length-set ss i (option_map (changed_by c) (get_or ss i None)),
        kept.half,
      );
    }

-- ---- one is taken out of its slot

pub counted_cleared : (ss ts : List (Option Htlc)) (i : ℕ) (key : Option Key) (old new : KeyIndex) → i < length ss
    → ts ≡ set ss i None → key ≡ (names (get_or ss i None)).key → IsCounted ss old → new.exact ≡ old.exact
    → (IsTrue old.exact → count_in new + one_or_none key ≡ count_in old) → room_in old ≤ room_in new + one_or_none key
    → IsCounted ts new
counted_cleared ss ts i key old new lt e is counted as_exact fewer room =
    let held = held_set ss i None lt in record {
      count = λ exact. omega (
        arith,
        held,
        ap held_in e,
        ap one_or_none is,
        fewer (subst IsTrue as_exact exact),
        counted.count (subst IsTrue as_exact exact),
      );
      room = omega (arith, held, ap held_in e, ap one_or_none is, room, counted.room);
    }

pub room_cleared : (ss ts : List (Option Htlc)) (i : ℕ) (key : Option Key) (old new : KeyIndex) → i < length ss
    → ts ≡ set ss i None → key ≡ (names (get_or ss i None)).key → room_in old ≤ room_in new + one_or_none key
    → room_in old + held_in ts ≤ room_in new + held_in ss
room_cleared ss ts i key old new lt e is room =
    omega (arith, held_set ss i None lt, ap held_in e, ap one_or_none is, room)

-- ---- one more comes

pushed_names : (ss : List (Option Htlc)) (s : Option Htlc) (place : ℕ) (i : ℕ) → length ss ≡ place
    → put_at place (names s).key (names_at ss (λ n. n.key)) i ≡ names_at (ss ++ s ∷ []) (λ n. n.key) i
pushed_names ss s place i last =
    sym (ap (λ t. (names t).key) (push_by ss s None i ∙ ap (λ n. cond (nat_eq i n) s (get_or ss i None)) last)
    ∙ name_cond (nat_eq i place) s (get_or ss i None) (λ n. n.key))

pub exact_pushed : (ss : List (Option Htlc)) (s : Option Htlc) (place : ℕ) (old new : KeyIndex) → length ss ≡ place
    → IsIndexOf (names_at ss (λ n. n.key)) old
    → ((at : ℕ → Option Key) → at place ≡ None → IsIndexOf at old → StandApart (put_at place (names s).key at)
    → IsTrue old.exact → IsTrue new.exact) → IsExact ss old → IsExact (ss ++ s ∷ []) new
exact_pushed ss s place old new last indexed stays exact apart =
    let at = names_at ss (λ n. n.key) in
    let none : at place ≡ None = ap at (sym last) ∙ ap (λ t. (names t).key) (beyond ss None) in
    let before = apart_as (names_at (ss ++ s ∷ []) (λ n. n.key)) (put_at place (names s).key at)
    (λ i. pushed_names ss s place i last) apart in
    stays at none indexed before (exact (apart_before at place (names s).key none before))

pub kept_pushed : (ss ts : List (Option Htlc)) (h : Htlc) (new : Indices) → ts ≡ ss ++ Some h ∷ []
    → IsIndexed (ss ++ Some h ∷ []) new → IsCounted (ss ++ Some h ∷ []) new.by_key
    → IsExact (ss ++ Some h ∷ []) new.by_key → IsHalfFull ss → IsKept ts new
kept_pushed ss ts h new e indexed counted exact half =
    let one : held_in (ss ++ Some h ∷ []) ≡ held_in ss + 1 = held_pushed ss (Some h) in
    subst (λ us. IsKept us new) (sym e) (record {
      indexed = indexed;
      counted = counted;
      exact = exact;
      half = omega (arith, one, length-append ss (Some h ∷ []), half);
    })

-- ---- all are changed

pub held_mapped : (f : Htlc → Htlc) (ss : List (Option Htlc)) → held_in (map (option_map f) ss) ≡ held_in ss
held_mapped f [] = refl
held_mapped f (None ∷ ss) = held_mapped f ss
held_mapped f (Some h ∷ ss) = ap (λ n. suc n) (held_mapped f ss)
