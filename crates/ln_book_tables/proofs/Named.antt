-- The indices of the slots of a book.
use Rattle.std.proofs.Common.{◌≡◌, ℕ, ◌<◌, List, [], ◌∷◌, ◌++◌, zero, suc, length, get_or, set, refl, sym, ap, ◌∙◌}
use Rattle.std.proofs.Common.{Bool, true, false, cond, Option, None, Some}
use Rattle.std.specs.Prelude.{nat_eq}
use Rattle.std.proofs.Math.Dec.{eqb-suc-suc, eqb-suc-zero, eqb-zero-suc}
use Rattle.std.proofs.lemmas.Bool.{eqb-true, eqb-false}
use Rattle.std.proofs.lemmas.List.{get_or-set_same, get_or-set_other}
use Rattle.ln_book_tables.specs.declared.htlc.Key.{Key}
use Rattle.ln_book_tables.specs.declared.htlc.Htlc.{Htlc}
use Rattle.ln_book_tables.specs.declared.key_index.KeyIndex.{KeyIndex}
use Rattle.ln_book_tables.specs.declared.names.Names.{Names}
use Rattle.ln_book_tables.specs.Due.{is_due}
use Rattle.ln_book_tables.specs.KeyIndex.{put_at, IsIndexOf}
use Rattle.ln_book_tables.specs.Slots.{passes}
use Rattle.ln_book_tables.specs.Indices.{names, no_names, names_at}
use Rattle.ln_book_tables.proofs.Keyed.{as_index}

pub due_name : (s : Option Htlc) → (names s).due ≡ passes is_due s
due_name None = refl
due_name (Some h) = refl

-- ---- a slot is changed

set_by : (e : Bool) (ss : List (Option Htlc)) (place i : ℕ) (s : Option Htlc) → place < length ss → nat_eq i place ≡ e
    → get_or (set ss place s) i None ≡ cond e s (get_or ss i None)
set_by true ss place i s lt e =
    ap (λ j. get_or (set ss place s) j None) (eqb-true i place e) ∙ get_or-set_same ss place s None lt
set_by false ss place i s lt e = get_or-set_other ss place i s None (eqb-false i place e)

pub name_cond : (e : Bool) (s t : Option Htlc) (name : Names → Option Key)
    → name (names (cond e s t)) ≡ cond e (name (names s)) (name (names t))
name_cond true s t name = refl
name_cond false s t name = refl

pub behind_replace : (ss : List (Option Htlc)) (place : ℕ) (s : Option Htlc) (name : Names → Option Key)
    (before after : Names) (old new : KeyIndex) → place < length ss → before ≡ names (get_or ss place None)
    → after ≡ names s
    → ((at : ℕ → Option Key) → at place ≡ name before → IsIndexOf at old → IsIndexOf (put_at place (name after) at) new)
    → IsIndexOf (names_at ss name) old → IsIndexOf (names_at (set ss place s) name) new
behind_replace ss place s name before after old new lt was is moved indexed =
    as_index (put_at place (name after) (names_at ss name)) (names_at (set ss place s) name) new
    (λ i. ap (λ t. name (names t)) (set_by (nat_eq i place) ss place i s lt refl)
    ∙ name_cond (nat_eq i place) s (get_or ss i None) name
    ∙ ap (λ n. put_at place (name n) (names_at ss name) i) (sym is))
    (moved (names_at ss name) (ap name (sym was)) indexed)

-- ---- one more

pub push_by : {A : Type 0} (xs : List A) (y d : A) (i : ℕ)
    → get_or (xs ++ y ∷ []) i d ≡ cond (nat_eq i (length xs)) y (get_or xs i d)
push_by [] y d zero = refl
push_by [] y d (suc i) = sym (ap (λ e. cond e y d) (eqb-suc-zero i))
push_by (x ∷ xs) y d zero = sym (ap (λ e. cond e y x) (eqb-zero-suc (length xs)))
push_by (x ∷ xs) y d (suc i) =
    push_by xs y d i ∙ sym (ap (λ e. cond e y (get_or xs i d)) (eqb-suc-suc i (length xs)))

pub beyond : {A : Type 0} (xs : List A) (d : A) → get_or xs (length xs) d ≡ d
beyond [] d = refl
beyond (x ∷ xs) d = beyond xs d

pub behind_push : (ss : List (Option Htlc)) (place : ℕ) (s : Option Htlc) (name : Names → Option Key) (after : Names)
    (old new : KeyIndex) → length ss ≡ place → after ≡ names s → name no_names ≡ None
    → ((at : ℕ → Option Key) → at place ≡ None → IsIndexOf at old → IsIndexOf (put_at place (name after) at) new)
    → IsIndexOf (names_at ss name) old → IsIndexOf (names_at (ss ++ s ∷ []) name) new
behind_push ss place s name after old new last is none entered indexed =
    as_index (put_at place (name after) (names_at ss name)) (names_at (ss ++ s ∷ []) name) new
    (λ i. ap (λ t. name (names t)) (push_by ss s None i ∙ ap (λ n. cond (nat_eq i n) s (get_or ss i None)) last)
    ∙ name_cond (nat_eq i place) s (get_or ss i None) name
    ∙ ap (λ n. put_at place (name n) (names_at ss name) i) (sym is))
    (entered (names_at ss name)
    (ap (λ n. name (names (get_or ss n None))) (sym last) ∙ ap (λ t. name (names t)) (beyond ss None) ∙ none) indexed)
