-- An index of a list by the keys of what stands in it.
use Rattle.std.proofs.Common.{◌≡◌, ℕ, Bool, true, false, cond, Option, Some, None, refl, sym, ap, subst, ◌∙◌}
use Rattle.std.proofs.Common.{rules, IsTrue, is_some}
use Rattle.std.specs.Prelude.{nat_eq}
use Rattle.std.proofs.lemmas.Bool.{eqb-true, eq-eqb}
use Rattle.ln_book_tables.specs.declared.htlc.Key.{Key}
use Rattle.ln_book_tables.specs.declared.key_index.KeyIndex.{KeyIndex}
use Rattle.ln_book_tables.specs.KeyIndex.{is_key, is_named, is_place, place_of, put_at, IsIndexOf, Leaves, Enters}

pub same_keys : (a b : Key) → is_key a b ≡ true → a ≡ b
same_keys a b e = search rules

pub is_there : (j : ℕ) (o : Option ℕ) → is_place j o ≡ true → o ≡ Some j
is_there j None e = absurd (let no : false ≡ true = e in cc)
is_there j (Some m) e = ap (λ n. Some n) (sym (eqb-true j m e))

left_by : (b e : Bool) (k : Key) (x : Option Key) (o : Option ℕ) (i place : ℕ) → nat_eq i place ≡ e
    → is_named k x ≡ is_place i o → b ≡ is_place place o → is_named k (cond e None x) ≡ is_place i (cond b None o)
left_by true true k x o i place at was there = refl
left_by true false k x o i place at was there = was ∙ ap (is_place i) (is_there place o (sym there)) ∙ at
left_by false true k x o i place at was there = there ∙ ap (λ j. is_place j o) (sym (eqb-true i place at))
left_by false false k x o i place at was there = was

-- what stood at a place is gone
pub behind_leave : (at : ℕ → Option Key) (place : ℕ) (key : Key) (old new : KeyIndex) → at place ≡ Some key
    → Leaves key old new → IsIndexOf at old → IsIndexOf (put_at place None at) new
behind_leave at place key old new is gone indexed exact k i =
    let was = indexed (subst IsTrue gone.0 exact) k in
    left_by (is_key key k) (nat_eq i place) k (at i) (place_of k old) i place refl (was i)
    (ap (is_named k) (sym is) ∙ was place)
    ∙ ap (is_place i) (sym (gone.1 k))

entered_by : (b e : Bool) (k key : Key) (x : Option Key) (o : Option ℕ) (i place : ℕ) → nat_eq i place ≡ e
    → is_key key k ≡ b → is_named k x ≡ is_place i o → false ≡ is_place place o → (b ≡ true → o ≡ None)
    → is_named k (cond e (Some key) x) ≡ is_place i (cond b (Some place) o)
entered_by true true k key x o i place at is was none absent = is ∙ sym at
entered_by true false k key x o i place at is was none absent = was ∙ ap (is_place i) (absent refl) ∙ sym at
entered_by false true k key x o i place at is was none absent =
    is ∙ none ∙ ap (λ j. is_place j o) (sym (eqb-true i place at))
entered_by false false k key x o i place at is was none absent = was

-- a key stands where nothing stood
pub behind_enter : (at : ℕ → Option Key) (place : ℕ) (key : Key) (old new : KeyIndex) → at place ≡ None
    → Enters place key old new → IsIndexOf at old → IsIndexOf (put_at place (Some key) at) new
behind_enter at place key old new is entered indexed exact k i =
    let was = indexed (entered exact).0 k in
    entered_by (is_key key k) (nat_eq i place) k key (at i) (place_of k old) i place refl refl (was i)
    (ap (is_named k) (sym is) ∙ was place) ((entered exact).1 k)
    ∙ ap (is_place i) (sym ((entered exact).2 k))

-- it is an index of what stands at each place
pub as_index : (at bt : ℕ → Option Key) (x : KeyIndex) → ((i : ℕ) → bt i ≡ at i) → IsIndexOf at x → IsIndexOf bt x
as_index at bt x same indexed exact k i = ap (is_named k) (same i) ∙ indexed exact k i

put_by : (e : Bool) (at : ℕ → Option Key) (place i : ℕ) (key : Option Key) → nat_eq i place ≡ e → at place ≡ key
    → cond e key (at i) ≡ at i
put_by true at place i key e is = sym is ∙ ap at (sym (eqb-true i place e))
put_by false at place i key e is = refl

-- the same is put there again
pub put_same : (at : ℕ → Option Key) (place : ℕ) (key : Option Key) → at place ≡ key → (i : ℕ)
    → put_at place key at i ≡ at i
put_same at place key is i = put_by (nat_eq i place) at place i key refl is

again_by : (e : Bool) (x one other : Option Key) → cond e other x ≡ cond e other (cond e one x)
again_by true x one other = refl
again_by false x one other = refl

-- something else is put there
pub put_again : (at : ℕ → Option Key) (place : ℕ) (one other : Option Key) (i : ℕ)
    → put_at place other at i ≡ put_at place other (put_at place one at) i
put_again at place one other i = again_by (nat_eq i place) (at i) one other

-- and before that it was taken away
pub put_there : (at : ℕ → Option Key) (place : ℕ) (key : Option Key) → put_at place key at place ≡ key
put_there at place key = ap (λ e. cond e key (at place)) (eq-eqb place place refl)

pub none_there : {A : Type 0} (o : Option A) → false ≡ is_some o → o ≡ None
none_there None e = refl
none_there (Some x) e = absurd (let no : false ≡ true = e in cc)
