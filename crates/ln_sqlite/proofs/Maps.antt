-- What a tree of entries is as a finite map, for keys that are lists of numbers.
use Rattle.std.proofs.Common.{◌≡◌, refl, sym, ap, ◌∙◌, ℕ, cond, List, [], ◌∷◌, Option, Some, None, IsSome}
use Rattle.std.proofs.Common.{Ordering, Less, Equal, Greater, is_eq, length, arith, inl, inr, true, true≢false}
use Rattle.std.proofs.lemmas.Bool.{cases_Bool}
use Rattle.std.specs.Ordering.{nat_cmp, eq_by_cmp}
use Rattle.std.specs.Cmp.{eq_by_cmp_equiv}
use Rattle.std.specs.Cmp.Lexicographic.{slice_cmp, nat_list_cmp_total}
use Rattle.std.specs.FinMap as map
use Rattle.std.specs.FinMap.{IsAntisymmetric, nat_cmp-IsAntisymmetric, slice_cmp-IsAntisymmetric, find}
use Rattle.std.specs.FinMap.{get-from_entries}
use Rattle.std.specs.FinMap.{get-insert, get-remove, same_map, from_entries, entries-insert, len-entries, len-empty}
use Rattle.std.specs.BTreeMap.{is_at}
use Rattle.std.specs.Map.{lookup, keys_of}
use Rattle.std.specs.List.{AllByRecursion}
use Rattle.std.specs.List.Sorted.{IsStrictlySortedBy}
use Rattle.std.proofs.lemmas.Map.Keys.{sorted_head, sorted_tail}
use Rattle.ln_store.specs.Store.{Records}
use Rattle.ln_sqlite.specs.Copies.{restored}

abbrev pub by_bytes : List ℕ → List ℕ → Ordering
by_bytes = slice_cmp nat_cmp

pub exact : IsAntisymmetric by_bytes
exact = slice_cmp-IsAntisymmetric nat_cmp-IsAntisymmetric

pub tied : (o : Ordering) → is_eq o ≡ true → o ≡ Equal
tied Less h = absurd (true≢false (sym h))
tied Equal h = refl
tied Greater h = absurd (true≢false (sym h))

find_is : (es : List (List ℕ × List ℕ)) (q : List ℕ) → find by_bytes q es ≡ lookup (is_at (by_bytes q)) es
find_is [] q = refl
find_is (e ∷ es) q = ap (cond (is_at (by_bytes q) e.0) (Some e.1)) (find_is es q)

abbrev pub records_of : List (List ℕ × List ℕ) → Records
records_of es = from_entries es

-- what the map of the entries has at an id
pub got : (es : List (List ℕ × List ℕ)) (q : List ℕ) → map.get (records_of es) q ≡ lookup (is_at (by_bytes q)) es
got es q = get-from_entries nat_list_cmp_total es q ∙ find_is es q

-- entries that differ at one id alone make maps that differ there alone
pub put : (es fs : List (List ℕ × List ℕ)) (k v : List ℕ)
    → ((q : List ℕ) → lookup (is_at (by_bytes q)) fs
    ≡ cond (eq_by_cmp by_bytes k q) (Some v) (lookup (is_at (by_bytes q)) es))
    → records_of fs ≡ map.insert (records_of es) k v
put es fs k v h = same_map nat_list_cmp_total exact _ _ (λ q.
    got fs q ∙ h q
    ∙ ap (λ b. cond b (Some v) (lookup (is_at (by_bytes q)) es)) ((eq_by_cmp_equiv nat_list_cmp_total).symm k q)
    ∙ sym (get-insert nat_list_cmp_total (records_of es) k v q
    ∙ ap (cond (eq_by_cmp by_bytes q k) (Some v)) (got es q)))

-- and entries that have nothing there any more
pub take : (es fs : List (List ℕ × List ℕ)) (k : List ℕ)
    → ((q : List ℕ) → lookup (is_at (by_bytes q)) fs
    ≡ cond (eq_by_cmp by_bytes k q) None (lookup (is_at (by_bytes q)) es))
    → records_of fs ≡ map.remove (records_of es) k
take es fs k h = same_map nat_list_cmp_total exact _ _ (λ q.
    got fs q ∙ h q
    ∙ ap (λ b. cond b None (lookup (is_at (by_bytes q)) es)) ((eq_by_cmp_equiv nat_list_cmp_total).symm k q)
    ∙ sym (get-remove nat_list_cmp_total (records_of es) k q
    ∙ ap (cond (eq_by_cmp by_bytes q k) None) (got es q)))

-- what was put in is taken back
pub undo : (m : Records) (k v : List ℕ) (before : Option (List ℕ)) → before ≡ map.get m k
    → restored (map.insert m k v) k before ≡ m
undo m k v (Some b) is = same_map nat_list_cmp_total exact _ _ (λ q.
    get-insert nat_list_cmp_total (map.insert m k v) k b q
    ∙ ap (cond (eq_by_cmp by_bytes q k) (Some b)) (get-insert nat_list_cmp_total m k v q)
    ∙ either q (Some b) v is)
  where
    either : (q : List ℕ) (o : Option (List ℕ)) (w : List ℕ) → o ≡ map.get m k
        → cond (eq_by_cmp by_bytes q k) o (cond (eq_by_cmp by_bytes q k) (Some w) (map.get m q)) ≡ map.get m q
    either q o w e = elim (cases_Bool (eq_by_cmp by_bytes q k)) [
      | inl same ↦ rw same (e ∙ ap (map.get m) (sym (exact q k (tied _ same))))
      | inr other ↦ rw other refl
    ]
undo m k v None is = same_map nat_list_cmp_total exact _ _ (λ q.
    get-remove nat_list_cmp_total (map.insert m k v) k q
    ∙ ap (cond (eq_by_cmp by_bytes q k) None) (get-insert nat_list_cmp_total m k v q)
    ∙ either q)
  where
    either : (q : List ℕ) → cond (eq_by_cmp by_bytes q k) None (cond (eq_by_cmp by_bytes q k) (Some v)
        (map.get m q)) ≡ map.get m q
    either q = elim (cases_Bool (eq_by_cmp by_bytes q k)) [
      | inl same ↦ rw same (is ∙ ap (map.get m) (sym (exact q k (tied _ same))))
      | inr other ↦ rw other refl
    ]

pub is_there : (m : Records) (k v : List ℕ) → map.get (map.insert m k v) k ≡ Some v
is_there m k v = get-insert nat_list_cmp_total m k v k ∙ ap (λ b. cond b (Some v) (map.get m k))
    ((eq_by_cmp_equiv nat_list_cmp_total).refl k)

-- ---- the ids in order

below : (k v : List ℕ) (es : List (List ℕ × List ℕ)) → AllByRecursion (λ q. by_bytes k q ≡ Less) (keys_of es)
    → map.Entries.put by_bytes k v es ≡ (k, v) ∷ es
below k v [] h = refl
below k v (e ∷ es) h = rw h.0 refl

no_length : (es : List (List ℕ × List ℕ)) → length es ≡ 0 → es ≡ []
no_length [] e = refl
no_length (x ∷ es) e = absurd (omega arith)

-- entries in the order of their keys are those of their map
pub same_entries : (es : List (List ℕ × List ℕ)) → IsStrictlySortedBy by_bytes (keys_of es)
    → map.entries (records_of es) ≡ es
same_entries [] h = no_length _ (sym (len-entries (records_of [])) ∙ len-empty by_bytes (List ℕ))
same_entries (e ∷ es) h =
    entries-insert nat_list_cmp_total (records_of es) e.0 e.1
    ∙ ap (map.Entries.put by_bytes e.0 e.1) (same_entries es (sorted_tail by_bytes e.0 (keys_of es) h))
    ∙ below e.0 e.1 es (sorted_head by_bytes e.0 (keys_of es) h)

pub same_keys : (es : List (List ℕ × List ℕ)) → IsStrictlySortedBy by_bytes (keys_of es)
    → map.keys (records_of es) ≡ keys_of es
same_keys es h = ap keys_of (same_entries es h)

pub some : (o : Option (List ℕ)) (v : List ℕ) → o ≡ Some v → IsSome o
some (Some w) v is = refl
some None v is = absurd (let e = is in cc)
