use Rattle.std.proofs.Common.{◌≡◌, ◌⊎◌, inl, inr, ℕ, ℤ, List, [], ◌∷◌, true, false, not, ◌||◌, ◌&&◌, cond, filter, Bool}
use Rattle.std.proofs.Common.{Some, None, Equal, is_eq, refl, sym, ap, subst, ◌∙◌, true≢false}
use Rattle.std.proofs.lemmas.Bool.{cases_Bool, and_parts, and_from, or_cases, or_left, or_right, not-true}
use Rattle.std.proofs.lemmas.Bool.{false_from_ne_true}
use Rattle.std.proofs.lemmas.Cmp.{tied_itself}
use Rattle.std.specs.Ordering.{eq_by_cmp}
use Rattle.std.specs.Cmp.Lexicographic.{nat_list_cmp_total}
use Rattle.std.specs.FinMap as map
use Rattle.std.specs.FinMap.{get-insert}
use Rattle.sqlite_value.specs.declared.value.Value.{Value}
use Rattle.sqlite_value.specs.declared.value.Value.TheVariants.{Null, Int, Real, Text, Blob}
use Rattle.sqlite_value.specs.Order.{Row, column, value_cmp}
use Rattle.sqlite_value.proofs.OrderLemmas.{value_cmp_total, value_cmp-Blob}
use Rattle.sqlite_value.proofs.KeyLemmas.{class_tied}
use Rattle.sqlite_value.specs.Keys.{first_key}
use Rattle.sqlite_value.specs.declared.keys.Collation.TheVariants.{Binary}
use Rattle.sqlite_sql.specs.Ops.{binary, is_null, is_true, from_truth}
use Rattle.sqlite_schema.specs.Rules.{equal}
use Rattle.sqlite_trees.specs.Tree.{rowid, IsTable, has_rowid, without_rowid}
use Rattle.sqlite_trees.specs.View.{is_int}
use Rattle.sqlite_trees.proofs.TreeLemmas.{IsTable-put_row}
use Rattle.sqlite_rules.specs.declared.error.Rowids.TheVariants.{Chosen}
use Rattle.sqlite_rules.specs.Lists.{Has}
use Rattle.sqlite_rules.specs.Keys.{conflicts}
use Rattle.sqlite_rules.specs.Edit.{id_in, next_rowid, without_all}
use Rattle.sqlite_rules.proofs.ListLemmas.{all_has, all_from, some_from, has_filtered, has_kept}
use Rattle.sqlite_rules.proofs.TableLemmas.{int_is, has_put, put_has, put_all_keeps, without_all_has}
use Rattle.sqlite_rules.proofs.PlaceLemmas.{Tied, tied_same, next_is_free}
use Rattle.ln_sqlite.specs.Table.{schema, records}
use Rattle.ln_sqlite.specs.Replaced.{Replaced, new_row, Conflicts}
use Rattle.ln_store.specs.Store.{Records}
use Rattle.ln_sqlite.specs.Holds.{Holds, HasRecord}
use Rattle.ln_sqlite.proofs.Maps.{by_bytes, exact, tied}

-- ---- equal values

compared_parts : (null test : Bool) → is_true (cond null Null (from_truth (Some test))) ≡ true → (null ≡ false)
    × (test ≡ true)
compared_parts true test h = absurd (true≢false (sym h))
compared_parts false true h = (refl, refl)
compared_parts false false h = absurd (true≢false (sym h))

pub equal_ties : (a b : Value) → equal Binary a b ≡ true → value_cmp a b ≡ Equal
unfolding binary
equal_ties a b h = tied _ (compared_parts (is_null a || is_null b) (is_eq (value_cmp a b)) h).1

pub blob_equals : (a : Value) (id : List ℕ) → a ≡ Blob id → equal Binary a (Blob id) ≡ true
unfolding binary
blob_equals a id e = rw (e, tied_itself value_cmp_total (Blob id)) refl

pub is_blob : (a : Value) (id : List ℕ) → value_cmp a (Blob id) ≡ Equal → a ≡ Blob id
is_blob (Blob b) id tie = ap Blob (exact b id (sym (value_cmp-Blob b id) ∙ tie))
is_blob Null id tie = absurd (let e = class_tied Null (Blob id) tie in cc)
is_blob (Int n) id tie = absurd (let e = class_tied (Int n) (Blob id) tie in cc)
is_blob (Real x) id tie = absurd (let e = class_tied (Real x) (Blob id) tie in cc)
is_blob (Text t) id tie = absurd (let e = class_tied (Text t) (Blob id) tie in cc)

-- ---- which rows the new one meets

abbrev by_rowid : List Row → Row → Bool
by_rowid rows r = equal Binary (rowid r) (Int (next_rowid rows)) && true

abbrev by_id : List ℕ → Row → Bool
by_id id r = equal Binary (column r 1) (Blob id) && true

conflict_of : (rows : List Row) (id body : List ℕ) (r : Row)
    → conflicts None schema.indexes records (new_row rows id body) r ≡ (by_rowid rows r || (by_id id r || false))
unfolding first_key
conflict_of rows id body r = refl

conflict_is : (rows : List Row) (id body : List ℕ) (r : Row) → Conflicts rows id body r
    → Tied r (new_row rows id body) ⊎ (column r 1 ≡ Blob id)
conflict_is rows id body r h = elim (or_cases (by_rowid rows r) (by_id id r || false) (sym
    (conflict_of rows id body r) ∙ h)) [
      | inl rowids ↦ inl (equal_ties (rowid r) (Int (next_rowid rows)) (and_parts (equal Binary (rowid r) (Int
          (next_rowid rows))) true rowids).0)
      | inr keys ↦ elim (or_cases (by_id id r) false keys) [
        | inl key ↦ inr (is_blob (column r 1) id (equal_ties (column r 1) (Blob id)
            (and_parts (equal Binary (column r 1) (Blob id)) true key).0))
        | inr none ↦ absurd (true≢false (sym none))
      ]
    ]

key_conflicts : (rows : List Row) (id body : List ℕ) (r : Row) → column r 1 ≡ Blob id → Conflicts rows id body r
key_conflicts rows id body r e =
    conflict_of rows id body r
    ∙ or_right (by_rowid rows r) (by_id id r || false) (or_left (by_id id r) false (and_from (equal Binary
    (column r 1) (Blob id)) true (blob_equals (column r 1) id e) refl))

-- ---- what stays of rows

filter_table : (p : Row → Bool) (rows : List Row) → IsTable rows → IsTable (filter p rows)
filter_table p [] up = tt
filter_table p (r ∷ rows) up = elim (cases_Bool (p r)) [
  | inl e ↦ rw e (
    all_from _ (filter p rows) (λ y h. all_has _ rows y up.0
        (has_filtered p rows y h).0),
    filter_table p rows up.1,
  )
  | inr e ↦ rw e (filter_table p rows up.1)
]

without_all_table : (ids : List ℤ) (rows : List Row) → IsTable rows → IsTable (without_all rows ids)
without_all_table [] rows up = up
without_all_table (id ∷ ids) rows up = without_all_table ids (without_rowid id rows) (filter_table _ rows up)

abbrev Lacks : List ℤ → Row → Type 0
Lacks ids x = (id : ℤ) → Has ids id → has_rowid id x ≡ false

left_from : (ids : List ℤ) (rows : List Row) (x : Row) → Has (without_all rows ids) x → Lacks ids x
left_from [] rows x h = λ id none. absurd none
left_from (id ∷ ids) rows x h =
    let was = has_filtered (λ y. not (has_rowid id y)) rows x (without_all_has ids (without_rowid id rows) x h) in
    λ other k. elim k [
      | inl e ↦ rw e (not-true _ was.1)
      | inr more ↦ left_from ids
          (without_rowid id rows) x h other more
    ]

left_has : (ids : List ℤ) (rows : List Row) (x : Row) → Has rows x → Lacks ids x → Has (without_all rows ids) x
left_has [] rows x h lacks = h
left_has (id ∷ ids) rows x h lacks = left_has ids (without_rowid id rows) x (has_kept (λ y. not
    (has_rowid id y)) rows x h (ap not (lacks id (inl refl)))) (λ other k. lacks other (inr k))

-- ---- the records

module _ (rows : List Row) (kept : Records) (id body : List ℕ) (after : List Row) (h : Holds rows kept)
    (w : Replaced rows id body after) where
  abbrev rest : List Row
  rest = without_all rows w.gone

  abbrev new : Row
  new = new_row rows id body

  lacks : (q : List ℕ) (r : Row) → Has rows r → column r 1 ≡ Blob q → eq_by_cmp by_bytes q id ≡ false → Lacks w.gone r
  lacks q r has key other z there = false_from_ne_true _ (λ same.
      let from = w.sound z there in
      let tie = tied _ same in
      let number = int_is (rowid from.0) (all_has _ rows from.0 h.order.numbered from.1) in
      let of : Tied r from.0 = subst (λ v. value_cmp (rowid r) v ≡ Equal) (ap Int from.3 ∙ sym number) tie in
      let is : r ≡ from.0 = tied_same rows r from.0 h.order.rising has from.1 of in
      elim (conflict_is rows id body from.0 from.2) [
        | inl free ↦ absurd (let taken = some_from (λ y. is_eq (value_cmp (rowid y) (rowid new))) rows from.0 from.1
            (ap is_eq free) in
            true≢false (sym taken ∙ next_is_free Chosen rows (Blob id ∷ Blob body ∷ []) h.order.rising
            h.order.numbered))
        | inr its ↦ absurd (let same_id : q ≡ id = (let e : Blob q ≡ Blob id = sym key ∙ ap (λ x. column x 1) is
            ∙ its in cc) in
            true≢false (sym (ap is_eq (tied_itself nat_list_cmp_total id))
            ∙ subst (λ x. eq_by_cmp by_bytes x id ≡ false) same_id other))
      ])

  stays : (r : Row) → Has rows r → Lacks w.gone r → Has after r
  stays r has none = subst (λ rs. Has rs r) (sym w.rows_are) (put_all_keeps (new ∷ []) rest r w.fresh
      (left_has w.gone rows r has none))

  each : (r : Row) → Has after r → (r ≡ new) ⊎ Has rest r
  each r has = put_has new rest r (subst (λ rs. Has rs r) w.rows_are has)

  is_same : (q : List ℕ) → eq_by_cmp by_bytes q id ≡ true → q ≡ id
  is_same q e = exact q id (tied _ e)

  has_new : (q b : List ℕ) → map.get (map.insert kept id body) q ≡ Some b → HasRecord after q b
  has_new q b is = elim (cases_Bool (eq_by_cmp by_bytes q id)) [
    | inl e ↦ let of : Some body ≡ Some b = (let got = sym (get-insert nat_list_cmp_total kept id body q)
        ∙ is in rw e at got) in
        let same : body ≡ b = cc in
        (new, subst (λ rs. Has rs new) (sym w.rows_are) (has_put new rest), ap Blob (sym (is_same q e)), ap Blob same)
    | inr e ↦ let of : map.get kept q ≡ Some b = (let got = sym (get-insert nat_list_cmp_total kept id body q)
        ∙ is in rw e at got) in
        let old = h.records_are.has q b of in
        (old.0, stays old.0 old.1 (lacks q old.0 old.1 old.2 e), old.2, old.3)
  ]

  only_new : (q b : List ℕ) → HasRecord after q b → map.get (map.insert kept id body) q ≡ Some b
  only_new q b it = get-insert nat_list_cmp_total kept id body q ∙ elim (each it.0 it.1) [
    | inl is ↦ let k : Blob id ≡ Blob q = sym (ap (λ x. column x 1) is) ∙ it.2 in
        let v : Blob body ≡ Blob b = sym (ap (λ x. column x 2) is) ∙ it.3 in
        let same : q ≡ id = cc in let body_is : body ≡ b = cc in
        rw (same, tied_itself nat_list_cmp_total id, body_is) refl
    | inr left ↦ elim (cases_Bool (eq_by_cmp by_bytes q id)) [
      | inl e ↦ absurd (let there = without_all_has w.gone rows it.0 left in
          let gone = w.complete it.0 there (key_conflicts rows id body it.0 (it.2 ∙ ap Blob (is_same q e))) in
          let no = left_from w.gone rows it.0 left (id_in (rowid it.0)) gone in
          let yes : has_rowid (id_in (rowid it.0)) it.0 ≡ true =
          ap (λ v. is_eq (value_cmp (rowid it.0) v)) (sym (int_is (rowid it.0)
          (all_has _ rows it.0 h.order.numbered there))) ∙ ap is_eq (tied_itself value_cmp_total (rowid it.0)) in
          true≢false (sym yes ∙ no))
      | inr e ↦ rw e (h.records_are.only q b (it.0, without_all_has w.gone rows it.0 left, it.2, it.3))
    ]
  ]

  pub holds : Holds after (map.insert kept id body)
  holds = record {
    order = record {
      rising = subst IsTable (sym w.rows_are) (IsTable-put_row new rest (without_all_table w.gone rows h.order.rising));
      numbered = all_from _ after (λ r has. elim (each r has) [
        | inl is ↦ ap (λ x. is_int (rowid x)) is
        | inr left ↦ all_has _ rows r h.order.numbered (without_all_has w.gone rows r left)
      ]);
    };
    records_are = record { has = has_new; only = only_new };
  }
