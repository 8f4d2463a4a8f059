-- What the query of all rows shows, and which records are read off that.
use Rattle.std.proofs.Common.{◌≡◌, ◌⊎◌, inl, inr, ℕ, suc, List, [], ◌∷◌, arith}
use Rattle.std.proofs.Common.{Some, None, Option, refl, sym, ap}
use Rattle.std.proofs.Common.{subst, subst₂, ◌∙◌, Result, Ok, Err, IfOk, IfErr}
use Rattle.std.proofs.lemmas.Bool.{cases_Bool}
use Rattle.std.specs.Ordering.{eq_by_cmp}
use Rattle.std.specs.Cmp.Lexicographic.{nat_list_cmp_total}
use Rattle.std.specs.FinMap as map
use Rattle.std.specs.FinMap.{get-insert, get-empty}
use Rattle.std.specs.FinMap.{same_map}
use Rattle.sqlite_value.specs.declared.value.Value.TheVariants.{Null, Blob}
use Rattle.sqlite_value.specs.Order.{Row, column}
use Rattle.sqlite_rules.specs.Lists.{Has}
use Rattle.sqlite.specs.State.{State, Shown}
use Rattle.sqlite.specs.declared.error.Error.{Error}
use Rattle.sqlite.proofs.Callers.{reads_as}
use Rattle.ln_store.specs.Store.{Records}
use Rattle.ln_sqlite.specs.Table.{schema}
use Rattle.ln_sqlite.specs.Holds.{HasRecords}
use Rattle.ln_sqlite.specs.Reading.{TakesAll, shown, AreShown, ShowsRecord, ShowRecords}
use Rattle.ln_sqlite.specs.Begins.{AreRecords}
use Rattle.ln_sqlite.proofs.Texts.{all_text, all_query, all_is, all_plain}
use Rattle.ln_sqlite.proofs.Maps.{by_bytes, exact, tied, is_there}
use Rattle.ln_sqlite.proofs.Queries.{outputs}

pub lists : (old new : State) (rows : List Row) → old.now.schema ≡ schema → Shown all_text [] old new rows
    → AreShown (old.now.trees 0) rows
lists old new rows has h =
    let got = reads_as all_text [] old new schema has _ all_is.0 all_plain all_is.1 rows h in
    let out = outputs [] all_query.project [] [] old.now.trees rows (got.answer Null) in
    record {
      sound = λ x has_x. let it = out.sound x has_x in (it.0, it.1, it.3);
      complete = λ r has_r. out.complete r has_r refl;
    }

pub listed : {A : Type 0} (old new : State) (items : A → List Row) (r : Result A Error)
    → IfOk r (λ rows. Shown all_text [] old new (items rows))
    → IfOk r (λ rows. old.now.schema ≡ schema → AreShown (old.now.trees 0) (items rows))
listed old new items (Ok rows) h = λ has. lists old new (items rows) has h
listed old new items (Err e) h = tt

-- ---- the records

Shows : List Row → List ℕ → List ℕ → Type 0
Shows rows q b = (x : Row) × Has rows x × (column x 0 ≡ Blob q) × (column x 1 ≡ Blob b)

stays_one : (m : Records) (id body q b : List ℕ) → map.get m id ≡ None → map.get m q ≡ Some b
    → map.get (map.insert m id body) q ≡ Some b
stays_one m id body q b free there = get-insert nat_list_cmp_total m id body q
    ∙ elim (cases_Bool (eq_by_cmp by_bytes q id)) [
      | inl e ↦ absurd (let clash : Some b ≡ None = sym there ∙ ap (map.get m) (exact q id (tied _ e)) ∙ free in cc)
      | inr e ↦ rw e there
    ]

from_one : (m : Records) (id body q b : List ℕ) → map.get (map.insert m id body) q ≡ Some b
    → (map.get m q ≡ Some b) ⊎ ((id ≡ q) × (body ≡ b))
from_one m id body q b h =
    let got = sym (get-insert nat_list_cmp_total m id body q) ∙ h in
    elim (cases_Bool (eq_by_cmp by_bytes q id)) [
      | inl e ↦ let is : Some body ≡ Some b = rw e at got in let same : body ≡ b = cc in
          inr (sym (exact q id (tied _ e)), same)
      | inr e ↦ inl (rw e at got)
    ]

taken_stay : (rows : List Row) (m after : Records) (q b : List ℕ) → TakesAll m rows after → map.get m q ≡ Some b
    → map.get after q ≡ Some b
taken_stay [] m after q b h there = ap (λ r. map.get r q) h ∙ there
taken_stay (x ∷ rows) m after q b (next, t, rest) there = taken_stay rows next after q b rest
    (ap (λ r. map.get r q) t.6 ∙ stays_one m t.0 t.1 q b t.5 there)

taken_from : (rows : List Row) (m after : Records) (q b : List ℕ) → TakesAll m rows after
    → map.get after q ≡ Some b → (map.get m q ≡ Some b) ⊎ Shows rows q b
unfolding Shows
taken_from [] m after q b h there = inl (ap (λ r. map.get r q) (sym h) ∙ there)
taken_from (x ∷ rows) m after q b (next, t, rest) there = elim (taken_from rows next after q b rest there) [
  | inl at ↦ elim (from_one m t.0 t.1 q b (ap (λ r. map.get r q) (sym t.6) ∙ at)) [
    | inl before ↦ inl before
    | inr it ↦ inr (x, inl refl, t.2 ∙ ap Blob it.0, t.4 ∙ ap Blob it.1)
  ]
  | inr later ↦ inr (later.0, inr later.1, later.2, later.3)
]

taken_has : (rows : List Row) (m after : Records) (q b : List ℕ) → TakesAll m rows after → Shows rows q b
    → map.get after q ≡ Some b
unfolding Shows
taken_has [] m after q b h none = absurd none.1
taken_has (x ∷ rows) m after q b (next, t, rest) (y, inl is, v, w) =
    let k : Blob t.0 ≡ Blob q = sym t.2 ∙ ap (λ z. column z 0) (sym is) ∙ v in
    let c : Blob t.1 ≡ Blob b = sym t.4 ∙ ap (λ z. column z 1) (sym is) ∙ w in
    let id : t.0 ≡ q = cc in
    let body : t.1 ≡ b = cc in
    taken_stay rows next after q b rest (ap (λ r. map.get r q) t.6
    ∙ subst₂ (λ i d. map.get (map.insert m i d) q ≡ Some b) (sym id) (sym body) (is_there m q b))
taken_has (x ∷ rows) m after q b (next, t, rest) (y, inr later, v, w) =
    taken_has rows next after q b rest (y, later, v, w)

each_shows : (rows : List Row) (m after : Records) (x : Row) → TakesAll m rows after → Has rows x → ShowsRecord x
each_shows [] m after x h none = absurd none
each_shows (y ∷ rows) m after x (next, t, rest) (inl is) = subst ShowsRecord (sym is) (t.0, t.1, t.2, t.3, t.4)
each_shows (y ∷ rows) m after x (next, t, rest) (inr later) = each_shows rows next after x rest later

module _ (table rows : List Row) (records : Records) (taken : TakesAll map.empty rows records)
    (are : AreShown table rows) where
  pub reads : HasRecords table records
  unfolding Shows
  reads = record {
    has = λ id body is. elim (taken_from rows map.empty records id body taken is) [
      | inl there ↦ absurd (let e = sym (get-empty by_bytes id) ∙ there in cc)
      | inr it ↦ let r = are.sound it.0 it.1 in
          (r.0, r.1, ap (λ x. column x 0) (sym r.2) ∙ it.2, ap (λ x. column x 1) (sym r.2) ∙ it.3)
    ];
    only = λ id body it. taken_has rows map.empty records id body taken
        (shown it.0, are.complete it.0 it.1, it.2, it.3);
  }

  pub each : AreRecords table
  each r has = each_shows rows map.empty records (shown r) taken (are.complete r has)

pub all_read : {E C : Type 0} (table rows : List Row) (r : Result Records E) → IfOk r (TakesAll map.empty rows)
    → (C → AreShown table rows) → IfOk r (λ records. C → HasRecords table records × AreRecords table)
all_read table rows (Ok records) taken are = λ when. (
  reads table rows records taken (are when),
  each table rows records taken (are when),
)
all_read table rows (Err e) taken are = tt

-- where each row that is shown is a record, each row of the table is one
all_shown : (rows : List Row) (x : Row) → ShowRecords rows → Has rows x → ShowsRecord x
all_shown [] x shows none = absurd none
all_shown (y ∷ rows) x shows (inl is) = subst ShowsRecord (sym is) (shows 0 (omega arith))
all_shown (y ∷ rows) x shows (inr later) = all_shown rows x (λ i low. shows (suc i) (omega (arith, low))) later

pub all_records : {E C : Type 0} (table rows : List Row) (r : Result Records E) (IsMemory : E → Type 0)
    → IfErr r (λ e. IsMemory e → ShowRecords rows) → (C → AreShown table rows)
    → IfErr r (λ e. IsMemory e → C → AreRecords table)
all_records table rows (Ok records) IsMemory shows are = tt
all_records table rows (Err e) IsMemory shows are = λ memory when r has.
    all_shown rows (shown r) (shows memory) ((are when).complete r has)

-- rows have one list of records
pub same_records : (rows : List Row) (a b : Records) → HasRecords rows a → HasRecords rows b → a ≡ b
same_records rows a b of_a of_b = same_map nat_list_cmp_total exact _ _ (λ q.
    by q (map.get a q) (map.get b q) refl refl)
  where
    by : (q : List ℕ) (o p : Option (List ℕ)) → map.get a q ≡ o → map.get b q ≡ p → map.get a q ≡ map.get b q
    by q (Some v) p there other = there ∙ sym (of_b.only q v (of_a.has q v there))
    by q None (Some w) there other = of_a.only q w (of_b.has q w other) ∙ sym other
    by q None None there other = there ∙ sym other

-- no rows have none
pub nothing : HasRecords [] map.empty
nothing = record {
  has = λ id body is. absurd (let e = sym (get-empty by_bytes id) ∙ is in cc);
  only = λ id body it. absurd it.1;
}
