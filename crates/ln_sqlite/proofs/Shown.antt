-- What the queries of a body and of the ids show, and what is read off that.
use Rattle.std.proofs.Common.{◌≡◌, inl, inr, ℕ, suc, ◌<◌, true, List, [], ◌∷◌, length, get_or}
use Rattle.std.proofs.Common.{Some, None, Option, Result, Ok, Err, IfOk, refl, sym, ap, subst, ◌∙◌, arith}
use Rattle.std.proofs.lemmas.Bool.{and_parts, and_from}
use Rattle.sqlite_value.specs.declared.value.Value.TheVariants.{Null, Blob}
use Rattle.sqlite_value.specs.declared.keys.Collation.TheVariants.{Binary}
use Rattle.sqlite_value.specs.Order.{Row, column}
use Rattle.sqlite_schema.specs.Rules.{equal}
use Rattle.sqlite_rules.specs.Lists.{Has}
use Rattle.sqlite.specs.State.{State, Shown}
use Rattle.sqlite.specs.declared.error.Error.{Error}
use Rattle.sqlite.proofs.Callers.{reads_as}
use Rattle.ln_sqlite.specs.Table.{schema}
use Rattle.ln_sqlite.specs.Shown.{AreBodies, AreIds, ShowsBody, ShowsIds, IsRecordOf, AreIdsOf}
use Rattle.ln_sqlite.proofs.Texts.{load_text, load_query, load_is, load_plain, ids_text, ids_query, ids_is, ids_plain}
use Rattle.ln_sqlite.proofs.Keeping.{equal_ties, blob_equals, is_blob}
use Rattle.ln_sqlite.proofs.Queries.{has_at, outputs}

module _ (old new : State) (rows : List Row) (has : old.now.schema ≡ schema) where
  bodies : (id : List ℕ) → Shown load_text (Blob id ∷ []) old new rows → AreBodies (old.now.trees 0) id rows
  bodies id h =
      let got = reads_as load_text (Blob id ∷ []) old new schema has _ load_is.0 load_plain load_is.1 rows h in
      let out = outputs load_query.filter load_query.project [] (Blob id ∷ []) old.now.trees rows (got.answer Null) in
      record {
        sound = λ x has_x.
            let it = out.sound x has_x in (
              it.0,
              it.1,
              is_blob (column it.0 1) id (equal_ties (column it.0 1) (Blob id)
                  (and_parts (equal Binary (column it.0 1) (Blob id)) true it.2).0),
              it.3,
            );
        complete = λ r has_r is. out.complete r has_r (and_from (equal Binary (column r 1) (Blob id)) true
            (blob_equals (column r 1) id is) refl);
      }

  pub ids : Shown ids_text [] old new rows → AreIds (old.now.trees 0) rows
  ids h =
      let got = reads_as ids_text [] old new schema has _ ids_is.0 ids_plain ids_is.1 rows h in
      let out = outputs [] ids_query.project ids_query.order [] old.now.trees rows (got.answer Null) in
      record {
        sound = λ x has_x. let it = out.sound x has_x in (it.0, it.1, it.3);
        complete = λ r has_r. out.complete r has_r refl;
      }

pub shows_bodies : {A : Type 0} (old new : State) (id : List ℕ) (items : A → List Row) (r : Result A Error)
    → IfOk r (λ rows. Shown load_text (Blob id ∷ []) old new (items rows))
    → IfOk r (λ rows. old.now.schema ≡ schema → AreBodies (old.now.trees 0) id (items rows))
shows_bodies old new id items (Ok rows) h = λ has. bodies old new (items rows) has id h
shows_bodies old new id items (Err e) h = tt

-- ---- the record of an id

the_one : {X : Type 0} (xs : List X) (x y : X) → xs ≡ x ∷ [] → Has xs y → y ≡ x
the_one xs x y is has = elim (subst (λ l. Has l y) is has) [
  | inl e ↦ e
  | inr none ↦ absurd none
]

pub is_record : (table shows : List Row) (id : List ℕ) (found : Option (List ℕ)) → AreBodies table id shows
    → ShowsBody shows found → IsRecordOf table id found
is_record table shows id None are is = λ r has same. subst (λ l. Has l (column r 2 ∷ [])) is (are.complete r has same)
is_record table shows id (Some body) are (x, is, shown) =
    let it = are.sound x (subst (λ l. Has l x) (sym is) (inl refl)) in (
      (it.0, it.1, it.2, sym (ap (λ y. column y 0) it.3) ∙ shown),
      λ r has same. ap (λ y. column y 0) (the_one shows x _ is (are.complete r has same)) ∙ shown,
    )

-- ---- the ids

index_of : {X : Type 0} (xs : List X) (x d : X) → Has xs x → (i : ℕ) × (i < length xs) × (get_or xs i d ≡ x)
index_of [] x d none = absurd none
index_of (y ∷ xs) x d (inl is) = (0, omega arith, sym is)
index_of (y ∷ xs) x d (inr later) = let it = index_of xs x d later in (suc it.0, omega (arith, it.1), it.2)

pub are_ids : (table shows : List Row) (ids : List (List ℕ)) → AreIds table shows
    → ShowsIds (length ids) shows ids → AreIdsOf table ids
are_ids table shows ids are (same, each) = (
  λ id has. let at = index_of ids id [] has in
      let it = are.sound _ (has_at shows at.0 [] (omega (arith, same, at.1))) in
      (it.0, it.1, sym (ap (λ y. column y 0) it.2) ∙ each at.0 at.1 ∙ ap Blob at.2),
  λ r has. let at = index_of shows (column r 1 ∷ []) [] (are.complete r has) in
      let low : at.0 < length ids = omega (arith, same, at.1) in (
        get_or ids at.0 [],
        has_at ids at.0 [] low,
        sym (ap (λ y. column y 0) at.2) ∙ each at.0 low,
      ),
)
