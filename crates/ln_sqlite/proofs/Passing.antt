-- The query of the ids, whose rows are read one at a time.
use Rattle.std.proofs.Common.{◌≡◌, inl, inr, ℕ, ◌+◌, ◌≤◌, List, [], ◌∷◌, ◌++◌, length, get_or, arith}
use Rattle.std.proofs.Common.{Some, None, Err, IsTrue, refl, sym, ap, subst, ◌∙◌}
use Rattle.std.proofs.lemmas.Bool.{cases_lt}
use Rattle.std.proofs.lemmas.List.{length-append, get_or_append_left, get_or_push}
use Rattle.sqlite_value.specs.declared.value.Value.TheVariants.{Blob}
use Rattle.sqlite_value.specs.Order.{Row, column}
use Rattle.sqlite_trees.specs.View.{doubt}
use Rattle.sqlite_trees.specs.declared.store.Store.{Ghosts}
use Rattle.sqlite.specs.declared.error.Error.{Error}
use Rattle.sqlite.specs.Effect.{Database}
use Rattle.sqlite.specs.Listing.{understood}
use Rattle.sqlite.specs.State.{State, HasCleanDisk, IsUnchanged, FailsToQuery}
use Rattle.sqlite.specs.Held.{Held, state}
use Rattle.sqlite.specs.Given.{HasGiven, HasBegun, Advances, FailsToAdvance}
use Rattle.sqlite.proofs.Callers.{IsPlain, begun_plain, unchanged_then}
use Rattle.ln_store.specs.Store.{Records}
use Rattle.ln_sqlite.specs.Table.{schema}
use Rattle.ln_sqlite.specs.Holds.{IsTableOf}
use Rattle.ln_sqlite.specs.Shown.{AreIds, ShowsIds, AreIdsOf}
use Rattle.ln_sqlite.proofs.Texts.{ids_text, ids_plain}
use Rattle.ln_sqlite.proofs.Meaning.{still, query_leaves}
use Rattle.ln_sqlite.proofs.Shown.{ids, are_ids}

shows_one_more : (rows : List Row) (row : Row) (them : List (List ℕ)) (count : ℕ) → ShowsIds count rows them
    → column row 0 ≡ Blob (get_or them count []) → ShowsIds (count + 1) (rows ++ row ∷ []) them
shows_one_more rows row them count (same, each) is = (
  length-append rows (row ∷ []) ∙ omega (arith, same),
  λ i low. elim (cases_lt i count) [
    | inl before ↦ ap (λ x. column x 0) (get_or_append_left rows (row ∷ []) [] i (omega (arith, same, before)))
        ∙ each i before
    | inr past ↦ let last : i ≡ count = omega (arith, low, past) in
        ap (λ x. column x 0) (get_or_push rows row [] i (same ∙ sym last)) ∙ is
        ∙ ap (λ n. Blob (get_or them n [])) (sym last)
  ],
)

pub refused_leaves : (old new : State) (e : Error) (kept : Records) → IsTrue new.is_open
    → FailsToQuery ids_text [] old new e → IsTableOf old kept → IsTableOf new kept
refused_leaves old new e kept live failed was =
    query_leaves old new ids_text [] (λ (rows : List Row). rows) (Err e) kept live ids_plain tt failed was

module _ {S : Type 0} (g : Ghosts S) where
  -- so many rows were given, each of which shows the id at its place, and nothing has changed
  abbrev pub HasShown : Held S → List (List ℕ) → Held S → ℕ → Type 0
  HasShown old them now count = HasCleanDisk (state g now) → (state g old).now.schema ≡ schema
      → (rows : List Row) × HasGiven g ids_text [] now rows × ShowsIds count rows them
      × IsUnchanged (state g old) (state g now)

  module _ (old : Held S) (them : List (List ℕ)) where
    pub begins : (now : Held S) → (HasCleanDisk (state g now) → HasBegun g ids_text [] old now)
        → HasShown old them now 0
    begins now begun clean has =
        let both = begun_plain g ids_text [] old now (subst (λ s. IsPlain (understood s ids_text)) (sym has)
        ids_plain) (begun clean) in
        ([], both.0, (refl, λ i low. absurd (omega (arith, low))), both.1)

    -- nothing changes as long as rows are read
    pub leaves : (now : Held S) (count : ℕ) → HasShown old them now count → HasCleanDisk (state g now)
        → (kept : Records) → IsTableOf (state g old) kept → IsTableOf (state g now) kept
    leaves now count so_far clean kept was =
        let same = (so_far clean was.schema_is).3 in
        still (state g old) (state g now) [] [] kept
        (record { now_is = same.0.now_is; committed_is = same.0.committed_is; mode = same.0.mode }) was

    module _ (mid now : Held S) (count : ℕ) (so_far : HasShown old them mid count)
        (falls : doubt (state g mid).is_clean ≤ doubt (state g now).is_clean) where
      was_clean : HasCleanDisk (state g now) → HasCleanDisk (state g mid)
      was_clean clean = omega (arith, clean, falls)

      -- one row more, which shows the next id
      pub goes_on : (row : Row) → (HasCleanDisk (state g now) → Advances g mid now (Some row))
          → (HasCleanDisk (state g now) → IsUnchanged (state g mid) (state g now))
          → column row 0 ≡ Blob (get_or them count []) → HasShown old them now (count + 1)
      goes_on row moves same shows clean has =
          let was = so_far (was_clean clean) has in (
            was.0 ++ row ∷ [],
            moves clean ids_text [] was.0 was.1,
            shows_one_more was.0 row them count was.2 shows,
            unchanged_then (state g old) (state g mid) (state g now) was.3 (same clean),
          )

      -- no row more
      pub ends : (HasCleanDisk (state g now) → Advances g mid now None) → count ≡ length them
          → HasCleanDisk (state g now) → (state g old).now.schema ≡ schema
          → AreIdsOf ((state g old).now.trees 0) them
      ends moves all clean has =
          let was = so_far (was_clean clean) has in
          let there = was.3.0.now_is in
          let shown = moves clean ids_text [] was.0 was.1 in
          let are = ids (state g mid) (state g now) was.0 (ap (λ (d : Database). d.schema) there ∙ has) shown in
          are_ids ((state g old).now.trees 0) was.0 them
          (subst (λ (d : Database). AreIds (d.trees 0) was.0) there are)
          (subst (λ n. ShowsIds n was.0 them) all was.2)

      -- whatever the next row is, the table stays
      pub stays : (HasCleanDisk (state g now) → IsUnchanged (state g mid) (state g now))
          → HasCleanDisk (state g now) → (kept : Records) → IsTableOf (state g old) kept
          → IsTableOf (state g now) kept
      stays same clean kept was =
          let is = same clean in
          still (state g mid) (state g now) [] [] kept
          (record { now_is = is.0.now_is; committed_is = is.0.committed_is; mode = is.0.mode })
          (leaves mid count so_far (was_clean clean) kept was)

      -- so it does where the next row is refused
      pub fails : (e : Error) → (HasCleanDisk (state g now) → FailsToAdvance g mid now e)
          → HasCleanDisk (state g now) → IsTrue (state g now).is_open → (kept : Records)
          → IsTableOf (state g old) kept → IsTableOf (state g now) kept
      fails e failed clean live kept was =
          let given = so_far (was_clean clean) was.schema_is in
          refused_leaves (state g mid) (state g now) e kept live (failed clean ids_text [] given.0 given.1)
          (leaves mid count so_far (was_clean clean) kept was)
