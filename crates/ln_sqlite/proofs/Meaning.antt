use Rattle.std.proofs.Common.{◌≡◌, ◌⊎◌, inl, inr, ℕ, ℤ, List, [], ◌∷◌, false, Some, None, Option, Ok, Err, Result, refl}
use Rattle.std.proofs.Common.{sym, ap, subst, subst₂, append-nil, IsTrue, OnOk, OnErr, IfOk, IfErr, ◌∙◌}
use Rattle.sqlite.specs.declared.types.Value.TheVariants.{Null, Blob}
use Rattle.sqlite_value.specs.Order.{Row}
use Rattle.sqlite.specs.Source.TheVariants.{Values}
use Rattle.sqlite.specs.Command.TheVariants.{InsertOr, CreateTable}
use Rattle.sqlite_schema.specs.declared.command.Conflict.TheVariants.{Replace}
use Rattle.sqlite_rules.specs.declared.error.Rowids.TheVariants.{Given, Chosen}
use Rattle.sqlite_schema.specs.declared.schema.Keys.TheVariants.{Enforced}
use Rattle.sqlite_trees.specs.Tree.{Trees, rowid, IsTable}
use Rattle.sqlite_catalog.specs.Change.{created, next_tree}
use Rattle.sqlite_rules.specs.Keys.{AreConflicts}
use Rattle.sqlite_rules.specs.Calls.{ids_of}
use Rattle.sqlite_rules.specs.Edit.{with_rowid, Edit, edit_of, id_in, next_rowid, Applies}
use Rattle.sqlite_rules.proofs.ProbeLemmas.{has_mapped, mapped_has}
use Rattle.sqlite.specs.Cast.{cast}
use Rattle.sqlite.specs.Kind.TheVariants.{Integer}
use Rattle.sqlite.specs.Does.{Tally, Does, lacks_sequence}
use Rattle.sqlite.specs.Rows.{Written, Task, Tries, TriesEach, nothing, Clears, Puts}
use Rattle.sqlite.specs.declared.error.Error.{Error}
use Rattle.sqlite.specs.Listing.{understood}
use Rattle.sqlite.specs.Effect.{Database}
use Rattle.sqlite.specs.State.{State, Executes, ExecutesIn, IsNotRun, IsUnchanged, Shown, FailsToQuery, IsRolledBack}
use Rattle.sqlite.specs.State.{RunsCommand, CommitsBy, MayCommit, Writes, ShowsRows, FailsToShow, text_of, shows_rows}
use Rattle.sqlite_schema.specs.declared.command.Returning.{Returning}
use Rattle.sqlite.specs.Clock.{timed}
use Rattle.sqlite.specs.declared.run.Mode.{Mode}
use Rattle.std.specs.FinMap as map
use Rattle.std.proofs.lemmas.Bool.{cases_Bool}
use Rattle.ln_store.specs.Store.{Records}
use Rattle.ln_sqlite.specs.Holds.{Holds, HasRecords, IsTableOf}
use Rattle.ln_sqlite.specs.Begins.{IsSettled, IsAsBefore, Stays}
use Rattle.ln_sqlite.proofs.Reading.{nothing as nothing_read}
use Rattle.ln_sqlite.proofs.Keeping.{holds}
use Rattle.sqlite_schema.specs.declared.schema.Schema.{Schema}
use Rattle.sqlite.proofs.Callers.{IsPlain, command_of, statement_of, runs_as, one_step}
use Rattle.ln_sqlite.specs.Table.{records, schema, none}
use Rattle.ln_sqlite.specs.Replaced.{Replaced, new_row}
use Rattle.ln_sqlite.proofs.Texts.{upsert_text, upsert_is, upsert_plain, terms, cast_null, cast_int}
use Rattle.ln_sqlite.proofs.Texts.{create_text, create_is, create_plain, created_is}

-- a part that gave a value did not stop on the way
went : {B E R : Type 0} {b : B} {Stops : E → Type 0} → ((stop : E) × Stops stop × (Ok b ≡ Err stop)) ⊎ R → R
went (inl stopped) = absurd (let e = stopped.2 in cc)
went (inr on) = on

same_value : {B E : Type 0} {a b : B} → ◌≡◌ {A = Result B E} (Ok a) (Ok b) → a ≡ b
same_value e = cc

abbrev task_of : Option ℕ → Row → Task
task_of limit params = record { limit = limit; keys = Enforced; schema = schema; table = records; params = params }

module _ (limit : Option ℕ) (id body : List ℕ) where
  abbrev task : Task
  task = task_of limit (Blob id ∷ Blob body ∷ [])

  abbrev edit : List Row → Edit
  edit rows = record { table = records; gone = []; news = new_row rows id body ∷ [] }

  cast_edit : (rows : List Row) (db : Trees) → edit_of db records [] Given 0 (new_row rows id body ∷ []) ≡ edit rows
  cast_edit rows db = ap (λ v. record { table = records; gone = []; news = (v ∷ Blob id ∷ Blob body ∷ []) ∷ [] })
      (cast_int (next_rowid rows))

  puts : (rows : List Row) (db : Trees) (w : Written) → Puts task (new_row rows id body) db (Ok w)
      → Applies schema Enforced db (edit rows) w.trees
  puts rows db w h =
      let one = went h in
      let next : w.trees ≡ one.0 = ap (λ (it : Written). it.trees) (same_value one.2) in
      let step = one_step schema Enforced db one.0 (edit_of db records [] Given 0
      (new_row rows id body ∷ [])) refl one.1 in
      subst₂ (λ (e : Edit) (t : Trees). Applies schema Enforced db e t) (cast_edit rows db) (sym next) step

  replaced : (db : Trees) (w : Written) → Tries task Replace [] (new_row (db 0) id body) db (Ok w)
      → Replaced (db 0) id body (w.trees 0)
  replaced db w (inl refused) = absurd (let e = refused.1 in cc)
  replaced db w (inr (Some why, judged, h)) = absurd (let e = h in cc)
  replaced db w (inr (None, judged, h)) = cleared h.0 h.1 h.2
    where
      cleared : (found : List Row) → AreConflicts None schema.indexes records (db 0) (new_row (db 0) id body) found
          → Clears task Replace (new_row (db 0) id body) db found (Ok w) → Replaced (db 0) id body (w.trees 0)
      cleared [] are h =
          let put = puts (db 0) db w h in
          record {
            gone = [];
            sound = λ z none. absurd none;
            complete = λ r has con. are.complete r has con;
            fresh =
                put.fresh;
            rows_are = put.rows;
          }
      cleared (x ∷ more) are h =
          let two = went h in
          let out = one_step schema Enforced db two.0 (edit_of db records (ids_of (x ∷ more)) Given 0 []) refl two.1 in
          let put = puts (db 0) two.0 w two.2 in
          record {
            gone = ids_of (x ∷ more);
            sound = λ z has.
                let from = has_mapped (λ r. id_in (rowid r)) (x ∷ more) z has in
                let of = are.sound from.0 from.1 in
                (of.0, of.1, of.2, from.2 ∙ ap (λ r. id_in (rowid r)) of.3);
            complete = λ r has con. mapped_has (λ y. id_in (rowid y)) (x ∷ more) (rowid r ∷ [])
                (are.complete r has con);
            fresh = rw out.rows at put.fresh;
            rows_are = rw out.rows at put.rows;
          }

  placed : (rows : List Row) → with_rowid Chosen rows
      (cast Integer Null ∷ Blob id ∷ Blob body ∷ []) ≡ new_row rows id body
  placed rows = ap (λ v. with_rowid Chosen rows (v ∷ Blob id ∷ Blob body ∷ [])) cast_null

  tried_once : (db : Trees) (rows : List Row) (top : ℤ) (out : Written × ℤ)
      → rows ≡ (Null ∷ Blob id ∷ Blob body ∷ []) ∷ []
      → TriesEach task Replace [] rows top (nothing db) (Ok out) → Replaced (db 0) id body (out.0.trees 0)
  tried_once db rows top out is h =
      let one = went (subst (λ r. TriesEach task Replace [] r top (nothing db) (Ok out)) is h) in
      let trees : out.0.trees ≡ one.0.trees = ap (λ (o : Written × ℤ). o.0.trees) (same_value one.2) in
      let found = replaced db one.0 (subst (λ r. Tries task Replace [] r db (Ok one.0)) (placed (db 0)) one.1) in
      subst (λ (t : Trees). Replaced (db 0) id body (t 0)) (sym trees) found

abbrev pub params_of : List ℕ → List ℕ → Row
params_of id body = Blob id ∷ Blob body ∷ []

abbrev mode : Mode
mode = record { keys = Enforced; in_doubt = false; may_wait = false }

-- what the statement makes of a database
pub does : (limit : Option ℕ) (schema_was : Schema) (db : Trees) (id body text : List ℕ) (tally : Tally)
    (after : Database) → schema_was ≡ schema
    → Does limit mode (params_of id body) (record { schema = schema_was; trees = db }) text None (InsertOr 0 Replace
    (Values terms 3) []) (Ok (tally, after))
    → (after.schema ≡ schema) × Replaced (db 0) id body (after.trees 0)
does limit schema_was db id body text tally after has h =
    let command = InsertOr 0 Replace (Values terms 3) [] in
    let done = went (subst (λ s. Does limit mode (params_of id body)
    (record { schema = s; trees = db }) text None command (Ok (tally, after))) has h) in
    let now = ap (λ (p : Tally × Database). p.1) (same_value (went (went done.2).2).2) in
    let given = went done.1 in
    let counter = went given.2 in
    let tried = went counter.2 in
    let counts = went tried.2 in
    let trees : done.0.trees ≡ tried.0.0.trees = ap (λ (it : Written). it.trees) (same_value counts.2)
    ∙ same_value counts.1 in (
      ap (λ (d : Database). d.schema) now,
      subst (λ (t : Trees). Replaced (db 0) id body (t 0)) (sym (ap (λ (d : Database). d.trees) now
          ∙ trees)) (tried_once limit id body db given.0 _ tried.0 given.1.1 tried.1),
    )

module _ (old new : State) (id body : List ℕ) where
  pub saves : (count : ℕ) (kept : Records) → Executes upsert_text (params_of id body) old new (Ok count)
      → IsTableOf old kept → IsTableOf new (map.insert kept id body)
  saves count kept h was =
      let w = runs_as upsert_text (params_of id body) old new schema was.schema_is (InsertOr 0 Replace
      (Values terms 3) []) upsert_is upsert_plain count h in
      let text = statement_of upsert_text (understood schema upsert_text) in
      let it = does old.step_limit old.now.schema old.now.trees id body text w.tally new.now was.schema_is w.changed in
      record {
        autocommit = w.shown.mode ∙ was.autocommit;
        settled = (let c = w.shown.committed_is in rw was.autocommit at c);
        schema_is = it.0;
        rows = holds (old.now.trees 0) kept id body (new.now.trees 0) was.rows it.1;
      }

  pub still : (kept : Records) → IsAsBefore old new → IsTableOf old kept → IsTableOf new kept
  still kept h was = record {
    autocommit = h.mode ∙ was.autocommit;
    settled = h.committed_is ∙ was.settled ∙ sym h.now_is;
    schema_is = ap (λ (d : Database). d.schema) h.now_is ∙ was.schema_is;
    rows = subst (λ (d : Database). Holds (d.trees 0) kept) (sym h.now_is) was.rows;
  }

  unchanged : IsUnchanged old new → Stays old new
  unchanged h = (
    h.0.was_open,
    λ was. record { now_is = h.0.now_is; committed_is = h.0.committed_is; mode = h.0.mode },
  )

  undone : IsTrue new.is_open → IsRolledBack old new → Stays old new
  undone live h = (
    h.was_open live,
    λ was. record {
      now_is = (h.undone live).0 ∙ was.1;
      committed_is = (h.undone live).1;
      mode = h.autocommit ∙ sym was.0;
    },
  )

  -- a statement that failed has changed nothing, or has ended the transaction
  pub failed : (sql : List ℕ) (params : Row) (e : Error) → Executes sql params old new (Err e)
      → IsUnchanged old new ⊎ IsRolledBack old new
  unfolding ExecutesIn IsNotRun
  failed sql params e (inl (inl never)) = inl never.1
  failed sql params e (inl (inr it)) = inr it.3
  failed sql params e (inr h) = elim (cases_Bool (shows_rows false h.0)) [
    | inl shows ↦ inl (rw shows at h.2).1
    | inr runs ↦ ran (rw runs at h.2)
  ]
    where
      ran : RunsCommand old new sql h.0 (timed params h.0.formats h.1.now) (Err e)
          → IsUnchanged old new ⊎ IsRolledBack old new
      ran (inl refused) = inl refused.1
      ran (inr it) = inr it.3

  pub fails : (sql : List ℕ) (params : Row) (e : Error) → IsTrue new.is_open → Executes sql params old new (Err e)
      → Stays old new
  fails sql params e live h = elim (failed sql params e h) [
    | inl same ↦ unchanged same
    | inr back ↦ undone live back
  ]

  -- nor has a query, answered or refused
  shown_stays : (sql : List ℕ) (params : Row) (rows : List Row) → old.now.schema ≡ schema
      → IsPlain (understood schema sql) → Shown sql params old new rows → Stays old new
  unfolding Shown
  shown_stays sql params rows has plain h =
      let known = sym h.1.is ∙ ap (λ s. understood s sql) has in
      let bare = subst IsPlain (sym known) plain in
      let it = rw bare.0 at h.2 in
      unchanged it.3

  refused_stays : (sql : List ℕ) (params : Row) (e : Error) → IsTrue new.is_open → old.now.schema ≡ schema
      → IsPlain (understood schema sql) → FailsToQuery sql params old new e → Stays old new
  unfolding FailsToQuery IsNotRun
  refused_stays sql params e live has plain (inl (inl never)) = unchanged never.1
  refused_stays sql params e live has plain (inl (inr failed)) = undone live failed.3
  refused_stays sql params e live has plain (inr h) =
      let known = sym h.1.is ∙ ap (λ s. understood s sql) has in
      let bare = subst IsPlain (sym known) plain in
      let it = rw bare.0 at h.2 in
      unchanged it.3

  pub query_stays : {A : Type 0} (sql : List ℕ) (params : Row) (items : A → List Row) (r : Result A Error)
      → IsTrue new.is_open → old.now.schema ≡ schema → IsPlain (understood schema sql)
      → IfOk r (λ rows. Shown sql params old new (items rows)) → IfErr r (FailsToQuery sql params old new)
      → Stays old new
  query_stays sql params items (Ok rows) live has plain ok err = shown_stays sql params (items rows) has plain ok
  query_stays sql params items (Err e) live has plain ok err = refused_stays sql params e live has plain err

  -- whatever was asked, it was open where it is
  shown_open : (sql : List ℕ) (params : Row) (rows : List Row) → Shown sql params old new rows → IsTrue old.is_open
  unfolding Shown
  shown_open sql params rows h = by h.0.returning h.2
    where
      by : (o : Option Returning) → ShowsRows old new sql h.0 (timed params h.0.formats h.1.now) rows o
          → IsTrue old.is_open
      by None it = it.3.0.was_open
      by (Some what) it = it.1.shown.was_open

  refused_open : (sql : List ℕ) (params : Row) (e : Error) → IsTrue new.is_open → FailsToQuery sql params old new e
      → IsTrue old.is_open
  unfolding FailsToQuery IsNotRun
  refused_open sql params e live (inl (inl never)) = never.1.0.was_open
  refused_open sql params e live (inl (inr failed)) = failed.3.was_open live
  refused_open sql params e live (inr h) = by h.0.returning h.2
    where
      by : (o : Option Returning) → FailsToShow old new sql h.0 (timed params h.0.formats h.1.now) e o
          → IsTrue old.is_open
      by None it = it.3.0.was_open
      by (Some what) (inl refused) = refused.1.0.was_open
      by (Some what) (inr failed) = failed.3.was_open live

  pub query_open : {A : Type 0} (sql : List ℕ) (params : Row) (items : A → List Row) (r : Result A Error)
      → IsTrue new.is_open → IfOk r (λ rows. Shown sql params old new (items rows))
      → IfErr r (FailsToQuery sql params old new) → IsTrue old.is_open
  query_open sql params items (Ok rows) live ok err = shown_open sql params (items rows) ok
  query_open sql params items (Err e) live ok err = refused_open sql params e live err

  pub on_ok : (r : Result ℕ Error) → Executes upsert_text (params_of id body) old new r
      → OnOk r ((kept : Records) → IsTableOf old kept → IsTableOf new (map.insert kept id body))
  on_ok (Ok count) h = λ kept was. saves count kept h was
  on_ok (Err e) h = tt

  pub on_err : (sql : List ℕ) (params : Row) (r : Result ℕ Error) → IsTrue new.is_open
      → Executes sql params old new r → OnErr r ((kept : Records) → IsTableOf old kept → IsTableOf new kept)
  on_err sql params (Ok count) live h = tt
  on_err sql params (Err e) live h = λ kept was.
      still kept ((fails sql params e live h).1 (was.autocommit, was.settled)) was

-- what the statement may commit, should it stop on the way
pub commits : (old : State) (id body : List ℕ) (kept : Records) (db : Trees) → IsTableOf old kept
    → CommitsBy upsert_text (params_of id body) old db → Holds (db 0) (map.insert kept id body)
unfolding CommitsBy
commits old id body kept db was h =
    let params = params_of id body in
    let command = InsertOr 0 Replace (Values terms 3) [] in
    let known = sym h.1.is ∙ ap (λ s. understood s upsert_text) was.schema_is in
    let bare = subst IsPlain (sym known) upsert_plain in
    let may : MayCommit old None h.0.command (text_of upsert_text h.0) params db = rw
    (bare.0, bare.1, append-nil params) at h.2 in
    decided (text_of upsert_text h.0) (subst (λ k. MayCommit old None k (text_of upsert_text h.0) params db)
    (ap command_of known ∙ upsert_is) may)
  where
    decided : (text : List ℕ) → MayCommit old None (InsertOr 0 Replace (Values terms 3) []) text
        (params_of id body) db → Holds (db 0) (map.insert kept id body)
    decided text (inl (inl commit, same)) = absurd (let e = commit in cc)
    decided text (inl (inr release, same)) = absurd (let e = release.2 in cc)
    decided text (inr w) =
        let it = does old.step_limit old.now.schema old.now.trees id body text w.1 w.2 was.schema_is w.3 in
        subst (λ (t : Trees). Holds (t 0) (map.insert kept id body)) (sym w.5) (holds (old.now.trees 0) kept id body
        (w.2.trees 0) was.rows it.1)

-- a query leaves the table as it was, whatever it answers
pub query_leaves : {A : Type 0} (old new : State) (sql : List ℕ) (params : Row) (items : A
    → List Row) (r : Result A Error) (kept : Records) → IsTrue new.is_open → IsPlain (understood schema sql)
    → IfOk r (λ rows. Shown sql params old new (items rows)) → IfErr r (FailsToQuery sql params old new)
    → IsTableOf old kept → IsTableOf new kept
query_leaves old new sql params items r kept live plain ok err was =
    let stays = query_stays old new [] [] sql params items r live was.schema_is plain ok err in
    still old new [] [] kept (stays.1 (was.autocommit, was.settled)) was

writes : (old new : State) (count : ℕ) → old.now.schema ≡ none → Executes create_text [] old new (Ok count)
    → Writes old new None CreateTable create_text [] count
writes old new count has h = subst (λ t. Writes old new None CreateTable t [] count) create_is.1
    (runs_as create_text [] old new none has CreateTable create_is.0 create_plain count h)

-- a table that was made has no record
pub makes : (old new : State) (count : ℕ) → old.now.schema ≡ none → IsSettled old
    → Executes create_text [] old new (Ok count) → IsTableOf new map.empty
makes old new count has was h =
    let w = writes old new count has h in
    let all = went w.changed in
    let first = went all.1 in
    let made = first.1 in
    let both : Ok made.table ≡ Ok records = sym made.defined ∙ create_is.2 in
    let same : made.table ≡ records = cc in
    let made_schema : first.0.schema ≡ schema = made.is ∙ ap (λ s. created s made.table) has
    ∙ ap (created none) same ∙ created_is in
    let plain : lacks_sequence first.0.schema ≡ false = ap lacks_sequence made_schema in
    let now : new.now ≡ first.0 = ap (λ (p : Tally × Database). p.1) (same_value all.2)
    ∙ same_value (rw plain at first.2) in
    let empty : new.now.trees 0 ≡ [] = ap (λ (d : Database). d.trees 0) now
    ∙ subst (λ s. first.0.trees (next_tree s) ≡ []) has made.empty in
    record {
      autocommit = w.shown.mode ∙ was.0;
      settled = (let c = w.shown.committed_is in rw was.0 at c);
      schema_is = ap (λ (d : Database). d.schema) now ∙ made_schema;
      rows = record {
        order = record { rising = subst IsTable (sym empty) tt; numbered = rw empty tt };
        records_are = subst (λ rows. HasRecords rows map.empty) (sym empty) nothing_read;
      };
    }

pub made : (old new : State) (r : Result ℕ Error) → Executes create_text [] old new r
    → OnOk r (old.now.schema ≡ none → IsSettled old → IsTableOf new map.empty)
made old new (Ok count) h = λ has was. makes old new count has was h
made old new (Err e) h = tt

pub refused : (old new : State) (sql : List ℕ) (params : Row) (r : Result ℕ Error) → IsTrue new.is_open
    → Executes sql params old new r → OnErr r (Stays old new)
refused old new sql params (Ok count) live h = tt
refused old new sql params (Err e) live h = fails old new [] [] sql params e live h

pub was_open : (old new : State) (r : Result ℕ Error) → IsTrue new.is_open → old.now.schema ≡ none
    → Executes create_text [] old new r → IsTrue old.is_open
was_open old new (Ok count) live has h = (writes old new count has h).shown.was_open
was_open old new (Err e) live has h = (fails old new [] [] create_text [] e live h).0
