-- The statements of a transaction over the table.
use Rattle.std.proofs.Common.{◌≡◌, inl, inr, ℕ, List, [], ◌∷◌, true, false, None, Ok, Err, Result, refl}
use Rattle.std.proofs.Common.{sym, ap, subst, IsTrue, OnOk, OnErr, ◌∙◌, append-nil}
use Rattle.std.specs.FinMap as map
use Rattle.std.proofs.Common.{true≢false, length}
use Rattle.sqlite_resolve.specs.declared.compiled.Compiled.{Compiled}
use Rattle.sqlite_schema.specs.declared.command.Command.{Command}
use Rattle.sqlite.specs.Calls.{IsWrite}
use Rattle.sqlite_value.specs.Order.{Row}
use Rattle.sqlite_trees.specs.Tree.{Trees}
use Rattle.sqlite_schema.specs.declared.command.Command.TheVariants.{Begin, Commit, Rollback}
use Rattle.sqlite_schema.specs.declared.command.Conflict.TheVariants.{Replace}
use Rattle.sqlite.specs.Command.TheVariants.{InsertOr}
use Rattle.sqlite.specs.Source.TheVariants.{Values}
use Rattle.sqlite.specs.declared.error.Error.{Error}
use Rattle.sqlite.specs.Clock.{timed}
use Rattle.sqlite.specs.Effect.{Database}
use Rattle.sqlite.specs.Listing.{understood}
use Rattle.sqlite.specs.State.{State, Executes, ExecutesIn, IsNotRun, IsRolledBack, CommitsBy, MayCommit}
use Rattle.sqlite.specs.State.{RunsCommand, IsMisplaced, IsNoStatement, text_of, shows_rows}
use Rattle.sqlite.proofs.Callers.{IsPlain, command_of, statement_of, runs_as}
use Rattle.ln_store.specs.Store.{Records}
use Rattle.ln_sqlite.specs.Table.{schema}
use Rattle.ln_sqlite.specs.Holds.{Holds, IsTableOf}
use Rattle.ln_sqlite.specs.Within.{HasTable, IsWithin, HasCommitted, StopLeavesTheOld}
use Rattle.ln_sqlite.specs.Together.{replaced_all}
use Rattle.ln_sqlite.specs.declared.together.Job.{Job}
use Rattle.sqlite_trees.specs.declared.store.Store.{Ghosts}
use Rattle.sqlite.specs.Held.{Held, state}
use Rattle.sqlite.specs.State.{HasCleanDisk}
use Rattle.ln_sqlite.proofs.Texts.{upsert_text, upsert_is, upsert_plain, terms}
use Rattle.ln_sqlite.proofs.Texts.{begin_text, begin_is, commit_text, commit_is, roll_back_text, roll_back_is, IsWhole}
use Rattle.ln_sqlite.proofs.Keeping.{holds}
use Rattle.ln_sqlite.proofs.Meaning.{does, params_of, failed, still}

module _ (old new : State) where
  moved : (a b : Database) (records : Records) → b ≡ a → HasTable a records → HasTable b records
  moved a b records same has = subst (λ (d : Database). HasTable d records) (sym same) has

  pub begins : (count : ℕ) (records : Records) → Executes begin_text [] old new (Ok count) → IsTableOf old records
      → IsWithin new records records
  begins count records h was =
      let is = begin_is schema in
      let ran = runs_as begin_text [] old new schema was.schema_is Begin is.0 is.1 count h in
      record {
        mode = ran.1.mode;
        committed = moved old.now new.committed records (ran.1.committed_is ∙ was.settled) (was.schema_is, was.rows);
        now_is = moved old.now new.now records ran.1.now_is (was.schema_is, was.rows);
      }

  pub puts : (id body : List ℕ) (count : ℕ) (before records : Records)
      → Executes upsert_text (params_of id body) old new (Ok count) → IsWithin old before records
      → IsWithin new before (map.insert records id body)
  puts id body count before records h was =
      let w = runs_as upsert_text (params_of id body) old new schema was.now_is.0 (InsertOr 0 Replace
      (Values terms 3) []) upsert_is upsert_plain count h in
      let text = statement_of upsert_text (understood schema upsert_text) in
      let it = does old.step_limit old.now.schema old.now.trees id body text w.tally new.now was.now_is.0 w.changed in
      record {
        mode = w.shown.mode ∙ was.mode;
        committed = moved old.committed new.committed before (let c = w.shown.committed_is in rw was.mode at c)
            was.committed;
        now_is = (it.0, holds (old.now.trees 0) records id body (new.now.trees 0) was.now_is.1 it.1);
      }

  rolled : (before : Records) → IsTrue new.is_open → IsRolledBack old new → HasTable old.committed before
      → IsTableOf new before
  rolled before live back was =
      let now = back.undone live in
      record {
        autocommit = back.autocommit;
        settled = now.1 ∙ sym now.0;
        schema_is = ap (λ (d : Database). d.schema) now.0 ∙ was.0;
        rows = subst (λ (d : Database). Holds (d.trees 0) before) (sym now.0) was.1;
      }

  -- what fails within leaves the transaction as it was, or ends it
  pub fails_within : (sql : List ℕ) (params : Row) (e : Error) (before records : Records) → IsTrue new.is_open
      → Executes sql params old new (Err e) → IsWithin old before records → HasCommitted new before
  fails_within sql params e before records live h was = elim (failed old new [] [] sql params e h) [
    | inl same ↦ inr (
      records,
      record {
        mode = same.0.mode ∙ was.mode;
        committed = moved old.committed new.committed before same.0.committed_is was.committed;
        now_is = moved old.now new.now records same.0.now_is was.now_is;
      },
    )
    | inr back ↦ inl (rolled before live back was.committed)
  ]

  pub ends : (count : ℕ) (before records : Records) → Executes commit_text [] old new (Ok count)
      → IsWithin old before records → IsTableOf new records
  ends count before records h was =
      let is = commit_is schema in
      let ran = runs_as commit_text [] old new schema was.now_is.0 Commit is.0 is.1 count h in
      record {
        autocommit = ran.1.mode;
        settled = ran.1.committed_is ∙ sym ran.1.now_is;
        schema_is = ap (λ (d : Database). d.schema) ran.1.now_is ∙ was.now_is.0;
        rows = subst (λ (d : Database). Holds (d.trees 0) records) (sym ran.1.now_is) was.now_is.1;
      }

  no_rows : (c : Compiled) → c.command ≡ Rollback → c.returning ≡ None → shows_rows false c ≡ false
  no_rows c is none = rw (is, none) refl

  -- the text is a statement
  is_statement : (e : Error) → IsNoStatement old roll_back_text [] e → ⊥
  is_statement e (inl (fault, known, same)) =
      let plain = (roll_back_is old.now.schema).1 in
      subst IsPlain known plain
  is_statement e (inr (c, known, inl (long, same))) =
      long (subst (IsWhole roll_back_text) known (roll_back_is old.now.schema).2).0
  is_statement e (inr (c, known, inr (inl (given, same)))) =
      given (ap length (sym (subst (IsWhole roll_back_text) known (roll_back_is old.now.schema).2).1))
  is_statement e (inr (c, known, inr (inr (stamped, same)))) =
      stamped (subst IsPlain known (roll_back_is old.now.schema).1).1

  module _ (within : IsTrue old.in_transaction) where
    misplaced : (c : Command) (e : Error) → c ≡ Rollback → IsMisplaced old c e → ⊥
    misplaced c e is (inl (code, inl (begin, now))) = absurd (let x : Begin ≡ Rollback = sym begin ∙ is in cc)
    misplaced c e is (inl (code, inr (by, off))) = true≢false (sym within ∙ off)
    misplaced c e is (inr (code, name, inl released, none)) = absurd (let x = sym released ∙ is in cc)
    misplaced c e is (inr (code, name, inr taken, none)) = absurd (let x = sym taken ∙ is in cc)

    -- ROLLBACK ends the transaction, also where it fails
    goes_back : (e : Error) → Executes roll_back_text [] old new (Err e) → IsRolledBack old new
    unfolding ExecutesIn IsNotRun
    goes_back e (inl (inl never)) = absurd (is_statement e never.0)
    goes_back e (inl (inr it)) = it.3
    goes_back e (inr h) =
        let known = sym h.1.is in
        let is = roll_back_is old.now.schema in
        let command : h.0.command ≡ Rollback = ap command_of known ∙ is.0 in
        let plain = subst IsPlain (sym known) is.1 in
        ran command plain.0 (rw (no_rows h.0 command plain.0) at h.2)
      where
        ran : h.0.command ≡ Rollback → h.0.returning ≡ None
            → RunsCommand old new roll_back_text h.0 (timed [] h.0.formats h.1.now) (Err e) → IsRolledBack old new
        ran is none (inl (inl placed, same)) = absurd (misplaced h.0.command e is placed)
        ran is none (inl (inr (inl write, may), same)) = absurd (subst IsWrite is write)
        ran is none (inl (inr (inr shows, may), same)) = absurd (true≢false (sym (rw none at shows)))
        ran is none (inr it) = it.3

  pub ends_all : (r : Result ℕ Error) (before : Records) → IsTrue new.is_open
      → Executes roll_back_text [] old new r → HasCommitted old before → IsTableOf new before
  ends_all (Ok count) before live h was =
      let is = roll_back_is old.now.schema in
      let ran = runs_as roll_back_text [] old new old.now.schema refl Rollback is.0 is.1 count h in
      rolled before live ran.1 (last was)
    where
      last : HasCommitted old before → HasTable old.committed before
      last (inl table) = moved old.now old.committed before table.settled (table.schema_is, table.rows)
      last (inr (records, within)) = within.committed
  ends_all (Err e) before live h (inl table) = elim (failed old new [] [] roll_back_text [] e h) [
    | inl same ↦ still old new [] [] before
        (record { now_is = same.0.now_is; committed_is = same.0.committed_is; mode = same.0.mode }) table
    | inr back ↦ rolled before live back
        (moved old.now old.committed before table.settled (table.schema_is, table.rows))
  ]
  ends_all (Err e) before live h (inr (records, within)) =
      rolled before live (goes_back within.mode e h) within.committed

  pub was_open : (sql : List ℕ) (e : Error) → IsTrue new.is_open → Executes sql [] old new (Err e)
      → IsTrue old.is_open
  was_open sql e live h = elim (failed old new [] [] sql [] e h) [
    | inl same ↦ same.0.was_open
    | inr back ↦ back.was_open live
  ]

  pub roll_back_was_open : (r : Result ℕ Error) → IsTrue new.is_open → Executes roll_back_text [] old new r
      → IsTrue old.is_open
  roll_back_was_open (Ok count) live h =
      let is = roll_back_is old.now.schema in
      (runs_as roll_back_text [] old new old.now.schema refl Rollback is.0 is.1 count h).1.was_open live
  roll_back_was_open (Err e) live h = was_open roll_back_text e live h

  pub on_begin : (r : Result ℕ Error) → Executes begin_text [] old new r
      → OnOk r ((records : Records) → IsTableOf old records → IsWithin new records records)
  on_begin (Ok count) h = λ records was. begins count records h was
  on_begin (Err e) h = tt

  pub on_put : (id body : List ℕ) (r : Result ℕ Error) → Executes upsert_text (params_of id body) old new r
      → OnOk r ((before records : Records) → IsWithin old before records
      → IsWithin new before (map.insert records id body))
  on_put id body (Ok count) h = λ before records was. puts id body count before records h was
  on_put id body (Err e) h = tt

  pub on_commit : (r : Result ℕ Error) → Executes commit_text [] old new r
      → OnOk r ((before records : Records) → IsWithin old before records → IsTableOf new records)
  on_commit (Ok count) h = λ before records was. ends count before records h was
  on_commit (Err e) h = tt

  pub on_err_within : (sql : List ℕ) (params : Row) (r : Result ℕ Error) → IsTrue new.is_open
      → Executes sql params old new r
      → OnErr r ((before records : Records) → IsWithin old before records → HasCommitted new before)
  on_err_within sql params (Ok count) live h = tt
  on_err_within sql params (Err e) live h = λ before records was. fails_within sql params e before records live h was

-- ---- what a stop may leave

may_commit : (sql : List ℕ) (params : Row) (s : State) (db : Trees) (command : Command)
    → command_of (understood s.now.schema sql) ≡ command → IsPlain (understood s.now.schema sql)
    → CommitsBy sql params s db → (text : List ℕ) × MayCommit s None command text params db
unfolding CommitsBy
may_commit sql params s db command is plain h =
    let known = sym h.1.is in
    let bare = subst IsPlain (sym known) plain in
    let may : MayCommit s None h.0.command (text_of sql h.0) params db = rw
    (bare.0, bare.1, append-nil params) at h.2 in (
      text_of sql h.0,
      subst (λ k. MayCommit s None k (text_of sql h.0) params db) (ap command_of known ∙ is) may,
    )

pub begin_commits_nothing : (s : State) (db : Trees) → CommitsBy begin_text [] s db → ⊥
begin_commits_nothing s db h =
    let is = begin_is s.now.schema in
    let may = may_commit begin_text [] s db Begin is.0 is.1 h in
    by may.0 may.1
  where
    by : (text : List ℕ) → MayCommit s None Begin text [] db → ⊥
    by text (inl (inl commit, same)) = absurd (let x = commit in cc)
    by text (inl (inr release, same)) = absurd (let x = release.2 in cc)
    by text (inr w) = absurd (let x = w.3 in cc)

pub roll_back_commits_nothing : (s : State) (db : Trees) → CommitsBy roll_back_text [] s db → ⊥
roll_back_commits_nothing s db h =
    let is = roll_back_is s.now.schema in
    let may = may_commit roll_back_text [] s db Rollback is.0 is.1 h in
    by may.0 may.1
  where
    by : (text : List ℕ) → MayCommit s None Rollback text [] db → ⊥
    by text (inl (inl commit, same)) = absurd (let x = commit in cc)
    by text (inl (inr release, same)) = absurd (let x = release.2 in cc)
    by text (inr w) = absurd (let x = w.3 in cc)

module _ (s : State) (before records : Records) (was : IsWithin s before records) (db : Trees) where
  pub put_commits_nothing : (id body : List ℕ) → CommitsBy upsert_text (params_of id body) s db → ⊥
  put_commits_nothing id body h =
      let known = ap (λ x. understood x upsert_text) was.now_is.0 in
      let may = may_commit upsert_text (params_of id body) s db (InsertOr 0 Replace (Values terms 3) [])
      (ap command_of known ∙ upsert_is) (subst IsPlain (sym known) upsert_plain) h in
      by may.0 may.1
    where
      by : (text : List ℕ) → MayCommit s None (InsertOr 0 Replace (Values terms 3) []) text (params_of id body) db → ⊥
      by text (inl (inl commit, same)) = absurd (let x = commit in cc)
      by text (inl (inr release, same)) = absurd (let x = release.2 in cc)
      by text (inr w) = true≢false (sym was.mode ∙ w.0)

  pub commit_commits : CommitsBy commit_text [] s db → Holds (db 0) records
  commit_commits h =
      let is = commit_is s.now.schema in
      let may = may_commit commit_text [] s db Commit is.0 is.1 h in
      by may.0 may.1
    where
      by : (text : List ℕ) → MayCommit s None Commit text [] db → Holds (db 0) records
      by text (inl (way, same)) = subst (λ (t : Trees). Holds (t 0) records) (sym same) was.now_is.1
      by text (inr w) = absurd (true≢false (sym was.mode ∙ w.0))

-- ---- one record after the other

-- nothing is committed since, and what is left makes of the records what all makes of them
pub record Reaches (old now : State) (all left : List Job) (before records : Records) : Type 0 where
  pub reached : Records
  pub is_within : IsWithin now before reached
  pub comes_to : replaced_all reached left ≡ replaced_all records all
  pub stops : StopLeavesTheOld old now

module _ {S : Type 0} (g : Ghosts S) where
  pub record GoesOn (old : Held S) (all : List Job) (now : Held S) (left : List Job) : Type 0 where
    pub was_clean : HasCleanDisk (state g now) → HasCleanDisk (state g old)
    pub reaches : HasCleanDisk (state g now) → (before records : Records) → IsWithin (state g old) before records
        → Reaches (state g old) (state g now) all left before records

  pub starts : (old : Held S) (all : List Job) → GoesOn old all old all
  starts old all = record {
    was_clean = λ clean. clean;
    reaches = λ clean before records was. record {
      reached = records;
      is_within = was;
      comes_to = refl;
      stops = λ trees left. left;
    };
  }

  -- one more
  pub steps : (old : Held S) (all : List Job) (now : Held S) (left : List Job) (next : Held S) (job : Job)
      (rest : List Job) → GoesOn old all now left → left ≡ job ∷ rest
      → (HasCleanDisk (state g next) → HasCleanDisk (state g now))
      → (HasCleanDisk (state g next) → (before records : Records) → IsWithin (state g now) before records
      → IsWithin (state g next) before (map.insert records job.id job.bytes))
      → (HasCleanDisk (state g next) → (before records : Records) → IsWithin (state g now) before records
      → StopLeavesTheOld (state g now) (state g next)) → GoesOn old all next rest
  steps old all now left next job rest here is was_clean puts stops = record {
    was_clean = λ clean. here.was_clean (was_clean clean);
    reaches = λ clean before records was.
        let mid = here.reaches (was_clean clean) before records was in
        record {
          reached = map.insert mid.reached job.id job.bytes;
          is_within = puts clean before mid.reached mid.is_within;
          comes_to = ap (replaced_all mid.reached) (sym is) ∙ mid.comes_to;
          stops = λ trees may. mid.stops trees (stops clean before mid.reached mid.is_within trees may);
        };
  }

  pub done : (old : Held S) (all : List Job) (now : Held S) (left : List Job) → GoesOn old all now left → left ≡ []
      → HasCleanDisk (state g now) → (before records : Records) → IsWithin (state g old) before records
      → IsWithin (state g now) before (replaced_all records all)
  done old all now left here is clean before records was =
      let end = here.reaches clean before records was in
      subst (IsWithin (state g now) before) (ap (replaced_all end.reached) (sym is) ∙ end.comes_to) end.is_within
