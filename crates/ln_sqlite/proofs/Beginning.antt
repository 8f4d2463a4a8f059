-- What a store begins with, from what is known of a database before its rows are read and after that.
use Rattle.std.proofs.Common.{◌≡◌, inl, inr, [], not, true, false, Bool, Ok, Err, Result, IfOk, IfErr, IsTrue}
use Rattle.std.proofs.Common.{sym, ap, subst, ◌∙◌, refl, length, true≢false}
use Rattle.std.specs.FinMap as map
use Rattle.ln_store.specs.Store.{Records}
use Rattle.sqlite.specs.Effect.{Database}
use Rattle.sqlite_schema.specs.declared.schema.Schema.{Schema}
use Rattle.sqlite.specs.State.{State}
use Rattle.ln_sqlite.specs.Table.{schema, none}
use Rattle.ln_sqlite.specs.Holds.{HasRecords, IsInOrder, IsTableOf}
use Rattle.ln_sqlite.specs.Begins.{AreRecords, BeginsWith, HasRecordsAlone, IsSettled, IsAsBefore, Stays, IsReady}
use Rattle.ln_sqlite.specs.Begins.{MayMakeTable}
use Rattle.ln_sqlite.proofs.Reading.{same_records}
use Rattle.ln_sqlite.proofs.Meaning.{still}

abbrev pub Reads : {E : Type 0} → State → Result Records E → Type 0
Reads mid r = IfOk r (λ copies. mid.now.schema ≡ schema → HasRecords (mid.now.trees 0) copies
    × AreRecords (mid.now.trees 0))

no_transaction : (b : Bool) → true ≡ not b → b ≡ false
no_transaction true h = absurd (true≢false h)
no_transaction false h = refl

pub settled_by : (s : State) → true ≡ not s.in_transaction → (IsTrue s.is_open → s.now ≡ s.committed)
    → IsTrue s.is_open → IsSettled s
settled_by s auto settled live = (no_transaction s.in_transaction auto, sym (settled live))

pub same : (s : State) → IsAsBefore s s
same s = record { now_is = refl; committed_is = refl; mode = refl }

after : (a b c : State) → IsAsBefore a b → IsAsBefore b c → IsAsBefore a c
after a b c first second = record {
  now_is = second.now_is ∙ first.now_is;
  committed_is = second.committed_is ∙ first.committed_is;
  mode = second.mode ∙ first.mode;
}

mid_settled : (old mid : State) → IsReady old mid → IsSettled mid
mid_settled old mid (was, inl there) = (
  there.1.mode ∙ was.0,
  there.1.committed_is ∙ was.1 ∙ sym there.1.now_is,
)
mid_settled old mid (was, inr made) = (made.1.autocommit, made.1.settled)

pub mid_schema : (old mid : State) → IsReady old mid → mid.now.schema ≡ schema
mid_schema old mid (was, inl there) = ap (λ (d : Database). d.schema) there.1.now_is ∙ there.0
mid_schema old mid (was, inr made) = made.1.schema_is

module _ (old mid new : State) (ready : IsReady old mid) (stays : Stays mid new) where
  pub changes : MayMakeTable old new
  changes = elim ready.1 [
    | inl there ↦ inl (after old mid new there.1 (stays.1 (mid_settled old mid ready)))
    | inr made ↦ inr (made.0, still mid new [] [] map.empty (stays.1 (mid_settled old mid ready)) made.1)
  ]

  pub begins : {E : Type 0} (r : Result Records E) → Reads mid r → IfOk r (BeginsWith new)
  begins (Err e) reads = tt
  begins (Ok copies) reads =
      let was = mid_settled old mid ready in
      let as_before = stays.1 was in
      let is = reads (mid_schema old mid ready) in
      record {
        autocommit = as_before.mode ∙ was.0;
        settled = as_before.committed_is ∙ was.1 ∙ sym as_before.now_is;
        schema_is = ap (λ (d : Database). d.schema) as_before.now_is ∙ mid_schema old mid ready;
        records_are = subst (λ (d : Database). HasRecords (d.trees 0) copies) (sym as_before.now_is) is.0;
        each = subst (λ (d : Database). AreRecords (d.trees 0)) (sym as_before.now_is) is.1;
      }

  pub without_memory : {E : Type 0} (r : Result Records E) (IsMemory : E → Type 0)
      → IfErr r (λ e. IsMemory e → mid.now.schema ≡ schema → AreRecords (mid.now.trees 0))
      → IfErr r (λ e. IsMemory e → HasRecordsAlone new)
  without_memory (Ok copies) IsMemory each = tt
  without_memory (Err e) IsMemory each = λ memory.
      let is = (stays.1 (mid_settled old mid ready)).now_is in
      let has = mid_schema old mid ready in (
        ap (λ (d : Database). d.schema) is ∙ has,
        subst (λ (d : Database). AreRecords (d.trees 0)) (sym is) (each memory has),
      )

  pub begins_empty : {E : Type 0} (r : Result Records E) → Reads mid r → old.now.schema ≡ none
      → IfOk r (λ copies. (copies ≡ map.empty) × IsTableOf new map.empty)
  begins_empty (Err e) reads empty = tt
  begins_empty (Ok copies) reads empty = elim ready.1 [
    | inl there ↦ absurd (let e = ap (λ (d : Schema). length d.tables) (sym empty ∙ there.0) in cc)
    | inr made ↦ (
      same_records (mid.now.trees 0) copies map.empty (reads (mid_schema old mid ready)).0 made.1.rows.records_are,
      still mid new [] [] map.empty (stays.1 (mid_settled old mid ready)) made.1,
    )
  ]

pub in_order : (s : State) (records : Records) → BeginsWith s records → IsInOrder (s.now.trees 0)
    → IsTableOf s records
in_order s records is order = record {
  autocommit = is.autocommit;
  settled = is.settled;
  schema_is = is.schema_is;
  rows = record { order = order; records_are = is.records_are };
}
