-- Which records a database has.
use Rattle.std.specs.Prelude.{◌≡◌, ◌⊎◌, ℕ, List, Some, IsTrue, false}
use Rattle.std.specs.List.{AllByRecursion}
use Rattle.std.specs.FinMap as map
use Rattle.ln_store.specs.Store.{Records}
use Rattle.sqlite_value.specs.Order.{Row, column}
use Rattle.sqlite_value.specs.declared.value.Value.TheVariants.{Blob}
use Rattle.sqlite_trees.specs.Tree.{Trees, rowid, IsTable}
use Rattle.sqlite_trees.specs.View.{is_int}
use Rattle.sqlite_rules.specs.Lists.{Has}
use Rattle.sqlite.specs.State.{State, HasCleanDisk}
use Rattle.sqlite.specs.Held.{Held, state}
use Rattle.sqlite_trees.specs.declared.store.Store.{Ghosts}
use Rattle.ln_sqlite.specs.Table.{schema}

-- a row has this id and this body
abbrev pub HasRecord : List Row → List ℕ → List ℕ → Type 0
HasRecord rows id body = (r : Row) × Has rows r × (column r 1 ≡ Blob id) × (column r 2 ≡ Blob body)

-- the rows have these records, and no other
pub record HasRecords (rows : List Row) (records : Records) : Type 0 where
  pub has : (id body : List ℕ) → map.get records id ≡ Some body → HasRecord rows id body
  pub only : (id body : List ℕ) → HasRecord rows id body → map.get records id ≡ Some body

-- the rowids are numbers, and rise
pub record IsInOrder (rows : List Row) : Type 0 where
  pub rising : IsTable rows
  pub numbered : AllByRecursion (λ r. IsTrue (is_int (rowid r))) rows

-- the rows have these records, in order of their rowids
pub record Holds (rows : List Row) (records : Records) : Type 0 where
  pub order : IsInOrder rows
  pub records_are : HasRecords rows records

-- the database has the table of records alone, with these, and all of it is committed
pub record IsTableOf (s : State) (records : Records) : Type 0 where
  pub autocommit : s.in_transaction ≡ false
  pub settled : s.committed ≡ s.now
  pub schema_is : s.now.schema ≡ schema
  pub rows : Holds (s.now.trees 0) records

-- A stop at this moment leaves what a stop before it could leave, or a table with the record replaced, whole.
abbrev pub StopLeaves : State → State → Records → Type 0
StopLeaves old new behind = (trees : Trees) → new.may_leave trees → old.may_leave trees ⊎ Holds (trees 0) behind

-- As far as the disk has returned what was written, and the database wasn't shut: it has these records if it had those
-- before.
abbrev pub KeepsTable : {S : Type 0} → Ghosts S → Held S → Records → Held S → Records → Type 0
KeepsTable g old before new behind = HasCleanDisk (state g new) → IsTrue (state g new).is_open
    → IsTableOf (state g old) before → IsTableOf (state g new) behind
