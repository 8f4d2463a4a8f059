-- What a transaction makes of the table.
use Rattle.std.specs.Prelude.{◌≡◌, ◌⊎◌, List, [], ◌∷◌, true}
use Rattle.std.specs.FinMap as map
use Rattle.ln_store.specs.Store.{Records}
use Rattle.sqlite_trees.specs.Tree.{Trees}
use Rattle.sqlite.specs.Effect.{Database}
use Rattle.sqlite.specs.State.{State}
use Rattle.ln_sqlite.specs.Table.{schema}
use Rattle.ln_sqlite.specs.Holds.{Holds, IsTableOf}

-- a database has the table of records alone, with these
abbrev pub HasTable : Database → Records → Type 0
HasTable db records = (db.schema ≡ schema) × Holds (db.trees 0) records

-- a transaction is under way: the last commit left these records, and it has made those of them
pub record IsWithin (s : State) (before records : Records) : Type 0 where
  pub mode : s.in_transaction ≡ true
  pub committed : HasTable s.committed before
  pub now_is : HasTable s.now records

-- the table has these records, or would again without the transaction that is under way
abbrev pub HasCommitted : State → Records → Type 0
HasCommitted s before = IsTableOf s before ⊎ ((records : Records) × IsWithin s before records)

-- a stop at this moment leaves what a stop before it could leave
abbrev pub StopLeavesTheOld : State → State → Type 0
StopLeavesTheOld old new = (trees : Trees) → new.may_leave trees → old.may_leave trees
