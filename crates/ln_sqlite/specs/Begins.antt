-- What a store begins with, and what it leaves of a database that it isn't over.
use Rattle.std.specs.Prelude.{◌≡◌, ◌≢◌, ◌⊎◌, ℕ, List, length, IsTrue, false}
use Rattle.std.specs.FinMap as map
use Rattle.ln_store.specs.Store.{Records}
use Rattle.sqlite_value.specs.declared.value.Value.TheVariants.{Blob}
use Rattle.sqlite_value.specs.Order.{Row, column}
use Rattle.sqlite_rules.specs.Lists.{Has}
use Rattle.sqlite.specs.State.{State}
use Rattle.ln_sqlite.specs.Table.{schema, none}
use Rattle.ln_sqlite.specs.Holds.{HasRecords, IsTableOf}

-- a row of the table that is a record: an id of 32 bytes, and a body
abbrev pub IsRecord : Row → Type 0
IsRecord r =
    (id : List ℕ) × (body : List ℕ) × (column r 1 ≡ Blob id) × (length id ≡ 32) × (column r 2 ≡ Blob body)

abbrev pub AreRecords : List Row → Type 0
AreRecords rows = (r : Row) → Has rows r → IsRecord r

-- the database has the table of records alone, with these and no other row, and all of it is committed
pub record BeginsWith (s : State) (records : Records) : Type 0 where
  pub autocommit : s.in_transaction ≡ false
  pub settled : s.committed ≡ s.now
  pub schema_is : s.now.schema ≡ schema
  pub records_are : HasRecords (s.now.trees 0) records
  pub each : AreRecords (s.now.trees 0)

-- the database has the table of records alone, and each row is a record
abbrev pub HasRecordsAlone : State → Type 0
HasRecordsAlone s = (s.now.schema ≡ schema) × AreRecords (s.now.trees 0)

-- nothing is written that isn't committed, and no transaction was begun
abbrev pub IsSettled : State → Type 0
IsSettled s = (s.in_transaction ≡ false) × (s.committed ≡ s.now)

pub record IsAsBefore (old new : State) : Type 0 where
  pub now_is : new.now ≡ old.now
  pub committed_is : new.committed ≡ old.committed
  pub mode : new.in_transaction ≡ old.in_transaction

-- it was open, and where all was committed nothing has changed
abbrev pub Stays : State → State → Type 0
Stays old new = IsTrue old.is_open × (IsSettled old → IsAsBefore old new)

-- the table is there as it was, or a database that had nothing has it now
abbrev pub IsReady : State → State → Type 0
IsReady old new = IsSettled old × (((old.now.schema ≡ schema) × IsAsBefore old new)
    ⊎ ((old.now.schema ≡ none) × IsTableOf new map.empty))

-- nothing has changed, or a database that had nothing has the table now, with no row
abbrev pub MayMakeTable : State → State → Type 0
MayMakeTable old new = IsAsBefore old new ⊎ ((old.now.schema ≡ none) × IsTableOf new map.empty)

-- it has something that isn't the table of records, or a transaction has begun
abbrev pub IsOther : State → Type 0
IsOther s = IsTrue s.in_transaction ⊎ ((s.now.schema ≢ none) × (s.now.schema ≢ schema))
