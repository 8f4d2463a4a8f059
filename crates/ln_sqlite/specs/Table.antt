-- The table of records.
use Rattle.std.specs.Prelude.{true, false, [], ◌∷◌, None, codes, List, ℕ, Bool}
use Rattle.sqlite.specs.declared.types.Value.TheVariants.{Null}
use Rattle.sqlite_value.specs.declared.keys.Collation.TheVariants.{Binary}
use Rattle.sqlite_schema.specs.declared.schema.Table.{Table}
use Rattle.sqlite_schema.specs.declared.schema.Column.{Column}
use Rattle.sqlite_schema.specs.declared.schema.Index.{Index}
use Rattle.sqlite_schema.specs.declared.schema.Schema.{Schema}
use Rattle.sqlite_schema.specs.declared.schema.Kind.TheVariants.{Any}

-- a column of any kind of value
abbrev pub column : List ℕ → Bool → Column
column name not_null = record {
  name = name;
  kind = Any;
  is_strict = false;
  not_null = not_null;
  default = Null;
  collation = Binary;
}

abbrev pub columns : List Column
columns = column (codes "id") false ∷ column (codes "body") true ∷ []

abbrev pub records : Table
records = record {
  name = codes "records";
  tree = 0;
  columns = columns;
  key = None;
  primary = 1 ∷ [];
  uniques = (1 ∷ []) ∷ [];
  orders = record { digits = 0 } ∷ [];
  checks = [];
  references = [];
  computed = [];
  stamps = record { places = []; terms = []; formats = [] };
  is_counted = false;
}

-- the index of its key, which the engine makes beside it
abbrev pub index : Index
index = record {
  name = codes "sqlite_autoindex_records_1";
  tree = 1;
  table = 0;
  columns = 1 ∷ [];
  order = record { digits = 0 };
  is_unique = true;
}

-- a database that has nothing
abbrev pub none : Schema
none = record { tables = []; indexes = []; views = [] }

-- a database that has the table of records alone
abbrev pub schema : Schema
schema = record { tables = records ∷ []; indexes = index ∷ []; views = [] }
