-- What the statement that replaces a row makes of the rows of the table.
use Rattle.std.specs.Prelude.{◌≡◌, ℕ, ℤ, List, [], ◌∷◌, None, true}
use Rattle.sqlite_value.specs.Order.{Row}
use Rattle.sqlite_value.specs.declared.value.Value.TheVariants.{Int, Blob}
use Rattle.sqlite_trees.specs.Tree.{rowid, put_row}
use Rattle.sqlite_rules.specs.Lists.{Has}
use Rattle.sqlite_rules.specs.Keys.{conflicts}
use Rattle.sqlite_rules.specs.Edit.{id_in, next_rowid, without_all, are_fresh}
use Rattle.ln_sqlite.specs.Table.{records, schema}

abbrev pub new_row : List Row → List ℕ → List ℕ → Row
new_row rows id body = Int (next_rowid rows) ∷ Blob id ∷ Blob body ∷ []

abbrev pub Conflicts : List Row → List ℕ → List ℕ → Row → Type 0
Conflicts rows id body r = conflicts None schema.indexes records (new_row rows id body) r ≡ true

-- the rows whose key the new one has are taken out, by their rowids, and the new one is put after all
pub record Replaced (rows : List Row) (id body : List ℕ) (after : List Row) : Type 0 where
  pub gone : List ℤ
  pub sound : (z : ℤ) → Has gone z → (r : Row) × Has rows r × Conflicts rows id body r × (z ≡ id_in (rowid r))
  pub complete : (r : Row) → Has rows r → Conflicts rows id body r → Has gone (id_in (rowid r))
  pub fresh : are_fresh (without_all rows gone) (new_row rows id body ∷ []) ≡ true
  pub rows_are : after ≡ put_row (new_row rows id body) (without_all rows gone)
