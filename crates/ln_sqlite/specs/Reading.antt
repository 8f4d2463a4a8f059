-- The records that are read off rows.
use Rattle.std.specs.Prelude.{◌≡◌, ℕ, ◌<◌, List, [], ◌∷◌, length, get_or, None}
use Rattle.std.specs.FinMap as map
use Rattle.sqlite_value.specs.declared.value.Value.TheVariants.{Blob}
use Rattle.sqlite_value.specs.Order.{Row, column}
use Rattle.sqlite_rules.specs.Lists.{Has}
use Rattle.ln_store.specs.Store.{Records}

-- a row that shows an id of 32 bytes and a body, as a record whose id had none yet
abbrev pub Takes : Records → Row → Records → Type 0
Takes before row after =
    (id : List ℕ) × (body : List ℕ) × (column row 0 ≡ Blob id) × (length id ≡ 32) × (column row 1 ≡ Blob body)
    × (map.get before id ≡ None) × (after ≡ map.insert before id body)

-- each of these rows in turn
abbrev pub TakesAll : Records → List Row → Records → Type 0
TakesAll before [] after = after ≡ before
TakesAll before (row ∷ rows) after = (next : Records) × Takes before row next × TakesAll next rows after

-- a row that shows an id of 32 bytes and a body
abbrev pub ShowsRecord : Row → Type 0
ShowsRecord row =
    (id : List ℕ) × (body : List ℕ) × (column row 0 ≡ Blob id) × (length id ≡ 32) × (column row 1 ≡ Blob body)

abbrev pub ShowRecords : List Row → Type 0
ShowRecords rows = (i : ℕ) → i < length rows → ShowsRecord (get_or rows i [])

abbrev pub shown : Row → Row
shown row = column row 1 ∷ column row 2 ∷ []

-- each row of the table is shown, and no other
pub record AreShown (table shows : List Row) : Type 0 where
  pub sound : (x : Row) → Has shows x → (r : Row) × Has table r × (x ≡ shown r)
  pub complete : (r : Row) → Has table r → Has shows (shown r)
