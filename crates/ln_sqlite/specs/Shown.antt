-- What the queries of a body and of the ids show, and what is read off that.
use Rattle.std.specs.Prelude.{◌≡◌, ℕ, ◌<◌, List, [], ◌∷◌, length, get_or, Option, Some, None}
use Rattle.sqlite_value.specs.declared.value.Value.TheVariants.{Blob}
use Rattle.sqlite_value.specs.Order.{Row, column}
use Rattle.sqlite_rules.specs.Lists.{Has}
use Rattle.ln_sqlite.specs.Holds.{HasRecord}

-- the bodies of the rows of the table with this id, and no other
pub record AreBodies (table : List Row) (id : List ℕ) (shows : List Row) : Type 0 where
  pub sound : (x : Row) → Has shows x → (r : Row) × Has table r × (column r 1 ≡ Blob id) × (x ≡ column r 2 ∷ [])
  pub complete : (r : Row) → Has table r → column r 1 ≡ Blob id → Has shows (column r 2 ∷ [])

-- the ids of the rows of the table, and no other
pub record AreIds (table shows : List Row) : Type 0 where
  pub sound : (x : Row) → Has shows x → (r : Row) × Has table r × (x ≡ column r 1 ∷ [])
  pub complete : (r : Row) → Has table r → Has shows (column r 1 ∷ [])

-- the rows show this body alone, or there is no row and none
abbrev pub ShowsBody : List Row → Option (List ℕ) → Type 0
ShowsBody rows None = rows ≡ []
ShowsBody rows (Some body) = (r : Row) × (rows ≡ r ∷ []) × (column r 0 ≡ Blob body)

-- these are so many rows, each of which shows the id at its place
abbrev pub ShowsIds : ℕ → List Row → List (List ℕ) → Type 0
ShowsIds count rows ids =
    (length rows ≡ count) × ((i : ℕ) → i < count → column (get_or rows i []) 0 ≡ Blob (get_or ids i []))

-- each row of the table with this id has this body, and there is one; or there is no row with the id
abbrev pub IsRecordOf : List Row → List ℕ → Option (List ℕ) → Type 0
IsRecordOf table id None = (r : Row) → Has table r → ¬ (column r 1 ≡ Blob id)
IsRecordOf table id (Some body) =
    HasRecord table id body × ((r : Row) → Has table r → column r 1 ≡ Blob id → column r 2 ≡ Blob body)

-- each of these ids is one of the table's rows, and each row has one of them
abbrev pub AreIdsOf : List Row → List (List ℕ) → Type 0
AreIdsOf table ids =
    ((id : List ℕ) → Has ids id → (r : Row) × Has table r × (column r 1 ≡ Blob id))
    × ((r : Row) → Has table r → (id : List ℕ) × Has ids id × (column r 1 ≡ Blob id))
