-- The records in memory.
use Rattle.std.specs.Prelude.{ℕ, List, Option, Some, None}
use Rattle.std.specs.FinMap as map
use Rattle.ln_store.specs.Store.{Records}

-- an id has again what it had before
abbrev pub restored : Records → List ℕ → Option (List ℕ) → Records
restored records id (Some bytes) = map.insert records id bytes
restored records id None = map.remove records id
