-- What a batch has: the newest record of each channel whose record has changed.
use Rattle.std.specs.Prelude.{ℕ, List, [], ◌∷◌, ◌++◌, Option, Some, None, slice_get}
use Rattle.std.specs.FinMap as map
use Rattle.ln_manager.specs.declared.batch.SavedRecord.{SavedRecord}
use Rattle.ln_manager_channels.specs.declared.newest.Newest.{Newest}
use Rattle.ln_manager_channels.specs.Calls.{Parts}
use Rattle.ln_manager_channels.specs.Links.{end_in, id_by_end}

abbrev pub listed : Option SavedRecord → List SavedRecord
listed None = []
listed (Some r) = r ∷ []

abbrev pub found_by : List ℕ → Option Newest → Option (List ℕ)
found_by id None = None
found_by id (Some n) = map.get n.kept id

abbrev pub record_if : ℕ → List ℕ → Option (List ℕ) → List SavedRecord
record_if c id None = []
record_if c id (Some bytes) = record { channel = c; id = id; bytes = bytes } ∷ []

abbrev pub record_by : ℕ → Option (List ℕ) → Option Newest → List SavedRecord
record_by c None n = []
record_by c (Some id) n = record_if c id (found_by id n)

-- of one channel, by the id of its end
abbrev pub record_of : {K : Type 0} → Parts K → ℕ → List SavedRecord
record_of p c = record_by c (id_by_end (end_in (slice_get p.links c))) (slice_get p.records c)

abbrev pub records_of : {K : Type 0} → Parts K → List ℕ → List SavedRecord
records_of p [] = []
records_of p (c ∷ cs) = record_of p c ++ records_of p cs
