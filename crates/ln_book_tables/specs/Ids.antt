-- The ids of a channel's HTLCs in a book.
use Rattle.std.specs.Prelude.{ℕ, List, [], ◌∷◌, Option, Some, None, if◌then◌else◌}
use Rattle.ln_book_tables.specs.declared.htlc.Htlc.{Htlc}
use Rattle.ln_book_tables.specs.Replay.{same}

-- in order of deciding
abbrev pub ids_in : List ℕ → List Htlc → List ℕ
ids_in c [] = []
ids_in c (h ∷ hs) = if same c h.key.channel then h.key.id ∷ ids_in c hs else ids_in c hs

-- that of the HTLC of a slot, where it is the channel's
abbrev pub id_in : List ℕ → Option Htlc → Option ℕ
id_in c None = None
id_in c (Some h) = if same c h.key.channel then Some h.key.id else None
