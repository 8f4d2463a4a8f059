-- What something began with, and what was entered since.
use Rattle.std.specs.Prelude.{List, [], ◌∷◌, ◌++◌}

pub record History (Start Entry : Type 0) : Type 0 where
  pub start : Start
  pub entries : List Entry

abbrev pub begun_with : {Start Entry : Type 0} → Start → History Start Entry
begun_with start = record { start = start; entries = [] }

-- one entry more
abbrev pub with_entry : {Start Entry : Type 0} → Entry → History Start Entry → History Start Entry
with_entry e h = record { start = h.start; entries = h.entries ++ e ∷ [] }
