use Rattle.std.proofs.Common.{◌≡◌, ◌≤◌, take}
use Rattle.std.specs.Vec.{vec_capacity}
use Rattle.ln_book_tables.specs.Indices.{IsIndexed}
use Rattle.ln_book_tables.specs.Filled.{IsCounted, IsExact, room_in}
use Rattle.ln_book_tables.proofs.slots.index_all.Given as goal

-- those before are indexed
abbrev pub invariant-loop-place : goal.invariant-loop-place
invariant-loop-place l =
    IsIndexed (take l.place l.slots) l.indices
    × (vec_capacity l.indices.due ≡ vec_capacity l.fn.indices.due)
    × IsCounted (take l.place l.slots) l.indices.by_key
    × IsExact (take l.place l.slots) l.indices.by_key
    × (room_in l.fn.indices.by_key ≤ room_in l.indices.by_key)
