use Rattle.std.proofs.Common.{◌≡◌, ◌++◌, drop}
use Rattle.ln_book_tables.specs.Held.{held_among}
use Rattle.ln_book_tables.specs.Slots.{in_slots}
use Rattle.ln_book_tables.proofs.held.held_among.Given as goal

-- those that are left complete those that were found
abbrev pub invariant-loop-slot : goal.invariant-loop-slot
invariant-loop-slot l =
    l.all.items ++ held_among l.queue (in_slots (drop l.slot-index l.slots)) ≡ held_among l.queue (in_slots l.slots)
