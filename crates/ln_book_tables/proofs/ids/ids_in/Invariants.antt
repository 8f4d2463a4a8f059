use Rattle.std.proofs.Common.{◌≡◌, ◌++◌, drop}
use Rattle.ln_book_tables.specs.Ids.{ids_in}
use Rattle.ln_book_tables.specs.Slots.{in_slots}
use Rattle.ln_book_tables.proofs.ids.ids_in.Given as goal

-- those that are left complete those that were found
abbrev pub invariant-loop-slot : goal.invariant-loop-slot
invariant-loop-slot l =
    l.ids.items ++ ids_in l.channel (in_slots (drop l.slot-index l.slots)) ≡ ids_in l.channel (in_slots l.slots)
