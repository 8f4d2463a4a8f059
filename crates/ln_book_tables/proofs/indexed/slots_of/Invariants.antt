use Rattle.std.proofs.Common.{◌≡◌, ◌++◌, length}
use Rattle.std.specs.Vec.Iter.{into_iter_items, into_iter_len}
use Rattle.ln_book_tables.specs.Slots.{in_slots}
use Rattle.ln_book_tables.proofs.indexed.slots_of.Given as goal

abbrev pub invariant-loop-htlc : goal.invariant-loop-htlc
invariant-loop-htlc l =
    (l.yielded ++ into_iter_items l.htlc-iterator ≡ into_iter_items l.initial.htlc-iterator)
    × (in_slots l.slots.items ≡ l.yielded)
    × (into_iter_len l.htlc-iterator ≡ length (into_iter_items l.htlc-iterator))
