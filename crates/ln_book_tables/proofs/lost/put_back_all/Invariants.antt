use Rattle.std.proofs.Common.{◌≡◌, ◌++◌, take, drop}
use Rattle.std.specs.Prelude.{map}
use Rattle.std.specs.Option.{option_map}
use Rattle.ln_book_tables.specs.Replay.{htlc_kept}
use Rattle.ln_book_tables.proofs.lost.put_back_all.Given as goal

-- those before are put back, and the others are as they were
abbrev pub invariant-loop-slot : goal.invariant-loop-slot
invariant-loop-slot l = map (option_map (htlc_kept l.channel l.told)) (take l.slot-index l.fn.slots.items)
    ++ drop l.slot-index l.fn.slots.items ≡ l.slot-items
