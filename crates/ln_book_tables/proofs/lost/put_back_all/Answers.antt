use Rattle.std.proofs.Common.{◌<◌, subst, length}
use Rattle.std.specs.Option.{option_map}
use Rattle.ln_book_tables.specs.Replay.{htlc_kept}
use Rattle.ln_book_tables.proofs.Each.{changed_next}
use Rattle.ln_book_tables.proofs.lost.put_back_all.Goals as goal

pub loop-slot-preserved : goal.loop-slot-preserved
loop-slot-preserved c =
    changed_next (option_map (htlc_kept c.args.channel.now c.args.told.now)) c.args.slots.now.items
    c.loop-slot.slot-items
    c.loop-slot.slot-index c.slot-item.result c.put_back.new.slot
    (subst (λ xs. c.loop-slot.slot-index < length xs) c.deref_mut-slot-items.ensures.value c.loop-slot-test.true)
    c.loop-slot.invariant c.put_back.ensures
