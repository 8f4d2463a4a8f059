use Rattle.std.proofs.Common.{◌∙◌, ap, arith}
use Rattle.std.specs.Prelude.{map}
use Rattle.ln_book_tables.specs.Replay.{htlc_kept}
use Rattle.ln_book_tables.specs.Slots.{in_slots}
use Rattle.ln_book_tables.specs.Filled.{held_in}
use Rattle.ln_book_tables.proofs.InSlots.{in_mapped}
use Rattle.ln_book_tables.proofs.Filled.{held_mapped}
use Rattle.ln_book_tables.proofs.indexed.IndexedHtlcs.put_back_all.Goals as goal

pub index_all-requires-clause-keys : goal.index_all-requires-clause-keys
index_all-requires-clause-keys c =
    omega (
      arith,
      ap held_in c.as_slice.ensures.value,
      ap held_in c.put_back_all.ensures,
      held_mapped (htlc_kept c.args.channel.now c.args.told.now) c.self.inside.slots.items,
      c.self.invariant.counted.room,
    )

pub returns : goal.returns
returns c =
    c.squeeze.ensures.same
    ∙ ap in_slots c.put_back_all.ensures
    ∙ in_mapped (htlc_kept c.args.channel.now c.args.told.now) c.self.inside.slots.items
    ∙ ap (map (htlc_kept c.args.channel.now c.args.told.now)) c.self.view_is
