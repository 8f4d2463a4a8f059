use Rattle.std.proofs.Common.{ap, arith}
use Rattle.ln_book_tables.specs.Filled.{held_in}
use Rattle.ln_book_tables.proofs.Filled.{held_at_most}
use Rattle.ln_book_tables.proofs.indexed.IndexedHtlcs.of.Goals as goal

pub index_all-requires-clause-keys : goal.index_all-requires-clause-keys
index_all-requires-clause-keys c =
    omega (
      arith,
      ap held_in c.as_slice.ensures.value,
      held_at_most c.in_ok-slots.slots.items,
      c.in_ok-slots.slots.ok.0,
      c.len.ensures,
      c.reserve.ensures.enough c.if-not-reserve.false,
    )
