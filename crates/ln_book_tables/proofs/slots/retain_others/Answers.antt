use Rattle.std.proofs.Common.{ap, arith, rules}
use Rattle.std.specs.Prelude.{not}
use Rattle.std.proofs.lemmas.Fn.{filter_same}
use Rattle.ln_book_tables.specs.Lists.{picks}
use Rattle.ln_book_tables.specs.Slots.{passes}
use Rattle.ln_book_tables.specs.Filled.{held_in}
use Rattle.ln_book_tables.proofs.Filled.{held_left}
use Rattle.ln_book_tables.proofs.slots.retain_others.Goals as goal

pub index_all-requires-clause-keys : goal.index_all-requires-clause-keys
index_all-requires-clause-keys c =
    let p = picks c.args.which.now in
    let same = filter_same _ (λ s. not (passes p s)) _ (λ x b f' k. search rules) _ _ c.retain.ensures.filtered in
    omega (
      arith,
      ap held_in c.as_slice.ensures.value,
      ap held_in same,
      held_left p c.args.slots.now.items,
      c.requires.counted.room,
    )

pub returns-clause-left : goal.returns-clause-left
returns-clause-left c =
    filter_same _ (λ s. not (passes (picks c.args.which.now) s)) _ (λ x b f' k. search rules) _ _
    c.retain.ensures.filtered

pub returns-clause-key_room : goal.returns-clause-key_room
returns-clause-key_room c =
    let p = picks c.args.which.now in
    let same = filter_same _ (λ s. not (passes p s)) _ (λ x b f' k. search rules) _ _ c.retain.ensures.filtered in
    omega (arith, ap held_in same, held_left p c.args.slots.now.items, c.index_all.ensures.key_room)
