use Rattle.std.proofs.Common.{◌∙◌, ap, sym, rules, arith}
use Rattle.std.specs.Prelude.{not}
use Rattle.std.proofs.lemmas.Fn.{filter_same}
use Rattle.ln_book_tables.specs.Replay.{is_over}
use Rattle.ln_book_tables.specs.Slots.{in_slots, passes}
use Rattle.ln_book_tables.proofs.InSlots.{in_left, none_left, nowhere}
use Rattle.ln_book_tables.specs.Filled.{held_in}
use Rattle.ln_book_tables.proofs.Filled.{held_left}
use Rattle.ln_book_tables.proofs.Told.{none_over}
use Rattle.ln_book_tables.proofs.slots.leave_out_over.Goals as goal

pub index_all-requires-clause-keys : goal.index_all-requires-clause-keys
index_all-requires-clause-keys c =
    let same =
    filter_same _ (λ s. not (passes is_over s)) _ (λ x b f' k. search rules) _ _ c.retain.ensures.filtered in
    omega (
      arith,
      ap held_in c.as_slice.ensures.value,
      ap held_in same,
      held_left is_over c.args.slots.now.items,
      c.requires.counted.room,
    )

pub returns-clause-left : goal.returns-clause-left
returns-clause-left c =
    c.squeeze.ensures.same
    ∙ ap in_slots
    (filter_same _ (λ s. not (passes is_over s)) _ (λ x b f' k. search rules) _ _ c.retain.ensures.filtered)
    ∙ in_left is_over c.args.slots.now.items

pub returns-then-has_none_over-clause-left : goal.returns-then-has_none_over-clause-left
returns-then-has_none_over-clause-left c =
    none_left is_over c.args.slots.now.items (nowhere is_over c.args.slots.now.items
    (none_over c.args.slots.now.items c.args.indices.now c.requires.indexed
    (sym c.has_none_over.ensures ∙ c.if-has_none_over.true)))
