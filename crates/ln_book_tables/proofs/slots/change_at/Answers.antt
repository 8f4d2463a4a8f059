use Rattle.std.proofs.Common.{◌∙◌, ap, sym, arith, length}
use Rattle.ln_book_tables.specs.Due.{is_due}
use Rattle.ln_book_tables.specs.Slots.{passes}
use Rattle.ln_book_tables.proofs.Passing.{fewer, is_false}
use Rattle.ln_book_tables.proofs.Named.{due_name}
use Rattle.ln_book_tables.proofs.slots.change_at.Goals as goal

pub replace-requires : goal.replace-requires
replace-requires c = λ undue.
    let ss = c.args.slots.now.items in
    let slot = c.index_mut-slot.result.now in
    omega (
      arith,
      c.args.indices.now.due.ok.0,
      ap length c.requires.indexed.due,
      c.requires.indexed.room,
      fewer (passes is_due) ss c.args.place slot (omega (arith, c.requires.there, c.args.slots.now.ok.0))
          (sym (ap (λ n. n.due) c.names_in-before.ensures ∙ due_name slot
          ∙ ap (passes is_due) c.index_mut-slot.ensures.value)
          ∙ is_false c.names_in-before.result.due undue),
    )
