use Rattle.std.proofs.Common.{◌≡◌, ◌∙◌, ◌<◌, ap, sym, arith, length, get_or, set, None}
use Rattle.std.proofs.lemmas.List.{get_or_default}
use Rattle.ln_book_tables.specs.Due.{is_due}
use Rattle.ln_book_tables.specs.Slots.{passes}
use Rattle.ln_book_tables.proofs.Passing.{fewer, is_false}
use Rattle.ln_book_tables.proofs.Named.{due_name}
use Rattle.ln_book_tables.specs.Indices.{names, names_at}
use Rattle.ln_book_tables.proofs.Filled.{counted_cleared, room_cleared}
use Rattle.ln_book_tables.proofs.slots.clear_at.Goals as goal

pub replace-requires : goal.replace-requires
replace-requires c = λ undue.
    let ss = c.args.slots.now.items in
    let slot = c.index_mut-slot.result.now in
    omega (
      arith,
      c.args.indices.now.due.ok.0,
      ap length c.requires.indexed.due,
      c.requires.indexed.room,
      fewer (passes is_due) ss c.args.place slot (omega (arith, c.requires.there, c.args.slots.now.ok.0))
          (sym (ap (λ n. n.due) c.names_in-before.ensures ∙ due_name slot
          ∙ ap (passes is_due) c.index_mut-slot.ensures.value)
          ∙ is_false c.names_in-before.result.due undue),
    )

pub returns-clause-counted : goal.returns-clause-counted
returns-clause-counted c =
    let ss = c.args.slots.now.items in
    let slot = c.index_mut-slot.result.now in
    let lt : c.args.place < length ss = omega (arith, c.requires.there, c.args.slots.now.ok.0) in
    let is : c.names_in-before.result.key ≡ (names (get_or ss c.args.place None)).key =
    ap (λ n. n.key) c.names_in-before.ensures
    ∙ ap (λ s. (names s).key) (c.index_mut-slot.ensures.value ∙ get_or_default ss c.args.place slot None lt) in
    let none : c.names_in-after.result.key ≡ None =
    ap (λ n. n.key) c.names_in-after.ensures ∙ ap (λ s. (names s).key) c.empty.ensures in
    counted_cleared ss (set ss c.args.place c.empty.new.slot) c.args.place c.names_in-before.result.key
    c.args.indices.now.by_key c.replace.new.self.by_key lt (ap (set ss c.args.place) c.empty.ensures) is
    c.requires.counted (c.replace.ensures.as_exact none)
    (λ exact. c.replace.ensures.fewer (names_at ss (λ n. n.key)) (sym is) c.requires.indexed.by_key none exact)
    (c.replace.ensures.key_room none)

pub returns-clause-key_room : goal.returns-clause-key_room
returns-clause-key_room c =
    let ss = c.args.slots.now.items in
    let slot = c.index_mut-slot.result.now in
    let lt : c.args.place < length ss = omega (arith, c.requires.there, c.args.slots.now.ok.0) in
    let is : c.names_in-before.result.key ≡ (names (get_or ss c.args.place None)).key =
    ap (λ n. n.key) c.names_in-before.ensures
    ∙ ap (λ s. (names s).key) (c.index_mut-slot.ensures.value ∙ get_or_default ss c.args.place slot None lt) in
    let none : c.names_in-after.result.key ≡ None =
    ap (λ n. n.key) c.names_in-after.ensures ∙ ap (λ s. (names s).key) c.empty.ensures in
    room_cleared ss (set ss c.args.place c.empty.new.slot) c.args.place c.names_in-before.result.key
    c.args.indices.now.by_key c.replace.new.self.by_key lt (ap (set ss c.args.place) c.empty.ensures) is
    (c.replace.ensures.key_room none)
