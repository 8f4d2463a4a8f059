use Rattle.std.proofs.Common.{◌∙◌, ap, sym}
use Rattle.std.specs.List.{position, find}
use Rattle.ln_book_tables.specs.Lists.{picks}
use Rattle.ln_book_tables.specs.Slots.{passes}
use Rattle.ln_book_tables.proofs.InSlots.{none_found, found_there}
use Rattle.ln_book_tables.proofs.indexed.IndexedHtlcs.find.Goals as goal

pub returns-in-None : goal.returns-in-None
returns-in-None c =
    let p = picks c.args.which.now in
    sym (ap (find p) (sym c.self.view_is) ∙ none_found p c.self.inside.slots.items
    (ap (position (passes p)) (sym c.as_slice.ensures.value) ∙ sym c.place_of.ensures ∙ c.in-None.is))

pub returns-in-Some : goal.returns-in-Some
returns-in-Some c =
    let p = picks c.args.which.now in
    c.as_ref.ensures.value ∙ c.index.ensures
    ∙ sym (found_there p c.self.inside.slots.items c.in-Some.place c.index.result.now
    (ap (position (passes p)) (sym c.as_slice.ensures.value) ∙ sym c.place_of.ensures ∙ c.in-Some.is))
    ∙ ap (find p) c.self.view_is
