use Rattle.std.proofs.Common.{◌∙◌, sym, subst}
use Rattle.ln_book_tables.specs.Lists.{picks}
use Rattle.ln_book_tables.proofs.InSlots.{nowhere, found, none_passes}
use Rattle.ln_book_tables.proofs.Told.{IsToldOf, told_right}
use Rattle.ln_book_tables.proofs.slots.place_of.Goals as goal

pub returns-in-Nowhere : goal.returns-in-Nowhere
returns-in-Nowhere c =
    let p = picks c.args.which.now in
    let ss = c.args.slots.now in
    sym (nowhere p ss (subst (IsToldOf p ss) (sym c.told.ensures ∙ c.in-Nowhere.is)
    (told_right c.args.which.now ss c.args.indices.now c.requires)))

pub returns-then-is_picked_at : goal.returns-then-is_picked_at
returns-then-is_picked_at c =
    let p = picks c.args.which.now in
    let ss = c.args.slots.now in
    found p ss c.in-At.place (subst (IsToldOf p ss) (sym c.told.ensures ∙ c.in-At.is)
    (told_right c.args.which.now ss c.args.indices.now c.requires))
    (sym c.is_picked_at.ensures ∙ c.if-is_picked_at.true)

pub returns-else-is_picked_at : goal.returns-else-is_picked_at
returns-else-is_picked_at c =
    let p = picks c.args.which.now in
    let ss = c.args.slots.now in
    sym (nowhere p ss (none_passes p ss c.in-At.place (subst (IsToldOf p ss) (sym c.told.ensures ∙ c.in-At.is)
    (told_right c.args.which.now ss c.args.indices.now c.requires))
    (sym c.is_picked_at.ensures ∙ c.if-is_picked_at.false)))
