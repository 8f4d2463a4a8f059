use Rattle.std.proofs.Common.{◌∙◌, ap, sym, subst, get_or, None}
use Rattle.ln_book_tables.specs.Lists.{picks}
use Rattle.ln_book_tables.specs.Slots.{in_slots, passes}
use Rattle.ln_book_tables.proofs.InSlots.{nowhere, none_left, none_passes, in_left, in_cleared}
use Rattle.ln_book_tables.proofs.Told.{IsToldOf, told_right}
use Rattle.ln_book_tables.proofs.slots.empty_all.Goals as goal

pub returns-in-Unknown-clause-left : goal.returns-in-Unknown-clause-left
returns-in-Unknown-clause-left c =
    ap in_slots c.retain_others.ensures.left ∙ in_left (picks c.args.which.now) c.args.slots.now.items

pub returns-in-Nowhere-clause-left : goal.returns-in-Nowhere-clause-left
returns-in-Nowhere-clause-left c =
    let p = picks c.args.which.now in
    let ss = c.args.slots.now.items in
    none_left p ss (nowhere p ss (subst (IsToldOf p ss) (sym c.told.ensures ∙ c.in-Nowhere.is)
    (told_right c.args.which.now ss c.args.indices.now c.requires.indexed)))

pub returns-then-is_picked_at-clause-left : goal.returns-then-is_picked_at-clause-left
returns-then-is_picked_at-clause-left c =
    let p = picks c.args.which.now in
    let ss = c.args.slots.now.items in
    ap in_slots c.clear_at.ensures.cleared
    ∙ in_cleared p ss c.in-At.place (subst (IsToldOf p ss) (sym c.told.ensures ∙ c.in-At.is)
    (told_right c.args.which.now ss c.args.indices.now c.requires.indexed))
    (ap (λ xs. passes p (get_or xs c.in-At.place None)) (sym c.as_slice.ensures.value)
    ∙ sym c.is_picked_at.ensures ∙ c.if-is_picked_at.true)

pub returns-else-is_picked_at-clause-left : goal.returns-else-is_picked_at-clause-left
returns-else-is_picked_at-clause-left c =
    let p = picks c.args.which.now in
    let ss = c.args.slots.now.items in
    none_left p ss (nowhere p ss (none_passes p ss c.in-At.place
    (subst (IsToldOf p ss) (sym c.told.ensures ∙ c.in-At.is)
    (told_right c.args.which.now ss c.args.indices.now c.requires.indexed))
    (ap (λ xs. passes p (get_or xs c.in-At.place None)) (sym c.as_slice.ensures.value)
    ∙ sym c.is_picked_at.ensures ∙ c.if-is_picked_at.false)))
