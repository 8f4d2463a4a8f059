use Rattle.std.proofs.Common.{◌∙◌, ap, sym, None}
use Rattle.std.specs.Option.{option_map}
use Rattle.std.specs.List.{position}
use Rattle.ln_book_tables.specs.Lists.{picks, changed_by}
use Rattle.ln_book_tables.specs.Slots.{in_slots, passes}
use Rattle.ln_book_tables.proofs.Firsts.{changed_at}
use Rattle.ln_book_tables.proofs.InSlots.{none_changed, in_changed}
use Rattle.ln_book_tables.proofs.Filled.{kept_changed}
use Rattle.ln_book_tables.proofs.slots.change_first.Goals as goal

pub returns-in-None-clause-changed : goal.returns-in-None-clause-changed
returns-in-None-clause-changed c =
    none_changed (picks c.args.which.now) (changed_by c.args.change) c.args.slots.now.items
    (ap (position (passes (picks c.args.which.now))) (sym c.as_slice.ensures.value)
    ∙ sym c.place_of.ensures ∙ c.in-None.is)

pub returns-in-Some-clause-changed : goal.returns-in-Some-clause-changed
returns-in-Some-clause-changed c =
    ap in_slots (c.change_at.ensures.changed
    ∙ changed_at (passes (picks c.args.which.now)) (option_map (changed_by c.args.change)) c.args.slots.now.items
    c.in-Some.place None
    (ap (position (passes (picks c.args.which.now))) (sym c.as_slice.ensures.value)
    ∙ sym c.place_of.ensures ∙ c.in-Some.is))
    ∙ in_changed (picks c.args.which.now) (changed_by c.args.change) c.args.slots.now.items

pub returns-in-Some-clause-kept : goal.returns-in-Some-clause-kept
returns-in-Some-clause-kept c =
    kept_changed c.args.change c.args.slots.now.items c.change_at.new.slots.items c.in-Some.place c.args.indices.now
    c.change_at.new.indices c.requires c.change_at.ensures.changed c.change_at.ensures.indexed
    c.change_at.ensures.same_keys
