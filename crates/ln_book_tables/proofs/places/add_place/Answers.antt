use Rattle.std.proofs.Common.{◌∙◌, ap, sym}
use Rattle.std.specs.Prelude.{nat_lt}
use Rattle.std.specs.List.{position}
use Rattle.ln_book_tables.proofs.Firsts.{placed_none, placed_at}
use Rattle.ln_book_tables.proofs.places.add_place.Goals as goal

pub returns-in-None-clause-joins : goal.returns-in-None-clause-joins
returns-in-None-clause-joins c = c.push_reserved.ensures.items ∙ placed_none c.args.place c.args.places.now.items
    (ap (position (nat_lt c.args.place)) (sym c.as_slice.ensures.value) ∙ sym c.first_behind.ensures ∙ c.in-None.is)

pub returns-in-Ok-clause-joins : goal.returns-in-Ok-clause-joins
returns-in-Ok-clause-joins c = c.in-Ok.ensures.items ∙ placed_at c.args.place c.args.places.now.items c.in-Some.at
    (ap (position (nat_lt c.args.place)) (sym c.as_slice.ensures.value) ∙ sym c.first_behind.ensures ∙ c.in-Some.is)
