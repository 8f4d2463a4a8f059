use Rattle.std.proofs.Common.{◌∙◌, ap, sym}
use Rattle.std.specs.Prelude.{nat_eq}
use Rattle.std.specs.List.{position}
use Rattle.ln_book_tables.proofs.Firsts.{none_gone, removed_at}
use Rattle.ln_book_tables.proofs.places.remove_place.Goals as goal

pub returns-in-None-clause-goes : goal.returns-in-None-clause-goes
returns-in-None-clause-goes c = sym (none_gone (nat_eq c.args.place) c.args.places.now.items
    (ap (position (nat_eq c.args.place)) (sym c.as_slice.ensures.value) ∙ sym c.stands_at.ensures ∙ c.in-None.is))

pub returns-in-Some-clause-goes : goal.returns-in-Some-clause-goes
returns-in-Some-clause-goes c =
    c.remove.ensures.items
    ∙ removed_at (nat_eq c.args.place) c.args.places.now.items c.in-Some.at c.remove.result
    (ap (position (nat_eq c.args.place)) (sym c.as_slice.ensures.value) ∙ sym c.stands_at.ensures ∙ c.in-Some.is)
