use Rattle.std.proofs.Common.{refl, sym, subst}
use Rattle.std.proofs.lemmas.List.{drop_more, drop_all}
use Rattle.ln_sqlite.specs.Reading.{Takes, TakesAll}
use Rattle.ln_sqlite.proofs.rows.take_rows.Goals as goal

pub loop-row-init : goal.loop-row-init
loop-row-init c after taken = subst (λ m. TakesAll m c.args.rows.now after) c.new-copies.ensures taken

pub loop-row-preserved : goal.loop-row-preserved
loop-row-preserved c after taken = c.loop-row.invariant after
    (subst (λ left. TakesAll c.loop-row.copies left after)
    (sym (drop_more c.args.rows.now c.loop-row.row-index c.row-item.result c.loop-row-test.true)) (
      c.take_row.new.copies,
      subst (λ row. Takes c.loop-row.copies row c.take_row.new.copies) c.row-item.is c.in_ok-take_row.ensures,
      taken,
    ))

pub returns-clause-takes_all : goal.returns-clause-takes_all
returns-clause-takes_all c = c.loop-row.invariant c.loop-row.copies
    (subst (λ left. TakesAll c.loop-row.copies left c.loop-row.copies)
    (sym (drop_all c.loop-row.row-index c.args.rows.now c.loop-row-test.false)) refl)
