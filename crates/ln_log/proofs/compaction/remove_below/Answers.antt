use Rattle.std.proofs.Common.{arith, sym, ◌∙◌}
use Rattle.ln_log.proofs.Advancing.{not_below}
use Rattle.ln_log.proofs.compaction.remove_below.Goals as goal

pub returns-then-removal-next-clause-where_they_do : goal.returns-then-removal-next-clause-where_they_do
returns-then-removal-next-clause-where_they_do c = λ all. absurd
    (not_below c.args.updates.now c.loop-update.update-index _ c.in-Some.removal c.args.next c.update-item.is
    c.loop-update-test.true (sym c.removal_of.ensures ∙ c.in-Some.is) (omega (arith, c.if-removal-next.true))
    c.loop-update.invariant all)
