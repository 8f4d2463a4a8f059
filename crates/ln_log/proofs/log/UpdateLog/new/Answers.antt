use Rattle.std.proofs.Common.{ap}
use Rattle.ln_log.specs.Log.{AllCounts}
use Rattle.ln_log.proofs.Restored.{new_is, new_whole}
use Rattle.ln_log.proofs.log.UpdateLog.new.Goals as goal

pub invariant_of-result : goal.invariant_of-result
invariant_of-result c =
    new_whole (record { opening = c.args.opening; role = c.args.role; base = c.at_opening.result }) _ _ _
    c.at_opening.ensures c.new.ensures.before_any_update
    (ap (λ (n : AllCounts). n.first) c.new.ensures.counts) c.begun.ensures
    c.begun-2.ensures

pub returns-clause-before_any_update : goal.returns-clause-before_any_update
returns-clause-before_any_update c =
    new_is (record { opening = c.args.opening; role = c.args.role; base = c.at_opening.result }) _ _ _
    c.at_opening.ensures c.new.ensures.before_any_update
    (ap (λ (n : AllCounts). n.first) c.new.ensures.counts) c.begun.ensures
    c.begun-2.ensures
