use Rattle.std.proofs.Common.{ap, ◌∙◌, subst}
use Rattle.ln_log.specs.Log.{Log, Counts, after_drop}
use Rattle.ln_log.specs.RecordForm.{record_form_of, IsRestorable}
use Rattle.ln_log.proofs.Whole.{kept_of}
use Rattle.ln_log.proofs.log.UpdateLog.coverage.Goals as goal

pub returns-clause-counts : goal.returns-clause-counts
returns-clause-counts c = λ l e. c.coverage.ensures.counts _ (kept_of _ _ _ _ l c.self.view_is c.self.invariant e)

pub returns-clause-can_be_loaded : goal.returns-clause-can_be_loaded
returns-clause-can_be_loaded c = λ l e. c.coverage.ensures.can_be_loaded _
    (kept_of _ _ _ _ l c.self.view_is c.self.invariant e)

pub returns-clause-can_be_restored : goal.returns-clause-can_be_restored
returns-clause-can_be_restored c = λ l e.
    subst (λ (n : Counts). IsRestorable (record_form_of n (after_drop l))) (ap (λ (y : Log). y.first)
    (c.self.view_is ∙ e))
    (c.coverage.ensures.can_be_restored _ (kept_of _ _ _ _ l c.self.view_is c.self.invariant e))
