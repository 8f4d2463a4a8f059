use Rattle.std.proofs.Common.{subst, IfOk, ◌≡◌}
use Rattle.ln_log.specs.Log.{Counts, covered, view_for}
use Rattle.ln_log.proofs.Whole.{kept_of, counts_whole}
use Rattle.ln_log.proofs.log.UpdateLog.view.Goals as goal

pub returns-clause-view : goal.returns-clause-view
returns-clause-view c = λ l e.
    subst (λ (n : Counts). IfOk c.view.result (λ v. v ≡ view_for l.opening l.role (covered l n)))
    (counts_whole c.args.pair l)
    (c.view.ensures.view _ (kept_of _ _ _ _ l c.self.view_is c.self.invariant e))

pub returns-clause-adds_up : goal.returns-clause-adds_up
returns-clause-adds_up c = λ l e. c.view.ensures.adds_up _ (kept_of _ _ _ _ l c.self.view_is c.self.invariant e)
