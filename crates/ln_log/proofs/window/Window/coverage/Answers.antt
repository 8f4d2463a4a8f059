use Rattle.ln_log.proofs.Calls.{coverage_call}
use Rattle.ln_log.proofs.Restored.{told_call}
use Rattle.ln_log.proofs.window.Window.coverage.Goals as goal

pub returns-clause-can_be_loaded : goal.returns-clause-can_be_loaded
returns-clause-can_be_loaded c = λ l s. coverage_call _ _ l c.self.view_is s c.self.invariant

pub returns-clause-can_be_restored : goal.returns-clause-can_be_restored
returns-clause-can_be_restored c = λ l s. told_call _ _ l c.self.view_is s c.self.invariant
