use Rattle.std.proofs.lemmas.Result.{err_from_is_err_and}
use Rattle.ln_script.proofs.Failing.{fails_so}
use Rattle.ln_script.proofs.report.lines_of_step.Goals as goal

pub returns-in_err-step-clause-fails : goal.returns-in_err-step-clause-fails
returns-in_err-step-clause-fails g c =
    let p = err_from_is_err_and c.from_residual.result c.from_residual.ensures.1 in
    rw (p.1, p.2) (fails_so c.args.step _ _ c.in_err-step.ensures.fails)
