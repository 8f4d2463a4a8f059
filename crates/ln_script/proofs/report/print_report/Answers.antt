use Rattle.std.proofs.lemmas.Result.{err_from_is_err_and}
use Rattle.ln_script.proofs.Recorded.{not_damaged, never_so}
use Rattle.ln_script.proofs.Reports.{reports, reports_partly, on_ok_so, on_err_so}
use Rattle.ln_script.proofs.Unhooked.{reports_unhooked}
use Rattle.ln_script.proofs.report.print_report.Goals as goal

pub returns-clause-prints_it : goal.returns-clause-prints_it
returns-clause-prints_it g c =
    on_ok_so c.print_ends.result _ _
    (λ more. reports g.H.Serve.calls c.args.hooks.items c.args.steps.items _ _ _ _ _ _ c.in_ok-world.ensures.prints_it
    more) c.print_ends.ensures.prints_it

pub returns-clause-without_hooks : goal.returns-clause-without_hooks
returns-clause-without_hooks g c none =
    on_ok_so c.print_ends.result _ _
    (λ more. reports_unhooked g.H.Serve.calls c.args.hooks.items c.args.steps.items _ _ none
    (reports g.H.Serve.calls c.args.hooks.items c.args.steps.items _ _ _ _ _ _ c.in_ok-world.ensures.prints_it more))
    c.print_ends.ensures.prints_it

pub returns-clause-front : goal.returns-clause-front
returns-clause-front g c =
    on_err_so c.print_ends.result _
    (reports_partly g.H.Serve.calls c.args.hooks.items c.args.steps.items _ _ _ _ _ _ c.in_ok-world.ensures.prints_it
    c.print_ends.ensures.front)

pub returns-clause-finds_each_record : goal.returns-clause-finds_each_record
returns-clause-finds_each_record g c wide = never_so c.print_ends.result _ c.print_ends.ensures.cause

pub returns-in_err-world-clause-finds_each_record : goal.returns-in_err-world-clause-finds_each_record
returns-in_err-world-clause-finds_each_record g c wide =
    let p = err_from_is_err_and c.from_residual.result c.from_residual.ensures.1 in
    rw (p.1, p.2) (not_damaged c.every_end_has_a_record.ensures.never_damaged _ _ wide _ _
    c.in_err-world.ensures.cause)
