use Rattle.std.proofs.lemmas.Result.{err_from_is_err_and}
use Rattle.std.proofs.Common.{ap, ◌∙◌}
use Rattle.ln_script.specs.Step.{texts}
use Rattle.ln_script.proofs.Reports.{nothing_told, on_err_so, on_ok_so}
use Rattle.ln_script.proofs.Telling.{run_refused, script_told, script_ends, script_stops}
use Rattle.ln_script.proofs.running.report_script.Goals as goal

pub returns-in_err-pieces-clause-front : goal.returns-in_err-pieces-clause-front
returns-in_err-pieces-clause-front g c =
    on_err_so c.from_residual.result _ (nothing_told g.H.Serve.calls c.args.hooks.items _ _)

pub returns-in_err-check_lines-clause-front : goal.returns-in_err-check_lines-clause-front
returns-in_err-check_lines-clause-front g c =
    on_err_so _ _ (nothing_told g.H.Serve.calls c.args.hooks.items _ _)

pub returns-in_err-world-clause-front : goal.returns-in_err-world-clause-front
returns-in_err-world-clause-front g c =
    on_err_so c.from_residual-in_err-world.result _ (script_stops g.H.Serve.calls c.args.hooks.items c.args.text.now
    (texts c.as_slice-lines.result.now) c.in_ok-check_lines.ensures.good.0 _ _
    (ap texts c.as_slice-lines.ensures.value ∙ c.in_ok-pieces.ensures) c.in_ok-check_lines.ensures.good.1
    (c.in_err-world.ensures.front c.in_ok-check_lines.ensures.good.0 c.in_ok-check_lines.ensures.good.1))

pub returns-in_err-world-clause-refused : goal.returns-in_err-world-clause-refused
returns-in_err-world-clause-refused g c =
    let p = err_from_is_err_and c.from_residual-in_err-world.result c.from_residual-in_err-world.ensures.1 in
    rw (p.1, p.2) (run_refused c.every_end_has_a_record.ensures.never_damaged _ c.args.text.now
    (texts c.as_slice-lines.result.now) c.in_ok-check_lines.ensures.good.0 c.in_err-world.field-0.0 _ _
    c.steps_are_wide.ensures
    (ap texts c.as_slice-lines.ensures.value ∙ c.in_ok-pieces.ensures) c.in_ok-check_lines.ensures.good.1
    (c.in_err-world.ensures.cause c.in_ok-check_lines.ensures.good.0 c.in_ok-check_lines.ensures.good.1))

pub returns-clause-prints_it : goal.returns-clause-prints_it
returns-clause-prints_it g c =
    on_ok_so c.print_ends.result _ _ (λ more. script_told g.H.Serve.calls c.args.hooks.items c.args.text.now
    (texts c.as_slice-lines.result.now) c.in_ok-check_lines.ensures.good.0 _ _ _ _ _ _
    (ap texts c.as_slice-lines.ensures.value ∙ c.in_ok-pieces.ensures) c.in_ok-check_lines.ensures.good.1
    (c.in_ok-world.ensures.prints_it c.in_ok-check_lines.ensures.good.0 c.in_ok-check_lines.ensures.good.1) more)
    c.print_ends.ensures.prints_it

pub returns-clause-front : goal.returns-clause-front
returns-clause-front g c =
    on_err_so c.print_ends.result _ (script_ends g.H.Serve.calls c.args.hooks.items c.args.text.now
    (texts c.as_slice-lines.result.now) c.in_ok-check_lines.ensures.good.0 _ _ _ _ _ _
    (ap texts c.as_slice-lines.ensures.value ∙ c.in_ok-pieces.ensures) c.in_ok-check_lines.ensures.good.1
    (c.in_ok-world.ensures.prints_it c.in_ok-check_lines.ensures.good.0 c.in_ok-check_lines.ensures.good.1)
    c.print_ends.ensures.front)
