use Rattle.std.proofs.Common.{inr}
use Rattle.ln_script.proofs.Reports.{on_ok_so, on_err_so, all_told, part_told}
use Rattle.ln_script.proofs.report.print_step.Goals as goal

pub returns-clause-prints_it : goal.returns-clause-prints_it
returns-clause-prints_it g c =
    on_ok_so c.print_lines.result _ _
    (λ more. all_told g.H.Serve.calls c.args.step _ _ _ _ _ _ c.in_ok-lines.lines.items _ _ _
    c.in_ok-lines.ensures.stepped
    c.as_slice.ensures.value more) c.print_lines.ensures.prints_it

pub returns-clause-front : goal.returns-clause-front
returns-clause-front g c =
    on_err_so c.print_lines.result _
    (inr (part_told g.H.Serve.calls c.args.step _ _ _ _ _ _ c.in_ok-lines.lines.items _ _ _
    c.in_ok-lines.ensures.stepped c.as_slice.ensures.value c.print_lines.ensures.front))
