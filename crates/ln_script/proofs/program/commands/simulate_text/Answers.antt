use Rattle.std.proofs.Common.{List, subst}
use Rattle.ln_msgs.specs.Pings.CountedView.{inner_of}
use Rattle.ln_script.specs.declared.hook.HookLine.{HookLine}
use Rattle.ln_script.specs.Hook.{SaysOf}
use Rattle.ln_script.specs.Script.{script_at, script_hooks}
use Rattle.ln_script.specs.Report.{ReportsScript, ReportsScriptPartly}
use Rattle.ln_script.proofs.Reports.{nothing_told, on_err_so}
use Rattle.ln_script.proofs.program.commands.simulate_text.Goals as goal

pub returns-in_err-hooks-clause-front : goal.returns-in_err-hooks-clause-front
returns-in_err-hooks-clause-front g c =
    on_err_so c.from_residual.result _ (nothing_told SaysOf (script_hooks c.args.text.now) _ _)

pub returns-in-Err-clause-front : goal.returns-in-Err-clause-front
returns-in-Err-clause-front g c =
    let old = g.W.Write.contents (inner_of c.args.writer.now) in
    let new = g.W.Write.contents (inner_of c.report_script.new.writer) in
    subst (λ (hs : List HookLine). ReportsScriptPartly SaysOf hs (script_at c.args.text.now) old new)
    c.in_ok-hooks.ensures.hooks c.in-Err.ensures.front

pub returns-in-Ok-clause-prints_it : goal.returns-in-Ok-clause-prints_it
returns-in-Ok-clause-prints_it g c =
    let old = g.W.Write.contents (inner_of c.args.writer.now) in
    let new = g.W.Write.contents (inner_of c.report_script.new.writer) in
    subst (λ (hs : List HookLine). ReportsScript SaysOf hs (script_at c.args.text.now) old new)
    c.in_ok-hooks.ensures.hooks c.in-Ok.ensures.prints_it
