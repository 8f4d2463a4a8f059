use Rattle.std.proofs.Common.{List, ℕ}
use Rattle.ln_msgs.specs.Pings.CountedView.{inner_of}
use Rattle.ln_script.specs.Hook.{SaysOf}
use Rattle.ln_script.specs.Script.{script_hooks}
use Rattle.ln_script.proofs.Reports.{nothing_told, on_err_so}
use Rattle.ln_script.specs.Done.{script_in, SimulatesPartly}
use Rattle.ln_script.proofs.Printing.{if_some_all}
use Rattle.ln_script.proofs.program.commands.simulate_input.Goals as goal

pub returns-in_err-bytes-clause-front : goal.returns-in_err-bytes-clause-front
returns-in_err-bytes-clause-front g c =
    let writer = g.W.Write.contents (inner_of c.args.writer.now) in
    on_err_so c.from_residual.result _
    (if_some_all (g.R.Read.remaining (inner_of c.args.reader.now))
    (λ (bytes : List ℕ). SimulatesPartly writer writer bytes)
    (λ bytes. nothing_told SaysOf (script_hooks bytes) (script_in bytes) writer))
