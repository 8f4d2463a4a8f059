use Rattle.std.proofs.Common.{◌≡◌, ◌+◌, List, drop}
use Rattle.ln_script.specs.Step.{texts, ToyStep}
use Rattle.ln_script.specs.Script.{behind, steps_from}
use Rattle.ln_script.proofs.running.check_lines.Given as goal

-- the lines before this one ask for some steps
abbrev pub invariant-loop-number : goal.invariant-loop-number
invariant-loop-number l = (done : List ToyStep) × (steps_from 1 (texts l.fn.lines)
    ≡ behind done (steps_from (l.number + 1) (drop l.number (texts l.fn.lines))))
