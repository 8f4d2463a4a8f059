use Rattle.std.proofs.Common.{◌≡◌, ◌+◌, drop}
use Rattle.ln_script.specs.Step.{texts}
use Rattle.ln_script.specs.Script.{behind, steps_from}
use Rattle.ln_script.proofs.reading.read_lines.Given as goal

-- what was read so far stands in front of what the lines that are left ask for
abbrev pub invariant-loop-number : goal.invariant-loop-number
invariant-loop-number l = steps_from 1 (texts l.fn.lines)
    ≡ behind l.steps.items (steps_from (l.number + 1) (drop l.number (texts l.fn.lines)))
