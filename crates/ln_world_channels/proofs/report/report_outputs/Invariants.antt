use Rattle.std.proofs.Common.{◌≡◌, ◌++◌, drop}
use Rattle.ln_world_channels.specs.Lines.{lines_of}
use Rattle.ln_world_channels.proofs.report.report_outputs.Given as goal

-- what is left is told after
abbrev pub invariant-loop-output : goal.invariant-loop-output
invariant-loop-output l =
    l.lines.items ++ lines_of l.end l.numbers (drop l.output-index l.outputs)
    ≡ l.fn.lines.items ++ lines_of l.end l.numbers l.outputs
