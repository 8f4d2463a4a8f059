use Rattle.std.proofs.Common.{◌≡◌, take}
use Rattle.std.specs.List.{flat_map}
use Rattle.ln_script.specs.Step.{texts}
use Rattle.ln_script.specs.Script.{line_hooks}
use Rattle.ln_script.proofs.reading.hooks_of.Given as goal

abbrev pub invariant-loop-line : goal.invariant-loop-line
invariant-loop-line l = l.hooks.items ≡ flat_map line_hooks (texts (take l.line-index l.lines))
