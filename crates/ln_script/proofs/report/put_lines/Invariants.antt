use Rattle.std.proofs.Common.{◌≡◌, ◌++◌, take, string_bytes}
use Rattle.std.specs.List.{flat_map}
use Rattle.ln_script.specs.Report.{shown_line}
use Rattle.ln_script.proofs.report.put_lines.Given as goal

abbrev pub invariant-loop-line : goal.invariant-loop-line
invariant-loop-line l = string_bytes l.text ≡ string_bytes l.initial.text
    ++ flat_map shown_line (take l.line-index l.lines)
