use Rattle.std.proofs.Common.{◌≡◌, ℕ, List, ◌++◌}
use Rattle.std.specs.Fmt.{HasWritten, IsPlainFormatter}
use Rattle.std.specs.Iterator.{AlwaysYields}
use Rattle.std.specs.Str.Iter.{lines_steps}
use denote.Text.{Utf8}
use denote.Shadow.{shadow}
use Rattle.ln_trace.specs.Steps.{one_line, joined}
use Rattle.ln_trace.proofs.one_line.OneLineDisplay.fmt.Given as goal

-- what is written, and what the lines that are left add to it, is the whole
abbrev pub invariant-loop-line : goal.invariant-loop-line
invariant-loop-line g l =
    (goal.iterator-loop-line g).can_next l.line-iterator ×
    (goal.iterator-loop-line g).is_finite l.line-iterator ×
    shadow (Utf8 l.between) ×
    (IsPlainFormatter l.initial.f → (done : List ℕ) × (left : List (List ℕ))
    × HasWritten g.W.Write.write_str_gives l.initial.f done l.f
    × AlwaysYields lines_steps (λ x. x.now) l.line-iterator left
    × (done ++ joined l.between left ≡ one_line l.fn.self.0.now))
