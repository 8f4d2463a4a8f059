use Rattle.std.proofs.Common.{◌≡◌, ◌-◌}
use Rattle.ln_world.specs.BookReports.{with_events}
use Rattle.ln_world.proofs.book_reports.on_events.Given as goal

-- what is left to be told leads to the same
abbrev pub invariant-loop-number : goal.invariant-loop-number
invariant-loop-number l =
    with_events l.id l.number (l.count - l.number) l.end l.book
    ≡ with_events l.id l.initial.number (l.count - l.initial.number) l.end l.initial.book
