use Rattle.std.proofs.Common.{ℕ, ◌<◌, [], get_or}
use Rattle.ln_sqlite.specs.Reading.{ShowsRecord}
use Rattle.ln_sqlite.proofs.rows.show_records.Given as goal

-- each row so far shows a record
abbrev pub invariant-loop-at : goal.invariant-loop-at
invariant-loop-at l = (i : ℕ) → i < l.at → ShowsRecord (get_or l.rows i [])
