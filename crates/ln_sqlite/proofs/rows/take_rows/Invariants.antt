use Rattle.std.proofs.Common.{drop}
use Rattle.std.specs.FinMap as map
use Rattle.ln_store.specs.Store.{Records}
use Rattle.ln_sqlite.specs.Reading.{TakesAll}
use Rattle.ln_sqlite.proofs.rows.take_rows.Given as goal

-- whatever the rows that are left come to from here, all rows come to from none
abbrev pub invariant-loop-row : goal.invariant-loop-row
invariant-loop-row l = (after : Records) → TakesAll l.copies (drop l.row-index l.rows) after
    → TakesAll map.empty l.rows after
