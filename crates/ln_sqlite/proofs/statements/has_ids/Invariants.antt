use Rattle.std.proofs.Common.{◌≡◌}
use Rattle.ln_sqlite.proofs.Passing.{HasShown}
use Rattle.ln_sqlite.proofs.statements.has_ids.Given as goal

-- each row so far shows its id
abbrev pub invariant-rows : goal.invariant-rows
invariant-rows g l =
    (l.rows.conn.ghost_name ≡ l.initial.rows.conn.ghost_name)
    × HasShown g.S.Store l.fn.connection l.ids l.rows.conn.now l.at
