use Rattle.std.proofs.Common.{[], arith}
use Rattle.sqlite.specs.Held.{state}
use Rattle.ln_sqlite.proofs.Texts.{all_text, all_plain}
use Rattle.ln_sqlite.proofs.Meaning.{query_stays, query_open}
use Rattle.ln_sqlite.proofs.Reading.{listed}
use Rattle.ln_sqlite.proofs.statements.all_rows.Goals as goal

pub returns-clause-shows_each_row : goal.returns-clause-shows_each_row
returns-clause-shows_each_row g c clean =
    listed (state g.S.Store c.args.connection.now) (state g.S.Store c.query_all.new.self) (λ rows. rows.items)
    c.query_all.result (c.query_all.ensures.ok clean)

pub returns-clause-changes_nothing : goal.returns-clause-changes_nothing
returns-clause-changes_nothing g c clean live has =
    query_stays (state g.S.Store c.args.connection.now) (state g.S.Store c.query_all.new.self) [] [] all_text _
    (λ rows. rows.items) c.query_all.result live has all_plain (c.query_all.ensures.ok clean)
    (c.query_all.ensures.err clean)

pub returns-clause-was_clean : goal.returns-clause-was_clean
returns-clause-was_clean g c clean = omega (arith, clean, c.query_all.ensures.survives.clean)

pub returns-clause-was_open : goal.returns-clause-was_open
returns-clause-was_open g c clean live =
    query_open (state g.S.Store c.args.connection.now) (state g.S.Store c.query_all.new.self) [] [] all_text _
    (λ rows. rows.items) c.query_all.result live (c.query_all.ensures.ok clean) (c.query_all.ensures.err clean)
