use Rattle.std.proofs.Common.{arith, []}
use Rattle.sqlite.specs.Held.{state}
use Rattle.ln_sqlite.proofs.Texts.{create_text}
use Rattle.ln_sqlite.proofs.Meaning.{made, refused, was_open}
use Rattle.ln_sqlite.proofs.statements.make_table.Goals as goal

pub returns-clause-makes_the_table : goal.returns-clause-makes_the_table
returns-clause-makes_the_table g c clean =
    made (state g.S.Store c.args.connection.now) (state g.S.Store c.execute.new.self) c.execute.result
    (c.execute.ensures.runs clean)

pub returns-clause-changes_nothing_where_refused : goal.returns-clause-changes_nothing_where_refused
returns-clause-changes_nothing_where_refused g c clean live =
    refused (state g.S.Store c.args.connection.now) (state g.S.Store c.execute.new.self) create_text []
    c.execute.result live (c.execute.ensures.runs clean)

pub returns-clause-was_clean : goal.returns-clause-was_clean
returns-clause-was_clean g c clean = omega (arith, clean, c.execute.ensures.survives.clean)

pub returns-clause-was_open : goal.returns-clause-was_open
returns-clause-was_open g c clean live has =
    was_open (state g.S.Store c.args.connection.now) (state g.S.Store c.execute.new.self) c.execute.result live has
    (c.execute.ensures.runs clean)
