use Rattle.sqlite.specs.Held.{state}
use Rattle.ln_sqlite.proofs.Texts.{load_text, load_plain}
use Rattle.ln_sqlite.proofs.Meaning.{query_leaves}
use Rattle.ln_sqlite.proofs.Shown.{shows_bodies}
use Rattle.ln_sqlite.proofs.statements.load_rows.Goals as goal

pub returns-clause-shows_each_body : goal.returns-clause-shows_each_body
returns-clause-shows_each_body g c clean =
    shows_bodies (state g.S.Store c.args.connection.now) (state g.S.Store c.query_all.new.self) c.args.id.now
    (λ rows. rows.items) c.query_all.result (c.query_all.ensures.ok clean)

pub returns-clause-leaves_the_table : goal.returns-clause-leaves_the_table
returns-clause-leaves_the_table g c clean live kept was =
    query_leaves (state g.S.Store c.args.connection.now) (state g.S.Store c.query_all.new.self) load_text _
    (λ rows. rows.items) c.query_all.result kept live load_plain
    (c.query_all.ensures.ok clean) (c.query_all.ensures.err clean) was
