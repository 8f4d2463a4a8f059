use Rattle.std.proofs.Common.{subst}
use Rattle.sqlite.specs.Held.{state}
use Rattle.ln_sqlite.specs.Shown.{ShowsBody}
use Rattle.ln_sqlite.proofs.Shown.{is_record}
use Rattle.ln_sqlite.proofs.sql_store.SqliteStoreRecordStore.load.Goals as goal

pub returns-clause-gives_what_the_table_has : goal.returns-clause-gives_what_the_table_has
returns-clause-gives_what_the_table_has g c clean has =
    is_record ((state g.S.Store c.args.self.now.connection).now.trees 0) c.in-Ok.rows.items c.args.id.now
    c.in_ok-kept.kept (c.in-Ok.ensures.shows_each_body clean has)
    (subst (λ rows. ShowsBody rows c.in_ok-kept.kept) c.deref.ensures.value
    (c.is_copy.ensures c.if-not-is_copy.false))
