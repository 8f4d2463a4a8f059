use Rattle.std.proofs.Common.{◌≡◌, IfOk, IfErr, subst}
use Rattle.std.specs.FinMap as map
use Rattle.sqlite.specs.Held.{state}
use Rattle.ln_refusals.specs.declared.refusal.Refusal.TheVariants.{Memory}
use Rattle.ln_sqlite.specs.Reading.{TakesAll, ShowRecords}
use Rattle.ln_sqlite.proofs.Reading.{all_read, all_records}
use Rattle.ln_sqlite.proofs.rows.read_copies.Goals as goal

pub returns-in-Ok-clause-reads_each_record : goal.returns-in-Ok-clause-reads_each_record
returns-in-Ok-clause-reads_each_record g c clean =
    all_read ((state g.S.Store c.args.connection.now).now.trees 0) c.in-Ok.rows.items c.take_rows.result
    (subst (λ rows. IfOk c.take_rows.result (TakesAll map.empty rows)) c.deref.ensures.value
    c.take_rows.ensures.takes_all)
    (λ has. c.in-Ok.ensures.shows_each_row clean has)

pub returns-in-Ok-clause-takes_memory_for_records_alone : goal.returns-in-Ok-clause-takes_memory_for_records_alone
returns-in-Ok-clause-takes_memory_for_records_alone g c clean =
    all_records ((state g.S.Store c.args.connection.now).now.trees 0) c.in-Ok.rows.items c.take_rows.result
    (λ e. e ≡ Memory)
    (subst (λ rows. IfErr c.take_rows.result (λ e. e ≡ Memory → ShowRecords rows)) c.deref.ensures.value
    c.take_rows.ensures.takes_memory_for_records_alone)
    (λ has. c.in-Ok.ensures.shows_each_row clean has)
