use Rattle.std.proofs.Common.{◌≡◌, IsTrue, refl}
use Rattle.sqlite.specs.Held.{state}
use Rattle.sqlite.specs.State.{HasCleanDisk}
use Rattle.ln_refusals.specs.declared.refusal.Refusal.TheVariants.{Memory}
use Rattle.ln_sqlite.specs.Begins.{IsReady, Stays}
use Rattle.ln_sqlite.proofs.Beginning.{begins, begins_empty, without_memory, changes, mid_schema}
use Rattle.ln_sqlite.proofs.sql_store.begin.Goals as goal

module _ (g : _) (c : goal.After-read_copies g) (clean : HasCleanDisk (state g.S.Store c.read_copies.new.connection))
    (live : IsTrue (state g.S.Store c.read_copies.new.connection).is_open) where
  ready : IsReady (state g.S.Store c.args.connection.now) (state g.S.Store c.has_the_table.new.connection)
  ready = c.if-not-has_the_table.ensures.has_the_table (c.read_copies.ensures.was_clean clean)
      (c.read_copies.ensures.was_open clean live) refl

  stays : Stays (state g.S.Store c.has_the_table.new.connection) (state g.S.Store c.read_copies.new.connection)
  stays = c.read_copies.ensures.changes_nothing clean live (mid_schema (state g.S.Store c.args.connection.now)
      (state g.S.Store c.has_the_table.new.connection) ready)

pub returns-clause-begins_with_the_table : goal.returns-clause-begins_with_the_table
returns-clause-begins_with_the_table g c clean live =
    begins (state g.S.Store c.args.connection.now) (state g.S.Store c.has_the_table.new.connection)
    (state g.S.Store c.read_copies.new.connection) (ready g c clean live) (stays g c clean live) c.read_copies.result
    (c.read_copies.ensures.reads_each_record clean)

pub returns-clause-begins_empty_where_it_makes_the_table : goal.returns-clause-begins_empty_where_it_makes_the_table
returns-clause-begins_empty_where_it_makes_the_table g c clean live =
    begins_empty (state g.S.Store c.args.connection.now) (state g.S.Store c.has_the_table.new.connection)
    (state g.S.Store c.read_copies.new.connection) (ready g c clean live) (stays g c clean live) c.read_copies.result
    (c.read_copies.ensures.reads_each_record clean)

pub returns-clause-changes_no_more : goal.returns-clause-changes_no_more
returns-clause-changes_no_more g c clean live =
    changes (state g.S.Store c.args.connection.now) (state g.S.Store c.has_the_table.new.connection)
    (state g.S.Store c.read_copies.new.connection) (ready g c clean live) (stays g c clean live)

pub returns-clause-takes_memory_for_records_alone : goal.returns-clause-takes_memory_for_records_alone
returns-clause-takes_memory_for_records_alone g c clean live =
    without_memory (state g.S.Store c.args.connection.now) (state g.S.Store c.has_the_table.new.connection)
    (state g.S.Store c.read_copies.new.connection) (ready g c clean live) (stays g c clean live) c.read_copies.result
    (λ e. e ≡ Memory) (c.read_copies.ensures.takes_memory_for_records_alone clean)
