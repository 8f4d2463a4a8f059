use Rattle.std.proofs.Common.{ap, sym, subst, ◌∙◌}
use Rattle.std.specs.FinMap as map
use Rattle.sqlite.specs.Held.{state}
use Rattle.ln_sqlite.specs.Copies.{restored}
use Rattle.ln_sqlite.specs.Holds.{IsTableOf}
use Rattle.ln_sqlite.proofs.sql_store.SqliteStoreRecordStore.save.Goals as goal
use Rattle.ln_sqlite.proofs.Maps.{is_there, undo, some}

pub restore-requires : goal.restore-requires
restore-requires g c =
    some _ c.in_ok-kept.kept (ap (λ m. map.get m c.args.id.now) c.in_ok-before.ensures.replaces_the_record
    ∙ is_there c.args.self.now.copies c.args.id.now c.in_ok-kept.kept)

pub returns-in-Ok-clause-keeps_the_table : goal.returns-in-Ok-clause-keeps_the_table
returns-in-Ok-clause-keeps_the_table g c clean live was =
    subst (IsTableOf (state g.S.Store c.save_row.new.connection))
    (sym (c.in_ok-before.ensures.replaces_the_record
    ∙ ap (λ b. map.insert c.args.self.now.copies c.args.id.now b) c.in_ok-kept.ensures))
    (c.in-Ok.ensures.replaces_the_row clean c.args.self.now.copies was)

pub returns-in-Ok-clause-leaves_one_at_a_stop : goal.returns-in-Ok-clause-leaves_one_at_a_stop
returns-in-Ok-clause-leaves_one_at_a_stop g c clean was trees left =
    c.save_row.ensures.leaves_one_at_a_stop clean c.args.self.now.copies was trees left

pub returns-in-Err-clause-leaves_the_old : goal.returns-in-Err-clause-leaves_the_old
returns-in-Err-clause-leaves_the_old g c =
    c.restore.ensures ∙ ap
    (λ m. restored m c.args.id.now c.in_ok-before.before) c.in_ok-before.ensures.replaces_the_record
    ∙ undo c.args.self.now.copies c.args.id.now c.in_ok-kept.kept c.in_ok-before.before
    c.in_ok-before.ensures.gives_what_was_there

pub returns-in-Err-clause-keeps_the_table : goal.returns-in-Err-clause-keeps_the_table
returns-in-Err-clause-keeps_the_table g c clean live was =
    subst (IsTableOf (state g.S.Store c.save_row.new.connection))
    (sym (c.restore.ensures
    ∙ ap (λ m. restored m c.args.id.now c.in_ok-before.before) c.in_ok-before.ensures.replaces_the_record
    ∙ undo c.args.self.now.copies c.args.id.now c.in_ok-kept.kept c.in_ok-before.before
    c.in_ok-before.ensures.gives_what_was_there))
    (c.in-Err.ensures.leaves_the_table clean live c.args.self.now.copies was)

pub returns-in-Err-clause-leaves_one_at_a_stop : goal.returns-in-Err-clause-leaves_one_at_a_stop
returns-in-Err-clause-leaves_one_at_a_stop g c clean was trees left =
    c.save_row.ensures.leaves_one_at_a_stop clean c.args.self.now.copies was trees left
