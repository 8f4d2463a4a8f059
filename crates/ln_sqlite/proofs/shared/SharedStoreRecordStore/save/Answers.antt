use Rattle.std.proofs.Common.{ap, ◌∙◌}
use Rattle.std.specs.FinMap as map
use Rattle.ln_sqlite.specs.Copies.{restored}
use Rattle.ln_sqlite.proofs.Maps.{is_there, undo, some}
use Rattle.ln_sqlite.proofs.shared.SharedStoreRecordStore.save.Goals as goal

pub restore-requires : goal.restore-requires
restore-requires g c =
    some _ c.in_ok-kept.kept (ap (λ m. map.get m c.args.id.now) c.in_ok-before.ensures.replaces_the_record
    ∙ is_there c.args.self.now.copies c.args.id.now c.in_ok-kept.kept)

pub returns-in-Err-clause-leaves_the_old : goal.returns-in-Err-clause-leaves_the_old
returns-in-Err-clause-leaves_the_old g c =
    c.restore.ensures ∙ ap
    (λ m. restored m c.args.id.now c.in_ok-before.before) c.in_ok-before.ensures.replaces_the_record
    ∙ undo c.args.self.now.copies c.args.id.now c.in_ok-kept.kept c.in_ok-before.before
    c.in_ok-before.ensures.gives_what_was_there
