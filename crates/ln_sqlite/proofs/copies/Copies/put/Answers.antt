use Rattle.std.proofs.Common.{Result, Ok, Err, OnErr, ap, sym, ◌∙◌}
use Rattle.std.specs.FinMap as map
use Rattle.ln_sqlite.proofs.copies.Copies.put.Goals as goal
use Rattle.ln_sqlite.proofs.Maps.{put, got}

at_err : {A E : Type 0} (r : Result A E) (P : Type 0) → P → OnErr r P
at_err (Ok x) P p = tt
at_err (Err e) P p = p

pub returns-clause-replaces_the_record : goal.returns-clause-replaces_the_record
returns-clause-replaces_the_record c =
    put c.self.inside.records.entries c.insert.new.self.entries c.args.id c.args.bytes
    c.in_ok-insert.ensures.updates.0
    ∙ ap (λ m. map.insert m c.args.id c.args.bytes) c.self.view_is

pub returns-clause-gives_what_was_there : goal.returns-clause-gives_what_was_there
returns-clause-gives_what_was_there c =
    c.in_ok-insert.ensures.old ∙ sym (got c.self.inside.records.entries c.args.id)
    ∙ ap (λ m. map.get m c.args.id) c.self.view_is

pub returns-in_err-insert-clause-fails_for_a_new_id_alone : goal.returns-in_err-insert-clause-fails_for_a_new_id_alone
returns-in_err-insert-clause-fails_for_a_new_id_alone c =
    at_err c.from_residual.result _ (ap (λ m. map.get m c.args.id) (sym c.self.view_is)
    ∙ got c.self.inside.records.entries c.args.id
    ∙ c.in_err-insert.ensures.absent)
