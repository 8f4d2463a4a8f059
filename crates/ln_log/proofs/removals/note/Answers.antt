use Rattle.std.proofs.Common.{sym, ◌∙◌}
use Rattle.ln_log.proofs.RemovedIds.{noted, noted_none}
use Rattle.ln_log.proofs.removals.note.Goals as goal

pub returns-in_ok-insert-clause-notes_it : goal.returns-in_ok-insert-clause-notes_it
returns-in_ok-insert-clause-notes_it c = λ us h.
    noted _ _ us _ c.in-Some.removal (sym c.removal_of.ensures ∙ c.in-Some.is) c.in_ok-insert.ensures.updates.0 h

pub returns-in_default-clause-notes_it : goal.returns-in_default-clause-notes_it
returns-in_default-clause-notes_it c = λ us h. noted_none _ us _ (sym c.removal_of.ensures ∙ c.in_default.is) h
