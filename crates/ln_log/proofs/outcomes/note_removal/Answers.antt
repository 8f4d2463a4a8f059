use Rattle.std.proofs.Common.{sym, ◌∙◌, nat_cmp}
use Rattle.std.specs.BTreeMap.{get}
use Rattle.ln_log.proofs.Tables.{none_so, notes_none, notes_done, notes_one}
use Rattle.ln_log.proofs.outcomes.note_removal.Goals as goal

pub returns-in-None-clause-notes : goal.returns-in-None-clause-notes
returns-in-None-clause-notes c = λ before h.
    notes_none (get nat_cmp c.args.by_id.now) before _ (sym c.removal_of.ensures ∙ c.in-None.is) h

pub returns-in_ok-insert-in-Some-clause-notes : goal.returns-in_ok-insert-in-Some-clause-notes
returns-in_ok-insert-in-Some-clause-notes c = λ before h.
    notes_one (get nat_cmp c.args.by_id.now) _ before _ c.in-Some.removal
    (sym c.removal_of.ensures ∙ c.in-Some.is)
    (none_so _ (sym c.contains_key.ensures ∙ c.if-not-contains_key.true))
    c.in_ok-insert-in-Some.ensures.updates.0 h

pub returns-else-not-contains_key-clause-notes : goal.returns-else-not-contains_key-clause-notes
returns-else-not-contains_key-clause-notes c = λ before h.
    notes_done (get nat_cmp c.args.by_id.now) before _ c.in-Some.removal
    (sym c.removal_of.ensures ∙ c.in-Some.is)
    (sym c.contains_key.ensures ∙ c.if-not-contains_key.false) h
