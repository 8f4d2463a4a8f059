use Rattle.std.proofs.Common.{sym, subst, take}
use Rattle.ln_log.specs.Outcomes.{AreRemoved}
use Rattle.ln_log.proofs.Readable.{joined}
use Rattle.ln_log.proofs.RemovedIds.{no_keys}
use Rattle.ln_log.proofs.removals.removed_ids.Goals as goal

pub loop-update-init : goal.loop-update-init
loop-update-init c = no_keys _ c.new-ids.ensures.empty

pub loop-update-preserved : goal.loop-update-preserved
loop-update-preserved c =
    let us = c.args.updates.now in
    let i = c.loop-update.update-index in
    subst (AreRemoved c.note.new.ids) (sym (joined us i _ c.update-item.is c.loop-update-test.true))
    (c.in_ok-note.ensures.notes_it (take i us) c.loop-update.invariant)
