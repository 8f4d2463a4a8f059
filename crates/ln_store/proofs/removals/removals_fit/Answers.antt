use Rattle.std.proofs.Common.{take, sym, ◌∙◌, subst}
use Rattle.ln_store.specs.Removals.{AreRemoved}
use Rattle.ln_store.proofs.Removing.{no_keys, begins, ends_them, goes_on, is_done, joined}
use Rattle.ln_store.proofs.removals.removals_fit.Goals as goal

pub loop-update-init : goal.loop-update-init
loop-update-init c = record {
  removed = no_keys _ c.new-removed.ensures.empty;
  rest = begins c.other-other.result c.args.side c.args.updates.now _ c.other-other.ensures
      c.window_of-update-items.ensures;
}

pub returns-then-not-removes_there-clause-tells_it :
    goal.returns-then-not-removes_there-clause-tells_it
returns-then-not-removes_there-clause-tells_it c =
    let us = c.window_of-update-items.result.now in
    let i = c.loop-update.update-index in
    ends_them _ us i _ _ c.update-item.is c.loop-update-test.true
    (sym (c.removes_there.ensures (take i us) c.loop-update.invariant.removed) ∙ c.if-not-removes_there.true)
    c.loop-update.invariant.rest

pub loop-update-preserved : goal.loop-update-preserved
loop-update-preserved c =
    let us = c.window_of-update-items.result.now in
    let i = c.loop-update.update-index in
    record {
      removed = subst (AreRemoved c.note.new.before) (sym (joined us i _ c.update-item.is c.loop-update-test.true))
          (c.in_ok-note.ensures.notes_it (take i us) c.loop-update.invariant.removed);
      rest = goes_on _ us i _ _ c.update-item.is c.loop-update-test.true
          (sym (c.removes_there.ensures (take i us) c.loop-update.invariant.removed) ∙ c.if-not-removes_there.false)
          c.loop-update.invariant.rest;
    }

pub returns-clause-tells_it : goal.returns-clause-tells_it
returns-clause-tells_it c =
    is_done _ c.window_of-update-items.result.now c.loop-update.update-index _ c.loop-update-test.false
    c.loop-update.invariant.rest
