use Rattle.std.proofs.Common.{◌++◌, take, sym, subst}
use Rattle.ln_log.specs.Outcomes.{TellsAll}
use Rattle.ln_log.proofs.Readable.{joined, goes_on}
use Rattle.ln_log.proofs.removal_check.are_removals.Goals as goal

pub loop-update-preserved : goal.loop-update-preserved
loop-update-preserved c = record {
  tells = subst (TellsAll c.remove.new.self (c.args.live_htlcs.now ++ c.args.adds.now))
      (sym (joined c.args.updates.now c.loop-update.update-index _ c.update-item.is c.loop-update-test.true))
      (c.in_ok-remove.ensures.notes (c.args.live_htlcs.now ++ c.args.adds.now)
      (take c.loop-update.update-index c.args.updates.now) c.loop-update.invariant.tells c.if-not-branch.false);
  rest = goes_on (c.args.live_htlcs.now ++ c.args.adds.now) c.args.updates.now c.loop-update.update-index _ _
      c.update-item.is c.loop-update-test.true
      ((c.in_ok-remove.ensures.tells_it (c.args.live_htlcs.now ++ c.args.adds.now)
      (take c.loop-update.update-index c.args.updates.now) c.loop-update.invariant.tells).0 c.if-not-branch.false)
      c.loop-update.invariant.rest;
}
