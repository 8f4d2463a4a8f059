use Rattle.std.proofs.Common.{◌↔◌, [], ◌++◌, take, drop}
use Rattle.ln_log.specs.Log.{AreRemovals}
use Rattle.ln_log.specs.Outcomes.{TellsAll}
use Rattle.ln_log.proofs.removal_check.are_removals.Given as goal

abbrev pub invariant-loop-update : goal.invariant-loop-update
invariant-loop-update l = record {
  tells : TellsAll l.offered_htlcs (l.live_htlcs ++ l.adds) (take l.update-index l.updates);
  rest : AreRemovals (l.live_htlcs ++ l.adds) (take l.update-index l.updates) (drop l.update-index l.updates)
      ↔ AreRemovals (l.live_htlcs ++ l.adds) [] l.updates;
}
