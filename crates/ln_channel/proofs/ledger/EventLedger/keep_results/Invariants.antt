use Rattle.std.proofs.Common.{◌≡◌, drop}
use Rattle.ln_log.specs.declared.log.Side.TheVariants as side
use Rattle.ln_log.specs.Log.{before_first, AreNotGone}
use Rattle.ln_channel.specs.Ledger.{resulted}
use Rattle.ln_channel.proofs.ledger.EventLedger.keep_results.Given as goal

-- the results of the updates that are left complete those that were kept
abbrev pub invariant-loop-update : goal.invariant-loop-update
invariant-loop-update l = AreNotGone (before_first side.Peer l.log) l.updates → record {
  rest : AreNotGone (before_first side.Peer l.log) (drop l.update-index l.updates);
  kept : resulted l.log.own (drop l.update-index l.updates) l.self ≡ resulted l.log.own l.updates l.fn.self;
}
