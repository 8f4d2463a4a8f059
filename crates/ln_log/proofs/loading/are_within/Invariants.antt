use Rattle.std.proofs.Common.{◌↔◌, drop}
use Rattle.ln_log.specs.Log.{AreWithin}
use Rattle.ln_log.proofs.loading.are_within.Given as goal

abbrev pub invariant-loop-update : goal.invariant-loop-update
invariant-loop-update l = AreWithin l.most (drop l.update-index l.updates) ↔ AreWithin l.most l.updates
