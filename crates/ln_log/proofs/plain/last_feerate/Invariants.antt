use Rattle.std.proofs.Common.{◌≡◌, drop}
use Rattle.ln_log.specs.Updates.{last_feerate}
use Rattle.ln_log.proofs.plain.last_feerate.Given as goal

abbrev pub invariant-loop-update : goal.invariant-loop-update
invariant-loop-update l = last_feerate l.rate (drop l.update-index l.funder) ≡ last_feerate l.opening l.funder
