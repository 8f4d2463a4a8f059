use Rattle.std.proofs.Common.{◌≡◌, ◌+◌, ◌≤◌, drop}
use Rattle.ln_log.specs.Outcomes.{removals_in}
use Rattle.ln_log.proofs.outcomes.count_removals.Given as goal

abbrev pub invariant-loop-update : goal.invariant-loop-update
invariant-loop-update l = record {
  counted : l.count + removals_in (drop l.update-index l.updates) ≡ removals_in l.updates;
  few : l.count ≤ l.update-index;
}
