use Rattle.std.proofs.Common.{◌≡◌, ◌+◌, ◌≤◌, drop, length}
use Rattle.ln_log.specs.View.{live_adds}
use Rattle.ln_log.proofs.loading.count_live.Given as goal

abbrev pub invariant-loop-update : goal.invariant-loop-update
invariant-loop-update l = record {
  counted : l.count + length (live_adds (drop l.update-index l.adds) l.outcomes)
      ≡ length (live_adds l.adds l.outcomes);
  few : l.count ≤ l.update-index;
}
