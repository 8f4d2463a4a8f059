use Rattle.std.proofs.Common.{◌≡◌, ◌≤◌, ◌*◌, ◌^◌, take}
use Rattle.ln_log.specs.Updates.{total, is_any, is_failed, is_fulfilled}
use Rattle.ln_log.proofs.plain.sums_of.Given as goal

abbrev pub invariant-loop-update : goal.invariant-loop-update
invariant-loop-update l = record {
  offered : l.sums.offered ≡ total is_any (take l.update-index l.adds) l.outcomes;
  failed : l.sums.failed ≡ total is_failed (take l.update-index l.adds) l.outcomes;
  fulfilled : l.sums.fulfilled ≡ total is_fulfilled (take l.update-index l.adds) l.outcomes;
  offered_fits : l.sums.offered ≤ 2 ^ 64 * l.update-index;
  failed_fits : l.sums.failed ≤ 2 ^ 64 * l.update-index;
  fulfilled_fits : l.sums.fulfilled ≤ 2 ^ 64 * l.update-index;
}
