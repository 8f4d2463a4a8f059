use Rattle.std.proofs.Common.{◌≡◌, ◌≤◌, ◌*◌, ◌^◌, take}
use Rattle.ln_log.specs.Explained.{in_flight}
use Rattle.ln_log.proofs.base_check.in_flight.Given as goal

abbrev pub invariant-loop-add : goal.invariant-loop-add
invariant-loop-add l = record {
  sum : l.sum ≡ in_flight (take l.add-index l.live_htlcs);
  fits : l.sum ≤ 2 ^ 64 * l.add-index;
}
