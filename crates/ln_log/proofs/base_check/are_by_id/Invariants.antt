use Rattle.std.proofs.Common.{◌≤◌, ◌↔◌, drop}
use Rattle.ln_log.specs.Explained.{AreBetween}
use Rattle.ln_log.proofs.base_check.are_by_id.Given as goal

abbrev pub invariant-loop-add : goal.invariant-loop-add
invariant-loop-add l = record {
  rest : AreBetween l.from l.next (drop l.add-index l.live_htlcs) ↔ AreBetween 0 l.next l.live_htlcs;
  below : l.from ≤ l.next;
}
