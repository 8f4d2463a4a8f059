use Rattle.std.proofs.Common.{◌+◌, ◌≤◌, ◌↔◌, drop}
use Rattle.ln_log.specs.Log.{AreNumbered}
use Rattle.ln_log.proofs.loading.are_numbered.Given as goal

abbrev pub invariant-loop-update : goal.invariant-loop-update
invariant-loop-update l = record {
  rest : AreNumbered l.next (drop l.update-index l.updates) ↔ AreNumbered l.first l.updates;
  few : l.next ≤ l.first + l.update-index;
}
