use Rattle.std.proofs.Common.{◌≡◌, ◌≤◌, ◌+◌, drop}
use Rattle.ln_store.specs.Window.{are_numbered}
use Rattle.ln_store.proofs.window.are_numbered.Given as goal

abbrev pub invariant-loop-update : goal.invariant-loop-update
invariant-loop-update l = record {
  rest : are_numbered l.next (drop l.update-index l.updates) ≡ are_numbered l.first l.updates;
  few : l.next ≤ l.first + l.update-index;
}
