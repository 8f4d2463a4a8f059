use Rattle.std.proofs.Common.{◌≡◌, take, drop}
use Rattle.ln_store.specs.Removals.{is_there, are_removals, AreRemoved}
use Rattle.ln_store.specs.Sides.{window_of}
use Rattle.ln_store.specs.Window.{removals_fit}
use Rattle.ln_store.proofs.removals.removals_fit.Given as goal

abbrev pub invariant-loop-update : goal.invariant-loop-update
invariant-loop-update l = record {
  removed : AreRemoved l.removed (take l.update-index l.update-items);
  rest : are_removals (is_there l.other l.updates.base.live (window_of l.other l.updates.window))
      (take l.update-index l.update-items) (drop l.update-index l.update-items) ≡ removals_fit l.fn.side l.updates;
}
