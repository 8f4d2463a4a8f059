use Rattle.std.proofs.Common.{◌≡◌, ◌≤◌, length, map}
use Rattle.std.specs.Vec.Iter.{into_iter_items, into_iter_len}
use Rattle.ln_msgs.specs.Pings.CountedView.{inner_of, failures_of}
use Rattle.ln_script.proofs.Telling.{Ahead}
use Rattle.ln_script.proofs.report.print_each.Given as goal

-- what the steps that are left are told as stands after what was told so far
abbrev pub invariant-loop-step : goal.invariant-loop-step
invariant-loop-step g l = record {
  ahead : Ahead g.H.Serve.calls (failures_of l.fn.writer) (into_iter_items l.step-iterator)
      (into_iter_items l.initial.step-iterator) (record {
        world = record { dispatchers = l.world.dispatchers.state; nodes = l.world.nodes.items };
        tables = map (λ t. (t.now.items, map (λ p. p.items) t.past.items)) l.world.dispatchers.hooks.tables.items;
        left = l.world.dispatchers.hooks.offered.items;
        written = g.W.Write.contents (inner_of l.writer);
      }) (record {
        world = record { dispatchers = l.fn.world.dispatchers.state; nodes = l.fn.world.nodes.items };
        tables = map (λ t. (t.now.items, map (λ p. p.items) t.past.items)) l.fn.world.dispatchers.hooks.tables.items;
        left = l.fn.world.dispatchers.hooks.offered.items;
        written = g.W.Write.contents (inner_of l.fn.writer);
      });
  failures : failures_of l.fn.writer ≤ failures_of l.writer;
  len : into_iter_len l.step-iterator ≡ length (into_iter_items l.step-iterator);
}
