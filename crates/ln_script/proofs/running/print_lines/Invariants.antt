use Rattle.std.proofs.Common.{◌≤◌, map}
use Rattle.ln_msgs.specs.Pings.CountedView.{inner_of, failures_of}
use Rattle.ln_script.specs.Step.{texts}
use Rattle.ln_script.proofs.Telling.{LinesTold}
use Rattle.ln_script.proofs.running.print_lines.Given as goal

-- the lines before this one were read, and what their steps were told as was written
abbrev pub invariant-loop-number : goal.invariant-loop-number
invariant-loop-number g l = record {
  so_far : LinesTold g.H.Serve.calls l.fn.hooks.items (texts l.fn.lines) l.number l.place
      (g.W.Write.contents (inner_of l.fn.writer)) (record {
        world = record { dispatchers = l.world.dispatchers.state; nodes = l.world.nodes.items };
        tables = map (λ t. (t.now.items, map (λ p. p.items) t.past.items)) l.world.dispatchers.hooks.tables.items;
        left = l.world.dispatchers.hooks.offered.items;
        written = g.W.Write.contents (inner_of l.writer);
      });
  failures : failures_of l.fn.writer ≤ failures_of l.writer;
}
