use Rattle.std.proofs.Common.{◌≡◌, ◌++◌, length}
use Rattle.std.specs.Vec.Iter.{into_iter_items, into_iter_len}
use Rattle.ln_node_loops.specs.Turns.{fresh, last_of, events, tasks}
use Rattle.ln_node_loops.proofs.rounds.put_outputs.Given as goal

abbrev pub invariant-loop-output : goal.invariant-loop-output
invariant-loop-output g l =
    (g.T.Sends.put l.seat ++ tasks l.channel (fresh l.last (events (into_iter_items l.output-iterator)))
    ≡ g.T.Sends.put l.initial.seat
    ++ tasks l.channel (fresh l.initial.last (events (into_iter_items l.initial.output-iterator))))
    × (last_of l.last (events (into_iter_items l.output-iterator))
    ≡ last_of l.initial.last (events (into_iter_items l.initial.output-iterator)))
    × (into_iter_len l.output-iterator ≡ length (into_iter_items l.output-iterator))
