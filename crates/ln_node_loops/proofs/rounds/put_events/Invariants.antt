use Rattle.std.proofs.Common.{◌≡◌, ◌++◌, length}
use Rattle.std.specs.Vec.Iter.{into_iter_items, into_iter_len}
use Rattle.ln_node_loops.specs.Turns.{fresh, last_of, tasks}
use Rattle.ln_node_loops.proofs.rounds.put_events.Given as goal

abbrev pub invariant-loop-number : goal.invariant-loop-number
invariant-loop-number g l =
    (g.T.Sends.put l.seat ++ tasks l.channel (fresh l.last (into_iter_items l.number-iterator))
    ≡ g.T.Sends.put l.initial.seat
    ++ tasks l.channel (fresh l.initial.last (into_iter_items l.initial.number-iterator)))
    × (last_of l.last (into_iter_items l.number-iterator)
    ≡ last_of l.initial.last (into_iter_items l.initial.number-iterator))
    × (into_iter_len l.number-iterator ≡ length (into_iter_items l.number-iterator))
