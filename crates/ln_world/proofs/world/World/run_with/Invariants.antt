use Rattle.std.proofs.Common.{◌≡◌, ◌++◌, List, length, map}
use Rattle.std.specs.Vec.Iter.{into_iter_items, into_iter_len}
use Rattle.ln_world.specs.declared.step.Step.{Step}
use Rattle.ln_world.proofs.Running.{Ran}
use Rattle.ln_world.proofs.world.World.run_with.Given as goal

-- where those that are done have led
abbrev pub invariant-loop-step : goal.invariant-loop-step
invariant-loop-step g l =
    ((done : List (Step g.row.K.Denot g.K.ChannelKeys))
    × ((done ++ into_iter_items l.step-iterator ≡ into_iter_items l.initial.step-iterator)
    × Ran g.K.ChannelKeys g.H.Serve.calls l.fn.hooks.items done
    (record { dispatchers = l.world.dispatchers.state; nodes = l.world.nodes.items })
    (map (λ t. (t.now.items, map (λ p. p.items) t.past.items)) l.world.dispatchers.hooks.tables.items)
    l.world.dispatchers.hooks.offered.items l.fn.lines.items l.lines.items))
    × (into_iter_len l.step-iterator ≡ length (into_iter_items l.step-iterator))
