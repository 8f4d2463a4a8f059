use Rattle.std.proofs.Common.{◌≡◌, ◌++◌, length}
use Rattle.std.specs.Vec.Iter.{into_iter_items, into_iter_len}
use Rattle.ln_refusals.specs.declared.refusal.Refusal.{Refusal}
use Rattle.ln_world_channels.specs.World.{run, run_lines}
use Rattle.ln_world_channels.specs.Failing.{SomeMayFail}
use Rattle.ln_world_channels.proofs.world.World.run.Given as goal

-- what is left leads to where all lead, is told after, and fails by what all may fail by
abbrev pub invariant-loop-step : goal.invariant-loop-step
invariant-loop-step g l =
    (run g.K.ChannelKeys (into_iter_items l.step-iterator) l.self
    ≡ run g.K.ChannelKeys (into_iter_items l.initial.step-iterator) l.fn.self)
    × (l.lines.items ++ run_lines g.K.ChannelKeys (into_iter_items l.step-iterator) l.self
    ≡ l.fn.lines.items ++ run_lines g.K.ChannelKeys (into_iter_items l.initial.step-iterator) l.fn.self)
    × ((r : Refusal) → SomeMayFail g.K.ChannelKeys (into_iter_items l.step-iterator) r l.self
    → SomeMayFail g.K.ChannelKeys (into_iter_items l.initial.step-iterator) r l.fn.self)
    × (into_iter_len l.step-iterator ≡ length (into_iter_items l.step-iterator))
