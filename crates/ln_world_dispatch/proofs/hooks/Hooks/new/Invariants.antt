use Rattle.std.proofs.Common.{◌≡◌, ◌++◌, length, map, Some}
use Rattle.std.specs.Vec.Iter.{into_iter_items, into_iter_len}
use Rattle.ln_world_dispatch.proofs.hooks.Hooks.new.Given as goal

-- those so far, and those that are left
abbrev pub invariant-loop-hook : goal.invariant-loop-hook
invariant-loop-hook g l =
    (l.offered.items ++ map Some (into_iter_items l.hook-iterator)
    ≡ map Some (into_iter_items l.initial.hook-iterator))
    × (into_iter_len l.hook-iterator ≡ length (into_iter_items l.hook-iterator))
