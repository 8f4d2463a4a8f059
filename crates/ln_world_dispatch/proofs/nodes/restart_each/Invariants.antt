use Rattle.std.proofs.Common.{◌≡◌, ◌++◌, ℕ, map, take, drop}
use Rattle.ln_keys.specs.declared.role.Role.{Role}
use Rattle.ln_world_channels.specs.declared.step.End.{End}
use Rattle.ln_world_dispatch.specs.World.{restarts}
use Rattle.ln_world_dispatch.specs.Kept.{dispatchers_of, AllKeep}
use Rattle.ln_world_dispatch.proofs.nodes.restart_each.Given as goal

-- those before have begun anew, and all keep what their ends haven't decided
abbrev pub invariant-loop-i : goal.invariant-loop-i
invariant-loop-i g l =
    (dispatchers_of l.dispatchers
    ≡ map (restarts l.node l.channels) (take l.i (dispatchers_of l.fn.dispatchers))
    ++ drop l.i (dispatchers_of l.fn.dispatchers))
    × ((decided : End → Role → ℕ) → AllKeep decided l.fn.dispatchers → AllKeep decided l.dispatchers)
