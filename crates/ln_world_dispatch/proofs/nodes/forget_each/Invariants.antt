use Rattle.std.proofs.Common.{◌≡◌, ℕ, length, take}
use Rattle.ln_keys.specs.declared.role.Role.{Role}
use Rattle.ln_world_channels.specs.declared.step.End.{End}
use Rattle.ln_world_dispatch.specs.Kept.{AllKeep}
use Rattle.ln_world_dispatch.proofs.nodes.forget_each.Given as goal

-- those before have forgotten what they don't keep
abbrev pub invariant-loop-i : goal.invariant-loop-i
invariant-loop-i l =
    ((decided : End → Role → ℕ) → AllKeep decided (take l.i l.dispatchers))
    × (length l.dispatchers ≡ length l.fn.dispatchers)
