use Rattle.std.proofs.Common.{◌≡◌}
use Rattle.ln_world_channels.specs.World.{end_lines_below}
use Rattle.ln_world_channels.proofs.world.World.end_lines.Given as goal

-- told of the numbers below
abbrev pub invariant-loop-number : goal.invariant-loop-number
invariant-loop-number g l = l.lines.items ≡ end_lines_below l.number l.self.channels
