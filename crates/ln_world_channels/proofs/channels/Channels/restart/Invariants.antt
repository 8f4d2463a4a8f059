use Rattle.std.proofs.Common.{◌≡◌, ◌++◌, map, take, drop}
use Rattle.ln_world_channels.specs.WorldChannel.{moved, restart_moves}
use Rattle.ln_world_channels.specs.World.{AreOnce}
use Rattle.ln_world_channels.proofs.channels.Channels.restart.Given as goal

-- those before have moved
abbrev pub invariant-loop-i : goal.invariant-loop-i
invariant-loop-i g l =
    (l.self-inside.items.items ≡ map (moved g.K.ChannelKeys.signer (restart_moves l.node)) (take l.i l.fn.self)
    ++ drop l.i l.fn.self)
    × AreOnce l.self-inside.items.items
