use Rattle.std.proofs.Common.{◌≡◌}
use Rattle.ln_world.specs.Follow.{snapshots_below}
use Rattle.ln_world.proofs.follow.read_all.Given as goal

-- the channels with a number below
abbrev pub invariant-loop-number : goal.invariant-loop-number
invariant-loop-number g l = l.snapshots.items ≡ snapshots_below l.number l.node l.channels.channels
