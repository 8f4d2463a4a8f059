use Rattle.std.proofs.Common.{◌≡◌}
use Rattle.ln_world.specs.Follow.{followed_below}
use Rattle.ln_world.proofs.follow.follow_all.Given as goal

-- the channels with a number below
abbrev pub invariant-loop-number : goal.invariant-loop-number
invariant-loop-number g l = l.book ≡ followed_below l.number l.node l.policy l.channels.channels l.initial.book
