use Rattle.std.proofs.Common.{◌≡◌, length}
use Rattle.ln_node.proofs.node.Node.ids.Given as goal

abbrev pub invariant-loop-channel : goal.invariant-loop-channel
invariant-loop-channel g l = length l.ids.items ≡ l.channel-index
