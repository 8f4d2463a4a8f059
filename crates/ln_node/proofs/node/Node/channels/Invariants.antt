use Rattle.std.proofs.Common.{◌≡◌, length}
use Rattle.std.specs.List.{All}
use Rattle.ln_watch.specs.Summary.{IsSummary}
use Rattle.ln_node.proofs.node.Node.channels.Given as goal

-- those so far are of links, one of each channel
abbrev pub invariant-loop-channel : goal.invariant-loop-channel
invariant-loop-channel g l = All IsSummary l.all.items × (length l.all.items ≡ l.channel-index)
