use Rattle.std.proofs.Common.{◌≡◌, take}
use Rattle.ln_node.specs.Stored.{channel_snapshots_of}
use Rattle.ln_node.proofs.stored.snapshots.Given as goal

abbrev pub invariant-loop-one : goal.invariant-loop-one
invariant-loop-one g l = l.snapshots.items ≡ channel_snapshots_of (take l.one-index l.loaded)
