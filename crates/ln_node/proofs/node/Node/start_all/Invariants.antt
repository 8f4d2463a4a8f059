use Rattle.std.proofs.Common.{◌≡◌, ◌+◌, length}
use Rattle.ln_node.specs.Node.{channel_count}
use Rattle.ln_node.proofs.node.Node.start_all.Given as goal

abbrev pub invariant-loop-one : goal.invariant-loop-one
invariant-loop-one g l =
    (l.self.common ≡ l.initial.self.common)
    × (channel_count l.self ≡ channel_count l.initial.self + length l.yielded)
