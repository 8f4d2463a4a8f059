use Rattle.std.proofs.Common.{◌≡◌}
use Rattle.ln_node.specs.Held.{numbered}
use Rattle.ln_node.proofs.held.numbered.Given as goal

abbrev pub invariant-loop-htlc : goal.invariant-loop-htlc
invariant-loop-htlc l = l.all.items ≡ numbered l.fn.ids l.yielded
