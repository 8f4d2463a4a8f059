use Rattle.std.proofs.Common.{◌≡◌, drop}
use Rattle.ln_node_loops.specs.Features.{offers_all}
use Rattle.ln_node_loops.proofs.features.offers_all.Given as goal

abbrev pub invariant-loop-bit : goal.invariant-loop-bit
invariant-loop-bit l = offers_all l.fn.init l.fn.wanted ≡ offers_all l.fn.init (drop l.bit-index l.fn.wanted)
