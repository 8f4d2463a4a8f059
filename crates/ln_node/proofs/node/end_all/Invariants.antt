use Rattle.std.proofs.Common.{◌≡◌, length, true}
use Rattle.ln_node.proofs.node.end_all.Given as goal

-- as long as all were kept, there is one of each
abbrev pub invariant-loop-channel : goal.invariant-loop-channel
invariant-loop-channel g l = l.are_kept ≡ true → length l.stores.items ≡ length l.yielded
