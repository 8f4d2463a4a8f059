use Rattle.std.proofs.Common.{◌≡◌, take}
use Rattle.ln_node.proofs.peer.copies_of.Given as goal

abbrev pub invariant-loop-record : goal.invariant-loop-record
invariant-loop-record l = l.all.items ≡ take l.record-index l.records
