use Rattle.std.proofs.Common.{◌≡◌, ◌++◌, take}
use Rattle.std.specs.List.{concat}
use Rattle.ln_msgs.proofs.codec.encoding.put_signatures.Given as goal

abbrev pub invariant-loop-signature : goal.invariant-loop-signature
invariant-loop-signature l = l.out.items ≡ l.initial.out.items ++ concat (take l.signature-index l.list)
