use Rattle.std.proofs.Common.{◌≡◌, Ok, take, map}
use Rattle.ln_msgs.specs.Codec.Checking.{behind_fields}
use Rattle.ln_msgs.specs.Messages.Forms.{kind_of}
use Rattle.ln_msgs.proofs.codec.checking.past_fields.Given as goal

abbrev pub invariant-loop-kind : goal.invariant-loop-kind
invariant-loop-kind l = behind_fields (map kind_of (take l.kind-index l.kinds)) l.bytes ≡ Ok l.rest
