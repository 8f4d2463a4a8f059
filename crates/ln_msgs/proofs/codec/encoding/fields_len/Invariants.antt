use Rattle.std.proofs.Common.{◌≡◌, ◌+◌, length, take}
use Rattle.ln_msgs.specs.Messages.Items.{items_bytes}
use Rattle.ln_msgs.proofs.codec.encoding.fields_len.Given as goal

abbrev pub invariant-loop-field : goal.invariant-loop-field
invariant-loop-field l = l.left + length (items_bytes (take l.field-index l.fields)) ≡ l.most
