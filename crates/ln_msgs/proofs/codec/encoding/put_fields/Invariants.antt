use Rattle.std.proofs.Common.{◌≡◌, ◌++◌, take}
use Rattle.ln_msgs.specs.Messages.Items.{items_bytes}
use Rattle.ln_msgs.specs.Codec.Steps.{AreProper}
use Rattle.ln_msgs.proofs.codec.encoding.put_fields.Given as goal

abbrev pub invariant-loop-field : goal.invariant-loop-field
invariant-loop-field l = (l.out.items ≡ l.initial.out.items ++ items_bytes (take l.field-index l.fields))
    × AreProper (take l.field-index l.fields)
