use Rattle.std.proofs.Common.{◌≤◌, ◌+◌, length, take, arith}
use Rattle.ln_msgs.specs.Messages.Items.{item_bytes, items_bytes}
use Rattle.ln_msgs.proofs.Sums.{flat_fits}
use Rattle.ln_msgs.proofs.codec.encoding.fields_len.Goals as goal

pub returns-then-left-len-clause-none_is_too_many : goal.returns-then-left-len-clause-none_is_too_many
returns-then-left-len-clause-none_is_too_many c =
    let i = c.loop-field.field-index in
    let fs = c.args.fields.now in
    let more : length (items_bytes (take i fs)) + c.item_len-len.result ≤ length (items_bytes fs) =
    rw c.item_len-len.ensures (flat_fits item_bytes fs i _ c.loop-field-test.true) in
    omega (arith, more, c.loop-field.invariant)
