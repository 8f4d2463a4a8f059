use Rattle.std.proofs.Common.{◌≡◌, ◌-◌}
use Rattle.ln_msgs.specs.Codec.Field.{items_at}
use Rattle.ln_msgs.proofs.Items.{with_front}
use Rattle.ln_msgs.proofs.codec.field.signature_items_at.Given as goal

abbrev pub invariant-loop : goal.invariant-loop
invariant-loop l = with_front l.items.items (items_at 64 (l.count - l.counter) l.rest) ≡ items_at 64 l.count l.bytes
