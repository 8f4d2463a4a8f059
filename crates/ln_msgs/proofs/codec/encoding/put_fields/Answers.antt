use Rattle.ln_msgs.proofs.Writing.{item_below}
use Rattle.ln_msgs.proofs.codec.encoding.put_fields.Goals as goal

pub put_item-requires : goal.put_item-requires
put_item-requires c = item_below c.args.fields.now c.loop-field.field-index _ c.loop-field-test.true c.requires
