use Rattle.ln_msgs.specs.Messages.Table.{form_of}
use Rattle.ln_msgs.specs.Messages.Typed.{wire}
use Rattle.ln_msgs.proofs.Shown.{is_answered}
use Rattle.ln_msgs.proofs.messages.message.Message.fields.Goals as goal

pub returns : goal.returns
returns c =
    let w = wire c.args.self.now in
    is_answered (form_of w.typ) c.form.result.now w.typ w c.as_slice.result.now c.named.result c.form.ensures
    (rw c.as_slice.ensures c.items.ensures) c.named.ensures.has_the_names c.named.ensures.has_the_values
