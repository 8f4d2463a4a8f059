use Rattle.ln_msgs.specs.Messages.Typed.{wire}
use Rattle.ln_msgs.proofs.Writing.{says_it}
use Rattle.ln_msgs.proofs.codec.encoding.encode.Goals as goal

pub returns-clause-says_the_message : goal.returns-clause-says_the_message
returns-clause-says_the_message c = says_it c.encode_parts.result (wire c.args.message.now)
    c.requires c.encode_parts.ensures
