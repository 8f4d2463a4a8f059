use Rattle.ln_msgs.specs.Messages.Typed.{open_wire}
use Rattle.ln_msgs.proofs.Writing.{says_it}
use Rattle.ln_msgs.proofs.messages.opening.OpenChannel.encode.Goals as goal

pub returns-clause-says_the_message : goal.returns-clause-says_the_message
returns-clause-says_the_message c =
    says_it c.open_parts.result (open_wire c.args.self.now) c.requires c.open_parts.ensures
