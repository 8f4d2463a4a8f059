use Rattle.ln_msgs.specs.Messages.Typed.{accept_wire}
use Rattle.ln_msgs.proofs.Writing.{says_it}
use Rattle.ln_msgs.proofs.messages.opening.AcceptChannel.encode.Goals as goal

pub returns-clause-says_the_message : goal.returns-clause-says_the_message
returns-clause-says_the_message c =
    says_it c.accept_parts.result (accept_wire c.args.self.now) c.requires c.accept_parts.ensures
