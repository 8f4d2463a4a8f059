use Rattle.std.proofs.Common.{subst}
use Rattle.ln_msgs.specs.Messages.Message.{Known, Says}
use Rattle.ln_msgs.specs.Messages.Typed.{open_wire}
use Rattle.ln_link.specs.Loading.{IsSaid}
use Rattle.ln_link.proofs.payload.open_bytes.Goals as goal

pub returns-in-Ok-clause-can_be_read : goal.returns-in-Ok-clause-can_be_read
unfolding IsSaid
returns-in-Ok-clause-can_be_read c =
    subst (λ bytes. Says (Known (open_wire c.args.message.now)) bytes) c.in-Ok.ensures.writes_the_message.0
    c.in-Ok.ensures.says_the_message
