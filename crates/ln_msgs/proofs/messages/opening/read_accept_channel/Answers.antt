use Rattle.std.proofs.Common.{refl, subst}
use Rattle.ln_bytes.specs.Reading.{Gives}
use Rattle.ln_msgs.specs.Messages.Message.{Known}
use Rattle.ln_msgs.specs.Codec.Pieces.{accept_pieces}
use Rattle.ln_msgs.specs.Messages.Table.{accept_form}
use Rattle.ln_msgs.specs.Messages.Typed.{accept_wire}
use Rattle.ln_msgs.proofs.Pieces.{pieced_is}
use Rattle.ln_msgs.proofs.messages.opening.read_accept_channel.Goals as goal

pub returns : goal.returns
returns c = subst (Gives (λ m. Known (accept_wire m)) c.accept_in_pieces.result)
    (pieced_is accept_pieces accept_form 33 c.args.payload.now refl) c.accept_in_pieces.ensures
