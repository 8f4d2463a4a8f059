use Rattle.std.proofs.Common.{refl, subst}
use Rattle.ln_bytes.specs.Reading.{Gives}
use Rattle.ln_msgs.specs.Messages.Message.{Known}
use Rattle.ln_msgs.specs.Codec.Pieces.{open_pieces}
use Rattle.ln_msgs.specs.Messages.Table.{open_form}
use Rattle.ln_msgs.specs.Messages.Typed.{open_wire}
use Rattle.ln_msgs.proofs.Pieces.{pieced_is}
use Rattle.ln_msgs.proofs.messages.opening.read_open_channel.Goals as goal

pub returns : goal.returns
returns c = subst (Gives (λ m. Known (open_wire m)) c.open_in_pieces.result)
    (pieced_is open_pieces open_form 32 c.args.payload.now refl) c.open_in_pieces.ensures
