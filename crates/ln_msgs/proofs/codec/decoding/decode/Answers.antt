use Rattle.std.proofs.Common.{subst, arith}
use Rattle.ln_bytes.specs.Reading.{Gives}
use Rattle.ln_msgs.specs.Messages.Typed.{heard}
use Rattle.ln_msgs.proofs.Grammar.{is_found, message_again}
use Rattle.ln_msgs.proofs.codec.decoding.decode.Goals as goal

pub returns-clause-is_spelled_so : goal.returns-clause-is_spelled_so
returns-clause-is_spelled_so c = is_found c.read_message.result c.args.bytes.now
    (λ i. omega (arith, c.type_inv.bytes i)) c.read_message.ensures

pub returns-clause-reads_each_spelling : goal.returns-clause-reads_each_spelling
returns-clause-reads_each_spelling c h says =
    subst (Gives heard c.read_message.result) (message_again c.args.bytes.now h says) c.read_message.ensures
