use Rattle.std.proofs.Common.{arith}
use Rattle.ln_wire.specs.Questions.{question_form}
use Rattle.ln_wire.proofs.Wholes.{found, given}
use Rattle.ln_wire.proofs.QuestionLaws.{question_is_read_alone}
use Rattle.ln_wire.proofs.codec.decode_question.Goals as goal

pub returns-clause-is_spelled_so : goal.returns-clause-is_spelled_so
returns-clause-is_spelled_so c =
    found question_form question_is_read_alone c.whole.result c.args.bytes.now (λ n. omega (arith, c.type_inv.bytes n))
    c.whole.ensures.reads_as_defined

pub returns-clause-reads_each : goal.returns-clause-reads_each
returns-clause-reads_each c =
    given question_form question_is_read_alone c.whole.result c.args.bytes.now c.whole.ensures.reads_as_defined
