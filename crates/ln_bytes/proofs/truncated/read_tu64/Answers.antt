use Rattle.std.proofs.Common.{◌∙◌, ap, arith}
use Rattle.ln_bytes.specs.Truncated.{truncated_at}
use Rattle.ln_bytes.proofs.Zeros.{found, is_again}
use Rattle.ln_bytes.proofs.truncated.read_tu64.Goals as goal

pub returns-clause-is_spelled_so : goal.returns-clause-is_spelled_so
returns-clause-is_spelled_so c =
    found 8 c.number_in.result c.args.bytes.now (λ i. omega (arith, c.type_inv.bytes i))
    (omega arith) c.number_in.ensures

pub returns-clause-reads_each_spelling : goal.returns-clause-reads_each_spelling
returns-clause-reads_each_spelling c = λ n below e.
    c.number_in.ensures ∙ ap (truncated_at 8) e ∙ is_again 8 n (omega arith) below
