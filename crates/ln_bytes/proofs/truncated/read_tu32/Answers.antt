use Rattle.std.proofs.Common.{◌<◌, ◌^◌, sym, ◌∙◌, ap, arith}
use Rattle.ln_bytes.specs.Truncated.{truncated_at}
use Rattle.ln_bytes.proofs.Zeros.{is_found, is_again}
use Rattle.ln_bytes.proofs.truncated.read_tu32.Goals as goal

pub overflow_cast-result : goal.overflow_cast-result
overflow_cast-result c =
    let n = c.in-Ok.number in
    let below : n < 256 ^ 4 = (is_found 4 c.args.bytes.now n (λ i. omega (arith, c.type_inv.bytes i)) (omega arith)
    (sym c.in-Ok.ensures)).0 in
    omega (arith, below)

pub returns-in-Ok-clause-is_spelled_so : goal.returns-in-Ok-clause-is_spelled_so
returns-in-Ok-clause-is_spelled_so c =
    (is_found 4 c.args.bytes.now c.in-Ok.number (λ i. omega (arith, c.type_inv.bytes i)) (omega arith)
    (sym c.in-Ok.ensures)).1

pub returns-in-Ok-clause-reads_each_spelling : goal.returns-in-Ok-clause-reads_each_spelling
returns-in-Ok-clause-reads_each_spelling c = λ n below e.
    c.in-Ok.ensures ∙ ap (truncated_at 4) e ∙ is_again 4 n (omega arith) below
