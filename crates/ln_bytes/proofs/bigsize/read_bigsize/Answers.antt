use Rattle.std.proofs.Common.{arith}
use Rattle.ln_bytes.proofs.Numbers.{found, taken}
use Rattle.ln_bytes.proofs.bigsize.read_bigsize.Goals as goal

pub returns-clause-is_spelled_so : goal.returns-clause-is_spelled_so
returns-clause-is_spelled_so c =
    found c.first_number.result c.args.bytes.now (λ i. omega (arith, c.type_inv.bytes i)) c.first_number.ensures

pub returns-clause-takes_its_spelling : goal.returns-clause-takes_its_spelling
returns-clause-takes_its_spelling c =
    taken c.first_number.result c.args.bytes.now (λ i. omega (arith, c.type_inv.bytes i)) c.first_number.ensures
