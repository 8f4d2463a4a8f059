use Rattle.std.proofs.Common.{subst, arith}
use Rattle.ln_store.specs.Record.{Gives}
use Rattle.ln_store.proofs.Records.{found, spelled_again}
use Rattle.ln_store.proofs.codec.decode_record.Goals as goal

pub returns-clause-is_spelled_so : goal.returns-clause-is_spelled_so
returns-clause-is_spelled_so c =
    found c.read_record.result c.args.bytes.now (λ n. omega (arith, c.type_inv.bytes n))
    c.read_record.ensures.reads_as_defined

pub returns-clause-reads_each_record : goal.returns-clause-reads_each_record
returns-clause-reads_each_record c i h e =
    subst (Gives (λ r. r) c.read_record.result)
    (spelled_again i c.args.bytes.now h (omega (arith, c.read_record.ensures.is_in_memory)) e)
    c.read_record.ensures.reads_as_defined
