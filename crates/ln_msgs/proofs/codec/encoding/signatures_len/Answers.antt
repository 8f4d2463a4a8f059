use Rattle.std.proofs.Common.{arith}
use Rattle.ln_msgs.proofs.Sums.{length-concat}
use Rattle.ln_msgs.proofs.codec.encoding.signatures_len.Goals as goal

pub returns-clause-counts_the_bytes : goal.returns-clause-counts_the_bytes
returns-clause-counts_the_bytes c = omega (
  arith,
  length-concat 64 c.args.list.now c.told-list,
  c.count.ensures,
  c.from.ensures,
)
