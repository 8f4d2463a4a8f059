use Rattle.ln_bytes.proofs.Zeros.{one_number}
use Rattle.ln_bytes.proofs.truncated.one_truncated.Goals as goal

pub returns : goal.returns
returns c = one_number
