use Rattle.ln_log.proofs.Totals.{adds_up}
use Rattle.ln_log.proofs.plain.conservation.Goals as goal

pub returns : goal.returns
returns c = adds_up
