use Rattle.std.proofs.Common.{length}
use Rattle.ln_script.proofs.flaw.+flaw_among.Given as goal

abbrev pub decreases-flaw_among : goal.decreases-flaw_among
decreases-flaw_among l = length l.wants.now
