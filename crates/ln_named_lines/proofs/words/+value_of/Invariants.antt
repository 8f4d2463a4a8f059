use Rattle.std.proofs.Common.{length}
use Rattle.ln_named_lines.proofs.words.+value_of.Given as goal

abbrev pub decreases-value_of : goal.decreases-value_of
decreases-value_of l = length l.words.now
